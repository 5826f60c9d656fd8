-- Sets of numbers as words of 64 bits, with one more number or one less.
use Rattle.std.proofs.Common.{◌≡◌, ◌≢◌, ◌∙◌, refl, sym, ap, ℕ, ◌<◌, ◌≤◌, ◌+◌, ◌*◌, ◌/◌, ◌%◌}
use Rattle.std.proofs.Common.{◌==◌, Bool, true, false, cond, List, length, set, get_or, inl, inr}
use Rattle.std.proofs.Common.{arith, eq-eqb, ne_eqb, ◌^◌, ◌-◌, ◌++◌, suc, replicate, bit_and}
use Rattle.std.proofs.Common.{bit_or, w64}
use Rattle.std.specs.Int.{bit_at, bit_not}
use Rattle.std.proofs.lemmas.Bool.{cases_eq}
use mathlib.Core.Path.{fun_ext}
use Rattle.std.proofs.lemmas.List.{get_or-set_same, get_or-set_other, get_or_past}
use Rattle.std.proofs.lemmas.List.{get_or_append_left, get_or-append_right, get_or-replicate}
use Rattle.std.proofs.lemmas.List.{length-replicate}
use Rattle.std.proofs.lemmas.Nat.Bits.{bit_at_set_same, bit_at_set_other, bit_at-zero}
use Rattle.std.proofs.lemmas.Nat.Bits.{bit_at_clear_same, bit_at_clear_other, bit_at_cat_high}
use Rattle.std.proofs.Math.Nat.{pow-suc, pos_of_ne-zero}
use Rattle.std.proofs.lemmas.Bool.{cases_lt, true≢false, lt-ltb, le-ltb, ltb-false}
use Rattle.std.specs.Prelude.{nat_lt, slice_index}
use Rattle.strc_balance.specs.NumberSets.{has_number, AreWords}

-- the bit of a number
abbrev pub bit_of : ℕ → ℕ
bit_of number = 1 * 2 ^ (number % 64) % 2 ^ 64

module _ (words : List ℕ) (number : ℕ) (within : number / 64 < length words) where
  abbrev own : ℕ
  own = get_or words (number / 64) 0

  -- where one word is changed in one bit
  changed : (word bit : ℕ) (here : Bool) → bit_at word (number % 64) ≡ bit → (bit == 1) ≡ here
      → ((i : ℕ) → i < 64 → i ≢ number % 64 → bit_at word i ≡ bit_at own i)
      → (other : ℕ) → has_number (set words (number / 64) word) other
      ≡ cond (other == number) here (has_number words other)
  changed word bit here same is others other =
      elim (cases_eq other number) [
        | inl equal ↦
            ap (has_number (set words (number / 64) word)) equal
            ∙ ap (λ w. bit_at w (number % 64) == 1)
            (get_or-set_same words (number / 64) word 0 within)
            ∙ ap (λ b. b == 1) same ∙ is
            ∙ sym (ap (λ t. cond t here (has_number words other)) (eq-eqb other number equal))
        | inr apart ↦
            elim (cases_eq (other / 64) (number / 64)) [
              | inl at ↦
                  ap (λ k. bit_at (get_or (set words (number / 64) word) k 0) (other % 64) == 1) at
                  ∙ ap (λ w. bit_at w (other % 64) == 1)
                  (get_or-set_same words (number / 64) word 0 within)
                  ∙ ap (λ b. b == 1) (others (other % 64) (omega arith)
                  (λ e. apart (omega (arith, at, e))))
                  ∙ ap (λ k. bit_at (get_or words k 0) (other % 64) == 1) (sym at)
              | inr away ↦
                  ap (λ w. bit_at w (other % 64) == 1)
                  (get_or-set_other words (number / 64) (other / 64) word 0 away)
            ]
            ∙ sym (ap (λ t. cond t here (has_number words other)) (ne_eqb other number apart))
      ]

  pub with_number : (other : ℕ)
      → has_number (set words (number / 64) (bit_or own (bit_of number))) other
      ≡ cond (other == number) true (has_number words other)
  with_number = changed (bit_or own (bit_of number)) 1 true
      (bit_at_set_same w64 own (number % 64) (omega arith)) refl
      (λ i less apart. bit_at_set_other w64 own (number % 64) (omega arith) i apart)

  pub without_number : (other : ℕ)
      → has_number (set words (number / 64) (bit_and own (bit_not w64 (bit_of number)))) other
      ≡ cond (other == number) false (has_number words other)
  without_number = changed (bit_and own (bit_not w64 (bit_of number))) 0 false
      (bit_at_clear_same w64 own (number % 64) (omega arith)) refl
      (λ i less apart. bit_at_clear_other w64 own (number % 64) (omega arith) i less apart)

-- the highest bit
pub top_bit : (word place : ℕ) → 2 ^ place ≤ word → word < 2 ^ suc place
    → bit_at word place ≡ 1
top_bit word place least most =
    let rest = word - 2 ^ place in
    let twice = pow-suc 2 place in
    let below : rest < 2 ^ place = omega (arith, least, most, twice) in
    let is : 1 * 2 ^ place + rest ≡ word = omega (arith, least) in
    ap (λ w. bit_at w place) (sym is)
    ∙ bit_at_cat_high 1 place rest place below (omega arith)
    ∙ ap (bit_at 1) (let e : place - place ≡ 0 = omega arith in e)

-- a word without bits has no number
no_bit : (word place : ℕ) → word ≡ 0 → (bit_at word place == 1) ≡ false
no_bit word place none = ap (λ w. bit_at w place == 1) none ∙ ap (λ b. b == 1) (bit_at-zero place)

pub no_number : (words : List ℕ) (number : ℕ) → get_or words (number / 64) 0 ≡ 0
    → has_number words number ≡ false
no_number words number none = no_bit (get_or words (number / 64) 0) (number % 64) none

-- a word with a bit isn't 0
pub some_bit : (word place : ℕ) → (bit_at word place == 1) ≡ true → 0 < word
some_bit word place is =
    elim (cases_lt 0 word) [
      | inl some ↦ some
      | inr none ↦ absurd (true≢false (sym is ∙ no_bit word place (omega (arith, none))))
    ]

-- the number of a bit
module _ (words : List ℕ) (word place : ℕ) (within : place < 64)
    (there : bit_at (get_or words word 0) place ≡ 1) where
  abbrev number : ℕ
  number = word * 64 + place

  pub has_bit : has_number words number ≡ true
  has_bit =
      let at : number / 64 ≡ word = omega (arith, within) in
      let in_word : number % 64 ≡ place = omega (arith, within) in
      ap (λ k. bit_at (get_or words k 0) (number % 64) == 1) at
      ∙ ap (λ k. bit_at (get_or words word 0) k == 1) in_word
      ∙ ap (λ b. b == 1) there

  pub is_lowest : ((lower : ℕ) → lower < place → bit_at (get_or words word 0) lower ≡ 0)
      → ((lower : ℕ) → lower < word → get_or words lower 0 ≡ 0)
      → (other : ℕ) → has_number words other ≡ true → number ≤ other
  is_lowest bits words_before other has =
      elim (cases_lt other number) [
        | inr past ↦ past
        | inl less ↦ elim (cases_lt (other / 64) word) [
          | inl before ↦ absurd (true≢false
              (sym has ∙ no_number words other (words_before (other / 64) before)))
          | inr same ↦
              let at : other / 64 ≡ word = omega (arith, less, same, within) in
              let below : other % 64 < place = omega (arith, less, same, at) in
              absurd (true≢false (sym has
              ∙ ap (λ k. bit_at (get_or words k 0) (other % 64) == 1) at
              ∙ ap (λ b. b == 1) (bits (other % 64) below)))
        ]
      ]

  pub is_highest : ((higher : ℕ) → place < higher → bit_at (get_or words word 0) higher ≡ 0)
      → ((higher : ℕ) → word < higher → get_or words higher 0 ≡ 0)
      → (other : ℕ) → has_number words other ≡ true → other ≤ number
  is_highest bits words_past other has =
      elim (cases_lt number other) [
        | inr most ↦ most
        | inl more ↦ elim (cases_lt word (other / 64)) [
          | inl past ↦ absurd (true≢false
              (sym has ∙ no_number words other (words_past (other / 64) past)))
          | inr same ↦
              let at : other / 64 ≡ word = omega (arith, more, same, within) in
              let above : place < other % 64 = omega (arith, more, same, at) in
              absurd (true≢false (sym has
              ∙ ap (λ k. bit_at (get_or words k 0) (other % 64) == 1) at
              ∙ ap (λ b. b == 1) (bits (other % 64) above)))
        ]
      ]

-- a word that isn't used is 0, and one that is has a bit
pub unused : (words used : List ℕ) → AreWords words used → (word : ℕ)
    → has_number used word ≡ false → get_or words word 0 ≡ 0
unused words used are word none =
    let most = ltb-false 0 (get_or words word 0) (sym (are.uses word) ∙ none) in
    omega (arith, most)

pub is_used : (words used : List ℕ) → AreWords words used → (word : ℕ)
    → has_number used word ≡ true → 0 < get_or words word 0
is_used words used are word has =
    elim (cases_lt 0 (get_or words word 0)) [
      | inl some ↦ some
      | inr none ↦ absurd (true≢false (sym has ∙ are.uses word
          ∙ le-ltb 0 (get_or words word 0) none))
    ]

-- where no word is used, there are no numbers
pub none_used : (words used : List ℕ) → AreWords words used
    → ((word : ℕ) → has_number used word ≡ false) → (number : ℕ)
    → has_number words number ≡ false
none_used words used are none number =
    no_number words number (unused words used are (number / 64) (none (number / 64)))

pub in_words : (words used : List ℕ) → AreWords words used → (word : ℕ)
    → has_number used word ≡ true → word < length words
in_words words used are word has =
    elim (cases_lt word (length words)) [
      | inl within ↦ within
      | inr past ↦ absurd (omega (
        arith,
        is_used words used are word has,
        get_or_past words word 0 past,
      ))
    ]

pub number_within : (words used : List ℕ) → AreWords words used → (number : ℕ)
    → has_number words number ≡ true → number / 64 < length words
number_within words used are number has =
    elim (cases_lt (number / 64) (length words)) [
      | inl within ↦ within
      | inr past ↦ absurd (true≢false
          (sym has ∙ no_number words number (get_or_past words (number / 64) 0 past)))
    ]

pub word_used : (words used : List ℕ) → AreWords words used → (number : ℕ)
    → has_number words number ≡ true → has_number used (number / 64) ≡ true
word_used words used are number has =
    are.uses (number / 64)
    ∙ lt-ltb 0 (get_or words (number / 64) 0) (some_bit _ (number % 64) has)

-- more words without bits
no_more : (more word : ℕ) → let none : ℕ = 0 in get_or (replicate more none) word none ≡ none
no_more more word =
    elim (cases_lt word more) [
      | inl within ↦ get_or-replicate more word 0 0 within
      | inr past ↦ get_or_past (replicate more 0) word 0
          (let e = length-replicate {A = ℕ} more 0 in omega (arith, e, past))
    ]

pub with_words : (words : List ℕ) (more : ℕ)
    → slice_index (words ++ replicate more 0) ≡ slice_index words
with_words words more = fun_ext (λ word.
    elim (cases_lt word (length words)) [
      | inl within ↦ get_or_append_left words (replicate more 0) 0 word within
      | inr past ↦ get_or-append_right words (replicate more 0) (length words) word 0 refl past
          ∙ no_more more (word - length words) ∙ sym (get_or_past words word 0 past)
    ])

pub more_words : (words later used : List ℕ) → AreWords words used
    → slice_index later ≡ slice_index words → length later ≤ 2 ^ 58 → AreWords later used
more_words words later used are same few = record {
  uses = λ word. are.uses word ∙ ap (λ at. nat_lt 0 (at word)) (sym same);
  few = few;
  few_used = are.few_used;
}

pub more_used : (words used later : List ℕ) → AreWords words used
    → slice_index later ≡ slice_index used → length later ≤ 2 ^ 58 → AreWords words later
more_used words used later are same few = record {
  uses = λ word.
      ap (λ at. bit_at (at (word / 64)) (word % 64) == 1) same ∙ are.uses word;
  few = are.few;
  few_used = few;
}

-- words with another number, or without it
module _ (words used later later_used : List ℕ) (are : AreWords words used) (number : ℕ)
    (others : (word : ℕ) → word ≢ number / 64 → slice_index later word ≡ slice_index words word)
    (each : length later ≡ length words) where
  with_use : (here : Bool) → nat_lt 0 (slice_index later (number / 64)) ≡ here
      → ((word : ℕ) → has_number later_used word
      ≡ cond (word == number / 64) here (has_number used word))
      → (word : ℕ) → has_number later_used word ≡ nat_lt 0 (slice_index later word)
  with_use here is uses word =
      elim (cases_eq word (number / 64)) [
        | inl same ↦
            uses word
            ∙ ap (λ t. cond t here (has_number used word)) (eq-eqb word (number / 64) same)
            ∙ sym is ∙ ap (λ k. nat_lt 0 (slice_index later k)) (sym same)
        | inr apart ↦
            uses word
            ∙ ap (λ t. cond t here (has_number used word)) (ne_eqb word (number / 64) apart)
            ∙ are.uses word ∙ ap (nat_lt 0) (sym (others word apart))
      ]

  changed_words : (here : Bool) → nat_lt 0 (slice_index later (number / 64)) ≡ here
      → length later_used ≡ length used
      → ((word : ℕ) → has_number later_used word
      ≡ cond (word == number / 64) here (has_number used word))
      → AreWords later later_used
  changed_words here is each_used uses = record {
    uses = with_use here is uses;
    few = omega (arith, are.few, each);
    few_used = omega (arith, are.few_used, each_used);
  }

  pub inserted : has_number later number ≡ true → length later_used ≡ length used
      → ((word : ℕ) → has_number later_used word
      ≡ cond (word == number / 64) true (has_number used word))
      → AreWords later later_used
  inserted has each_used uses = changed_words true
      (lt-ltb 0 (slice_index later (number / 64)) (some_bit _ (number % 64) has)) each_used uses

  pub emptied : slice_index later (number / 64) ≡ 0 → length later_used ≡ length used
      → ((word : ℕ) → has_number later_used word
      ≡ cond (word == number / 64) false (has_number used word))
      → AreWords later later_used
  emptied none each_used uses = changed_words false (ap (nat_lt 0) none) each_used uses

-- a word that is left has a bit
pub left_used : (words used later : List ℕ) → AreWords words used → (number : ℕ)
    → ((word : ℕ) → word ≢ number / 64 → slice_index later word ≡ slice_index words word)
    → length later ≡ length words → has_number words number ≡ true
    → slice_index later (number / 64) ≢ 0 → AreWords later used
left_used words used later are number others each has some = record {
  uses = λ word.
      elim (cases_eq word (number / 64)) [
        | inl same ↦
            ap (has_number used) same ∙ word_used words used are number has
            ∙ sym (lt-ltb 0 (slice_index later word)
            (pos_of_ne-zero (λ e. some (ap (slice_index later) (sym same) ∙ e))))
        | inr apart ↦ are.uses word ∙ ap (nat_lt 0) (sym (others word apart))
      ];
  few = omega (arith, are.few, each);
  few_used = are.few_used;
}
