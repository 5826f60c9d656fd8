-- A word read byte by byte, and the number that it writes.
use Rattle.std.proofs.Common.{◌≡◌, ℕ, ◌+◌, ◌*◌, ◌<◌, ◌≤◌, ◌⊎◌, Bool, true, false, cond, ◌&&◌, not}
use Rattle.std.proofs.Common.{nat_lt, nat_eq, List, [], ◌∷◌, ◌++◌, length, Option, Some, None, refl}
use Rattle.std.proofs.Common.{sym, ap, ◌∙◌, arith, ℤ, inl, inr}
use Rattle.std.specs.List.{list_all}
use Rattle.std.specs.Char.{is_digit, digit_value}
use Rattle.std.specs.Str.Parse.{digits_value_after, digits_value}
use Rattle.std.specs.Option.{option_map}
use Rattle.strc_cli_input.specs.Numbers.{numeral, most, signed, minus, int_of}
use Rattle.strc_cli_input.specs.Reading.{Reading, Reads, Fails, fitting, extended, with_byte}
use Rattle.strc_cli_input.specs.Reading.{word_ended}
use Rattle.strc_cli_input.specs.declared.numbers.Word.{Word}
use Rattle.strc_cli_input.specs.declared.numbers.Word.TheVariants as word

-- a word byte by byte
abbrev pub on_word : Option Word → List ℕ → Option Word
on_word last [] = last
on_word None (byte ∷ rest) = None
on_word (Some last) (byte ∷ rest) = on_word (with_byte last byte) rest

pub none_stays : (rest : List ℕ) → on_word None rest ≡ None
none_stays [] = refl
none_stays (byte ∷ rest) = refl

pub on_word_append : (last : Option Word) (first : List ℕ) (byte : ℕ) (rest : List ℕ)
    → on_word last (first ++ byte ∷ rest) ≡ on_word (on_word last first) (byte ∷ rest)
on_word_append last [] byte rest = refl
on_word_append None (next ∷ first) byte rest = refl
on_word_append (Some last) (next ∷ first) byte rest = on_word_append (with_byte last next) first
    byte rest

-- more digits write no lesser number
grows : (value : ℕ) (digits : List ℕ) → value ≤ digits_value_after 10 value digits
grows value [] = omega arith
grows value (digit ∷ digits) =
    omega (arith, grows (value * 10 + digit_value digit) digits)

-- digits after those that write this number, as long as they fit
abbrev fits_after : (negative : Bool) → ℕ → List ℕ → Option Word
fits_after negative value digits =
    cond (list_all (λ byte. is_digit byte 10) digits
    && not (nat_lt (most negative) (digits_value_after 10 value digits)))
    (Some (word.Digits negative (digits_value_after 10 value digits))) None

lt_true : (m n : ℕ) → m < n → nat_lt m n ≡ true
lt_true m n h = grind arith

lt_is : (m n : ℕ) → nat_lt m n ≡ true → m < n
lt_is m n h = grind arith

no_fit : {A : Type 0} (all over : Bool) (x : A) → over ≡ true
    → None ≡ cond (all && not over) (Some x) None
no_fit false over x is = refl
no_fit true true x is = refl
no_fit true false x is = absurd (cc)

-- once too great a number is too great for good
too_great : (negative : Bool) (value : ℕ) (digits : List ℕ) → nat_lt (most negative) value ≡ true
    → None ≡ fits_after negative value digits
too_great negative value digits great =
    no_fit (list_all (λ byte. is_digit byte 10) digits)
    (nat_lt (most negative) (digits_value_after 10 value digits))
    (word.Digits negative (digits_value_after 10 value digits))
    (lt_true (most negative) (digits_value_after 10 value digits)
    (omega (arith, lt_is (most negative) value great, grows value digits)))

turned : {A : Type 0} (b : Bool) (x y : A) → cond b x y ≡ cond (not b) y x
turned true x y = refl
turned false x y = refl

either : (b : Bool) → (b ≡ true) ⊎ (b ≡ false)
either true = inl refl
either false = inr refl

-- a digit, and what is known of those after it
one_digit : (negative : Bool) (value byte : ℕ) (rest : List ℕ)
    → on_word (fitting negative (value * 10 + digit_value byte)) rest
    ≡ fits_after negative (value * 10 + digit_value byte) rest
    → on_word (extended negative value byte) rest ≡ fits_after negative value (byte ∷ rest)
one_digit negative value byte rest later =
    let next = value * 10 + digit_value byte in
    let whole : Bool → Option Word = λ b.
    cond ((b && list_all (λ c. is_digit c 10) rest)
    && not (nat_lt (most negative) (digits_value_after 10 next rest)))
    (Some (word.Digits negative (digits_value_after 10 next rest))) None in
    elim (either (is_digit byte 10)) [
      | inl digit ↦ ap (λ b. on_word (cond b (fitting negative next) None) rest) digit
          ∙ later ∙ ap whole (sym digit)
      | inr other ↦ ap (λ b. on_word (cond b (fitting negative next) None) rest) other
          ∙ none_stays rest ∙ ap whole (sym other)
    ]

-- digits one by one, after those that write this number
digits_fit : (negative : Bool) (value : ℕ) (digits : List ℕ)
    → on_word (fitting negative value) digits ≡ fits_after negative value digits
digits_fit negative value [] =
    turned (nat_lt (most negative) value) None (Some (word.Digits negative value))
digits_fit negative value (byte ∷ rest) =
    elim (either (nat_lt (most negative) value)) [
      | inl great ↦ ap (λ b. on_word (cond b None (Some (word.Digits negative value)))
          (byte ∷ rest)) great ∙ too_great negative value (byte ∷ rest) great
      | inr fits ↦ ap (λ b. on_word (cond b None (Some (word.Digits negative value)))
          (byte ∷ rest)) fits
          ∙ one_digit negative value byte rest
          (digits_fit negative (value * 10 + digit_value byte) rest)
    ]

digit_fits : (negative : Bool) (value byte : ℕ) (rest : List ℕ)
    → on_word (extended negative value byte) rest ≡ fits_after negative value (byte ∷ rest)
digit_fits negative value byte rest = one_digit negative value byte rest
    (digits_fit negative (value * 10 + digit_value byte) rest)

-- what is left where a word ends: a number more, or a failure
abbrev pub ends : List ℤ → Option Word → Reading
ends numbers None = Fails (length numbers)
ends numbers (Some last) = word_ended numbers last

abbrev pub added : List ℤ → Option ℤ → Reading
added numbers None = Fails (length numbers)
added numbers (Some value) = Reads (numbers ++ value ∷ []) word.Between

numeral_ends : (numbers : List ℤ) (negative : Bool) (value : ℕ) (all over : Bool)
    → nat_lt (most negative) value ≡ over
    → ends numbers (cond (all && not over) (Some (word.Digits negative value)) None)
    ≡ added numbers (option_map (signed negative) (cond (all && not over) (Some value) None))
numeral_ends numbers negative value false over is = refl
numeral_ends numbers negative value true true is = refl
numeral_ends numbers negative value true false is =
    ap (λ b. cond b (Fails (length numbers))
    (Reads (numbers ++ signed negative value ∷ []) word.Between)) is

-- digits of a word from its first one on
digits_end : (numbers : List ℤ) (negative : Bool) (byte : ℕ) (rest : List ℕ)
    → ends numbers (on_word (extended negative 0 byte) rest)
    ≡ added numbers (option_map (signed negative) (numeral (most negative) (byte ∷ rest)))
digits_end numbers negative byte rest =
    ap (ends numbers) (digit_fits negative 0 byte rest)
    ∙ numeral_ends numbers negative (digits_value 10 (byte ∷ rest))
    (list_all (λ c. is_digit c 10) (byte ∷ rest))
    (nat_lt (most negative) (digits_value 10 (byte ∷ rest))) refl

signed_ends : (numbers : List ℤ) (rest : List ℕ)
    → ends numbers (on_word (Some word.Sign) rest)
    ≡ added numbers (option_map (signed true) (numeral (most true) rest))
signed_ends numbers [] = refl
signed_ends numbers (byte ∷ rest) = digits_end numbers true byte rest

-- a word that ends adds the number that it writes
pub word_ends : (numbers : List ℤ) (first : ℕ) (rest : List ℕ)
    → ends numbers (on_word (Some word.Between) (first ∷ rest))
    ≡ added numbers (int_of (first ∷ rest))
word_ends numbers first rest =
    let read : Bool → Reading = λ b.
    ends numbers (on_word (cond b (Some word.Sign) (extended false 0 first)) rest) in
    let whole : Bool → Reading = λ b.
    added numbers (cond b (option_map (signed true) (numeral (most true) rest))
    (option_map (signed false) (numeral (most false) (first ∷ rest)))) in
    elim (either (nat_eq first minus)) [
      | inl is ↦ ap read is ∙ signed_ends numbers rest ∙ ap whole (sym is)
      | inr other ↦ ap read other ∙ digits_end numbers false first rest ∙ ap whole (sym other)
    ]
