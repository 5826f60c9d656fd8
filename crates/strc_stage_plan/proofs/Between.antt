-- Numbers that are within units, and numbers that are between them.
use Rattle.std.proofs.Common.{◌≡◌, refl, sym, ap, ◌∙◌, ℕ, zero, suc, ◌+◌, ◌<◌, ◌≤◌, Bool}
use Rattle.std.proofs.Common.{true, false, List, [], ◌∷◌, ◌++◌, All, length, inl, inr, ◌⊎◌, arith}
use Rattle.std.specs.Prelude.{◌&&◌, ◌||◌, nat_lt, nat_le, min, max, drop, slice_index_or}
use Rattle.std.specs.Prelude.{slice_set}
use Rattle.std.specs.List.{list_any}
use Rattle.std.proofs.lemmas.Bool.{cases_lt, false≢true, le-leb, le-ltb, lt-leb, lt-ltb}
use Rattle.std.proofs.lemmas.Bool.{cases_eq}
use Rattle.std.proofs.lemmas.List.{length-set, get_or-set_same, get_or-set_other}
use Rattle.std.proofs.lemmas.List.Elements.{All-cons, All-nil}
use Rattle.std.proofs.lemmas.List.Folds.{list_any-append}
use Rattle.strc_elab_dataflow.specs.FusedUnits.{RoundUnit}
use Rattle.strc_stage_plan.specs.Bounds.{is_parted, parts_unit}
use Rattle.strc_stage_plan.specs.Cuts.{IsBetweenUnits}
use Rattle.strc_stage_plan.specs.Spans.{IsSpanOf}
use Rattle.strc_stage_plan.specs.declared.unit_span.Span.{Span}
use Rattle.strc_stage_plan.proofs.FusedSplits.{Each, AllPass}

no_more : (one other : Bool) → one || other ≡ false → (one ≡ false) × (other ≡ false)
no_more true other e = absurd (false≢true (sym e))
no_more false other e = (refl, e)

not_both : (one other : Bool) → one && other ≡ false → (one ≡ false) ⊎ (other ≡ false)
not_both true other e = inr e
not_both false other e = inl refl

-- where no node is below a number all are from it on, and the other way round
all_from : (number : ℕ) (nodes : List ℕ) → list_any (λ node. nat_lt node number) nodes ≡ false
    → All (λ node. number ≤ node) nodes
all_from number [] none = All-nil (λ (node : ℕ). number ≤ node)
all_from number (node ∷ nodes) none =
    let (own, rest) = no_more (nat_lt node number) (list_any (λ node. nat_lt node number) nodes)
    none in
    All-cons (λ (node : ℕ). number ≤ node) node nodes
    (elim (cases_lt node number) [
      | inl below ↦ absurd (false≢true (sym own ∙ lt-ltb node number below))
      | inr past ↦ past
    ]) (all_from number nodes rest)

all_below : (number : ℕ) (nodes : List ℕ) → list_any (λ node. nat_le number node) nodes ≡ false
    → All (λ node. node < number) nodes
all_below number [] none = All-nil (λ (node : ℕ). node < number)
all_below number (node ∷ nodes) none =
    let (own, rest) = no_more (nat_le number node) (list_any (λ node. nat_le number node) nodes)
    none in
    All-cons (λ (node : ℕ). node < number) node nodes
    (elim (cases_lt node number) [
      | inl below ↦ below
      | inr past ↦ absurd (false≢true (sym own ∙ le-leb number node past))
    ]) (all_below number nodes rest)

-- a number that parts no unit is between units
pub between : (order : List RoundUnit) (number : ℕ) → parts_unit order number ≡ false
    → IsBetweenUnits order number
between [] number none =
    All-nil (λ (u : RoundUnit). All (λ node. node < number) u.nodes
    ⊎ All (λ node. number ≤ node) u.nodes)
between (unit ∷ order) number none =
    let (own, rest) = no_more (is_parted number unit) (parts_unit order number) none in
    All-cons (λ (u : RoundUnit). All (λ node. node < number) u.nodes
    ⊎ All (λ node. number ≤ node) u.nodes) unit order
    (elim (not_both (list_any (λ node. nat_lt node number) unit.nodes)
    (list_any (λ node. nat_le number node) unit.nodes) own) [
      | inl low ↦ inr (all_from number unit.nodes low)
      | inr high ↦ inl (all_below number unit.nodes high)
    ])
    (between order number rest)

-- no node is below 0
none_below_0 : (nodes : List ℕ) → list_any (λ node. nat_lt node 0) nodes ≡ false
none_below_0 [] = refl
none_below_0 (node ∷ nodes) =
    ap (λ (test : Bool). test || list_any (λ node. nat_lt node 0) nodes)
    (le-ltb node 0 (omega arith)) ∙ none_below_0 nodes

pub parts_none_at_0 : (order : List RoundUnit) → parts_unit order 0 ≡ false
parts_none_at_0 [] = refl
parts_none_at_0 (unit ∷ order) =
    ap (λ (test : Bool). (test && list_any (λ node. nat_le 0 node) unit.nodes)
    || parts_unit order 0) (none_below_0 unit.nodes) ∙ parts_none_at_0 order

all_of : (P : ℕ → Type 0) (nodes : List ℕ) → Each P nodes → All P nodes
all_of P [] each = All-nil P
all_of P (node ∷ nodes) each = All-cons P node nodes each.0 (all_of P nodes each.1)

-- past all nodes there is none
pub between_past : (size : ℕ) (order : List RoundUnit) → AllPass (λ node. node < size) order
    → IsBetweenUnits order size
between_past size [] all =
    All-nil (λ (u : RoundUnit). All (λ node. node < size) u.nodes
    ⊎ All (λ node. size ≤ node) u.nodes)
between_past size (unit ∷ order) all =
    All-cons (λ (u : RoundUnit). All (λ node. node < size) u.nodes
    ⊎ All (λ node. size ≤ node) u.nodes) unit order
    (inl (all_of (λ node. node < size) unit.nodes all.0)) (between_past size order all.1)

-- the lower of two nodes, and the higher
pub lower_of : (one other number : ℕ)
    → nat_lt (min one other) number ≡ nat_lt one number || nat_lt other number
lower_of one other number = elim (cases_lt one other) [
  | inl less ↦ elim (cases_lt one number) [
    | inl below ↦
        lt-ltb (min one other) number (omega (arith, less, below))
        ∙ sym (ap (λ (test : Bool). test || nat_lt other number) (lt-ltb one number below))
    | inr past ↦
        le-ltb (min one other) number (omega (arith, less, past))
        ∙ sym (ap (λ (test : Bool). test || nat_lt other number) (le-ltb one number past)
        ∙ le-ltb other number (omega (arith, less, past)))
  ]
  | inr more ↦ elim (cases_lt other number) [
    | inl below ↦
        lt-ltb (min one other) number (omega (arith, more, below))
        ∙ sym (or_true (nat_lt one number) (nat_lt other number) (lt-ltb other number below))
    | inr past ↦
        le-ltb (min one other) number (omega (arith, more, past))
        ∙ sym (ap (λ (test : Bool). test || nat_lt other number)
        (le-ltb one number (omega (arith, more, past))) ∙ le-ltb other number past)
  ]
]
  where
    or_true : (test last : Bool) → last ≡ true → test || last ≡ true
    or_true true last e = refl
    or_true false last e = e

pub higher_of : (one other number : ℕ)
    → nat_le number (max one other) ≡ nat_le number one || nat_le number other
higher_of one other number = elim (cases_lt one other) [
  | inl less ↦ elim (cases_lt other number) [
    | inl below ↦
        lt-leb number (max one other) (omega (arith, less, below))
        ∙ sym (ap (λ (test : Bool). test || nat_le number other)
        (lt-leb number one (omega (arith, less, below))) ∙ lt-leb number other below)
    | inr past ↦
        le-leb number (max one other) (omega (arith, less, past))
        ∙ sym (or_last (nat_le number one) (nat_le number other) (le-leb number other past))
  ]
  | inr more ↦ elim (cases_lt one number) [
    | inl below ↦
        lt-leb number (max one other) (omega (arith, more, below))
        ∙ sym (ap (λ (test : Bool). test || nat_le number other) (lt-leb number one below)
        ∙ lt-leb number other (omega (arith, more, below)))
    | inr past ↦
        le-leb number (max one other) (omega (arith, more, past))
        ∙ sym (ap (λ (test : Bool). test || nat_le number other) (le-leb number one past))
  ]
]
  where
    or_last : (test last : Bool) → last ≡ true → test || last ≡ true
    or_last true last e = refl
    or_last false last e = e

-- ---- marks

or_none : (mark : Bool) → mark || false ≡ mark
or_none true = refl
or_none false = refl

pub or_again : (one other last : Bool) → (one || other) || last ≡ one || (other || last)
or_again true other last = refl
or_again false other last = refl

-- the numbers above one and below another are marked
pub record AreMarked (before now : List Bool) (least next : ℕ) : Type 0 where
  pub each : length now ≡ length before
  pub marks : (number : ℕ) → number < length before
      → slice_index_or now number false
      ≡ slice_index_or before number false || (nat_lt least number && nat_lt number next)

outside : (least number next : ℕ) → (number ≤ least) ⊎ (next ≤ number)
    → nat_lt least number && nat_lt number next ≡ false
outside least number next (inl low) =
    ap (λ (test : Bool). test && nat_lt number next) (le-ltb least number low)
outside least number next (inr high) =
    ap (λ (test : Bool). nat_lt least number && test) (le-ltb number next high)
    ∙ and_none (nat_lt least number)
  where
    and_none : (test : Bool) → test && false ≡ false
    and_none true = refl
    and_none false = refl

pub none_marked : (before : List Bool) (least next : ℕ) → next ≤ suc least
    → AreMarked before before least next
none_marked before least next less = record {
  each = refl;
  marks = λ number within. sym (ap (λ (test : Bool). slice_index_or before number false || test)
      (outside least number next (elim (cases_lt least number) [
        | inl above ↦ inr (omega (arith, above, less))
        | inr below ↦ inl below
      ])) ∙ or_none (slice_index_or before number false));
}

pub one_marked : (before now : List Bool) (least next later : ℕ) → AreMarked before now least next
    → least < next → next < length before → later ≡ next + 1
    → AreMarked before (slice_set now next true) least later
one_marked before now least next later are above within is = record {
  each = length-set now next true ∙ are.each;
  marks = λ number less. elim (cases_eq number next) [
    | inl same ↦
        ap (λ (n : ℕ). slice_index_or (slice_set now next true) n false) same
        ∙ get_or-set_same now next true false (omega (arith, within, are.each))
        ∙ sym (ap (λ (test : Bool). slice_index_or before number false || test)
        (ap (λ (test : Bool). test && nat_lt number later)
        (lt-ltb least number (omega (arith, same, above)))
        ∙ lt-ltb number later (omega (arith, same, is))) ∙ or_all (slice_index_or before number
        false))
    | inr other ↦
        get_or-set_other now next number true false other
        ∙ are.marks number less
        ∙ ap (λ (test : Bool). slice_index_or before number false || (nat_lt least number && test))
        (same_below number next later is other)
  ];
}
  where
    or_all : (mark : Bool) → mark || true ≡ true
    or_all true = refl
    or_all false = refl

    same_below : (number next later : ℕ) → later ≡ next + 1 → (number ≡ next → ⊥)
        → nat_lt number next ≡ nat_lt number later
    same_below number next later is other = elim (cases_lt number next) [
      | inl below ↦ lt-ltb number next below ∙ sym (lt-ltb number later (omega (arith, below, is)))
      | inr past ↦ elim (cases_lt next number) [
        | inl more ↦
            le-ltb number next past ∙ sym (le-ltb number later (omega (arith, more, is)))
        | inr less ↦ absurd (other (omega (arith, past, less)))
      ]
    ]

-- up to a number
pub marked_upto : (number greatest next : ℕ) → next ≡ suc greatest
    → nat_lt number next ≡ nat_le number greatest
marked_upto number greatest next is = elim (cases_lt greatest number) [
  | inl above ↦
      le-ltb number next (omega (arith, above, is)) ∙ sym (lt-leb number greatest above)
  | inr upto ↦
      lt-ltb number next (omega (arith, upto, is)) ∙ sym (le-leb number greatest upto)
]

pub all_marked : (before now : List Bool) (least greatest next : ℕ)
    → AreMarked before now least next → next ≡ suc greatest → (number : ℕ)
    → number < length before → slice_index_or now number false
    ≡ slice_index_or before number false || (nat_lt least number && nat_le number greatest)
all_marked before now least greatest next are is number less =
    are.marks number less
    ∙ ap (λ (test : Bool). slice_index_or before number false || (nat_lt least number && test))
    (marked_upto number greatest next is)

-- the marks of units, of which some are left
pub record AreLeft (before now : List Bool) (units left : List RoundUnit) : Type 0 where
  pub each : length now ≡ length before
  pub marks : (number : ℕ) → number < length before
      → slice_index_or now number false || parts_unit left number
      ≡ slice_index_or before number false || parts_unit units number

pub drop_past : {A : Type 0} (l : List A) (k : ℕ) → length l ≤ k → drop k l ≡ []
drop_past [] zero less = refl
drop_past [] (suc k) less = refl
drop_past (x ∷ l) zero less = absurd (omega (arith, less))
drop_past (x ∷ l) (suc k) less = drop_past l k (omega (arith, less))

pub next_left : (before now after : List Bool) (units left : List RoundUnit) (unit : RoundUnit)
    → AreLeft before now units (unit ∷ left) → length after ≡ length now
    → ((number : ℕ) → number < length now → slice_index_or after number false
    ≡ slice_index_or now number false || is_parted number unit)
    → AreLeft before after units left
next_left before now after units left unit are same marks = record {
  each = same ∙ are.each;
  marks = λ number less.
      ap (λ (mark : Bool). mark || parts_unit left number)
      (marks number (omega (arith, less, are.each)))
      ∙ or_again (slice_index_or now number false) (is_parted number unit) (parts_unit left number)
      ∙ are.marks number less;
}

pub none_left : (before now : List Bool) (units left : List RoundUnit) → left ≡ []
    → AreLeft before now units left → (number : ℕ) → number < length before
    → slice_index_or now number false
    ≡ slice_index_or before number false || parts_unit units number
none_left before now units left none are number less =
    sym (or_none (slice_index_or now number false))
    ∙ ap (λ (l : List RoundUnit). slice_index_or now number false || parts_unit l number) (sym none)
    ∙ are.marks number less

-- ---- spans

pub one_span : (node : ℕ) → IsSpanOf (node ∷ []) (record { least = node; greatest = node })
one_span node = record {
  below = λ number. or_none (nat_lt node number);
  from = λ number. or_none (nat_le number node);
  rising = omega arith;
  within = λ size all. all 0 node (omega arith);
}

pub span_more : (seen : List ℕ) (span : Span) (node : ℕ) → IsSpanOf seen span
    → IsSpanOf (seen ++ node ∷ [])
    (record { least = min span.least node; greatest = max span.greatest node })
span_more seen span node is = record {
  below = λ number.
      list_any-append (λ n. nat_lt n number) seen (node ∷ [])
      ∙ ap (λ (test : Bool). test || (nat_lt node number || false)) (is.below number)
      ∙ ap (λ (test : Bool). nat_lt span.least number || test) (or_none (nat_lt node number))
      ∙ sym (lower_of span.least node number);
  from = λ number.
      list_any-append (λ n. nat_le number n) seen (node ∷ [])
      ∙ ap (λ (test : Bool). test || (nat_le number node || false)) (is.from number)
      ∙ ap (λ (test : Bool). nat_le number span.greatest || test) (or_none (nat_le number node))
      ∙ sym (higher_of span.greatest node number);
  rising = omega (arith, is.rising);
  within = λ size all.
      omega (
        arith,
        is.within size (all_first (λ n. n < size) seen (node ∷ []) all),
        last_of (λ n. n < size) seen node all,
      );
}
  where
    all_first : (P : ℕ → Type 0) (xs ys : List ℕ) → All P (xs ++ ys) → All P xs
    all_first P [] ys all = All-nil P
    all_first P (x ∷ xs) ys all =
        All-cons P x xs (all 0 x (omega arith))
        (all_first P xs ys (λ k d less. all (suc k) d (omega (arith, less))))

    last_of : (P : ℕ → Type 0) (xs : List ℕ) (node : ℕ) → All P (xs ++ node ∷ []) → P node
    last_of P [] node all = all 0 node (omega arith)
    last_of P (x ∷ xs) node all =
        last_of P xs node (λ k d less. all (suc k) d (omega (arith, less)))

-- whether a span's unit has nodes on both sides
pub parted_by : (nodes : List ℕ) (span : Span) (turns number : ℕ) → IsSpanOf nodes span
    → is_parted number (record { turns = turns; nodes = nodes })
    ≡ nat_lt span.least number && nat_le number span.greatest
parted_by nodes span turns number is =
    ap (λ (test : Bool). test && list_any (λ node. nat_le number node) nodes) (is.below number)
    ∙ ap (λ (test : Bool). nat_lt span.least number && test) (is.from number)
