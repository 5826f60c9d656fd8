-- The firings of each range, in an order that goes range by range.
use Rattle.std.proofs.Common.{◌≡◌, refl, sym, ap, ◌∙◌, ℕ, zero, suc, ◌<◌, ◌≤◌, Bool, true}
use Rattle.std.proofs.Common.{false, List, [], ◌∷◌, ◌++◌, ◌⊎◌, inl, inr, arith, le-leb, lt-ltb}
use Rattle.std.proofs.Common.{le-ltb}
use Rattle.std.specs.Prelude.{◌&&◌, nat_le, nat_lt, if◌then◌else◌}
use Rattle.std.proofs.lemmas.Bool.{cases_lt, leb-true, ltb-true, false≢true}
use Rattle.strc_elab_dataflow.specs.Fused.{repeated}
use Rattle.strc_elab_dataflow.specs.FusedUnits.{RoundUnit, firings_of}
use Rattle.strc_elab_dataflow.specs.Ranges.{AllWithin}
use Rattle.strc_elab_dataflow.specs.Staging.{joined}
use Rattle.strc_elab_dataflow.proofs.Ranges.{bounds_from}
use Rattle.strc_stage_plan.specs.Cuts.{firings_within}
use Rattle.strc_stage_plan.proofs.FusedSplits.{Each, Below, From, AllPass, IsSplit, each_append}
use Rattle.strc_stage_plan.proofs.FusedSplits.{each_repeated}

-- from one number on, and before another
abbrev pub AreIn : (first next : ℕ) → List ℕ → Type 0
AreIn first next order = AllWithin first (λ node. node < next) order

pub test_inside : (first next node : ℕ) → first ≤ node → node < next
    → nat_le first node && nat_lt node next ≡ true
test_inside first next node from below =
    ap (λ (test : Bool). test && nat_lt node next) (le-leb first node from)
    ∙ lt-ltb node next below

pub test_outside : (first next node : ℕ) → (node < first) ⊎ (next ≤ node)
    → nat_le first node && nat_lt node next ≡ false
test_outside first next node (inl before) = by_test (nat_le first node) refl
  where
    by_test : (test : Bool) → nat_le first node ≡ test → test && nat_lt node next ≡ false
    by_test true e = absurd (omega (arith, before, leb-true first node e))
    by_test false e = refl
test_outside first next node (inr past) = by_test (nat_le first node) (le-ltb node next past)
  where
    by_test : (test : Bool) → nat_lt node next ≡ false → test && nat_lt node next ≡ false
    by_test true e = e
    by_test false e = refl

pub kept_all : (first next : ℕ) (xs : List ℕ) → AreIn first next xs
    → firings_within first next xs ≡ xs
kept_all first next [] all = refl
kept_all first next (node ∷ xs) (from, below, rest) =
    ap (λ (test : Bool). if test then node ∷ firings_within first next xs
    else firings_within first next xs) (test_inside first next node from below)
    ∙ ap (λ (l : List ℕ). node ∷ l) (kept_all first next xs rest)

if_append : (test : Bool) (node : ℕ) (xs ys : List ℕ)
    → (if test then node ∷ (xs ++ ys) else xs ++ ys) ≡ (if test then node ∷ xs else xs) ++ ys
if_append true node xs ys = refl
if_append false node xs ys = refl

pub kept_append : (first next : ℕ) (xs ys : List ℕ) → firings_within first next (xs ++ ys)
    ≡ firings_within first next xs ++ firings_within first next ys
kept_append first next [] ys = refl
kept_append first next (node ∷ xs) ys =
    ap (λ (l : List ℕ). if nat_le first node && nat_lt node next then node ∷ l else l)
    (kept_append first next xs ys)
    ∙ if_append (nat_le first node && nat_lt node next) node (firings_within first next xs)
    (firings_within first next ys)

-- what is kept is in the range
in_range : (first next node : ℕ) → nat_le first node && nat_lt node next ≡ true
    → (first ≤ node) × (node < next)
in_range first next node is = by_tests (nat_le first node) (nat_lt node next) refl refl is
  where
    by_tests : (one other : Bool) → nat_le first node ≡ one → nat_lt node next ≡ other
        → one && other ≡ true → (first ≤ node) × (node < next)
    by_tests true true a b e = (leb-true first node a, ltb-true node next b)
    by_tests true false a b e = absurd (false≢true e)
    by_tests false other a b e = absurd (false≢true e)

pub within_range : (first next : ℕ) (xs : List ℕ) → AreIn first next (firings_within first next xs)
within_range first next [] = tt
within_range first next (node ∷ xs) =
    by_test (nat_le first node && nat_lt node next) refl (within_range first next xs)
  where
    by_test : (test : Bool) → nat_le first node && nat_lt node next ≡ test
        → AreIn first next (firings_within first next xs)
        → AreIn first next
        (if test then node ∷ firings_within first next xs else firings_within first next xs)
    by_test true e rest =
        let (from, below) = in_range first next node e in (from, below, rest)
    by_test false e rest = rest

-- an order goes through the nodes below a number, and then through others
abbrev pub IsSplitAt : (bound : ℕ) → List ℕ → Type 0
IsSplitAt bound [] = Unit {0}
IsSplitAt bound (node ∷ order) =
    ((node < bound) × IsSplitAt bound order) ⊎ ((bound ≤ node) × From bound order)

from_on : (bound : ℕ) (xs : List ℕ) → From bound xs → IsSplitAt bound xs
from_on bound [] all = tt
from_on bound (node ∷ xs) (own, rest) = inr (own, rest)

below_then : (bound : ℕ) (xs ys : List ℕ) → Below bound xs → IsSplitAt bound ys
    → IsSplitAt bound (xs ++ ys)
below_then bound [] ys all split = split
below_then bound (node ∷ xs) ys (own, rest) split =
    inl (own, below_then bound xs ys rest split)

firings_pass : (P : ℕ → Type 0) (order : List RoundUnit) → AllPass P order
    → Each P (firings_of order)
firings_pass P [] all = tt
firings_pass P (unit ∷ order) (own, rest) =
    each_append P (repeated unit.turns unit.nodes) (firings_of order)
    (each_repeated P unit.turns unit.nodes own) (firings_pass P order rest)

-- as its units do
pub firings_split : (bound : ℕ) (order : List RoundUnit) → IsSplit bound order
    → IsSplitAt bound (firings_of order)
firings_split bound [] split = tt
firings_split bound (unit ∷ order) (inl (own, rest)) =
    below_then bound (repeated unit.turns unit.nodes) (firings_of order)
    (each_repeated (λ node. node < bound) unit.turns unit.nodes own)
    (firings_split bound order rest)
firings_split bound (unit ∷ order) (inr (own, rest)) =
    from_on bound (firings_of (unit ∷ order))
    (firings_pass (λ node. bound ≤ node) (unit ∷ order) (own, rest))

-- the firings of units whose nodes are below a number are so
nodes_in : (size : ℕ) (nodes : List ℕ) → Each (λ node. node < size) nodes → AreIn 0 size nodes
nodes_in size [] each = tt
nodes_in size (node ∷ nodes) each = (omega arith, each.0, nodes_in size nodes each.1)

pub firings_in : (size : ℕ) (order : List RoundUnit) → AllPass (λ node. node < size) order
    → AreIn 0 size (firings_of order)
firings_in size order all =
    nodes_in size (firings_of order) (firings_pass (λ node. node < size) order all)

-- a node of one of two ranges that meet
one_of : (first second third : Bool) (node : ℕ) (all low high : List ℕ) → first ≡ second
    → third ≡ false → all ≡ low ++ high
    → (if first then node ∷ all else all)
    ≡ (if second then node ∷ low else low) ++ (if third then node ∷ high else high)
one_of first second true node all low high same none e = absurd (false≢true (sym none))
one_of true true false node all low high same none e = ap (λ (l : List ℕ). node ∷ l) e
one_of true false false node all low high same none e = absurd (false≢true (sym same))
one_of false true false node all low high same none e = absurd (false≢true same)
one_of false false false node all low high same none e = e

both_or : (test one other : Bool) → one ≡ true → other ≡ true → test && one ≡ test && other
both_or test one other a b = ap (λ (t : Bool). test && t) (a ∙ sym b)

either_or : (one other test : Bool) → one ≡ true → other ≡ true → one && test ≡ other && test
either_or one other test a b = ap (λ (t : Bool). t && test) (a ∙ sym b)

none_here : (first next : ℕ) (xs : List ℕ) → next ≤ first → firings_within first next xs ≡ []
none_here first next [] less = refl
none_here first next (node ∷ xs) less =
    ap (λ (test : Bool). if test then node ∷ firings_within first next xs
    else firings_within first next xs) (test_outside first next node (elim (cases_lt node first) [
      | inl before ↦ inl before
      | inr past ↦ inr (omega (arith, past, less))
    ]))
    ∙ none_here first next xs less

module _ (low middle high : ℕ) (first : low ≤ middle) (second : middle ≤ high) where
  none_above : (xs : List ℕ) → From middle xs → firings_within low middle xs ≡ []
  none_above [] all = refl
  none_above (node ∷ xs) (own, rest) =
      ap (λ (test : Bool). if test then node ∷ firings_within low middle xs
      else firings_within low middle xs) (test_outside low middle node (inr own))
      ∙ none_above xs rest

  all_above : (xs : List ℕ) → From middle xs
      → firings_within low high xs ≡ firings_within middle high xs
  all_above [] all = refl
  all_above (node ∷ xs) (own, rest) =
      ap (λ (l : List ℕ). if nat_le low node && nat_lt node high then node ∷ l else l)
      (all_above xs rest)
      ∙ ap (λ (test : Bool). if test then node ∷ firings_within middle high xs
      else firings_within middle high xs)
      (either_or (nat_le low node) (nat_le middle node) (nat_lt node high)
      (le-leb low node (omega (arith, first, own))) (le-leb middle node own))

  -- the firings of two ranges that meet where an order is split
  pub both_ranges : (xs : List ℕ) → IsSplitAt middle xs → firings_within low high xs
      ≡ firings_within low middle xs ++ firings_within middle high xs
  both_ranges [] split = refl
  both_ranges (node ∷ xs) (inl (own, rest)) =
      one_of (nat_le low node && nat_lt node high) (nat_le low node && nat_lt node middle)
      (nat_le middle node && nat_lt node high) node (firings_within low high xs)
      (firings_within low middle xs) (firings_within middle high xs)
      (both_or (nat_le low node) (nat_lt node high) (nat_lt node middle)
      (lt-ltb node high (omega (arith, own, second))) (lt-ltb node middle own))
      (test_outside middle high node (inl own)) (both_ranges xs rest)
  both_ranges (node ∷ xs) (inr (own, rest)) =
      all_above (node ∷ xs) (own, rest)
      ∙ ap (λ (l : List ℕ). l ++ firings_within middle high (node ∷ xs))
      (sym (none_above (node ∷ xs) (own, rest)))

-- an order that is split at each bound is its ranges' firings, one after another
module _ (bound : ℕ → ℕ) (count : ℕ)
    (rising : (a : ℕ) → a < count → bound a ≤ bound (suc a)) (order : List ℕ)
    (split : (a : ℕ) → a ≤ count → IsSplitAt (bound a) order) where
  pub ranges_joined : (n : ℕ) → n ≤ count → firings_within (bound 0) (bound n) order
      ≡ joined (λ a. firings_within (bound a) (bound (suc a)) order) n
  unfolding joined
  ranges_joined zero less = none_here (bound 0) (bound 0) order (omega arith)
  ranges_joined (suc n) less =
      both_ranges (bound 0) (bound n) (bound (suc n))
      (bounds_from bound count rising 0 n (omega arith) (omega (arith, less)))
      (rising n less) order (split n (omega (arith, less)))
      ∙ ap (λ (l : List ℕ). l ++ firings_within (bound n) (bound (suc n)) order)
      (ranges_joined n (omega (arith, less)))
