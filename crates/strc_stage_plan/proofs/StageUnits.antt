-- The firings of a stage are those of its units.
use Rattle.std.proofs.Common.{◌≡◌, refl, sym, ap, ◌∙◌, ℕ, zero, suc, ◌<◌, ◌≤◌, Bool, true, false}
use Rattle.std.proofs.Common.{List, [], ◌∷◌, ◌++◌, ◌⊎◌, inl, inr}
use Rattle.std.specs.Prelude.{◌&&◌, nat_le, nat_lt, slice_index, if◌then◌else◌}
use Rattle.strc_sched_orders.specs.declared.unit as units
use Rattle.strc_sched_orders.specs.Greedy.{firings_of}
use Rattle.strc_sched_orders.specs.Order.{repeated}
use Rattle.strc_fuse.specs.Units.{round_units}
use Rattle.strc_stage_plan.specs.Cuts.{firings_within, units_within}
use Rattle.strc_stage_plan.specs.CutLaws.{SegmentsAreUnits}
use Rattle.strc_stage_plan.proofs.FusedSplits.{Each, Below, From, AreApart, apart_from, each_append}
use Rattle.strc_stage_plan.proofs.Segments.{kept_append, test_inside, test_outside}

each_turns : (P : ℕ → Type 0) (turns : ℕ) (nodes : List ℕ) → Each P nodes
    → Each P (repeated turns nodes)
each_turns P zero nodes all = tt
each_turns P (suc turns) nodes all =
    each_append P nodes (repeated turns nodes) all (each_turns P turns nodes all)

no_nodes : (turns : ℕ) → repeated turns [] ≡ []
no_nodes zero = refl
no_nodes (suc turns) = no_nodes turns

no_turns : (test : Bool) → ◌≡◌ {A = List ℕ} [] (if test then [] else [])
no_turns true = refl
no_turns false = refl

module _ (first next : ℕ) where
  abbrev is_in : ℕ → Bool
  is_in node = nat_le first node && nat_lt node next

  -- nodes on one side of each bound
  kept_of : (test : Bool) (node : ℕ) (xs : List ℕ) → is_in node ≡ test
      → firings_within first next xs ≡ (if test then xs else [])
      → firings_within first next (node ∷ xs) ≡ (if test then node ∷ xs else [])
  kept_of true node xs is e =
      ap (λ (test : Bool). if test then node ∷ firings_within first next xs
      else firings_within first next xs) is ∙ ap (λ (l : List ℕ). node ∷ l) e
  kept_of false node xs is e =
      ap (λ (test : Bool). if test then node ∷ firings_within first next xs
      else firings_within first next xs) is ∙ e

  kept_as : (test : Bool) (xs : List ℕ) → Each (λ node. is_in node ≡ test) xs
      → firings_within first next xs ≡ (if test then xs else [])
  kept_as test [] all = no_turns test
  kept_as test (node ∷ xs) (own, rest) = kept_of test node xs own (kept_as test xs rest)

  each_to : (P Q : ℕ → Type 0) (xs : List ℕ) → ((node : ℕ) → P node → Q node) → Each P xs
      → Each Q xs
  each_to P Q [] step all = tt
  each_to P Q (node ∷ xs) step (own, rest) = (step node own, each_to P Q xs step rest)

  each_both : (P Q R : ℕ → Type 0) (xs : List ℕ) → ((node : ℕ) → P node → Q node → R node)
      → Each P xs → Each Q xs → Each R xs
  each_both P Q R [] step all more = tt
  each_both P Q R (node ∷ xs) step (own, rest) (its, others) =
      (step node own its, each_both P Q R xs step rest others)

  -- all nodes of such a list are in the range, or none is
  alike : (nodes : List ℕ) → Below first nodes ⊎ From first nodes
      → Below next nodes ⊎ From next nodes
      → (test : Bool) × Each (λ node. is_in node ≡ test) nodes
  alike nodes (inl low) high = (
    false,
    each_to (λ node. node < first) (λ node. is_in node ≡ false) nodes
        (λ node less. test_outside first next node (inl less)) low,
  )
  alike nodes (inr from) (inl below) = (
    true,
    each_both (λ node. first ≤ node) (λ node. node < next) (λ node. is_in node ≡ true) nodes
        (λ node past less. test_inside first next node past less) from below,
  )
  alike nodes (inr from) (inr past) = (
    false,
    each_to (λ node. next ≤ node) (λ node. is_in node ≡ false) nodes
        (λ node more. test_outside first next node (inr more)) past,
  )

  turns_kept : (turns : ℕ) (nodes : List ℕ)
      → ((test : Bool) × Each (λ node. is_in node ≡ test) nodes)
      → firings_within first next (repeated turns nodes)
      ≡ (if is_in (slice_index nodes 0) then repeated turns nodes else [])
  turns_kept turns [] all =
      ap (firings_within first next) (no_nodes turns)
      ∙ no_turns (is_in 0)
      ∙ ap (λ (l : List ℕ). if is_in 0 then l else []) (sym (no_nodes turns))
  turns_kept turns (node ∷ nodes) (test, all) =
      kept_as test (repeated turns (node ∷ nodes))
      (each_turns (λ other. is_in other ≡ test) turns (node ∷ nodes) all)
      ∙ ap (λ (t : Bool). if t then repeated turns (node ∷ nodes) else []) (sym all.0)

  unit_kept : (test : Bool) (unit : units.Unit.Unit) (order : List units.Unit.Unit)
      (xs : List ℕ) → firings_of order ≡ xs
      → firings_of (if test then unit ∷ order else order)
      ≡ (if test then repeated unit.turns unit.nodes.items else []) ++ xs
  unit_kept true unit order xs e = ap (λ l. repeated unit.turns unit.nodes.items ++ l) e
  unit_kept false unit order xs e = e

  units_kept : (order : List units.Unit.Unit) → AreApart first (round_units order)
      → AreApart next (round_units order)
      → firings_of (units_within first next order) ≡ firings_within first next (firings_of order)
  units_kept [] low high = refl
  units_kept (unit ∷ order) (low, lows) (high, highs) =
      unit_kept (is_in (slice_index unit.nodes.items 0)) unit (units_within first next order)
      (firings_within first next (firings_of order)) (units_kept order lows highs)
      ∙ ap (λ l. l ++ firings_within first next (firings_of order))
      (sym (turns_kept unit.turns unit.nodes.items (alike unit.nodes.items low high)))
      ∙ sym (kept_append first next (repeated unit.turns unit.nodes.items) (firings_of order))

pub segments_are_units : SegmentsAreUnits
segments_are_units order first next low high =
    units_kept first next order (apart_from first (round_units order) low)
    (apart_from next (round_units order) high)
