-- The nodes of a batch's units: those of each group are the group's, so that no unit has nodes on
-- both sides of a group's bound.
use Rattle.std.proofs.Common.{◌≡◌, refl, sym, ◌∙◌, ℕ, zero, suc, ◌<◌, ◌≤◌, arith, Bool, true}
use Rattle.std.proofs.Common.{false, List, [], ◌∷◌, ◌++◌, All, cond, true≢false, ◌⊎◌, inl, inr}
use Rattle.std.specs.Prelude.{◌&&◌, nat_le, nat_lt, slice_index}
use Rattle.std.proofs.lemmas.Bool.{cases_lt}
use Rattle.strc_elab_dataflow.specs.Fused.{repeated}
use Rattle.strc_elab_dataflow.specs.FusedUnits.{RoundUnit, firings_of}
use Rattle.strc_elab_dataflow.proofs.Ranges.{bounds_from}
use Rattle.strc_sched_orders.specs.declared.unit as unit_type
use Rattle.strc_fuse.specs.Units.{round_units}
use Rattle.strc_stage_plan.specs.Cuts.{IsBetweenUnits, units_within}
use Rattle.strc_stage_plan.proofs.FusedSplits.{AllPass, AreApart, Below, Each, From, each_append}
use Rattle.strc_stage_plan.proofs.FusedSplits.{each_repeated}
use Rattle.strc_stage_plan.proofs.Segments.{test_outside}
use Rattle.strc_batch_laws.specs.Units.{batch_units, batch_units_of, joined_units}

-- ---- nodes that pass

all_of : (P : ℕ → Type 0) (nodes : List ℕ) → Each P nodes → All P nodes
all_of P [] each k d less = absurd (omega (arith, less))
all_of P (node ∷ nodes) (own, rest) zero d less = own
all_of P (node ∷ nodes) (own, rest) (suc k) d less =
    all_of P nodes rest k d (omega (arith, less))

module _ (P : ℕ → Type 0) where
  firings_pass : (units : List RoundUnit) → AllPass P units → Each P (firings_of units)
  firings_pass [] all = tt
  firings_pass (unit ∷ units) (own, rest) =
      each_append P (repeated unit.turns unit.nodes) (firings_of units)
      (each_repeated P unit.turns unit.nodes own) (firings_pass units rest)

  batch_pass : (b : ℕ) (units : List RoundUnit) → AllPass P units → AllPass P (batch_units b units)
  batch_pass b [] all = tt
  batch_pass b (unit ∷ []) (own, rest) = (own, tt)
  batch_pass b (unit ∷ (next ∷ rest)) all = (firings_pass (unit ∷ (next ∷ rest)) all, tt)

  append_pass : (xs ys : List RoundUnit) → AllPass P xs → AllPass P ys → AllPass P (xs ++ ys)
  append_pass [] ys first second = second
  append_pass (unit ∷ xs) ys (own, rest) second = (own, append_pass xs ys rest second)

  pub batches_pass : (b : ℕ) (group : ℕ → List RoundUnit) (groups : ℕ)
      → ((a : ℕ) → a < groups → AllPass P (group a)) → AllPass P (batch_units_of b group groups)
  batches_pass b group zero each = tt
  batches_pass b group (suc a) each =
      append_pass (joined_units (λ g. batch_units b (group g)) a) (batch_units b (group a))
      (batches_pass b group a (λ g less. each g (omega (arith, less))))
      (batch_pass b (group a) (each a (omega arith)))

  -- units within bounds are some of all
  taken_pass : (test : Bool) (unit : unit_type.Unit.Unit) (order : List unit_type.Unit.Unit)
      → Each P unit.nodes.items → AllPass P (round_units order)
      → AllPass P (round_units (cond test (unit ∷ order) order))
  taken_pass true unit order own rest = (own, rest)
  taken_pass false unit order own rest = rest

  pub within_pass : (first next : ℕ) (order : List unit_type.Unit.Unit)
      → AllPass P (round_units order) → AllPass P (round_units (units_within first next order))
  within_pass first next [] all = tt
  within_pass first next (unit ∷ order) (own, rest) =
      taken_pass (nat_le first (slice_index unit.nodes.items 0)
      && nat_lt (slice_index unit.nodes.items 0) next) unit (units_within first next order) own
      (within_pass first next order rest)

  pub units_pass : (units : List unit_type.Unit.Unit) → AllPass P (round_units units)
      → All (λ (unit : unit_type.Unit.Unit). All P unit.nodes.items) units
  units_pass [] all k d less = absurd (omega (arith, less))
  units_pass (unit ∷ units) (own, rest) zero d less = all_of P unit.nodes.items own
  units_pass (unit ∷ units) (own, rest) (suc k) d less =
      units_pass units rest k d (omega (arith, less))

-- ---- units of the nodes from one number up to another

module _ (first next : ℕ) where
  abbrev is_in : ℕ → Bool
  is_in node = nat_le first node && nat_lt node next

  nodes_from : (nodes : List ℕ) → is_in (slice_index nodes 0) ≡ true
      → Below first nodes ⊎ From first nodes → From first nodes
  nodes_from [] taken side = tt
  nodes_from (node ∷ nodes) taken (inl (less, rest)) =
      absurd (true≢false (sym taken ∙ test_outside first next node (inl less)))
  nodes_from (node ∷ nodes) taken (inr from) = from

  nodes_below : (nodes : List ℕ) → is_in (slice_index nodes 0) ≡ true
      → Below next nodes ⊎ From next nodes → Below next nodes
  nodes_below [] taken side = tt
  nodes_below (node ∷ nodes) taken (inl below) = below
  nodes_below (node ∷ nodes) taken (inr (more, rest)) =
      absurd (true≢false (sym taken ∙ test_outside first next node (inr more)))

  taken_units : (P : ℕ → Type 0) (test : Bool) (unit : unit_type.Unit.Unit)
      (order : List unit_type.Unit.Unit)
      → (test ≡ true → Each P unit.nodes.items) → AllPass P (round_units order)
      → AllPass P (round_units (cond test (unit ∷ order) order))
  taken_units P true unit order own rest = (own refl, rest)
  taken_units P false unit order own rest = rest

  units_from : (order : List unit_type.Unit.Unit) → AreApart first (round_units order)
      → AllPass (λ node. first ≤ node) (round_units (units_within first next order))
  units_from [] apart = tt
  units_from (unit ∷ order) (own, rest) =
      taken_units (λ node. first ≤ node) (is_in (slice_index unit.nodes.items 0)) unit
      (units_within first next order) (λ taken. nodes_from unit.nodes.items taken own)
      (units_from order rest)

  units_below : (order : List unit_type.Unit.Unit) → AreApart next (round_units order)
      → AllPass (λ node. node < next) (round_units (units_within first next order))
  units_below [] apart = tt
  units_below (unit ∷ order) (own, rest) =
      taken_units (λ node. node < next) (is_in (slice_index unit.nodes.items 0)) unit
      (units_within first next order) (λ taken. nodes_below unit.nodes.items taken own)
      (units_below order rest)

-- ---- a number between them

each_to : (P Q : ℕ → Type 0) (nodes : List ℕ) → ((node : ℕ) → P node → Q node) → Each P nodes
    → Each Q nodes
each_to P Q [] step all = tt
each_to P Q (node ∷ nodes) step (own, rest) = (step node own, each_to P Q nodes step rest)

pass_to : (P Q : ℕ → Type 0) (units : List RoundUnit) → ((node : ℕ) → P node → Q node)
    → AllPass P units → AllPass Q units
pass_to P Q [] step all = tt
pass_to P Q (unit ∷ units) step (own, rest) =
    (each_to P Q unit.nodes step own, pass_to P Q units step rest)

module _ (bound : ℕ) where
  apart_below : (units : List RoundUnit) → AllPass (λ node. node < bound) units
      → AreApart bound units
  apart_below [] all = tt
  apart_below (unit ∷ units) (own, rest) = (inl own, apart_below units rest)

  apart_after : (units : List RoundUnit) → AllPass (λ node. bound ≤ node) units
      → AreApart bound units
  apart_after [] all = tt
  apart_after (unit ∷ units) (own, rest) = (inr own, apart_after units rest)

  apart_append : (xs ys : List RoundUnit) → AreApart bound xs → AreApart bound ys
      → AreApart bound (xs ++ ys)
  apart_append [] ys first second = second
  apart_append (unit ∷ xs) ys (own, rest) second = (own, apart_append xs ys rest second)

  pub between_of : (units : List RoundUnit) → AreApart bound units → IsBetweenUnits units bound
  between_of [] apart k d less = absurd (omega (arith, less))
  between_of (unit ∷ units) (own, rest) zero d less = elim own [
    | inl below ↦ inl (all_of (λ node. node < bound) unit.nodes below)
    | inr from ↦ inr (all_of (λ node. bound ≤ node) unit.nodes from)
  ]
  between_of (unit ∷ units) (own, rest) (suc k) d less =
      between_of units rest k d (omega (arith, less))

-- Groups whose units are those of a round within their bounds.
module _ (bound : (group : ℕ) → ℕ) (groups b : ℕ) (order : List unit_type.Unit.Unit)
    (rising : (group : ℕ) → group < groups → bound group ≤ bound (suc group))
    (apart : (group : ℕ) → group ≤ groups → AreApart (bound group) (round_units order)) where
  abbrev own_units : ℕ → List RoundUnit
  own_units group = round_units (units_within (bound group) (bound (suc group)) order)

  module _ (at : ℕ) (there : at ≤ groups) where
    group_apart : (group : ℕ) → group < groups
        → AreApart (bound at) (batch_units b (own_units group))
    group_apart group less = elim (cases_lt group at) [
      | inl before ↦ apart_below (bound at) (batch_units b (own_units group))
          (batch_pass (λ node. node < bound at) b (own_units group)
          (pass_to (λ node. node < bound (suc group)) (λ node. node < bound at) (own_units group)
          (λ node is. omega (
            arith,
            is,
            bounds_from bound groups rising (suc group) at before there,
          ))
          (units_below (bound group) (bound (suc group)) order (apart (suc group) less))))
      | inr after ↦ apart_after (bound at) (batch_units b (own_units group))
          (batch_pass (λ node. bound at ≤ node) b (own_units group)
          (pass_to (λ node. bound group ≤ node) (λ node. bound at ≤ node) (own_units group)
          (λ node is. omega (
            arith,
            is,
            bounds_from bound groups rising at group after (omega (arith, less)),
          ))
          (units_from (bound group) (bound (suc group)) order
          (apart group (omega (arith, less))))))
    ]

    pub batches_apart : (some : ℕ) → some ≤ groups
        → AreApart (bound at) (batch_units_of b own_units some)
    batches_apart zero less = tt
    batches_apart (suc a) less =
        apart_append (bound at) (joined_units (λ g. batch_units b (own_units g)) a)
        (batch_units b (own_units a)) (batches_apart a (omega (arith, less)))
        (group_apart a (omega (arith, less)))
