-- A round cut into stages between the groups of its graph's nodes (Gordon, Thies and Amarasinghe
-- 2006: coarse-grained software pipelining).
use Rattle.std.specs.Prelude.{◌≡◌, ℕ, suc, ◌<◌, ◌≤◌, ◌&&◌, nat_le}
use Rattle.std.specs.Prelude.{nat_lt, if◌then◌else◌, List, [], ◌∷◌, length, Option, Some}
use Rattle.std.specs.Prelude.{slice_get, slice_index, All, ◌⊎◌}
use Rattle.strc_elab_graph.specs.Graphs.{Graph}
use Rattle.strc_elab_dataflow.specs.FusedUnits.{RoundUnit}
use Rattle.strc_sched_orders.specs.declared.unit as units

-- a number is between groups: no outermost feedback loop has nodes on both of its sides
abbrev pub IsBetweenGroups : (loops : List (Option ℕ)) → (bound : ℕ) → Type 0
IsBetweenGroups loops bound =
    (low high loop : ℕ) → low < bound → bound ≤ high → slice_get loops low ≡ Some (Some loop)
    → slice_get loops high ≡ Some (Some loop) → ⊥

-- the node of this number, where it is one, is in no outermost loop that begins before it; a loop
-- has its joiner's number, which is its first
abbrev pub BeginsGroup : (loops : List (Option ℕ)) → (number : ℕ) → Type 0
BeginsGroup loops number =
    (loop : ℕ) → slice_get loops number ≡ Some (Some loop) → number ≤ loop

-- a number is between units: no unit has nodes on both of its sides
abbrev pub IsBetweenUnits : List RoundUnit → (bound : ℕ) → Type 0
IsBetweenUnits order bound =
    All (λ unit. All (λ node. node < bound) unit.nodes ⊎ All (λ node. bound ≤ node) unit.nodes)
    order

-- bounds of stages: a stage has the nodes from its bound up to the next one's, all stages have
-- all nodes, and each bound is between groups, and between the units of the round
pub record IsCutOf (graph : Graph) (round : List RoundUnit) (bound : (stage : ℕ) → ℕ)
    (stages : ℕ) : Type 0 where
  pub first : bound 0 ≡ 0
  pub all : bound stages ≡ length graph.nodes
  pub rising : (stage : ℕ) → stage < stages → bound stage ≤ bound (suc stage)
  pub between : (stage : ℕ) → stage ≤ stages → IsBetweenGroups graph.outer_loops (bound stage)
  pub units : (stage : ℕ) → stage ≤ stages → IsBetweenUnits round (bound stage)

-- the firings of an order that are of nodes from one number on, and before another
abbrev pub firings_within : (first next : ℕ) → (order : List ℕ) → List ℕ
firings_within first next [] = []
firings_within first next (node ∷ order) =
    if nat_le first node && nat_lt node next then node ∷ firings_within first next order
    else firings_within first next order

-- those of a stage's nodes
abbrev pub segment_of : (bound : (stage : ℕ) → ℕ) → (order : List ℕ) → (stage : ℕ) → List ℕ
segment_of bound order stage = firings_within (bound stage) (bound (suc stage)) order

-- the units of an order whose nodes are so, of which the first tells
abbrev pub units_within : (first next : ℕ) → (order : List units.Unit.Unit)
    → List units.Unit.Unit
units_within first next [] = []
units_within first next (unit ∷ order) =
    if nat_le first (slice_index unit.nodes.items 0) && nat_lt (slice_index unit.nodes.items 0) next
    then unit ∷ units_within first next order else units_within first next order
