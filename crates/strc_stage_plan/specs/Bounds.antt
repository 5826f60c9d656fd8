-- Where the stages of a plan begin, by its groups: all nodes of one outermost feedback loop, or
-- those of one unit of the round outside feedback loops.
use Rattle.std.specs.Prelude.{ℕ, suc, ◌*◌, ◌/◌, min, Bool, true, ◌&&◌, not, if◌then◌else◌, nat_lt}
use Rattle.std.specs.Prelude.{nat_le, List, map, length, slice_index, get_or, filter, Option, Some}
use Rattle.std.specs.Prelude.{None}
use Rattle.std.specs.List.{range_with_len, list_any}
use Rattle.strc_elab_dataflow.specs.FusedUnits.{RoundUnit}

-- whether a number isn't past the beginning of this outermost loop, where it is in one
abbrev pub begins : (loop : Option ℕ) → (node : ℕ) → Bool
begins None node = true
begins (Some loop) node = nat_le node loop

-- whether a unit has nodes below a number, and others
abbrev pub is_parted : (number : ℕ) → RoundUnit → Bool
is_parted number unit = list_any (λ node. nat_lt node number) unit.nodes
    && list_any (λ node. nat_le number node) unit.nodes

abbrev pub parts_unit : List RoundUnit → (number : ℕ) → Bool
parts_unit order number = list_any (is_parted number) order

-- whether a node begins a group: it parts no loop and no unit
abbrev pub begins_at : (loops : List (Option ℕ)) → List RoundUnit → (node : ℕ) → Bool
begins_at loops order node = begins (get_or loops node None) node && not (parts_unit order node)

-- the nodes, in order, that begin a group
abbrev pub group_starts : (loops : List (Option ℕ)) → List RoundUnit → List ℕ
group_starts loops order = filter (begins_at loops order) (range_with_len 0 (length loops))

-- no stage is without a group
abbrev pub stage_count : (loops : List (Option ℕ)) → List RoundUnit → (workers : ℕ) → ℕ
stage_count loops order workers = min (length (group_starts loops order)) workers

-- the first group of a stage, where so many stages share so many groups as evenly as they can
abbrev pub first_group : (groups stages stage : ℕ) → ℕ
first_group groups stages stage = stage * groups / stages

-- the node with which a stage's first group begins; the number of nodes past the last stage
abbrev pub bound_at : (nodes : ℕ) → (starts : List ℕ) → (stages stage : ℕ) → ℕ
bound_at nodes starts stages stage =
    if nat_lt stage stages then slice_index starts (first_group (length starts) stages stage)
    else nodes

abbrev pub stage_bound : (loops : List (Option ℕ)) → List RoundUnit → (workers stage : ℕ) → ℕ
stage_bound loops order workers stage =
    bound_at (length loops) (group_starts loops order) (stage_count loops order workers) stage

-- the bounds of all stages, and the last one's end
abbrev pub stage_bounds : (loops : List (Option ℕ)) → List RoundUnit → (workers : ℕ) → List ℕ
stage_bounds loops order workers =
    map (stage_bound loops order workers)
    (range_with_len 0 (suc (stage_count loops order workers)))
