-- The nodes and the units of stages, one by one.
use Rattle.std.proofs.Common.{◌≡◌, ◌<◌, ◌+◌, ◌-◌, ◌++◌, ◌∷◌, ℕ, List, ap, arith, drop, length}
use Rattle.std.proofs.Common.{get_or, refl, take}
use Rattle.std.specs.Prelude.{flat_map, suc}
use Rattle.std.specs.List.{range_with_len}
use Rattle.std.proofs.lemmas.List.{drop_more}
use Rattle.strc_sched_orders.specs.declared.unit as units
use Rattle.strc_cli_pictures.specs.Pictures.{Nodes, node_line}
use Rattle.strc_cli_pictures.specs.Stages.{node_lines, stage_box, stage_boxes, unit_count}

-- the line of the first node, and those of the others
pub first_node : (nodes : Nodes) (node end : ℕ) → node < end
    → node_lines nodes node end ≡ node_line nodes node ++ node_lines nodes (node + 1) end
first_node nodes node end less =
    let one : end - node ≡ suc (end - (node + 1)) = omega (arith, less) in
    ap (λ (n : ℕ). flat_map (node_line nodes) (range_with_len node n)) one

-- the box of the first stage that is left, and those of the others
pub first_stage : (nodes : Nodes) (stage first count : ℕ) (round own later : List units.Unit.Unit)
    (ends : List ℕ) → stage < length ends → count ≡ unit_count (get_or ends stage 0) round
    → own ≡ take count round → later ≡ drop count round
    → stage_boxes nodes stage first round (drop stage ends)
    ≡ stage_box nodes stage first (get_or ends stage 0) own
    ++ stage_boxes nodes (stage + 1) (get_or ends stage 0) later (drop (stage + 1) ends)
first_stage nodes stage first count round own later ends less counted front back =
    let next : drop stage ends ≡ get_or ends stage 0 ∷ drop (stage + 1) ends =
    drop_more ends stage 0 less in
    rw (next, front, back, counted) refl
