use Rattle.std.proofs.Common.{◌≡◌, ◌≤◌, ◌-◌, map, sum}
use Rattle.std.specs.List.{range_with_len}
use Rattle.strc_elab_graph.specs.NodeView.{node_view}
use Rattle.strc_batch.specs.Choice as spec
use Rattle.strc_fuse.specs.Units.{round_units}
use Rattle.strc_batch.proofs.choice.is_chained.Given as goal

abbrev pub invariant-loop-place : goal.invariant-loop-place
invariant-loop-place l = record {
  handed : l.handed ≡ sum (map (spec.handing_at (map node_view l.nodes) (round_units l.units))
      (range_with_len 0 (l.place - 1)));
  few : l.handed ≤ l.place;
}
