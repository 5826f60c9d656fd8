use Rattle.std.proofs.Common.{◌≡◌, ◌++◌}
use Rattle.strc_elab_dataflow.specs.Fused.{repeated}
use Rattle.strc_batch.proofs.batch_units.add_firings.Given as goal

abbrev pub invariant-loop-turn : goal.invariant-loop-turn
invariant-loop-turn l =
    l.nodes.items ≡ l.fn.nodes.items ++ repeated l._turn l.unit.nodes.items
