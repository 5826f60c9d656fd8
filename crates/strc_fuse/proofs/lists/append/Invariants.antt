use Rattle.std.proofs.Common.{◌≡◌, ◌++◌}
use Rattle.strc_elab_dataflow.specs.Fused.{repeated}
use Rattle.strc_fuse.proofs.lists.append.Given as goal

abbrev pub invariant-loop-turn : goal.invariant-loop-turn
invariant-loop-turn l = l.list.items ≡ l.fn.list.items ++ repeated l.turn l.nodes
