use Rattle.std.proofs.Common.{map}
use Rattle.strc_elab_graph.specs.NodeView.{channel_view}
use Rattle.strc_sched_rings.proofs.Firsts.{AreFirstSo}
use Rattle.strc_sched_rings.proofs.ring.first_rings.Given as goal

abbrev pub invariant-loop-number : goal.invariant-loop-number
invariant-loop-number l = AreFirstSo (map channel_view l.channels) l.sizes l.number l.rings.items
