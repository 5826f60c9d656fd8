use Rattle.std.proofs.Common.{subst, All, length}
use Rattle.strc_sched_orders.specs.Peaks.{HasNodes}
use Rattle.strc_fuse.proofs.GreedyUnits.{head_of, tail_of}
use Rattle.strc_fuse.proofs.units.fused_units.Goals as goal

pub fused_from-requires-clause-first : goal.fused_from-requires-clause-first
fused_from-requires-clause-first c =
    let has = HasNodes (length c.args.graph.now.nodes) in
    head_of has c.in-Some.first.now c.in-Some.later.now
    (subst (All has) c.in-Some.ensures.cases.0 c.requires)

pub fused_from-requires-clause-later : goal.fused_from-requires-clause-later
fused_from-requires-clause-later c =
    let has = HasNodes (length c.args.graph.now.nodes) in
    tail_of has c.in-Some.first.now c.in-Some.later.now
    (subst (All has) c.in-Some.ensures.cases.0 c.requires)
