use Rattle.std.proofs.Common.{◌∙◌, ap₂, ◌++◌}
use Rattle.strc_batch.proofs.Repeating.{repeated_more}
use Rattle.strc_batch.proofs.batch_units.add_firings.Goals as goal

pub loop-turn-preserved : goal.loop-turn-preserved
loop-turn-preserved c =
    c.in_ok-extend_from_slice.ensures.items
    ∙ ap₂ ◌++◌ c.loop-turn.invariant c.deref.ensures.value
    ∙ repeated_more c.loop-turn._turn c.args.unit.now.nodes.items c.args.nodes.now.items
