use Rattle.std.proofs.Common.{arith}
use Rattle.strc_stage_core.proofs.Moves.{before_first, before_later}
use Rattle.strc_stage_core.proofs.parts.link_before.Goals as goal

pub returns-then-actor-eq0 : goal.returns-then-actor-eq0
returns-then-actor-eq0 c = before_first c.args.stages c.args.actor c.if-actor-eq0.true

pub returns-else-actor-eq0 : goal.returns-else-actor-eq0
returns-else-actor-eq0 c =
    before_later c.args.stages c.args.actor (omega (arith, c.if-actor-eq0.false))
