use Rattle.std.proofs.Common.{refl, ap, arith}
use Rattle.strc_work_meaning.proofs.Turns.{turn_limit-is}
use Rattle.strc_work_instructions.specs.Running.{Io}
use Rattle.strc_work_instructions.proofs.io.FiringIo.turn.Goals as goal

pub returns-then-self-ge-TURN_LIMIT-clause-room : goal.returns-then-self-ge-TURN_LIMIT-clause-room
returns-then-self-ge-TURN_LIMIT-clause-room c = (
  λ e. absurd (cc),
  λ lt. absurd (omega (
    arith,
    turn_limit-is,
    c.if-self-ge-TURN_LIMIT.true,
    ap (λ (io : Io). io.traffic.turns) c.self.view_is,
    lt,
  )),
)

pub returns-clause-room : goal.returns-clause-room
returns-clause-room c = (
  λ e. omega (
    arith,
    turn_limit-is,
    c.if-self-ge-TURN_LIMIT.false,
    ap (λ (io : Io). io.traffic.turns) c.self.view_is,
  ),
  λ lt. refl,
)
