use Rattle.std.proofs.Common.{ap, arith}
use Rattle.strc_elab_statements.specs.Statements.{computed}
use Rattle.strc_elab_statements.specs.Saying.{store_of}
use Rattle.strc_elab.proofs.Turns.{turned_under, turned_over}
use Rattle.strc_elab.proofs.body.turn.Goals as goal

pub returns-then-store-ge-TURN_LIMIT-clause-done : goal.returns-then-store-ge-TURN_LIMIT-clause-done
returns-then-store-ge-TURN_LIMIT-clause-done c =
    rw c.fault.ensures (ap (λ r. computed r) (turned_over (store_of c.args.store.now)
    (omega (arith, c.if-store-ge-TURN_LIMIT.true))))

pub returns-clause-done : goal.returns-clause-done
returns-clause-done c =
    ap (λ r. computed r) (turned_under (store_of c.args.store.now)
    (omega (arith, c.if-store-ge-TURN_LIMIT.false)))
