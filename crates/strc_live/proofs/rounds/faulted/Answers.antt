use Rattle.strc_live.proofs.Faults.{renamed_fault}
use Rattle.strc_live.proofs.rounds.faulted.Goals as goal

pub returns-in-Fault : goal.returns-in-Fault
returns-in-Fault c =
    renamed_fault c.args.plan.now c.args.node c.args.firing c.args.round c.args.cause
    c.new.result c.in-Fault.node c.in-Fault.firing c.in-Fault.round c.in-Fault.cause
    c.in-Fault._tapes c.in-Fault.ensures
