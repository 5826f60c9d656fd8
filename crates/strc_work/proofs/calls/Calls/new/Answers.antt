use Rattle.std.proofs.Common.{sym}
use Rattle.strc_work_meaning.proofs.Turns.{call_limit-is}
use Rattle.strc_work.proofs.TopCalls.{callable_of}
use Rattle.strc_work.proofs.calls.Calls.new.Goals as goal

pub invariant_of-result : goal.invariant_of-result
invariant_of-result c =
    callable_of c.args.code.now c.helpers.result.now c.field_count.result c.call_count.result 64
    c.helpers.ensures.are c.helpers.ensures.linked c.field_count.ensures c.call_count.ensures
    c.tree-closed.ensures.known

pub returns-clause-callable : goal.returns-clause-callable
returns-clause-callable c =
    callable_of c.args.code.now c.helpers.result.now c.field_count.result c.call_count.result 64
    c.helpers.ensures.are c.helpers.ensures.linked c.field_count.ensures c.call_count.ensures
    c.tree-closed.ensures.known

pub returns-clause-levels : goal.returns-clause-levels
returns-clause-levels c = sym call_limit-is
