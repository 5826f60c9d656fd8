-- The cycle of functions that run the statements of a composite stream, by what they run.
mod Blocks
mod Statements
mod WhileLoops
mod ForLoops
use Rattle.strc_elab.proofs.body.Body.+body.Answers.Blocks as blocks
use Rattle.strc_elab.proofs.body.Body.+body.Answers.Statements as statements
use Rattle.strc_elab.proofs.body.Body.+body.Answers.WhileLoops as while_loops
use Rattle.strc_elab.proofs.body.Body.+body.Answers.ForLoops as for_loops
use Rattle.strc_elab.proofs.body.Body.+body.Goals as goal

pub inside-returns-clause-runs : goal.inside-returns-clause-runs
inside-returns-clause-runs = blocks.inside-returns-clause-runs

pub statements-loop-statement-preserved : goal.statements-loop-statement-preserved
statements-loop-statement-preserved = blocks.statements-loop-statement-preserved

pub inside-returns-in_err-statement-clause-runs : goal.inside-returns-in_err-statement-clause-runs
inside-returns-in_err-statement-clause-runs = blocks.inside-returns-in_err-statement-clause-runs

pub statements-returns-in_err-statement-clause-runs :
    goal.statements-returns-in_err-statement-clause-runs
statements-returns-in_err-statement-clause-runs =
    blocks.statements-returns-in_err-statement-clause-runs

pub statement-returns-in-Placed-clause-runs : goal.statement-returns-in-Placed-clause-runs
statement-returns-in-Placed-clause-runs = statements.statement-returns-in-Placed-clause-runs

pub for_loop-returns-in_err-statement-clause-runs :
    goal.for_loop-returns-in_err-statement-clause-runs
for_loop-returns-in_err-statement-clause-runs =
    for_loops.for_loop-returns-in_err-statement-clause-runs

pub statement-returns-in-Block-clause-runs : goal.statement-returns-in-Block-clause-runs
statement-returns-in-Block-clause-runs = statements.statement-returns-in-Block-clause-runs

pub block-returns-in_err-statements-clause-runs : goal.block-returns-in_err-statements-clause-runs
block-returns-in_err-statements-clause-runs = blocks.block-returns-in_err-statements-clause-runs

pub block-returns-clause-runs : goal.block-returns-clause-runs
block-returns-clause-runs = blocks.block-returns-clause-runs

pub block-returns-clause-names : goal.block-returns-clause-names
block-returns-clause-names = blocks.block-returns-clause-names

pub statement-returns-then-is_true-clause-runs : goal.statement-returns-then-is_true-clause-runs
statement-returns-then-is_true-clause-runs = statements.statement-returns-then-is_true-clause-runs

pub statement-returns-then-is_true-2-clause-runs : goal.statement-returns-then-is_true-2-clause-runs
statement-returns-then-is_true-2-clause-runs =
    statements.statement-returns-then-is_true-2-clause-runs

pub statement-returns-else-is_true-2-clause-runs : goal.statement-returns-else-is_true-2-clause-runs
statement-returns-else-is_true-2-clause-runs =
    statements.statement-returns-else-is_true-2-clause-runs

pub statement-returns-in-While-clause-runs : goal.statement-returns-in-While-clause-runs
statement-returns-in-While-clause-runs = statements.statement-returns-in-While-clause-runs

pub statement-returns-in-For-clause-runs : goal.statement-returns-in-For-clause-runs
statement-returns-in-For-clause-runs = statements.statement-returns-in-For-clause-runs

pub for_loop-returns-in_err-for_turns-clause-runs :
    goal.for_loop-returns-in_err-for_turns-clause-runs
for_loop-returns-in_err-for_turns-clause-runs =
    for_loops.for_loop-returns-in_err-for_turns-clause-runs

pub for_loop-returns-clause-runs : goal.for_loop-returns-clause-runs
for_loop-returns-clause-runs = for_loops.for_loop-returns-clause-runs

pub for_loop-returns-clause-names : goal.for_loop-returns-clause-names
for_loop-returns-clause-names = for_loops.for_loop-returns-clause-names

pub while_turns-loop-round-init : goal.while_turns-loop-round-init
while_turns-loop-round-init = while_loops.while_turns-loop-round-init

pub while_turns-returns-in_err-eval_condition-clause-runs :
    goal.while_turns-returns-in_err-eval_condition-clause-runs
while_turns-returns-in_err-eval_condition-clause-runs =
    while_loops.while_turns-returns-in_err-eval_condition-clause-runs

pub while_turns-returns-then-not-is_true-clause-runs :
    goal.while_turns-returns-then-not-is_true-clause-runs
while_turns-returns-then-not-is_true-clause-runs =
    while_loops.while_turns-returns-then-not-is_true-clause-runs

pub while_turns-returns-in_err-turn-clause-runs : goal.while_turns-returns-in_err-turn-clause-runs
while_turns-returns-in_err-turn-clause-runs =
    while_loops.while_turns-returns-in_err-turn-clause-runs

pub while_turns-returns-in_err-inside-clause-runs :
    goal.while_turns-returns-in_err-inside-clause-runs
while_turns-returns-in_err-inside-clause-runs =
    while_loops.while_turns-returns-in_err-inside-clause-runs

pub while_turns-loop-round-preserved : goal.while_turns-loop-round-preserved
while_turns-loop-round-preserved = while_loops.while_turns-loop-round-preserved

pub while_turns-returns-clause-runs : goal.while_turns-returns-clause-runs
while_turns-returns-clause-runs = while_loops.while_turns-returns-clause-runs

pub for_turns-loop-round-init : goal.for_turns-loop-round-init
for_turns-loop-round-init = for_loops.for_turns-loop-round-init

pub for_turns-returns-in_err-eval_condition-clause-runs :
    goal.for_turns-returns-in_err-eval_condition-clause-runs
for_turns-returns-in_err-eval_condition-clause-runs =
    for_loops.for_turns-returns-in_err-eval_condition-clause-runs

pub for_turns-returns-then-not-is_true-clause-runs :
    goal.for_turns-returns-then-not-is_true-clause-runs
for_turns-returns-then-not-is_true-clause-runs =
    for_loops.for_turns-returns-then-not-is_true-clause-runs

pub for_turns-returns-in_err-turn-clause-runs : goal.for_turns-returns-in_err-turn-clause-runs
for_turns-returns-in_err-turn-clause-runs = for_loops.for_turns-returns-in_err-turn-clause-runs

pub for_turns-returns-in_err-inside-clause-runs : goal.for_turns-returns-in_err-inside-clause-runs
for_turns-returns-in_err-inside-clause-runs = for_loops.for_turns-returns-in_err-inside-clause-runs

pub for_turns-returns-in_err-inside-2-clause-runs :
    goal.for_turns-returns-in_err-inside-2-clause-runs
for_turns-returns-in_err-inside-2-clause-runs =
    for_loops.for_turns-returns-in_err-inside-2-clause-runs

pub for_turns-loop-round-preserved : goal.for_turns-loop-round-preserved
for_turns-loop-round-preserved = for_loops.for_turns-loop-round-preserved

pub for_turns-returns-clause-runs : goal.for_turns-returns-clause-runs
for_turns-returns-clause-runs = for_loops.for_turns-returns-clause-runs

pub inside-returns-in_err-statement-clause-trace : goal.inside-returns-in_err-statement-clause-trace
inside-returns-in_err-statement-clause-trace = blocks.inside-returns-in_err-statement-clause-trace

pub inside-returns-clause-trace : goal.inside-returns-clause-trace
inside-returns-clause-trace = blocks.inside-returns-clause-trace

pub block-returns-in_err-statements-clause-trace : goal.block-returns-in_err-statements-clause-trace
block-returns-in_err-statements-clause-trace = blocks.block-returns-in_err-statements-clause-trace

pub block-returns-clause-trace : goal.block-returns-clause-trace
block-returns-clause-trace = blocks.block-returns-clause-trace

pub statements-returns-in_err-statement-clause-trace :
    goal.statements-returns-in_err-statement-clause-trace
statements-returns-in_err-statement-clause-trace =
    blocks.statements-returns-in_err-statement-clause-trace

pub statement_at-returns-in_err-statement-clause-trace :
    goal.statement_at-returns-in_err-statement-clause-trace
statement_at-returns-in_err-statement-clause-trace =
    statements.statement_at-returns-in_err-statement-clause-trace

pub statement_at-returns-clause-trace : goal.statement_at-returns-clause-trace
statement_at-returns-clause-trace = statements.statement_at-returns-clause-trace

pub statement-returns-in-Placed-clause-trace : goal.statement-returns-in-Placed-clause-trace
statement-returns-in-Placed-clause-trace = statements.statement-returns-in-Placed-clause-trace

pub statement-returns-in-Block-clause-trace : goal.statement-returns-in-Block-clause-trace
statement-returns-in-Block-clause-trace = statements.statement-returns-in-Block-clause-trace

pub statement-returns-then-is_true-clause-trace : goal.statement-returns-then-is_true-clause-trace
statement-returns-then-is_true-clause-trace = statements.statement-returns-then-is_true-clause-trace

pub statement-returns-else-is_true-clause-trace : goal.statement-returns-else-is_true-clause-trace
statement-returns-else-is_true-clause-trace = statements.statement-returns-else-is_true-clause-trace

pub statement-returns-then-is_true-2-clause-trace :
    goal.statement-returns-then-is_true-2-clause-trace
statement-returns-then-is_true-2-clause-trace =
    statements.statement-returns-then-is_true-2-clause-trace

pub statement-returns-else-is_true-2-clause-trace :
    goal.statement-returns-else-is_true-2-clause-trace
statement-returns-else-is_true-2-clause-trace =
    statements.statement-returns-else-is_true-2-clause-trace

pub statement-returns-in-While-clause-trace : goal.statement-returns-in-While-clause-trace
statement-returns-in-While-clause-trace = statements.statement-returns-in-While-clause-trace

pub statement-returns-in-For-clause-trace : goal.statement-returns-in-For-clause-trace
statement-returns-in-For-clause-trace = statements.statement-returns-in-For-clause-trace

pub for_loop-returns-in_err-statement-clause-trace :
    goal.for_loop-returns-in_err-statement-clause-trace
for_loop-returns-in_err-statement-clause-trace =
    for_loops.for_loop-returns-in_err-statement-clause-trace

pub for_loop-returns-in_err-for_turns-clause-trace :
    goal.for_loop-returns-in_err-for_turns-clause-trace
for_loop-returns-in_err-for_turns-clause-trace =
    for_loops.for_loop-returns-in_err-for_turns-clause-trace

pub for_loop-returns-clause-trace : goal.for_loop-returns-clause-trace
for_loop-returns-clause-trace = for_loops.for_loop-returns-clause-trace

pub while_turns-returns-in_err-eval_condition-clause-trace :
    goal.while_turns-returns-in_err-eval_condition-clause-trace
while_turns-returns-in_err-eval_condition-clause-trace =
    while_loops.while_turns-returns-in_err-eval_condition-clause-trace

pub while_turns-returns-then-not-is_true-clause-trace :
    goal.while_turns-returns-then-not-is_true-clause-trace
while_turns-returns-then-not-is_true-clause-trace =
    while_loops.while_turns-returns-then-not-is_true-clause-trace

pub while_turns-returns-in_err-turn-clause-trace : goal.while_turns-returns-in_err-turn-clause-trace
while_turns-returns-in_err-turn-clause-trace =
    while_loops.while_turns-returns-in_err-turn-clause-trace

pub while_turns-returns-in_err-inside-clause-trace :
    goal.while_turns-returns-in_err-inside-clause-trace
while_turns-returns-in_err-inside-clause-trace =
    while_loops.while_turns-returns-in_err-inside-clause-trace

pub while_turns-returns-clause-trace : goal.while_turns-returns-clause-trace
while_turns-returns-clause-trace = while_loops.while_turns-returns-clause-trace

pub for_turns-returns-in_err-eval_condition-clause-trace :
    goal.for_turns-returns-in_err-eval_condition-clause-trace
for_turns-returns-in_err-eval_condition-clause-trace =
    for_loops.for_turns-returns-in_err-eval_condition-clause-trace

pub for_turns-returns-then-not-is_true-clause-trace :
    goal.for_turns-returns-then-not-is_true-clause-trace
for_turns-returns-then-not-is_true-clause-trace =
    for_loops.for_turns-returns-then-not-is_true-clause-trace

pub for_turns-returns-in_err-turn-clause-trace : goal.for_turns-returns-in_err-turn-clause-trace
for_turns-returns-in_err-turn-clause-trace = for_loops.for_turns-returns-in_err-turn-clause-trace

pub for_turns-returns-in_err-inside-clause-trace : goal.for_turns-returns-in_err-inside-clause-trace
for_turns-returns-in_err-inside-clause-trace =
    for_loops.for_turns-returns-in_err-inside-clause-trace

pub for_turns-returns-in_err-inside-2-clause-trace :
    goal.for_turns-returns-in_err-inside-2-clause-trace
for_turns-returns-in_err-inside-2-clause-trace =
    for_loops.for_turns-returns-in_err-inside-2-clause-trace

pub for_turns-returns-clause-trace : goal.for_turns-returns-clause-trace
for_turns-returns-clause-trace = for_loops.for_turns-returns-clause-trace
