use Rattle.std.proofs.Common.{◌≡◌, drop}
use Rattle.strc_parse_tree.specs.View.{block_view}
use Rattle.strc_work_writes.specs.Calls.{called_in_stmts}
use Rattle.strc_work_writes.specs.Writers.{with_calls}
use Rattle.strc_work_writes.proofs.calls.+calls.Given as goal

abbrev pub invariant-find_in_block-loop-statement : goal.invariant-find_in_block-loop-statement
invariant-find_in_block-loop-statement l =
    with_calls l.helpers l.found (called_in_stmts (block_view (drop l.statement-index l.block)))
    ≡ with_calls l.helpers l.initial.found (called_in_stmts (block_view l.block))
