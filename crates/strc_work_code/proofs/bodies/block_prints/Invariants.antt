use Rattle.std.proofs.Common.{◌≡◌, drop}
use Rattle.strc_parse_tree.specs.View.{block_view}
use Rattle.strc_work_meaning.specs.Filters.{stmts_print}
use Rattle.strc_work_code.proofs.bodies.block_prints.Given as goal

abbrev pub invariant-loop-statement : goal.invariant-loop-statement
invariant-loop-statement l = stmts_print (block_view (drop l.statement-index l.block))
    ≡ stmts_print (block_view l.block)
