use Rattle.std.proofs.Common.{◌≡◌, drop}
use Rattle.strc_parse_tree.specs.View.{block_view}
use Rattle.strc_work_meaning.specs.Filters.{stmts_print}
use Rattle.strc_work_code.proofs.bodies.+stmt_prints.Given as goal

abbrev pub invariant-loop-inner : goal.invariant-loop-inner
invariant-loop-inner l = stmts_print (block_view (drop l.inner-index l.inner-items))
    ≡ stmts_print (block_view l.inner-items)
