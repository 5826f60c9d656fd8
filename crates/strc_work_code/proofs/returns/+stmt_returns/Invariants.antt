use Rattle.std.proofs.Common.{◌≡◌, drop}
use Rattle.strc_parse_tree.specs.View.{block_view}
use Rattle.strc_work_meaning.specs.Returns.{stmts_return}
use Rattle.strc_work_code.proofs.returns.+stmt_returns.Given as goal

abbrev pub invariant-loop-inner : goal.invariant-loop-inner
invariant-loop-inner l = stmts_return (block_view (drop l.inner-index l.inner-items))
    ≡ stmts_return (block_view l.inner-items)
