use Rattle.std.proofs.Common.{◌≡◌, drop}
use Rattle.strc_parse_tree.specs.View.{listed_view}
use Rattle.strc_work_writes.specs.LocalWrites.{exprs_write}
use Rattle.strc_work_writes.proofs.writes.+expression.Given as goal

abbrev pub invariant-arguments_write-loop-argument : goal.invariant-arguments_write-loop-argument
invariant-arguments_write-loop-argument l =
    exprs_write l.name (listed_view (drop l.argument-index l.arguments))
    ≡ exprs_write l.name (listed_view l.arguments)
