use Rattle.std.proofs.Common.{◌≡◌, drop}
use Rattle.strc_parse_tree.specs.View.{listed_view}
use Rattle.strc_work_writes.specs.Walk.{exprs_write_field}
use Rattle.strc_work_writes.proofs.field_writes.+expression.Given as goal

abbrev pub invariant-arguments_write_field-loop-argument :
    goal.invariant-arguments_write_field-loop-argument
invariant-arguments_write_field-loop-argument l =
    exprs_write_field l.fields l.locals (listed_view (drop l.argument-index l.arguments))
    ≡ exprs_write_field l.fields l.locals (listed_view l.arguments)
