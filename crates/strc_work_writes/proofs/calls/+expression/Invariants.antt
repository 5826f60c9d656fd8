use Rattle.std.proofs.Common.{◌≡◌, drop}
use Rattle.strc_parse_tree.specs.View.{listed_view}
use Rattle.strc_work_writes.specs.Calls.{called_in_arguments}
use Rattle.strc_work_writes.specs.Writers.{with_calls}
use Rattle.strc_work_writes.proofs.calls.+expression.Given as goal

abbrev pub invariant-find_in_arguments-loop-argument :
    goal.invariant-find_in_arguments-loop-argument
invariant-find_in_arguments-loop-argument l =
    with_calls l.helpers l.found
    (called_in_arguments (listed_view (drop l.argument-index l.arguments)))
    ≡ with_calls l.helpers l.initial.found (called_in_arguments (listed_view l.arguments))
