use Rattle.std.proofs.Common.{◌+◌, ◌++◌, drop, map, replicate, ap, ◌∙◌}
use Rattle.strc_lex_names.proofs.Lists.{map-drop}
use Rattle.strc_parse_tree.specs.View.{variable_view}
use Rattle.strc_cli_statements.specs.Occurrences.{option_count, variables_count}
use Rattle.strc_cli_statements.proofs.Walks.{here_more}
use Rattle.strc_cli_statements.proofs.occurrences.walk_variables.Goals as goal

pub loop-variable-preserved : goal.loop-variable-preserved
loop-variable-preserved c =
    let all = c.args.variables.now in
    let i = c.loop-variable.variable-index in
    let looked = c.args.walk.now.sought in
    let here = c.args.here in
    let x = variable_view c.variable-item.result in
    let before = c.loop-variable.walk.found.items in
    let same = c.loop-variable.invariant.sought in
    record {
      marks = here_more before c.walk_option.new.walk.found.items _ here
          (option_count looked x.initial)
          (variables_count looked (map variable_view (drop (i + 1) all))) _
          (c.in_ok-walk_option.ensures.marks
          ∙ ap (λ s. before ++ replicate (option_count s x.initial) here) same)
          (ap (variables_count looked) (map-drop variable_view all i c.variable-item.result
          c.loop-variable-test.true c.variable-item.is)) c.loop-variable.invariant.marks;
      sought = c.in_ok-walk_option.ensures.sought ∙ same;
    }
