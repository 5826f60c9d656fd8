use Rattle.std.proofs.Common.{◌+◌, ◌++◌, drop, replicate, sym, ap, ◌∙◌}
use Rattle.std.proofs.lemmas.Result.{on_ok_weaker}
use Rattle.strc_parse_tree.specs.View.{expr_view}
use Rattle.strc_cli_statements.specs.Occurrences.{expression_count, one, division, assigns_quotient}
use Rattle.strc_cli_statements.specs.declared.occurrences.Sought.TheVariants as sought
use Rattle.strc_cli_statements.specs.OccurrencePlaces.{stmt_places, block_places}
use Rattle.strc_cli_statements.proofs.Walks.{places_more, drop-item, stmt_places-Block, then_here}
use Rattle.strc_cli_statements.proofs.Walks.{then_thrice}
use Rattle.strc_cli_statements.proofs.occurrences.+statement.Goals as goal

pub walk_block-loop-statement-preserved : goal.walk_block-loop-statement-preserved
walk_block-loop-statement-preserved t c =
    let all = c.args.block.now in
    let i = c.loop-statement.statement-index in
    let looked = c.args.walk.now.sought in
    let here = c.args.here in
    let x = c.statement-item.result in
    let before = c.loop-statement.walk.found.items in
    let same = c.loop-statement.invariant.sought in
    record {
      marks = places_more before c.walk_statement.new.walk.found.items _
          (stmt_places looked here x) (block_places looked here (drop (i + 1) all)) _
          (c.in_ok-walk_statement.ensures.marks ∙ ap (λ s. before ++ stmt_places s here x) same)
          (ap (block_places looked here) (drop-item all i x c.loop-statement-test.true
          c.statement-item.is)) c.loop-statement.invariant.marks;
      sought = c.in_ok-walk_statement.ensures.sought ∙ same;
    }

pub walk_statement-returns-in-Block-clause-marks : goal.walk_statement-returns-in-Block-clause-marks
walk_statement-returns-in-Block-clause-marks t c =
    let looked = c.args.walk.now.sought in
    let here = c.args.here in
    let same =
    ap (block_places looked here) c.deref.ensures.value
    ∙ sym (stmt_places-Block looked here c.in-Block.body)
    ∙ ap (stmt_places looked here) (sym c.in-Block.is) in
    on_ok_weaker c.walk_block.result
    (λ h. h ∙ ap (λ l. c.args.walk.now.found.items ++ l) same) c.walk_block.ensures.marks

pub walk_statement-returns-in_ok-meet-in-AssignElement-clause-marks :
    goal.walk_statement-returns-in_ok-meet-in-AssignElement-clause-marks
walk_statement-returns-in_ok-meet-in-AssignElement-clause-marks t c =
    let looked = c.args.walk.now.sought in
    let here = c.args.here in
    let old = c.args.walk.now.found.items in
    let index = expr_view c.in-AssignElement.index in
    let value = expr_view c.in-AssignElement.value in
    let divides = assigns_quotient c.in-AssignElement.operator in
    let kept = c.in_ok-walk_expression-in-AssignElement.ensures.sought in
    let kept_2 = c.in_ok-walk_expression-in-AssignElement-2.ensures.sought ∙ kept in
    let kept_3 = c.in_ok-meet-in-AssignElement.ensures.sought ∙ kept_2 in
    let middle = c.walk_expression-in-AssignElement.new.walk.found.items in
    let after = c.walk_expression-in-AssignElement-2.new.walk.found.items in
    let met = c.meet.new.self.found.items in
    on_ok_weaker c.assigned-in-AssignElement.result
    (λ h. then_here old met c.assigned-in-AssignElement.new.self.found.items
    (expression_count looked index + expression_count looked value + one looked sought.Element)
    (division looked divides value) here
    (then_thrice old middle after met (expression_count looked index)
    (expression_count looked value) (one looked sought.Element) here
    c.in_ok-walk_expression-in-AssignElement.ensures.marks
    (c.in_ok-walk_expression-in-AssignElement-2.ensures.marks
    ∙ ap (λ s. middle ++ replicate (expression_count s value) here) kept)
    (c.in_ok-meet-in-AssignElement.ensures.marks
    ∙ ap (λ s. after ++ replicate (one s sought.Element) here) kept_2))
    (h ∙ ap (λ s. met ++ replicate (division s divides value) here) kept_3)
    ∙ ap (λ s. old ++ stmt_places looked here s) (sym c.in-AssignElement.is))
    c.assigned-in-AssignElement.ensures.marks
