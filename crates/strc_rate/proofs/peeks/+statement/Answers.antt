use Rattle.std.proofs.Common.{◌≡◌, ◌<◌, ◌+◌, ◌-◌, ◌++◌, length, drop, refl, sym, ap, ◌∙◌, subst}
use Rattle.std.proofs.Common.{[], Some, arith}
use Rattle.std.proofs.lemmas.List.{append-nil}
use Rattle.std.proofs.lemmas.Result.{IfOk-weaker}
use Rattle.std.proofs.Math.ListN.{drop_of_length-le}
use Rattle.std.specs.Option.{option_map}
use Rattle.strc_parse_tree.specs.Tree as tree
use Rattle.strc_parse_tree.specs.View.{expr_view, stmt_view, block_view}
use Rattle.strc_parse_tree.proofs.Blocks.{stmt_view-Block, block_view-drop}
use Rattle.strc_rate_intervals.specs.Intervals.{names_of, with_interval}
use Rattle.strc_rate_intervals.specs.Seen.{loop_view}
use Rattle.strc_rate_intervals.proofs.IntervalGrowth.{IsBaseOf, base_of_itself, base_of_after}
use Rattle.strc_rate_intervals.proofs.IntervalGrowth.{drop_inner}
use Rattle.strc_rate.specs.Counts.{no_items, sequence, branch_counts, stmt_counts, stmts_counts}
use Rattle.strc_rate.specs.Entries.{peeks_of_stmt}
use Rattle.strc_rate.specs.Peeks.{sides_sites, stmt_sites, stmts_sites}
use Rattle.strc_rate.specs.Walk.{IsPassed, StmtIsPassed}
use Rattle.strc_rate.proofs.Counting.{first_stmts, first_runnable, runnable_step, stmts_step}
use Rattle.strc_rate.proofs.Passing.{two_passed, choice_passed, zero_passed, either_passed}
use Rattle.strc_rate.proofs.Passing.{among_same, inner_passed, for_passed, turn_passed}
use Rattle.strc_rate.proofs.Passing.{turns_passed}
use Rattle.strc_rate.proofs.Sighting.{stmts_seen}
use Rattle.strc_rate.proofs.peeks.+statement.Goals as goal

pub check_peeks_in_block-loop-statement-init : goal.check_peeks_in_block-loop-statement-init
check_peeks_in_block-loop-statement-init t c = record {
  counted = first_stmts c.no_items.result (names_of c.args.names.now)
      (block_view c.args.block.now) c.no_items.ensures;
  runnable = first_runnable c.no_items.result c.no_items.ensures;
  reported = refl;
  names = base_of_itself c.args.names.now;
}

pub check_peeks_in_block-loop-statement-preserved :
    goal.check_peeks_in_block-loop-statement-preserved
check_peeks_in_block-loop-statement-preserved t c =
    let all = c.args.block.now in
    let i = c.loop-statement.statement-index in
    let x = stmt_view c.statement-item.result in
    let rest = block_view (drop (i + 1) all) in
    let next = block_view-drop all i c.statement-item.result c.loop-statement-test.true
    c.statement-item.is in
    let so_far = c.loop-statement.counts in
    let here = c.in_ok-passed.passed in
    let passed = c.in_ok-passed.ensures in
    let invariant = c.loop-statement.invariant in
    record {
      counted = stmts_step so_far here c.sequence-counts.result _ c.loop-statement.names
          c.check_peeks_in_statement.new.names x rest
          (block_view (drop i all)) passed.counted passed.kept c.sequence-counts.ensures
          next invariant.counted;
      runnable = runnable_step so_far here c.sequence-counts.result c.sequence-counts.ensures;
      reported = stmts_seen c.loop-statement.sites.items
          c.check_peeks_in_statement.new.sites.items _ c.loop-statement.names
          c.check_peeks_in_statement.new.names c.loop-statement.here c.advance-here.result here x
          rest (block_view (drop i all)) passed.counted passed.kept c.advance-here.ensures
          passed.reported next invariant.reported;
      names = subst (λ names. IsBaseOf c.args.names.now names) (sym passed.kept)
          (base_of_after c.args.names.now c.loop-statement.names x invariant.names);
    }

pub check_peeks_in_block-returns : goal.check_peeks_in_block-returns
check_peeks_in_block-returns t c =
    let names = c.loop-statement.names in
    let counts = c.loop-statement.counts in
    let sites = c.loop-statement.sites.items in
    let invariant = c.loop-statement.invariant in
    let ended = drop_of_length-le c.args.block.now c.loop-statement-test.false in
    record {
      counted = sym invariant.runnable
          ∙ ap (λ l. sequence counts (stmts_counts (names_of names) (block_view l))) (sym ended)
          ∙ invariant.counted;
      reported = sym (append-nil sites)
          ∙ ap (λ l. sites ++ stmts_sites names c.loop-statement.here (block_view l)) (sym ended)
          ∙ invariant.reported;
      kept = c.leave.ensures
          ∙ ap (λ n. drop (length names - n) names) c.len-outside.ensures
          ∙ drop_inner c.args.names.now names invariant.names;
    }

pub check_peeks_in_statement-returns-in-Block : goal.check_peeks_in_statement-returns-in-Block
check_peeks_in_statement-returns-in-Block t c =
    let same : tree.Block (block_view c.deref.result.now) ≡ stmt_view c.args.statement.now =
    ap (λ l. tree.Block (block_view l)) c.deref.ensures.value
    ∙ sym (stmt_view-Block c.in-Block.body) ∙ ap stmt_view (sym c.in-Block.is) in
    IfOk-weaker c.check_peeks_in_block.result _ _
    (λ counts passed. subst (λ s. StmtIsPassed c.args.names.now c.args.popped s counts
    c.args.sites.now.items c.check_peeks_in_block.new.sites.items
    c.check_peeks_in_block.new.names) same passed) c.check_peeks_in_block.ensures

pub look_inside-returns : goal.look_inside-returns
look_inside-returns t c =
    inner_passed c.args.names.now c.check_peeks_in_statement.new.names c.leave.new.self
    c.args.popped (stmt_view c.args.statement.now) c.len-outside.result c.in_ok-counts.ensures
    c.len-outside.ensures c.leave.ensures

pub check_peeks_in_for-returns : goal.check_peeks_in_for-returns
check_peeks_in_for-returns t c =
    for_passed c.args.names.now c.check_peeks_in_statement.new.names
    c.check_peeks_in_turns.new.names c.leave.new.self c.args.popped c.advance-here.result
    (stmt_view c.args.first.now) (option_map expr_view c.args.condition.now)
    (stmt_view c.args.step.now) (stmt_view c.args.body.now) c.len-outside.result
    (option_map loop_view c.counted_loop-counted.result) c.in_ok-begun.begun c.in_ok-turned.turned
    c.sequence.result c.counted_loop-counted.ensures.counted c.in_ok-begun.ensures
    c.advance-here.ensures c.in_ok-turned.ensures c.sequence.ensures c.len-outside.ensures
    c.leave.ensures

pub check_peeks_in_turn-returns : goal.check_peeks_in_turn-returns
check_peeks_in_turn-returns t c =
    turn_passed c.args.names.now c.give_interval.new.self c.look_inside.new.names
    c.give_interval-2.new.self c.args.counted.now.name.now c.args.counted.now.interval
    c.interval_of-before.result c.args.popped (stmt_view c.args.body.now)
    c.interval_of-before.ensures c.give_interval.ensures c.in_ok-counts.ensures
    c.give_interval-2.ensures

pub check_peeks_in_counted_turns-returns : goal.check_peeks_in_counted_turns-returns
check_peeks_in_counted_turns-returns t c =
    let counted = c.args.counted in
    let some : 0 < counted.turns = omega arith in
    turns_passed counted.turns c.args.names.now
    (with_interval c.args.names.now counted.name.now counted.interval)
    c.check_peeks_in_turn.new.names c.args.popped (stmt_view c.args.body.now)
    c.new-inner.result.items c.check_peeks_in_turn.new.sites.items c.deref.result.now
    c.repeated.result some c.new-inner.ensures.items c.in_ok-counts.ensures
    c.deref.ensures.value c.in_ok-add_in_turns.ensures c.repeated.ensures

pub check_peeks_in_if-returns : goal.check_peeks_in_if-returns
check_peeks_in_if-returns t c =
    let names = c.args.names.now in
    let chosen = stmt_view c.args.chosen.now in
    choice_passed c.args.popped c.advance-here.result
    (λ known. branch_counts known (stmt_counts (names_of names) chosen) (Some no_items))
    (λ known popped. sides_sites known (stmt_sites names popped chosen) []
    (peeks_of_stmt chosen) [])
    c.sequence.result c.in_ok-test.ensures c.advance-here.ensures c.constant-known.ensures
    c.in_ok-taken.ensures c.sequence.ensures

pub check_peeks_in_if_else-returns : goal.check_peeks_in_if_else-returns
check_peeks_in_if_else-returns t c =
    let names = c.args.names.now in
    let chosen = stmt_view c.args.chosen.now in
    let other = stmt_view c.args.other.now in
    choice_passed c.args.popped c.advance-here.result
    (λ known. branch_counts known (stmt_counts (names_of names) chosen)
    (stmt_counts (names_of names) other))
    (λ known popped. sides_sites known (stmt_sites names popped chosen)
    (stmt_sites names popped other) (peeks_of_stmt chosen) (peeks_of_stmt other))
    c.sequence.result c.in_ok-test.ensures c.advance-here.ensures c.constant-known.ensures
    c.in_ok-taken.ensures c.sequence.ensures

pub check_peeks_in_branches-returns-in_ok-other-in-None :
    goal.check_peeks_in_branches-returns-in_ok-other-in-None
check_peeks_in_branches-returns-in_ok-other-in-None t c =
    let names = c.args.names.now in
    let chosen = stmt_view c.args.chosen.now in
    let other = stmt_view c.args.other.now in
    subst (λ known. IsPassed
    (branch_counts known (stmt_counts (names_of names) chosen) (stmt_counts (names_of names) other))
    (sides_sites known (stmt_sites names c.args.popped chosen)
    (stmt_sites names c.args.popped other) (peeks_of_stmt chosen) (peeks_of_stmt other)) names
    c.if_equal.result c.args.sites.now.items c.look_inside-in-None-2.new.sites.items
    c.look_inside-in-None-2.new.names) (sym c.in-None.is)
    (either_passed c.if_equal.result c.in_ok-chosen-in-None.ensures
    (among_same names c.args.popped other c.in_ok-chosen-in-None.ensures.kept
    c.in_ok-other-in-None.ensures) c.if_equal.ensures)

pub check_peeks_in_while-returns : goal.check_peeks_in_while-returns
check_peeks_in_while-returns t c =
    two_passed c.sequence.result
    (zero_passed c.require_zero.result c.in_ok-test.ensures c.require_zero.ensures)
    (zero_passed c.require_zero-2.result c.in_ok-body.ensures c.require_zero-2.ensures)
    c.sequence.ensures

pub check_peeks_in_unknown_turns-returns : goal.check_peeks_in_unknown_turns-returns
check_peeks_in_unknown_turns-returns t c =
    let body = among_same c.args.names.now c.args.popped (stmt_view c.args.body.now)
    c.in_ok-step.ensures.kept c.in_ok-body.ensures in
    two_passed c.sequence-2.result
    (zero_passed c.require_zero.result c.in_ok-test.ensures c.require_zero.ensures)
    (two_passed c.sequence.result
    (zero_passed c.require_zero-2.result c.in_ok-step.ensures c.require_zero-2.ensures)
    (zero_passed c.require_zero-3.result body c.require_zero-3.ensures)
    c.sequence.ensures) c.sequence-2.ensures
