use Rattle.std.proofs.Common.{◌≡◌, ◌+◌, ◌*◌, max, ℕ, suc, drop}
use Rattle.std.specs.Option.{option_map}
use Rattle.strc_parse_tree.proofs.tree.Stmt.TheLaws.{the_size}
use Rattle.strc_parse_tree.specs.View.{expr_view, stmt_view, block_view}
use Rattle.strc_work_meaning.specs.Firing.{turn_limit}
use Rattle.strc_elab.specs.Elaboration as spec
use Rattle.strc_elab.specs.Answering.{progress_of}
use Rattle.strc_elab.specs.Loops.{while_looped, for_looped, names_after_block}
use Rattle.strc_elab.specs.Places.{block_trace, while_trace, for_turns_trace}
use Rattle.strc_elab.specs.Tasks.{setting_of, tracing_of}
use Rattle.strc_elab.proofs.body.Body.+body.Given as goal

abbrev pub decreases-inside : goal.decreases-inside
decreases-inside g l = 4 * the_size l.statement.now + 2

abbrev pub decreases-statements : goal.decreases-statements
decreases-statements g l = 4 * goal.size-statements g l + 3

abbrev pub decreases-statement : goal.decreases-statement
decreases-statement g l = 4 * the_size l.statement.now + 1

abbrev pub decreases-statement_at : goal.decreases-statement_at
decreases-statement_at g l = 4 * the_size l.statement.now + 2

abbrev pub decreases-block : goal.decreases-block
decreases-block g l = 4 * goal.size-block g l + 4

abbrev pub decreases-for_loop : goal.decreases-for_loop
decreases-for_loop g l = 4 * max (the_size l.first.now)
    (max (the_size l.step.now) (the_size l.body.now)) + 4

abbrev pub decreases-while_turns : goal.decreases-while_turns
decreases-while_turns g l = 4 * the_size l.body.now + 3

abbrev pub decreases-for_turns : goal.decreases-for_turns
decreases-for_turns g l = 4 * max (the_size l.step.now) (the_size l.body.now) + 3

abbrev pub invariant-statements-loop-statement : goal.invariant-statements-loop-statement
invariant-statements-loop-statement g l = record {
  left : spec.stmts_run (setting_of l.self.task) l.progress.store.variables.names l.start
      (block_view (drop l.statement-index l.block)) (progress_of l.progress)
      ≡ spec.stmts_run (setting_of l.self.task) l.initial.progress.store.variables.names l.start
      (block_view l.block) (progress_of l.initial.progress);
  names : names_after_block l.progress.store.variables.names
      (block_view (drop l.statement-index l.block))
      ≡ names_after_block l.initial.progress.store.variables.names (block_view l.block);
  trace : block_trace (tracing_of l.self.task) l.progress.store.variables.names l.start
      (drop l.statement-index l.block) (progress_of l.progress) l.progress.trace
      ≡ block_trace (tracing_of l.self.task) l.initial.progress.store.variables.names l.start
      l.block (progress_of l.initial.progress) l.initial.progress.trace;
}

abbrev pub invariant-while_turns-loop-round : goal.invariant-while_turns-loop-round
invariant-while_turns-loop-round g l = record {
  names : l.progress.store.variables.names ≡ l.initial.progress.store.variables.names;
  left : (fuel : ℕ) → fuel + l._round ≡ suc turn_limit
      → while_looped (setting_of l.self.task) l.initial.progress.store.variables.names
      (expr_view l.condition) (stmt_view l.body) fuel (progress_of l.progress)
      ≡ while_looped (setting_of l.self.task) l.initial.progress.store.variables.names
      (expr_view l.condition) (stmt_view l.body) (suc turn_limit) (progress_of l.initial.progress);
  trace : (fuel : ℕ) → fuel + l._round ≡ suc turn_limit
      → while_trace (tracing_of l.self.task) l.initial.progress.store.variables.names
      (expr_view l.condition) l.body fuel (progress_of l.progress) l.progress.trace
      ≡ while_trace (tracing_of l.self.task) l.initial.progress.store.variables.names
      (expr_view l.condition) l.body (suc turn_limit) (progress_of l.initial.progress)
      l.initial.progress.trace;
}

abbrev pub invariant-for_turns-loop-round : goal.invariant-for_turns-loop-round
invariant-for_turns-loop-round g l = record {
  names : l.progress.store.variables.names ≡ l.initial.progress.store.variables.names;
  left : (fuel : ℕ) → fuel + l._round ≡ suc turn_limit
      → for_looped (setting_of l.self.task) l.initial.progress.store.variables.names
      (option_map (λ e. expr_view e.now) l.condition) (stmt_view l.step) (stmt_view l.body) fuel
      (progress_of l.progress) ≡ for_looped
      (setting_of l.self.task) l.initial.progress.store.variables.names
      (option_map (λ e. expr_view e.now) l.condition) (stmt_view l.step) (stmt_view l.body)
      (suc turn_limit) (progress_of l.initial.progress);
  trace : (fuel : ℕ) → fuel + l._round ≡ suc turn_limit
      → for_turns_trace (tracing_of l.self.task) l.initial.progress.store.variables.names
      (option_map (λ e. expr_view e.now) l.condition) l.step l.body fuel (progress_of l.progress)
      l.progress.trace
      ≡ for_turns_trace (tracing_of l.self.task) l.initial.progress.store.variables.names
      (option_map (λ e. expr_view e.now) l.condition) l.step l.body (suc turn_limit)
      (progress_of l.initial.progress) l.initial.progress.trace;
}
