-- A closed peek never faults, in any firing of a filter whose rates are accepted.
use Rattle.std.proofs.Common.{◌≡◌, refl, sym, ap, subst, ◌∙◌, ℕ, suc, ◌+◌, ◌≤◌, Bool, true, List}
use Rattle.std.proofs.Common.{false, [], ◌∷◌, ◌++◌, length}
use Rattle.std.proofs.Common.{Option, Some, None, arith}
use Rattle.std.specs.Prelude.{bytes_eq, is_some}
use Rattle.std.specs.Option.{IfSome}
use Rattle.std.specs.Result.{IfOk}
use Rattle.std.proofs.lemmas.Result.{IfOk-weaker}
use Rattle.strc_lex_names.specs.Results.{result_and_then}
use Rattle.strc_parse_tree.specs.Tree as tree
use Rattle.strc_work_meaning.specs.Arithmetic.{is_true}
use Rattle.strc_work_meaning.specs.Scoping.{Scope, cells_of, size_of, names_after}
use Rattle.strc_work_meaning.specs.Closed.{AreClosedVariables}
use Rattle.strc_work_meaning.specs.Firing.{Setting, Store, cells_named, value_of, initial_cells}
use Rattle.strc_work_meaning.specs.Firing.{declared_in, condition_value, turn_limit, inside}
use Rattle.strc_work_meaning.specs.Firing.{stmt_done}
use Rattle.strc_work_meaning.specs.Firing.{unless_returned, test_unless_returned}
use Rattle.strc_rate.proofs.Unreturned.{IsPlain, ArePlain, plain_sides, plain_parts, plain_then}
use Rattle.strc_rate.proofs.Scopes.{scope_of}
use Rattle.strc_rate_intervals.specs.Constant.{constant}
use Rattle.strc_rate_intervals.specs.Loops.{Loop, counted_loop}
use Rattle.strc_work_writes.specs.LocalWrites.{Locals, locals_after, shadows}
use Rattle.strc_work_writes.specs.LocalWrites.{expr_writes, option_writes, variables_write}
use Rattle.strc_work_writes.specs.LocalWrites.{stmt_writes}
use Rattle.strc_work_writes.specs.LocalWrites.{stmts_write}
use Rattle.strc_rate.specs.Counts.{no_items, one_push, sequence, require_zero, repeated}
use Rattle.strc_rate.specs.Counts.{branch_counts, expr_counts, option_counts, variables_counts}
use Rattle.strc_rate.specs.Counts.{turns_counts, stmt_counts, stmts_counts}
use Rattle.strc_rate_intervals.specs.Intervals.{Intervals, intervals_after, with_interval}
use Rattle.strc_rate_intervals.specs.Intervals.{turns_interval}
use Rattle.strc_rate.specs.Entries.{peeks_of_expr, peeks_of_option, peeks_of_stmt}
use Rattle.strc_rate.specs.Peeks.{PopInterval, advance, in_turns, sides_sites, turns_sites}
use Rattle.strc_rate.specs.Peeks.{some_turns, expr_sites, option_sites, variables_sites}
use Rattle.strc_rate.specs.Peeks.{stmt_sites, stmts_sites}
use Rattle.strc_rate_intervals.specs.Intervals.{names_of}
use Rattle.strc_rate.specs.PeeksSafe.{ExprIsSafe, OptionIsSafe, VariablesAreSafe, LoopIsSafe}
use Rattle.strc_rate.specs.PeeksSafe.{StmtIsSafe, StmtsAreSafe}
use Rattle.strc_rate.proofs.Results.{or_first, or_second, then_ok, both_ok, any_ok, match_by}
use Rattle.strc_rate.proofs.Keeping.{same_refl}
use Rattle.strc_rate.proofs.Unwritten.{TurnsFree, unless_shadowed}
use Rattle.strc_rate.proofs.LoopTurns.{no_moves}
use Rattle.strc_rate.proofs.LoopParts.{constant_sound, cells_sized, Seen}
use Rattle.strc_rate.proofs.CountedLoops.{HasValue, HasPlace, Known, loop_known}
use Rattle.strc_rate.proofs.CountedMoves.{stays}
use Rattle.strc_rate.proofs.StatementCounts.{Parts, inside_parts, begins_by, stmt_counted}
use Rattle.strc_rate.proofs.Readiness.{Ready, Fixed, both_first, both_second, side_some}
use Rattle.strc_rate.proofs.Readiness.{nothing_some, names_after_intervals, known_before}
use Rattle.strc_rate.proofs.Readiness.{ready_value, ready_still, ready_stmt, ready_inside}
use Rattle.strc_rate.proofs.Readiness.{ready_initial, ready_condition, repeated_some}
use Rattle.strc_rate.proofs.SafeValues.{IsWhole, expr_safe}
use Rattle.strc_rate.proofs.SafeLoops.{loop_safe, fixed_with, names_with, turn_writes, ready_turn}
use Rattle.strc_rate.proofs.SafeLoops.{counted_safe}
use Rattle.strc_rate.proofs.CountedParts.{HasFreeParts, option_peekless, counted_free}
use Rattle.strc_rate.proofs.EachEntry.{Stand, stand_first, stand_after}
use Rattle.strc_rate.proofs.EachEntry.{stand_chosen, stand_other, stand_turn, expr_entries}
use Rattle.strc_rate.proofs.EachEntry.{option_entries, stmt_entries}

option_safe : (window : ℕ) (setting : Setting) → IsWhole window setting.port → (entries : List Bool)
    (value : Option tree.Expr) (intervals : Intervals) (popped : PopInterval) (place : ℕ)
    (store : Store) → is_some (option_counts value) ≡ true
    → Fixed intervals (λ name. option_writes name value)
    → Ready setting.fields intervals popped store
    → Stand window entries place (option_sites intervals popped value)
    → OptionIsSafe setting entries place value store
option_safe window setting whole entries None intervals popped place store counted fixed ready
    stand =
    tt
option_safe window setting whole entries (Some value) intervals popped place store counted fixed
    ready stand =
    expr_safe window setting whole entries value intervals popped place store counted fixed ready
    stand

variables_safe : (window : ℕ) (setting : Setting) → IsWhole window setting.port
    → (entries : List Bool)
    (cells : ℕ) (variables : List tree.Variable) (names : Scope) (intervals : Intervals)
    (popped : PopInterval) (place : ℕ) (store : Store) → AreClosedVariables names cells variables
    → is_some (variables_counts variables) ≡ true
    → Fixed intervals (λ name. variables_write name variables)
    → Ready setting.fields intervals popped store
    → Stand window entries place (variables_sites intervals popped variables)
    → VariablesAreSafe setting entries place cells variables store
variables_safe window setting whole entries cells [] names intervals popped place store closed
    counted fixed ready stand = tt
variables_safe window setting whole entries cells (first ∷ rest) names intervals popped place store
    closed counted fixed ready stand =
    let inner : Intervals = record { 0 = first.name; 1 = None } ∷ intervals in
    let later = advance popped (option_counts first.initial) in
    let sites = option_sites intervals popped first.initial in
    let sites_rest = variables_sites inner later rest in
    let first_counted = both_first (option_counts first.initial) _ counted in
    let rest_counted = both_second (option_counts first.initial) (variables_counts rest) counted in
    let first_fixed : Fixed intervals (λ name. option_writes name first.initial) =
    λ n e. or_first (option_writes n first.initial) _ (fixed n e) in
    let only = first ∷ [] in (
      option_safe window setting whole entries first.initial intervals popped place store
          first_counted first_fixed ready (stand_first window entries place sites sites_rest stand),
      IfOk-weaker (initial_cells setting cells first.initial store)
          (λ given. Ready setting.fields inner later (declared_in given.1 first.name given.0)) _
          (λ given h. variables_safe window setting whole entries cells rest
          (record { 0 = first.name; 1 = cells } ∷ names) inner later
          (place + length (peeks_of_option first.initial))
          (declared_in given.1 first.name given.0) closed.2 rest_counted
          (λ n e. let before = known_before intervals (tree.Declare tree.Int only) n e in
          unless_shadowed (bytes_eq first.name n) (variables_write n rest)
          (or_second (option_writes n first.initial) _ (fixed n before.0))
          (or_first (bytes_eq first.name n) _ before.1)) h
          (stand_after window entries place sites sites_rest (peeks_of_option first.initial)
          (option_entries first.initial intervals popped) stand))
          (ready_initial setting cells first.name first.initial intervals popped store closed.1
          first_counted first_fixed ready),
    )

ready_free : (fields : ℕ) (intervals : Intervals) (popped : PopInterval) → TurnsFree
    (Ready fields intervals popped)
ready_free fields intervals popped store n ready =
    record {
      seen = ready.seen;
      holds = ready.holds;
      within =
          ready.within;
    }

-- what `for` writes after its first part
fixed_inner : (intervals : Intervals) (first : tree.Stmt) (condition : Option tree.Expr)
    (step body : tree.Stmt) → Fixed intervals
    (λ name. stmt_writes name (tree.For first condition step body))
    → Fixed (intervals_after intervals first) (turn_writes condition step body)
fixed_inner intervals first condition step body fixed name known =
    let before = known_before intervals first name known in
    unless_shadowed (shadows name first) (turn_writes condition step body name)
    (or_second (stmt_writes name first) _ (fixed name before.0)) before.1

-- a statement that is safe wherever it is counted
abbrev IsSafe : (window : ℕ) → Setting → (entries : List Bool) → tree.Stmt → Type 0
IsSafe window setting entries s =
    (intervals : Intervals) (popped : PopInterval) (place : ℕ) (store : Store)
    → is_some (stmt_counts (names_of intervals) s) ≡ true
    → Fixed intervals (λ name. stmt_writes name s) → Ready setting.fields intervals popped store
    → Stand window entries place (stmt_sites intervals popped s)
    → StmtIsSafe setting entries place s store

-- a loop whose parts have these numbers is safe
abbrev ForIsSafe : (returns : Bool) → Setting → (entries : List Bool)
    → (test_place step_place body_place : ℕ) → Option tree.Expr → (step body : tree.Stmt) → Store
    → Type 0
ForIsSafe returns setting entries test_place step_place body_place condition step body =
    LoopIsSafe (suc turn_limit) (λ s. OptionIsSafe setting entries test_place condition s)
    (λ s. StmtIsSafe setting entries body_place body s
    × IfOk (inside (stmt_done setting body) s)
    (λ after. StmtIsSafe setting entries step_place step after))
    (test_unless_returned returns (condition_value setting condition))
    (λ turn. result_and_then (inside (stmt_done setting body) turn)
    (unless_returned returns (inside (stmt_done setting step))))

-- the turns of a `for` that isn't a counted loop: nothing is popped in them
other_turns_safe : (window : ℕ) (setting : Setting) → IsWhole window setting.port
    → (entries : List Bool)
    (condition : Option tree.Expr) (step body : tree.Stmt) (names : Scope) (intervals : Intervals)
    (popped : PopInterval) (test_place step_place body_place : ℕ) (begun : Store)
    → IsPlain names step → IsPlain names body
    → is_some (sequence (require_zero (option_counts condition))
    (sequence (require_zero (stmt_counts (names_of intervals) step))
    (require_zero (stmt_counts (names_of intervals) body)))) ≡ true
    → Fixed intervals (turn_writes condition step body)
    → Ready setting.fields intervals popped begun
    → Stand window entries test_place (option_sites intervals popped condition)
    → Stand window entries step_place (stmt_sites intervals popped step)
    → Stand window entries body_place (stmt_sites intervals popped body)
    → IsSafe window setting entries step → IsSafe window setting entries body
    → ForIsSafe false setting entries test_place step_place body_place condition step body begun
other_turns_safe window setting whole entries condition step body names intervals popped test_place
    step_place body_place begun closed_step closed_body counted fixed ready stand_test stand_step
    stand_body safe_step safe_body =
    let x = option_counts condition in
    let y = stmt_counts (names_of intervals) step in
    let z = stmt_counts (names_of intervals) body in
    let none_x = both_first (require_zero x) _ counted in
    let rest = both_second (require_zero x) (sequence (require_zero y) (require_zero z)) counted in
    let none_y = both_first (require_zero y) _ rest in
    let none_z = both_second (require_zero y) (require_zero z) rest in
    let fixed_condition : Fixed intervals (λ name. option_writes name condition) =
    λ n e. or_first (option_writes n condition) _ (fixed n e) in
    let fixed_step : Fixed intervals (λ name. stmt_writes name step) =
    λ n e. or_first (stmt_writes n step) _
    (or_second (option_writes n condition) _ (fixed n e)) in
    let fixed_body : Fixed intervals (λ name. stmt_writes name body) =
    λ n e. or_second (stmt_writes n step) _
    (or_second (option_writes n condition) _ (fixed n e)) in
    let past_body : (s : Store) → Ready setting.fields intervals popped s
    → IfOk (inside (stmt_done setting body) s) (Ready setting.fields intervals popped) =
    λ s r. IfOk-weaker (inside (stmt_done setting body) s)
    (Ready setting.fields intervals (advance popped z)) _
    (λ after h. ready_still setting.fields intervals popped z after none_z h)
    (ready_inside setting body names intervals popped s closed_body
    (nothing_some z none_z) fixed_body r) in
    loop_safe (Ready setting.fields intervals popped)
    (λ s. OptionIsSafe setting entries test_place condition s)
    (λ s. StmtIsSafe setting entries body_place body s
    × IfOk (inside (stmt_done setting body) s)
    (λ after. StmtIsSafe setting entries step_place step after))
    (condition_value setting condition) (λ turn. result_and_then
    (inside (stmt_done setting body) turn) (inside (stmt_done setting step)))
    (ready_free setting.fields intervals popped)
    (λ s r. option_safe window setting whole entries condition intervals popped test_place s
    (nothing_some x none_x) fixed_condition r stand_test)
    (λ s r. (
      safe_body intervals popped body_place s (nothing_some z none_z) fixed_body r stand_body,
      IfOk-weaker (inside (stmt_done setting body) s) (Ready setting.fields intervals popped) _
          (λ after h. safe_step intervals popped step_place after
          (nothing_some y none_y) fixed_step h stand_step)
          (past_body s r),
    ))
    (λ s r. IfOk-weaker (condition_value setting condition s)
    (λ given. Ready setting.fields intervals (advance popped x) given.1) _
    (λ given h. ready_still setting.fields intervals popped x given.1 none_x h)
    (ready_condition setting condition intervals popped s
    (nothing_some x none_x) fixed_condition r)) (λ s r.
    then_ok (inside (stmt_done setting body) s) (inside (stmt_done setting step))
    (Ready setting.fields intervals popped) (Ready setting.fields intervals popped) (past_body s r)
    (λ middle h. IfOk-weaker (inside (stmt_done setting step) middle)
    (Ready setting.fields intervals (advance popped y)) _
    (λ after k. ready_still setting.fields intervals popped y after none_y k)
    (ready_inside setting step names intervals popped middle closed_step
    (nothing_some y none_y) fixed_step h)))
    (suc turn_limit) begun ready

-- the turns of a counted loop
counted_turns_safe : (window : ℕ) (setting : Setting) (entries : List Bool) (locals : Locals)
    (first : tree.Stmt) (condition : Option tree.Expr) (step body : tree.Stmt) (loop : Loop)
    (names : Scope) (intervals : Intervals) (popped : PopInterval)
    (test_place step_place body_place : ℕ) (begun : Store)
    → Known locals first condition step body loop → HasFreeParts condition step
    → HasValue setting.fields loop.name loop.start begun
    → IsPlain names step → IsPlain names body
    → is_some (repeated loop.turns (stmt_counts (names_of intervals) body)) ≡ true
    → Fixed intervals (turn_writes condition step body)
    → Ready setting.fields intervals popped begun
    → Stand window entries body_place (some_turns loop.turns
    (stmt_sites (with_interval intervals loop.name (turns_interval loop))
    (in_turns popped loop.turns (stmt_counts (names_of intervals) body)) body) (peeks_of_stmt body))
    → IsSafe window setting entries body
    → ForIsSafe false setting entries test_place step_place body_place condition step body begun
counted_turns_safe window setting entries locals first condition step body loop names intervals
    popped test_place step_place body_place begun known free begins closed_step closed_body counted
    fixed ready stand safe_body =
    let z = stmt_counts (names_of intervals) body in
    let within = with_interval intervals loop.name (turns_interval loop) in
    let turning = in_turns popped loop.turns z in
    let scope = scope_of begun.variables in
    let size : length (cells_named begun.variables loop.name) ≡ size_of scope loop.name =
    cells_sized begun.variables loop.name in
    let some : 1 ≤ length (cells_named begun.variables loop.name) = begins.some in
    let sized : HasPlace setting.fields scope loop.name = (omega arith, begins.inner) in
    let parts : Parts scope z (inside (stmt_done setting body)) =
    inside_parts setting body names scope z closed_body
    (λ s is. stmt_counted setting body (names_of intervals) names s closed_body
    (subst (Seen setting.fields (names_of intervals)) (sym is) ready.seen)) in
    let fixed_body : Fixed intervals (λ name. stmt_writes name body) =
    λ n e. or_second (stmt_writes n step) _
    (or_second (option_writes n condition) _ (fixed n e)) in
    counted_safe known setting names scope closed_body closed_step sized z parts begun
    (λ s. OptionIsSafe setting entries test_place condition s)
    (λ s. StmtIsSafe setting entries body_place body s
    × IfOk (inside (stmt_done setting body) s)
    (λ after. StmtIsSafe setting entries step_place step after))
    (λ s. option_peekless setting entries condition test_place s free.0)
    (λ t s lt here.
    let some_body = repeated_some loop.turns t z lt counted in (
      safe_body within turning body_place s
          (subst (λ l. is_some (stmt_counts l body) ≡ true)
          (sym (names_with intervals loop.name (turns_interval loop))) some_body)
          (fixed_with intervals loop.name (turns_interval loop)
          (λ name. stmt_writes name body) known.unwritten fixed_body)
          (ready_turn known setting names scope closed_body closed_step sized z parts begun
          intervals popped t s lt some_body fixed ready here)
          (stand_turn window entries body_place loop.turns t (stmt_sites within turning body)
          (peeks_of_stmt body) lt stand),
      IfOk-weaker (inside (stmt_done setting body) s) (λ after. Unit {0}) _
          (λ after any. free.1.1 setting entries step_place after)
          (any_ok (inside (stmt_done setting body) s)),
    ))
    (record {
      at = record {
        shape = refl;
        value =
            begins.value_is ∙ sym (no_moves loop.start loop.move);
        so_far = stays begun.traffic;
      };
      same =
          same_refl setting.fields _ begun.variables;
    })

for_turns_safe : (window : ℕ) (setting : Setting) → IsWhole window setting.port
    → (entries : List Bool)
    (locals : Locals) (first : tree.Stmt) (condition : Option tree.Expr) (step body : tree.Stmt)
    (reported : Option Loop) (names : Scope) (intervals : Intervals) (popped : PopInterval)
    (place : ℕ) (begun : Store) → IfSome reported (λ loop. HasFreeParts condition step)
    → IfSome reported (λ loop. Known locals first condition step body loop
    × HasValue setting.fields loop.name loop.start begun) → IsPlain names step
    → IsPlain names body → is_some (turns_counts reported (option_counts condition)
    (stmt_counts (names_of intervals) step)
    (stmt_counts (names_of intervals) body)) ≡ true
    → Fixed intervals (turn_writes condition step body)
    → Ready setting.fields intervals popped begun
    → Stand window entries place (turns_sites reported (option_sites intervals popped condition
    ++ (stmt_sites intervals popped step ++ stmt_sites intervals popped body))
    (λ loop. stmt_sites (with_interval intervals loop.name (turns_interval loop))
    (in_turns popped loop.turns (stmt_counts (names_of intervals) body)) body) (peeks_of_stmt body))
    → IsSafe window setting entries step → IsSafe window setting entries body
    → ForIsSafe false setting entries place (place + length (peeks_of_option condition))
    (place + length (peeks_of_option condition) + length (peeks_of_stmt step)) condition step body
    begun
for_turns_safe window setting whole entries locals first condition step body None names intervals
    popped place begun free known closed_step closed_body counted fixed ready stand safe_step
    safe_body =
    let tested = option_sites intervals popped condition in
    let stepped = stmt_sites intervals popped step in
    let run = stmt_sites intervals popped body in
    let step_place = place + length (peeks_of_option condition) in
    let rest = stand_after window entries place tested (stepped ++ run) (peeks_of_option condition)
    (option_entries condition intervals popped) stand in
    other_turns_safe window setting whole entries condition step body names intervals popped place
    step_place (step_place + length (peeks_of_stmt step)) begun closed_step closed_body counted
    fixed ready (stand_first window entries place tested (stepped ++ run) stand)
    (stand_first window entries step_place stepped run rest)
    (stand_after window entries step_place stepped run (peeks_of_stmt step)
    (stmt_entries step intervals popped) rest) safe_step safe_body
for_turns_safe window setting whole entries locals first condition step body (Some loop) names
    intervals popped place begun free known closed_step closed_body counted fixed ready stand
    safe_step safe_body =
    let step_place = place + length (peeks_of_option condition) in
    let body_place = step_place + length (peeks_of_stmt step) in
    let no_tests : length (peeks_of_option condition) ≡ 0 = ap length free.0 in
    let no_steps : length (peeks_of_stmt step) ≡ 0 = ap length free.1.0 in
    let same : place ≡ body_place = omega arith in
    counted_turns_safe window setting entries locals first condition step body loop names intervals
    popped place step_place body_place begun known.0 free known.1 closed_step closed_body counted
    fixed ready
    (subst (λ n. Stand window entries n (some_turns loop.turns
    (stmt_sites (with_interval intervals loop.name (turns_interval loop))
    (in_turns popped loop.turns (stmt_counts (names_of intervals) body)) body)
    (peeks_of_stmt body))) same stand) safe_body

mutual
  -- each closed peek that a statement runs finds its item
  pub stmt_safe : (window : ℕ) (setting : Setting) → IsWhole window setting.port
      → (entries : List Bool)
      (s : tree.Stmt) (names : Scope) (intervals : Intervals) (popped : PopInterval) (place : ℕ)
      (store : Store) → IsPlain names s → is_some (stmt_counts (names_of intervals) s) ≡ true
      → Fixed intervals (λ name. stmt_writes name s) → Ready setting.fields intervals popped store
      → Stand window entries place (stmt_sites intervals popped s)
      → StmtIsSafe setting entries place s store
  stmt_safe window setting whole entries tree.Empty names intervals popped place store closed
      counted fixed ready stand = tt
  stmt_safe window setting whole entries (tree.Compose statement) names intervals popped place store
      closed counted fixed ready stand = tt
  stmt_safe window setting whole entries (tree.Return value) names intervals popped place store
      closed counted fixed ready stand =
      let returned : true ≡ false = closed.1 in absurd (cc)
  stmt_safe window setting whole entries (tree.Block body) names intervals popped place store closed
      counted fixed ready stand = stmts_safe window setting whole entries body names intervals
      popped place store closed counted fixed ready stand
  stmt_safe window setting whole entries (tree.Declare kind variables) names intervals popped place
      store closed counted fixed ready stand = variables_safe window setting whole entries
      (cells_of kind) variables names intervals popped place store closed.0 counted fixed ready
      stand
  stmt_safe window setting whole entries (tree.Evaluate value) names intervals popped place store
      closed counted fixed ready stand =
      expr_safe window setting whole entries value intervals popped place store counted fixed ready
      stand
  stmt_safe window setting whole entries (tree.Assign name operator value) names intervals popped
      place store closed counted fixed ready stand =
      expr_safe window setting whole entries value intervals popped place store counted
      (λ n e. or_second (bytes_eq name n) _ (fixed n e)) ready stand
  stmt_safe window setting whole entries (tree.AssignElement name index operator value) names
      intervals popped place store closed counted fixed ready stand =
      let later = advance popped (expr_counts index) in
      let past = place + length (peeks_of_expr index) in
      let sites = expr_sites intervals popped index in
      let sites_value = expr_sites intervals later value in
      let fixed_index : Fixed intervals (λ n. expr_writes n index) =
      λ n e. or_first (expr_writes n index) _ (or_second (bytes_eq name n) _ (fixed n e)) in
      let fixed_value : Fixed intervals (λ n. expr_writes n value) =
      λ n e. or_second (expr_writes n index) _ (or_second (bytes_eq name n) _ (fixed n e)) in
      let index_counted = both_first (expr_counts index) _ counted in
      let value_counted = both_second (expr_counts index) (expr_counts value) counted in (
        expr_safe window setting whole entries index intervals popped place store index_counted
            fixed_index ready (stand_first window entries place sites sites_value stand),
        IfOk-weaker (value_of setting index store)
            (λ at. Ready setting.fields intervals later at.1) _
            (λ at h. expr_safe window setting whole entries value intervals later past at.1
            value_counted fixed_value h
            (stand_after window entries place sites sites_value (peeks_of_expr index)
            (expr_entries index intervals popped) stand))
            (ready_value setting index intervals popped store index_counted fixed_index ready),
      )
  stmt_safe window setting whole entries (tree.If condition chosen) names intervals popped place
      store closed counted fixed ready stand =
      let later = advance popped (expr_counts condition) in
      let past = place + length (peeks_of_expr condition) in
      let sites = expr_sites intervals popped condition in
      let chosen_sites = stmt_sites intervals later chosen in
      let sides = sides_sites (constant condition) chosen_sites [] (peeks_of_stmt chosen) [] in
      let fixed_condition : Fixed intervals (λ n. expr_writes n condition) =
      λ n e. or_first (expr_writes n condition) _ (fixed n e) in
      let fixed_chosen : Fixed intervals (λ n. stmt_writes n chosen) =
      λ n e. or_second (expr_writes n condition) _ (fixed n e) in
      let first_counted = both_first (expr_counts condition) _ counted in
      let rest_counted = both_second (expr_counts condition)
      (branch_counts (constant condition) (stmt_counts (names_of intervals) chosen)
      (Some no_items)) counted in
      let rest_stand : Stand window entries past sides =
      stand_after window entries place sites sides (peeks_of_expr condition)
      (expr_entries condition intervals popped) stand in (
        expr_safe window setting whole entries condition intervals popped place store first_counted
            fixed_condition ready (stand_first window entries place sites sides stand),
        IfOk-weaker (value_of setting condition store)
            (λ test. Ready setting.fields intervals later test.1 × IfSome (constant condition)
            (λ v. test.0 ≡ v)) _ (λ test h.
            match_by (is_true test.0) (StmtIsSafe setting entries past chosen test.1)
            (Unit {0})
            (λ e. stmt_safe window setting whole entries chosen names intervals later past test.1
            (closed.0.1, closed.1) ((side_some (constant condition) test.0
            (stmt_counts (names_of intervals) chosen)
            (Some no_items) h.1 rest_counted).0 e) fixed_chosen h.0
            (stand_chosen window entries past (constant condition) test.0 chosen_sites []
            (peeks_of_stmt chosen) [] h.1 e rest_stand)) (λ e. tt))
            (both_ok (value_of setting condition store) _ _
            (ready_value setting condition intervals popped store first_counted fixed_condition
            ready) (constant_sound setting condition store)),
      )
  stmt_safe window setting whole entries (tree.IfElse condition chosen other) names intervals popped
      place store closed counted fixed ready stand =
      let later = advance popped (expr_counts condition) in
      let past = place + length (peeks_of_expr condition) in
      let sites = expr_sites intervals popped condition in
      let chosen_sites = stmt_sites intervals later chosen in
      let other_sites = stmt_sites intervals later other in
      let either = plain_sides names condition chosen other closed in
      let sides = sides_sites (constant condition) chosen_sites other_sites
      (peeks_of_stmt chosen) (peeks_of_stmt other) in
      let fixed_condition : Fixed intervals (λ n. expr_writes n condition) =
      λ n e. or_first (expr_writes n condition) _ (fixed n e) in
      let fixed_chosen : Fixed intervals (λ n. stmt_writes n chosen) =
      λ n e. or_first (stmt_writes n chosen) _
      (or_second (expr_writes n condition) _ (fixed n e)) in
      let fixed_other : Fixed intervals (λ n. stmt_writes n other) =
      λ n e. or_second (stmt_writes n chosen) _
      (or_second (expr_writes n condition) _ (fixed n e)) in
      let first_counted = both_first (expr_counts condition) _ counted in
      let rest_counted = both_second (expr_counts condition)
      (branch_counts (constant condition) (stmt_counts (names_of intervals) chosen)
      (stmt_counts (names_of intervals) other)) counted in
      let rest_stand : Stand window entries past sides =
      stand_after window entries place sites sides (peeks_of_expr condition)
      (expr_entries condition intervals popped) stand in (
        expr_safe window setting whole entries condition intervals popped place store first_counted
            fixed_condition ready (stand_first window entries place sites sides stand),
        IfOk-weaker (value_of setting condition store)
            (λ test. Ready setting.fields intervals later test.1 × IfSome (constant condition)
            (λ v. test.0 ≡ v)) _ (λ test h.
            let some = side_some (constant condition) test.0
            (stmt_counts (names_of intervals) chosen)
            (stmt_counts (names_of intervals) other) h.1 rest_counted in
            match_by (is_true test.0) (StmtIsSafe setting entries past chosen test.1)
            (StmtIsSafe setting entries (past + length (peeks_of_stmt chosen)) other test.1)
            (λ e. stmt_safe window setting whole entries chosen names intervals later past test.1
            either.0 (some.0 e) fixed_chosen h.0
            (stand_chosen window entries past (constant condition) test.0 chosen_sites other_sites
            (peeks_of_stmt chosen) (peeks_of_stmt other) h.1 e rest_stand))
            (λ e. stmt_safe window setting whole entries other names intervals later
            (past + length (peeks_of_stmt chosen)) test.1 either.1 (some.1 e) fixed_other h.0
            (stand_other window entries past (constant condition) test.0 chosen_sites other_sites
            (peeks_of_stmt chosen) (peeks_of_stmt other)
            (stmt_entries chosen intervals later) h.1 e rest_stand)))
            (both_ok (value_of setting condition store) _ _
            (ready_value setting condition intervals popped store first_counted fixed_condition
            ready) (constant_sound setting condition store)),
      )
  stmt_safe window setting whole entries (tree.While condition body) names intervals popped place
      store closed counted fixed ready stand =
      let turn : IsPlain names body = (closed.0.1, closed.1) in
      let x = expr_counts condition in
      let y = stmt_counts (names_of intervals) body in
      let past = place + length (peeks_of_expr condition) in
      let sites = expr_sites intervals popped condition in
      let sites_body = stmt_sites intervals popped body in
      let none_x = both_first (require_zero x) _ counted in
      let none_y = both_second (require_zero x) (require_zero y) counted in
      let fixed_condition : Fixed intervals (λ n. expr_writes n condition) =
      λ n e. or_first (expr_writes n condition) _ (fixed n e) in
      let fixed_body : Fixed intervals (λ n. stmt_writes n body) =
      λ n e. or_second (expr_writes n condition) _ (fixed n e) in
      subst (λ r. LoopIsSafe (suc turn_limit) (λ s. ExprIsSafe setting entries place condition s)
      (λ s. StmtIsSafe setting entries past body s)
      (test_unless_returned r (value_of setting condition)) (inside (stmt_done setting body)) store)
      (sym closed.1)
      (loop_safe (Ready setting.fields intervals popped)
      (λ s. ExprIsSafe setting entries place condition s)
      (λ s. StmtIsSafe setting entries past body s) (value_of setting condition)
      (inside (stmt_done setting body)) (ready_free setting.fields intervals popped)
      (λ s r. expr_safe window setting whole entries condition intervals popped place s
      (nothing_some x none_x) fixed_condition r
      (stand_first window entries place sites sites_body stand))
      (λ s r. stmt_safe window setting whole entries body names intervals popped past s turn
      (nothing_some y none_y) fixed_body r
      (stand_after window entries place sites sites_body (peeks_of_expr condition)
      (expr_entries condition intervals popped) stand))
      (λ s r. IfOk-weaker (value_of setting condition s)
      (λ given. Ready setting.fields intervals (advance popped x) given.1) _
      (λ given h. ready_still setting.fields intervals popped x given.1 none_x h)
      (ready_value setting condition intervals popped s (nothing_some x none_x) fixed_condition r))
      (λ s r. IfOk-weaker (inside (stmt_done setting body) s)
      (Ready setting.fields intervals (advance popped y)) _
      (λ after h. ready_still setting.fields intervals popped y after none_y h)
      (ready_inside setting body names intervals popped s turn
      (nothing_some y none_y) fixed_body r))
      (suc turn_limit) store ready)
  stmt_safe window setting whole entries (tree.For first condition step body) names intervals popped
      place store closed counted fixed ready stand =
      let parts = plain_parts names first condition step body closed in
      let locals = names_of intervals in
      let reported = counted_loop locals first condition step body in
      let inner = intervals_after intervals first in
      let later = advance popped (stmt_counts locals first) in
      let past = place + length (peeks_of_stmt first) in
      let sites = stmt_sites intervals popped first in
      let turns = turns_sites reported (option_sites inner later condition
      ++ (stmt_sites inner later step ++ stmt_sites inner later body))
      (λ loop. stmt_sites (with_interval inner loop.name (turns_interval loop))
      (in_turns later loop.turns (stmt_counts (names_of inner) body)) body)
      (peeks_of_stmt body) in
      let first_fixed : Fixed intervals (λ n. stmt_writes n first) =
      λ n e. or_first (stmt_writes n first) _ (fixed n e) in
      let first_counted = both_first (stmt_counts locals first) _ counted in
      let rest_counted = both_second (stmt_counts locals first)
      (turns_counts reported (option_counts condition)
      (stmt_counts (locals_after locals first) step)
      (stmt_counts (locals_after locals first) body)) counted in
      let inner_counted = subst (λ l. is_some
      (turns_counts reported (option_counts condition) (stmt_counts l step) (stmt_counts l body))
      ≡ true) (sym (names_after_intervals intervals first)) rest_counted in
      let turns_stand : Stand window entries past turns =
      stand_after window entries place sites turns (peeks_of_stmt first)
      (stmt_entries first intervals popped) stand in (
        stmt_safe window setting whole entries first names intervals popped place store parts.0
            first_counted first_fixed ready (stand_first window entries place sites turns stand),
        IfOk-weaker (stmt_done setting first store)
            (λ begun. Ready setting.fields inner later begun
            × IfSome reported (λ loop. Known locals first condition step body loop
            × HasValue setting.fields loop.name loop.start begun)) _
            (λ begun h.
            let test_place = past + length (peeks_of_option condition) in
            subst (λ r. ForIsSafe r setting entries past test_place
            (test_place + length (peeks_of_stmt step)) condition step body begun)
            (sym parts.2.1)
            (for_turns_safe window setting whole entries locals first condition step body reported
            (names_after names first) inner later past begun
            (counted_free locals first condition step body) h.1 parts.1 parts.2 inner_counted
            (fixed_inner intervals first condition step body fixed) h.0 turns_stand
            (λ r p n s c f d k. stmt_safe window setting whole entries step
            (names_after names first) r p n s parts.1 c f d k)
            (λ r p n s c f d k. stmt_safe window setting whole entries body
            (names_after names first) r p n s parts.2 c f d k)))
            (both_ok (stmt_done setting first store) _ _
            (ready_stmt setting first names intervals popped store parts.0 first_counted
            first_fixed ready) (begins_by locals first condition step body reported setting store
            ready.seen (loop_known locals first condition step body))),
      )
  stmt_safe window setting whole entries (tree.Push value) names intervals popped place store closed
      counted fixed ready stand = expr_safe window setting whole entries value intervals popped
      place store (both_first (expr_counts value) (Some one_push) counted) fixed ready stand
  stmt_safe window setting whole entries (tree.Print value) names intervals popped place store
      closed counted fixed ready stand = expr_safe window setting whole entries value intervals
      popped place store counted fixed ready stand
  stmt_safe window setting whole entries (tree.Println value) names intervals popped place store
      closed counted fixed ready stand = expr_safe window setting whole entries value intervals
      popped place store counted fixed ready stand

  pub stmts_safe : (window : ℕ) (setting : Setting) → IsWhole window setting.port
      → (entries : List Bool)
      (s : tree.Stmts) (names : Scope) (intervals : Intervals) (popped : PopInterval) (place : ℕ)
      (store : Store) → ArePlain names s → is_some (stmts_counts (names_of intervals) s) ≡ true
      → Fixed intervals (λ name. stmts_write name s) → Ready setting.fields intervals popped store
      → Stand window entries place (stmts_sites intervals popped s)
      → StmtsAreSafe setting entries place s store
  stmts_safe window setting whole entries tree.Done names intervals popped place store closed
      counted fixed ready stand = tt
  stmts_safe window setting whole entries (tree.Then first rest) names intervals popped place store
      closed counted fixed ready stand =
      let parts = plain_then names first rest closed in
      let locals = names_of intervals in
      let inner = intervals_after intervals first in
      let later = advance popped (stmt_counts locals first) in
      let sites = stmt_sites intervals popped first in
      let sites_rest = stmts_sites inner later rest in
      let first_fixed : Fixed intervals (λ n. stmt_writes n first) =
      λ n e. or_first (stmt_writes n first) _ (fixed n e) in
      let first_counted = both_first (stmt_counts locals first) _ counted in
      let rest_counted = both_second (stmt_counts locals first)
      (stmts_counts (locals_after locals first) rest) counted in
      let inner_counted = subst (λ l. is_some (stmts_counts l rest) ≡ true)
      (sym (names_after_intervals intervals first)) rest_counted in
      let rest_fixed : Fixed inner (λ n. stmts_write n rest) =
      λ n e. let before = known_before intervals first n e in
      unless_shadowed (shadows n first) (stmts_write n rest)
      (or_second (stmt_writes n first) _ (fixed n before.0)) before.1 in (
        stmt_safe window setting whole entries first names intervals popped place store parts.0
            first_counted first_fixed ready
            (stand_first window entries place sites sites_rest stand),
        IfOk-weaker (stmt_done setting first store) (Ready setting.fields inner later) _
            (λ middle h. stmts_safe window setting whole entries rest (names_after names first)
            inner later (place + length (peeks_of_stmt first)) middle parts.1 inner_counted
            rest_fixed h
            (stand_after window entries place sites sites_rest (peeks_of_stmt first)
            (stmt_entries first intervals popped) stand))
            (ready_stmt setting first names intervals popped store parts.0 first_counted
            first_fixed ready),
      )
