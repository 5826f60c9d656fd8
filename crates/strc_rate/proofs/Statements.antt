-- A run of statements whose counts fit its port, and whose peeks are all closed, stays in range.
use Rattle.std.proofs.Common.{◌≡◌, refl, sym, subst, ◌∙◌, ℕ, suc, ◌+◌, ◌<◌, ◌≤◌, ℤ, Bool, true}
use Rattle.std.proofs.Common.{false, List, ◌++◌, length, Option, Some, None, Result, Ok, arith}
use Rattle.std.proofs.Common.{length-append}
use Rattle.std.specs.Bool.{MatchBool}
use Rattle.std.specs.Option.{IfSome}
use Rattle.std.specs.Result.{IfOk}
use Rattle.std.proofs.lemmas.Result.{IfOk-weaker}
use Rattle.strc_lex_names.specs.Results.{result_and_then}
use Rattle.strc_parse_tree.specs.Tree as tree
use Rattle.strc_work_meaning.specs.declared.fault.Cause.{Cause}
use Rattle.strc_work_meaning.specs.Arithmetic.{is_true}
use Rattle.strc_work_meaning.specs.Scoping.{Scope, cells_of, size_of, names_after}
use Rattle.strc_work_meaning.specs.Returns.{stmt_returns}
use Rattle.strc_work_meaning.specs.Firing.{Setting, Port, Traffic, Store, cells_named, value_in}
use Rattle.strc_work_meaning.specs.Firing.{value_of, condition_value, pushed_to, turn_limit}
use Rattle.strc_work_meaning.specs.Firing.{looped, inside, unless_returned, test_unless_returned}
use Rattle.strc_work_meaning.specs.Firing.{stmt_done, stmts_done}
use Rattle.strc_rate_intervals.specs.Constant.{constant}
use Rattle.strc_rate_intervals.specs.Loops.{Loop, counted_loop, value_after}
use Rattle.strc_work_writes.specs.LocalWrites.{Locals, locals_after, stmt_writes}
use Rattle.strc_rate.specs.Counts.{Counts, no_items, one_push, sequence, require_zero, repeated}
use Rattle.strc_rate.specs.Counts.{branch_counts, expr_counts, option_counts, turns_counts}
use Rattle.strc_rate.specs.Counts.{stmt_counts, stmts_counts}
use Rattle.strc_rate.specs.Entries.{peeks_of_expr, peeks_of_option, peeks_of_stmt, peeks_of}
use Rattle.strc_rate.specs.PeeksSafe.{ExprIsSafe, OptionIsSafe, LoopIsSafe, StmtIsSafe}
use Rattle.strc_rate.specs.PeeksSafe.{StmtsAreSafe}
use Rattle.strc_rate.specs.Ranges.{IsInRange, AllAreClosed}
use Rattle.strc_rate.proofs.Results.{then_ok, both_ok}
use Rattle.strc_rate.proofs.Scopes.{scope_of}
use Rattle.strc_rate.proofs.Unreturned.{IsPlain, ArePlain, plain_sides, plain_parts, plain_then}
use Rattle.strc_rate.proofs.Unwritten.{Done, TurnsFree, stmt_keeps}
use Rattle.strc_rate.proofs.LoopTurns.{no_moves}
use Rattle.strc_rate.proofs.LoopParts.{Seen, seen_after, cells_sized}
use Rattle.strc_rate.proofs.CountedLoops.{HasValue, HasPlace, Known, loop_known, At, turn_at}
use Rattle.strc_rate.proofs.CountedLoops.{test_holds, test_ends}
use Rattle.strc_rate.proofs.CountedMoves.{Counted, stays, more_turns, one_more_counted}
use Rattle.strc_rate.proofs.CountedMoves.{value_counts}
use Rattle.strc_rate.proofs.StatementCounts.{value_in_scope, Tests, Parts, expr_tests}
use Rattle.strc_rate.proofs.StatementCounts.{condition_tests, inside_parts, begins_by, stmt_counted}
use Rattle.strc_rate.proofs.Reaching.{in_then, in_plain, in_known, in_side, match_true, match_false}
use Rattle.strc_rate.proofs.Fitting.{IsNarrow, Fits, CountedFits, fits_first, fits_second}
use Rattle.strc_rate.proofs.Fitting.{fits_after, fits_nothing, fits_still, nothing_is, fits_sides}
use Rattle.strc_rate.proofs.Fitting.{fits_turn}
use Rattle.strc_rate.proofs.Values.{CallsStay, push_stays, value_stays}
use Rattle.strc_rate.proofs.Parts.{assigned_stays, element_assigned_stays, declared_stays}
use Rattle.strc_rate.proofs.Parts.{condition_stays}
use Rattle.strc_rate.proofs.Loops.{inside_stays, loop_stays, turns_stay}

-- ---- loops that move nothing

-- in these variables, with nothing more to pop or push than what fits
abbrev Quiet : Port → Scope → Store → Type 0
Quiet port scope store = (scope_of store.variables ≡ scope) × Fits port store.traffic no_items

quiet_free : (port : Port) (scope : Scope) → TurnsFree (Quiet port scope)
quiet_free port scope store n here =
    (here.0, record { pops = here.1.pops; pushes = here.1.pushes })

-- what fits where nothing is counted
quiet_fits : (port : Port) (scope : Scope) (x : Option Counts) (store : Store) → x ≡ Some no_items
    → Quiet port scope store → CountedFits port store.traffic x
quiet_fits port scope x store is here = subst (CountedFits port store.traffic) (sym is) here.1

-- a part that counts nothing leaves it so
quiet_after : (port : Port) (scope : Scope) (x : Option Counts) (before after : Store)
    → x ≡ Some no_items → Quiet port scope before → Counted x before.traffic after.traffic
    → scope_of after.variables ≡ scope → Quiet port scope after
quiet_after port scope x before after is here moved same = (
  same,
  fits_still port before.traffic after.traffic (Some no_items) here.1
      (subst (λ y. Counted y before.traffic after.traffic) is moved),
)

quiet_test : (port : Port) (scope : Scope) (x : Option Counts)
    (test : Store → Result (ℤ × Store) Cause) → x ≡ Some no_items → Tests scope x test
    → (store : Store) → Quiet port scope store
    → IfOk (test store) (λ given. Quiet port scope given.1)
quiet_test port scope x test is tests store here =
    IfOk-weaker (test store) (λ given. Counted x store.traffic given.1.traffic
    × (scope_of given.1.variables ≡ scope)) _
    (λ given k. quiet_after port scope x store given.1 is here k.0 k.1) (tests store here.0)

quiet_part : (port : Port) (scope : Scope) (x : Option Counts) (does : Store → Result Store Cause)
    → x ≡ Some no_items → Parts scope x does → (store : Store) → Quiet port scope store
    → IfOk (does store) (Quiet port scope)
quiet_part port scope x does is parts store here =
    IfOk-weaker (does store) (λ after. Counted x store.traffic after.traffic
    × (scope_of after.variables ≡ scope)) _
    (λ after k. quiet_after port scope x store after is here k.0 k.1) (parts store here.0)

-- ---- parts of statements

-- a statement that stays in range wherever its counts fit
abbrev Stays : Setting → (entries : List Bool) → Locals → (place : ℕ) → Scope → tree.Stmt → Type 0
Stays setting entries locals place scope s =
    (store : Store) → scope_of store.variables ≡ scope
    → CountedFits setting.port store.traffic (stmt_counts locals s)
    → StmtIsSafe setting entries place s store → IsInRange (stmt_done setting s store)

-- what a turn of a `for` does
abbrev turn_of : Setting → (step body : tree.Stmt) → Store → Result Store Cause
turn_of setting step body turn = result_and_then (inside (stmt_done setting body) turn)
    (inside (stmt_done setting step))

-- the closed peeks of the turns of a `for`
abbrev TurnsAreSafe : Setting → (entries : List Bool) → (place step_place body_place : ℕ)
    → Option tree.Expr → (step body : tree.Stmt) → Store → Type 0
TurnsAreSafe setting entries place step_place body_place condition step body store =
    LoopIsSafe (suc turn_limit) (λ s. OptionIsSafe setting entries place condition s)
    (λ s. StmtIsSafe setting entries body_place body s × IfOk (inside (stmt_done setting body) s)
    (λ after. StmtIsSafe setting entries step_place step after))
    (condition_value setting condition) (turn_of setting step body) store

-- no `return` stands in the body of a loop, or in a statement
while_in : (setting : Setting) (condition : tree.Expr) (body : tree.Stmt) (store : Store)
    → stmt_returns body ≡ false
    → IsInRange (looped (suc turn_limit) (value_of setting condition)
    (inside (stmt_done setting body)) store)
    → IsInRange (stmt_done setting (tree.While condition body) store)
while_in setting condition body store none h =
    subst (λ r. IsInRange (looped (suc turn_limit)
    (test_unless_returned r (value_of setting condition)) (inside (stmt_done setting body)) store))
    (sym none) h

for_in : (setting : Setting) (condition : Option tree.Expr) (step body : tree.Stmt) (begun : Store)
    → stmt_returns body ≡ false
    → IsInRange (looped (suc turn_limit) (condition_value setting condition)
    (turn_of setting step body) begun)
    → IsInRange (looped (suc turn_limit)
    (test_unless_returned (stmt_returns body) (condition_value setting condition))
    (λ turn. result_and_then (inside (stmt_done setting body) turn)
    (unless_returned (stmt_returns body) (inside (stmt_done setting step)))) begun)
for_in setting condition step body begun none h =
    subst (λ r. IsInRange (looped (suc turn_limit)
    (test_unless_returned r (condition_value setting condition))
    (λ turn. result_and_then (inside (stmt_done setting body) turn)
    (unless_returned r (inside (stmt_done setting step)))) begun)) (sym none) h

then_in : (setting : Setting) (first : tree.Stmt) (rest : tree.Stmts) (store : Store)
    → stmt_returns first ≡ false
    → IsInRange (result_and_then (stmt_done setting first store) (stmts_done setting rest))
    → IsInRange (stmts_done setting (tree.Then first rest) store)
then_in setting first rest store none h =
    subst (λ r. IsInRange (result_and_then (stmt_done setting first store)
    (unless_returned r (stmts_done setting rest)))) (sym none) h

module _ (setting : Setting) (narrow : IsNarrow setting.port) (calls : CallsStay setting)
    (entries : List Bool) (closed : AllAreClosed entries) where
  -- a `while` moves nothing
  while_stays : (locals : Locals) (names : Scope) (condition : tree.Expr) (body : tree.Stmt)
      (place past : ℕ) (store : Store) → IsPlain names body
      → Seen setting.fields locals (scope_of store.variables)
      → CountedFits setting.port store.traffic (sequence (require_zero (expr_counts condition))
      (require_zero (stmt_counts locals body)))
      → place + length (peeks_of_expr condition) ≤ length entries
      → Stays setting entries locals past (scope_of store.variables) body
      → LoopIsSafe (suc turn_limit) (λ s. ExprIsSafe setting entries place condition s)
      (λ s. StmtIsSafe setting entries past body s) (value_of setting condition)
      (inside (stmt_done setting body)) store
      → IsInRange (looped (suc turn_limit) (value_of setting condition)
      (inside (stmt_done setting body)) store)
  while_stays locals names condition body place past store plain seen fits within body_stays
      safe =
      let port = setting.port in
      let scope = scope_of store.variables in
      let x = expr_counts condition in
      let y = stmt_counts locals body in
      let x_is = nothing_is port store.traffic x
      (fits_first port narrow store.traffic (require_zero x) (require_zero y) fits) in
      let y_is = nothing_is port store.traffic y
      (fits_second port narrow store.traffic (require_zero x) (require_zero y) fits) in
      let turns = inside_parts setting body names scope y plain
      (λ s is. stmt_counted setting body locals names s plain
      (subst (Seen setting.fields locals) (sym is) seen)) in
      loop_stays (Quiet port scope) (λ s. ExprIsSafe setting entries place condition s)
      (λ s. StmtIsSafe setting entries past body s) (value_of setting condition)
      (inside (stmt_done setting body)) (quiet_free port scope)
      (λ s here safe_test. value_stays setting narrow calls entries closed condition place s
      (quiet_fits port scope x s x_is here) within safe_test)
      (quiet_test port scope x (value_of setting condition) x_is
      (expr_tests setting condition scope))
      (λ s here safe_body. inside_stays (stmt_done setting body) s
      (body_stays s here.0 (quiet_fits port scope y s y_is here) safe_body))
      (quiet_part port scope y (inside (stmt_done setting body)) y_is turns)
      (suc turn_limit) store
      (refl, fits_nothing port store.traffic (sequence (require_zero x) (require_zero y)) fits) safe

  -- nor do the turns of a `for` that isn't a counted loop
  other_turns_stay : (locals : Locals) (names : Scope) (condition : Option tree.Expr)
      (step body : tree.Stmt) (place step_place body_place : ℕ) (begun : Store)
      → IsPlain names step → IsPlain names body
      → Seen setting.fields locals (scope_of begun.variables)
      → CountedFits setting.port begun.traffic (turns_counts None (option_counts condition)
      (stmt_counts locals step) (stmt_counts locals body))
      → place + length (peeks_of_option condition) ≤ length entries
      → Stays setting entries locals step_place (scope_of begun.variables) step
      → Stays setting entries locals body_place (scope_of begun.variables) body
      → TurnsAreSafe setting entries place step_place body_place condition step body begun
      → IsInRange (looped (suc turn_limit) (condition_value setting condition)
      (turn_of setting step body) begun)
  other_turns_stay locals names condition step body place step_place body_place begun plain_step
      plain_body seen fits within step_stays body_stays safe =
      let port = setting.port in
      let scope = scope_of begun.variables in
      let x = option_counts condition in
      let y = stmt_counts locals step in
      let z = stmt_counts locals body in
      let rest = sequence (require_zero y) (require_zero z) in
      let fits_rest = fits_second port narrow begun.traffic (require_zero x) rest fits in
      let x_is = nothing_is port begun.traffic x
      (fits_first port narrow begun.traffic (require_zero x) rest fits) in
      let y_is = nothing_is port begun.traffic y
      (fits_first port narrow begun.traffic (require_zero y) (require_zero z) fits_rest) in
      let z_is = nothing_is port begun.traffic z
      (fits_second port narrow begun.traffic (require_zero y) (require_zero z) fits_rest) in
      let steps = quiet_part port scope y (inside (stmt_done setting step)) y_is
      (inside_parts setting step names scope y plain_step
      (λ s is. stmt_counted setting step locals names s plain_step
      (subst (Seen setting.fields locals) (sym is) seen))) in
      let bodies = quiet_part port scope z (inside (stmt_done setting body)) z_is
      (inside_parts setting body names scope z plain_body
      (λ s is. stmt_counted setting body locals names s plain_body
      (subst (Seen setting.fields locals) (sym is) seen))) in
      loop_stays (Quiet port scope) (λ s. OptionIsSafe setting entries place condition s)
      (λ s. StmtIsSafe setting entries body_place body s × IfOk (inside (stmt_done setting body) s)
      (λ after. StmtIsSafe setting entries step_place step after))
      (condition_value setting condition) (turn_of setting step body) (quiet_free port scope)
      (λ s here safe_test. condition_stays setting narrow calls entries closed condition place s
      (quiet_fits port scope x s x_is here) within safe_test)
      (quiet_test port scope x (condition_value setting condition) x_is
      (condition_tests setting condition scope))
      (λ s here safe_turn.
      in_then (inside (stmt_done setting body) s) (inside (stmt_done setting step))
      (λ middle. Quiet port scope middle × StmtIsSafe setting entries step_place step middle)
      (inside_stays (stmt_done setting body) s
      (body_stays s here.0 (quiet_fits port scope z s z_is here) safe_turn.0))
      (both_ok (inside (stmt_done setting body) s) _ _ (bodies s here) safe_turn.1)
      (λ middle known. inside_stays (stmt_done setting step) middle
      (step_stays middle known.0.0 (quiet_fits port scope y middle y_is known.0) known.1)))
      (λ s here. then_ok (inside (stmt_done setting body) s) (inside (stmt_done setting step))
      (Quiet port scope) (Quiet port scope) (bodies s here) steps)
      (suc turn_limit) begun
      (refl, fits_nothing port begun.traffic (sequence (require_zero x) rest) fits) safe

  -- in each turn of a counted loop what is left fits one more
  counted_turns_stay : (locals : Locals) (first : tree.Stmt) (condition : Option tree.Expr)
      (step body : tree.Stmt) (loop : Loop) (inner : Locals) (names : Scope)
      (place step_place body_place : ℕ) (begun : Store)
      → Known locals first condition step body loop
      → HasValue setting.fields loop.name loop.start begun → IsPlain names body
      → Seen setting.fields inner (scope_of begun.variables)
      → CountedFits setting.port begun.traffic (repeated loop.turns (stmt_counts inner body))
      → Stays setting entries inner body_place (scope_of begun.variables) body
      → TurnsAreSafe setting entries place step_place body_place condition step body begun
      → IsInRange (looped (suc turn_limit) (condition_value setting condition)
      (turn_of setting step body) begun)
  counted_turns_stay locals first condition step body loop inner names place step_place body_place
      begun known begins plain seen fits body_stays safe =
      let port = setting.port in
      let scope = scope_of begun.variables in
      let x = stmt_counts inner body in
      let P : ℕ → Traffic → Type 0 = λ t traffic. Counted (repeated t x) begun.traffic traffic in
      let size : length (cells_named begun.variables loop.name) ≡ size_of scope loop.name =
      cells_sized begun.variables loop.name in
      let some : 1 ≤ length (cells_named begun.variables loop.name) = begins.some in
      let sized : HasPlace setting.fields scope loop.name = (omega arith, begins.inner) in
      let turns : Parts scope x (inside (stmt_done setting body)) =
      inside_parts setting body names scope x plain
      (λ s is. stmt_counted setting body inner names s plain
      (subst (Seen setting.fields inner) (sym is) seen)) in
      let moved : (t : ℕ) (traffic : Traffic) (n : ℕ) → P t traffic
      → P t (record traffic { turns = n }) =
      λ t traffic n h. more_turns (repeated t x) begun.traffic traffic n h in
      let bodies : (t : ℕ) (s : Store) → t < loop.turns → scope_of s.variables ≡ scope
      → value_in s loop.name ≡ value_after loop t → P t s.traffic
      → IfOk (inside (stmt_done setting body) s) (λ after. P (t + 1) after.traffic) =
      λ t s lt shape value so_far.
      IfOk-weaker (inside (stmt_done setting body) s)
      (λ after. Counted x s.traffic after.traffic × (scope_of after.variables ≡ scope)) _
      (λ after h. one_more_counted t begun.traffic s.traffic after.traffic x so_far h.0)
      (turns s shape) in
      turns_stay (At known setting names scope plain sized P moved bodies) loop.turns
      (λ s. OptionIsSafe setting entries place condition s)
      (λ s. StmtIsSafe setting entries body_place body s × IfOk (inside (stmt_done setting body) s)
      (λ after. StmtIsSafe setting entries step_place step after))
      (condition_value setting condition) (turn_of setting step body)
      (λ t s n here. record {
        shape = here.shape;
        value = here.value;
        so_far = moved t s.traffic n here.so_far;
      })
      (λ t s lt here. test_holds known setting s t here.value lt)
      (λ s here. test_ends known setting s loop.turns here.value refl)
      (λ t s lt here safe_turn.
      in_plain (inside (stmt_done setting body) s) (inside (stmt_done setting step))
      (inside_stays (stmt_done setting body) s
      (body_stays s here.shape
      (fits_turn port narrow t loop.turns begun.traffic s.traffic x lt fits here.so_far)
      safe_turn.0))
      (λ middle. inside_stays (stmt_done setting step) middle
      (in_known (stmt_done setting step middle) _ (known.steps setting middle))))
      (turn_at known setting names scope plain sized P moved bodies) (suc turn_limit) 0 begun
      (omega arith)
      (record {
        shape = refl;
        value = begins.value_is ∙ sym (no_moves loop.start loop.move);
        so_far = stays begun.traffic;
      })
      safe

  -- the turns of a `for`, whether it is counted or not
  for_turns_stay : (locals : Locals) (first : tree.Stmt) (condition : Option tree.Expr)
      (step body : tree.Stmt) (reported : Option Loop) (inner : Locals) (names : Scope)
      (place step_place body_place : ℕ) (begun : Store)
      → IfSome reported (λ loop. Known locals first condition step body loop
      × HasValue setting.fields loop.name loop.start begun)
      → IsPlain names step → IsPlain names body
      → Seen setting.fields inner (scope_of begun.variables)
      → CountedFits setting.port begun.traffic (turns_counts reported (option_counts condition)
      (stmt_counts inner step) (stmt_counts inner body))
      → place + length (peeks_of_option condition) ≤ length entries
      → Stays setting entries inner step_place (scope_of begun.variables) step
      → Stays setting entries inner body_place (scope_of begun.variables) body
      → TurnsAreSafe setting entries place step_place body_place condition step body begun
      → IsInRange (looped (suc turn_limit) (condition_value setting condition)
      (turn_of setting step body) begun)
  for_turns_stay locals first condition step body None inner names place step_place body_place begun
      known plain_step plain_body seen fits within step_stays body_stays safe =
      other_turns_stay inner names condition step body place step_place body_place begun plain_step
      plain_body seen fits within step_stays body_stays safe
  for_turns_stay locals first condition step body (Some loop) inner names place step_place
      body_place begun known plain_step plain_body seen fits within step_stays body_stays safe =
      counted_turns_stay locals first condition step body loop inner names place step_place
      body_place begun known.0 known.1 plain_body seen fits body_stays safe

  mutual
    pub stmt_stays : (s : tree.Stmt) (locals : Locals) (names : Scope) (place : ℕ) (store : Store)
        → IsPlain names s → Seen setting.fields locals (scope_of store.variables)
        → CountedFits setting.port store.traffic (stmt_counts locals s)
        → place + length (peeks_of_stmt s) ≤ length entries
        → StmtIsSafe setting entries place s store → IsInRange (stmt_done setting s store)
    stmt_stays tree.Empty locals names place store plain seen fits within safe = tt
    stmt_stays (tree.Compose statement) locals names place store plain seen fits within safe = tt
    stmt_stays (tree.Return value) locals names place store plain seen fits within safe =
        let returned : true ≡ false = plain.1 in absurd (cc)
    stmt_stays (tree.Block body) locals names place store plain seen fits within safe =
        inside_stays (stmts_done setting body) store
        (stmts_stay body locals names place store plain seen fits within safe)
    stmt_stays (tree.Declare kind variables) locals names place store plain seen fits within safe =
        declared_stays setting narrow calls entries closed (cells_of kind) variables place store
        fits within safe
    stmt_stays (tree.Evaluate value) locals names place store plain seen fits within safe =
        in_plain (value_of setting value store) _
        (value_stays setting narrow calls entries closed value place store fits within safe)
        (λ given. tt)
    stmt_stays (tree.Assign name operator value) locals names place store plain seen fits within
        safe =
        assigned_stays setting name operator value store
        (value_stays setting narrow calls entries closed value place store fits within safe)
    stmt_stays (tree.AssignElement name index operator value) locals names place store plain seen
        fits within safe =
        element_assigned_stays setting narrow calls entries closed name index operator value place
        store fits within safe
    stmt_stays (tree.If condition chosen) locals names place store plain seen fits within safe =
        let size = length-append (peeks_of_expr condition) (peeks_of_stmt chosen) in
        let past = place + length (peeks_of_expr condition) in
        let port = setting.port in
        let x = expr_counts condition in
        let y = branch_counts (constant condition) (stmt_counts locals chosen) (Some no_items) in
        in_then (value_of setting condition store) _
        (λ test. (Counted x store.traffic test.1.traffic
        × (scope_of test.1.variables ≡ scope_of store.variables)
        × IfSome (constant condition) (λ v. test.0 ≡ v))
        × MatchBool (is_true test.0) (StmtIsSafe setting entries past chosen test.1) (Unit {0}))
        (value_stays setting narrow calls entries closed condition place store
        (fits_first port narrow store.traffic x y fits) (omega arith) safe.0)
        (both_ok (value_of setting condition store) _ _ (value_in_scope setting condition store)
        safe.1)
        (λ test known.
        let left = fits_sides port test.1.traffic (constant condition) test.0
        (stmt_counts locals chosen) (Some no_items) known.0.2
        (fits_after port narrow store.traffic test.1.traffic x y fits known.0.0) in
        in_side (is_true test.0) (inside (stmt_done setting chosen) test.1) (Ok test.1)
        (λ e. inside_stays (stmt_done setting chosen) test.1
        (stmt_stays chosen locals names past test.1 (plain.0.1, plain.1)
        (subst (Seen setting.fields locals) (sym known.0.1) seen) (left.0 e) (omega arith)
        (match_true (is_true test.0) _ (Unit {0}) e known.1)))
        (λ e. tt))
    stmt_stays (tree.IfElse condition chosen other) locals names place store plain seen fits within
        safe =
        let sides_size = length-append (peeks_of_stmt chosen) (peeks_of_stmt other) in
        let size = length-append (peeks_of_expr condition)
        (peeks_of_stmt chosen ++ peeks_of_stmt other) in
        let past = place + length (peeks_of_expr condition) in
        let last = past + length (peeks_of_stmt chosen) in
        let port = setting.port in
        let sides = plain_sides names condition chosen other plain in
        let x = expr_counts condition in
        let y = branch_counts (constant condition) (stmt_counts locals chosen)
        (stmt_counts locals other) in
        in_then (value_of setting condition store) _
        (λ test. (Counted x store.traffic test.1.traffic
        × (scope_of test.1.variables ≡ scope_of store.variables)
        × IfSome (constant condition) (λ v. test.0 ≡ v))
        × MatchBool (is_true test.0) (StmtIsSafe setting entries past chosen test.1)
        (StmtIsSafe setting entries last other test.1))
        (value_stays setting narrow calls entries closed condition place store
        (fits_first port narrow store.traffic x y fits) (omega arith) safe.0)
        (both_ok (value_of setting condition store) _ _ (value_in_scope setting condition store)
        safe.1)
        (λ test known.
        let now = subst (Seen setting.fields locals) (sym known.0.1) seen in
        let left = fits_sides port test.1.traffic (constant condition) test.0
        (stmt_counts locals chosen) (stmt_counts locals other) known.0.2
        (fits_after port narrow store.traffic test.1.traffic x y fits known.0.0) in
        in_side (is_true test.0) (inside (stmt_done setting chosen) test.1)
        (inside (stmt_done setting other) test.1)
        (λ e. inside_stays (stmt_done setting chosen) test.1
        (stmt_stays chosen locals names past test.1 sides.0 now (left.0 e) (omega arith)
        (match_true (is_true test.0) _ (StmtIsSafe setting entries last other test.1) e known.1)))
        (λ e. inside_stays (stmt_done setting other) test.1
        (stmt_stays other locals names last test.1 sides.1 now (left.1 e) (omega arith)
        (match_false (is_true test.0) (StmtIsSafe setting entries past chosen test.1) _ e
        known.1))))
    stmt_stays (tree.While condition body) locals names place store plain seen fits within safe =
        let size = length-append (peeks_of_expr condition) (peeks_of_stmt body) in
        let past = place + length (peeks_of_expr condition) in
        let turn : IsPlain names body = (plain.0.1, plain.1) in
        while_in setting condition body store plain.1
        (while_stays locals names condition body place past store turn seen fits (omega arith)
        (λ s is fits_body safe_body. stmt_stays body locals names past s turn
        (subst (Seen setting.fields locals) (sym is) seen) fits_body (omega arith) safe_body)
        (subst (λ r. LoopIsSafe (suc turn_limit)
        (λ s. ExprIsSafe setting entries place condition s)
        (λ s. StmtIsSafe setting entries past body s)
        (test_unless_returned r (value_of setting condition)) (inside (stmt_done setting body))
        store) plain.1 safe))
    stmt_stays (tree.For first condition step body) locals names place store plain seen fits within
        safe =
        let size_turns = length-append (peeks_of_stmt step) (peeks_of_stmt body) in
        let size_rest = length-append (peeks_of_option condition)
        (peeks_of_stmt step ++ peeks_of_stmt body) in
        let size = length-append (peeks_of_stmt first)
        (peeks_of_option condition ++ (peeks_of_stmt step ++ peeks_of_stmt body)) in
        let test_place = place + length (peeks_of_stmt first) in
        let step_place = test_place + length (peeks_of_option condition) in
        let body_place = step_place + length (peeks_of_stmt step) in
        let port = setting.port in
        let scope = names_after (scope_of store.variables) first in
        let inner = locals_after locals first in
        let within_names = names_after names first in
        let reported = counted_loop locals first condition step body in
        let parts = plain_parts names first condition step body plain in
        let seen_inner : Seen setting.fields inner scope =
        seen_after setting.fields first locals (scope_of store.variables) names parts.0.0 seen in
        let x = stmt_counts locals first in
        let y = turns_counts reported (option_counts condition) (stmt_counts inner step)
        (stmt_counts inner body) in
        let Safe : Bool → Store → Type 0 = λ r. LoopIsSafe (suc turn_limit)
        (λ s. OptionIsSafe setting entries test_place condition s)
        (λ s. StmtIsSafe setting entries body_place body s
        × IfOk (inside (stmt_done setting body) s)
        (λ after. StmtIsSafe setting entries step_place step after))
        (test_unless_returned r (condition_value setting condition))
        (λ turn. result_and_then (inside (stmt_done setting body) turn)
        (unless_returned r (inside (stmt_done setting step)))) in
        let loop : Store → Result Store Cause = looped (suc turn_limit)
        (test_unless_returned (stmt_returns body) (condition_value setting condition))
        (λ turn. result_and_then (inside (stmt_done setting body) turn)
        (unless_returned (stmt_returns body) (inside (stmt_done setting step)))) in
        inside_stays (λ outer. result_and_then (stmt_done setting first outer) loop) store
        (in_then (stmt_done setting first store) loop
        (λ begun. Counted x store.traffic begun.traffic
        × (Done setting.fields (λ name. stmt_writes name first) scope store.variables
        begun.variables
        × (IfSome reported (λ loop. Known locals first condition step body loop
        × HasValue setting.fields loop.name loop.start begun)
        × Safe (stmt_returns body) begun)))
        (stmt_stays first locals names place store parts.0 seen
        (fits_first port narrow store.traffic x y fits) (omega arith) safe.0)
        (both_ok (stmt_done setting first store) _ _
        (stmt_counted setting first locals names store parts.0 seen)
        (both_ok (stmt_done setting first store) _ _
        (stmt_keeps setting first names store parts.0)
        (both_ok (stmt_done setting first store) _ _
        (begins_by locals first condition step body reported setting store seen
        (loop_known locals first condition step body)) safe.1)))
        (λ begun known.
        let now : Seen setting.fields inner (scope_of begun.variables) =
        subst (Seen setting.fields inner) (sym known.1.0.exact) seen_inner in
        for_in setting condition step body begun parts.2.1
        (for_turns_stay locals first condition step body reported inner within_names test_place
        step_place body_place begun known.1.1.0 parts.1 parts.2 now
        (fits_after port narrow store.traffic begun.traffic x y fits known.0) (omega arith)
        (λ s is fits_step safe_step. stmt_stays step inner within_names step_place s parts.1
        (subst (Seen setting.fields inner) (sym is) now) fits_step (omega arith) safe_step)
        (λ s is fits_body safe_body. stmt_stays body inner within_names body_place s parts.2
        (subst (Seen setting.fields inner) (sym is) now) fits_body (omega arith) safe_body)
        (subst (λ r. Safe r begun) parts.2.1 known.1.1.1))))
    stmt_stays (tree.Push value) locals names place store plain seen fits within safe =
        let port = setting.port in
        in_then (value_of setting value store) _
        (λ given. Counted (expr_counts value) store.traffic given.1.traffic)
        (value_stays setting narrow calls entries closed value place store
        (fits_first port narrow store.traffic (expr_counts value) (Some one_push) fits) within safe)
        (value_counts setting value store)
        (λ given moved. in_plain (pushed_to port given.0 given.1.traffic) _
        (push_stays port given.0 given.1.traffic
        (fits_after port narrow store.traffic given.1.traffic (expr_counts value) (Some one_push)
        fits moved)) (λ traffic. tt))
    stmt_stays (tree.Print value) locals names place store plain seen fits within safe =
        in_plain (value_of setting value store) _
        (value_stays setting narrow calls entries closed value place store fits within safe)
        (λ given. tt)
    stmt_stays (tree.Println value) locals names place store plain seen fits within safe =
        in_plain (value_of setting value store) _
        (value_stays setting narrow calls entries closed value place store fits within safe)
        (λ given. tt)

    pub stmts_stay : (block : tree.Stmts) (locals : Locals) (names : Scope) (place : ℕ)
        (store : Store) → ArePlain names block
        → Seen setting.fields locals (scope_of store.variables)
        → CountedFits setting.port store.traffic (stmts_counts locals block)
        → place + length (peeks_of block) ≤ length entries
        → StmtsAreSafe setting entries place block store
        → IsInRange (stmts_done setting block store)
    stmts_stay tree.Done locals names place store plain seen fits within safe = tt
    stmts_stay (tree.Then first rest) locals names place store plain seen fits within safe =
        let size = length-append (peeks_of_stmt first) (peeks_of rest) in
        let past = place + length (peeks_of_stmt first) in
        let port = setting.port in
        let scope = names_after (scope_of store.variables) first in
        let inner = locals_after locals first in
        let parts = plain_then names first rest plain in
        let x = stmt_counts locals first in
        let y = stmts_counts inner rest in
        then_in setting first rest store parts.0.1
        (in_then (stmt_done setting first store) (stmts_done setting rest)
        (λ middle. Counted x store.traffic middle.traffic
        × (Done setting.fields (λ name. stmt_writes name first) scope store.variables
        middle.variables × StmtsAreSafe setting entries past rest middle))
        (stmt_stays first locals names place store parts.0 seen
        (fits_first port narrow store.traffic x y fits) (omega arith) safe.0)
        (both_ok (stmt_done setting first store) _ _
        (stmt_counted setting first locals names store parts.0 seen)
        (both_ok (stmt_done setting first store) _ _
        (stmt_keeps setting first names store parts.0) safe.1))
        (λ middle known. stmts_stay rest inner (names_after names first) past middle parts.1
        (subst (Seen setting.fields inner) (sym known.1.0.exact)
        (seen_after setting.fields first locals (scope_of store.variables) names parts.0.0 seen))
        (fits_after port narrow store.traffic middle.traffic x y fits known.0) (omega arith)
        known.1.1))
