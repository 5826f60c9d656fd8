-- What is counted from the text of statements is what they move.
use Rattle.std.proofs.Common.{◌≡◌, refl, sym, subst, ◌∙◌, ap, ℕ, suc, ◌+◌, ◌<◌, ◌≤◌, ℤ, Bool, cond}
use Rattle.std.proofs.Common.{true, false, List, length, Option, Some, None, Result, Ok, ⊎_elim}
use Rattle.std.proofs.Common.{arith}
use Rattle.std.specs.Option.{IfSome}
use Rattle.std.specs.Result.{IfOk}
use Rattle.std.proofs.lemmas.Result.{IfOk-weaker}
use Rattle.strc_lex_names.specs.Results.{result_and_then}
use Rattle.strc_parse_tree.specs.Tree as tree
use Rattle.strc_work_meaning.specs.declared.fault.Cause.{Cause}
use Rattle.strc_work_meaning.specs.Arithmetic.{is_true}
use Rattle.strc_work_meaning.specs.Scoping.{Scope, cells_of, size_of, names_after, is_declared}
use Rattle.strc_work_meaning.specs.Firing.{Setting, Traffic, Store, cells_named, value_in, value_of}
use Rattle.strc_work_meaning.specs.Firing.{condition_value, pushed_to, turn_limit, looped, inside}
use Rattle.strc_work_meaning.specs.Firing.{stmt_done, stmts_done}
use Rattle.strc_rate.proofs.Scopes.{scope_of}
use Rattle.strc_rate_intervals.specs.Constant.{constant}
use Rattle.strc_rate_intervals.specs.Loops.{Loop, counted_loop, value_after}
use Rattle.strc_work_writes.specs.LocalWrites.{Locals, locals_after}
use Rattle.strc_work_writes.specs.LocalWrites.{stmt_writes, expr_writes}
use Rattle.strc_rate.specs.Counts.{Counts, no_items, one_push, added, sequence, require_zero}
use Rattle.strc_rate.specs.Counts.{repeated, branch_counts, expr_counts, option_counts}
use Rattle.strc_rate.specs.Counts.{turns_counts, stmt_counts, stmts_counts}
use Rattle.strc_rate.proofs.Results.{then_ok, both_ok, any_ok, above}
use Rattle.strc_rate.proofs.Keeping.{Same, value_same}
use Rattle.strc_rate.proofs.Unwritten.{Done, inside_same, looped_holds, stmt_keeps}
use Rattle.strc_rate.proofs.LoopTurns.{no_moves}
use Rattle.strc_rate.proofs.LoopParts.{constant_sound, cells_sized, Seen, seen_after}
use Rattle.strc_rate.proofs.CountedLoops.{HasValue, HasPlace, Known, loop_known, At, loop_from}
use Rattle.strc_rate.proofs.Unreturned.{while_ok, for_ok, block_ok}
use Rattle.strc_rate.proofs.Unreturned.{IsPlain, ArePlain, plain_sides, plain_parts, plain_then}
use Rattle.strc_rate.proofs.CountedMoves.{Moves, Counted, stays, moves_same, one_after}
use Rattle.strc_rate.proofs.CountedMoves.{nothing_cases, IsStill, CountedOk, advance_counts}
use Rattle.strc_rate.proofs.CountedMoves.{side_counts, store_traffic, value_counts}
use Rattle.strc_rate.proofs.CountedMoves.{assigned_counts}
use Rattle.strc_rate.proofs.CountedMoves.{element_assigned_counts, declared_counts, push_counts}
use Rattle.strc_rate.proofs.CountedMoves.{one_more_counted, more_turns}

-- ---- parts of statements

-- a value, with what was moved, in a store of the same variables
pub value_in_scope : (setting : Setting) (e : tree.Expr) (store : Store)
    → IfOk (value_of setting e store) (λ given. Counted
    (expr_counts e) store.traffic given.1.traffic
    × (scope_of given.1.variables ≡ scope_of store.variables)
    × IfSome (constant e) (λ v. given.0 ≡ v))
value_in_scope setting e store =
    let writes : List ℕ → Bool = λ name. expr_writes name e in
    IfOk-weaker (value_of setting e store) (λ given. Counted
    (expr_counts e) store.traffic given.1.traffic
    × (Same setting.fields writes store.variables given.1.variables × IfSome (constant e)
    (λ v. given.0 ≡ v))) _
    (λ given h. (h.0, h.1.0.shape, h.1.1))
    (both_ok (value_of setting e store) (λ given. Counted
    (expr_counts e) store.traffic given.1.traffic)
    (λ given. Same setting.fields writes store.variables given.1.variables
    × IfSome (constant e) (λ v. given.0 ≡ v)) (value_counts setting e store)
    (both_ok (value_of setting e store) (λ given. Same setting.fields writes store.variables
    given.1.variables) (λ given. IfSome (constant e) (λ v. given.0 ≡ v))
    (value_same setting e store)
    (constant_sound setting e store)))

-- a test of a loop, and a part that is run in each turn, in these variables
abbrev pub Tests : Scope → Option Counts → (Store → Result (ℤ × Store) Cause) → Type 0
Tests scope x test =
    (store : Store) → scope_of store.variables ≡ scope
    → IfOk (test store) (λ given. Counted x store.traffic given.1.traffic
    × (scope_of given.1.variables ≡ scope))

abbrev pub Parts : Scope → Option Counts → (Store → Result Store Cause) → Type 0
Parts scope x does =
    (store : Store) → scope_of store.variables ≡ scope
    → IfOk (does store) (λ after. Counted x store.traffic after.traffic
    × (scope_of after.variables ≡ scope))

pub expr_tests : (setting : Setting) (e : tree.Expr) (scope : Scope)
    → Tests scope (expr_counts e) (value_of setting e)
expr_tests setting e scope store is =
    IfOk-weaker (value_of setting e store) (λ given. Counted
    (expr_counts e) store.traffic given.1.traffic
    × (scope_of given.1.variables ≡ scope_of store.variables)
    × IfSome (constant e) (λ v. given.0 ≡ v)) _ (λ given h. (h.0, h.1 ∙ is))
    (value_in_scope setting e store)

pub condition_tests : (setting : Setting) (condition : Option tree.Expr) (scope : Scope)
    → Tests scope (option_counts condition) (condition_value setting condition)
condition_tests setting None scope store is = (stays store.traffic, is)
condition_tests setting (Some condition) scope store is =
    expr_tests setting condition scope store is

-- a statement in a scope of its own
pub inside_counts : (x : Option Counts) (does : Store → Result Store Cause) (store : Store)
    → CountedOk store_traffic x store.traffic (does store)
    → CountedOk store_traffic x store.traffic (inside does store)
inside_counts x does store h =
    then_ok (does store) _ (λ after. Counted x store.traffic after.traffic)
    (λ after. Counted x store.traffic after.traffic) h (λ inner k. k)

pub inside_parts : (setting : Setting) (s : tree.Stmt) (names scope : Scope) (x : Option Counts)
    → IsPlain names s → ((store : Store) → scope_of store.variables ≡ scope
    → CountedOk store_traffic x store.traffic (stmt_done setting s store))
    → Parts scope x (inside (stmt_done setting s))
inside_parts setting s names scope x closed moves store is =
    let writes : List ℕ → Bool = λ name. stmt_writes name s in
    IfOk-weaker (inside (stmt_done setting s) store)
    (λ after. Counted x store.traffic after.traffic
    × Same setting.fields writes store.variables after.variables) _
    (λ after h. (h.0, h.1.shape ∙ is))
    (both_ok (inside (stmt_done setting s) store) (λ after. Counted x store.traffic after.traffic)
    (λ after. Same setting.fields writes store.variables after.variables)
    (inside_counts x (stmt_done setting s) store (moves store is))
    (inside_same setting.fields writes writes (stmt_done setting s) store (λ name e. e)
    (IfOk-weaker (stmt_done setting s store)
    (λ after. Done setting.fields writes (names_after (scope_of store.variables) s) store.variables
    after.variables) _ (λ after k. k.grown) (stmt_keeps setting s names store closed))))

-- ---- loops that move nothing

still_twice : (a b c : Traffic) → Moves a b no_items → Moves b c no_items → Moves a c no_items
still_twice a b c h k = moves_same a c (added no_items no_items) no_items (omega arith)
    (omega arith) (one_after a b c no_items no_items h k)

-- any number of turns moves nothing
still_loop : (scope : Scope) (x : Option Counts) (test : Store → Result (ℤ × Store) Cause)
    (body : Store → Result Store Cause) → IsStill x → Tests scope x test
    → ((store : Store) → scope_of store.variables ≡ scope
    → IfOk (body store) (λ after. Moves store.traffic after.traffic no_items
    × (scope_of after.variables ≡ scope))) → (store : Store) → scope_of store.variables ≡ scope
    → IfOk (looped (suc turn_limit) test body store)
    (λ after. Moves store.traffic after.traffic no_items)
still_loop scope x test body still tests turns store is =
    let P : Store → Type 0 = λ s. Moves store.traffic s.traffic no_items
    × (scope_of s.variables ≡ scope) in
    IfOk-weaker (looped (suc turn_limit) test body store) P _ (λ after h. h.0)
    (looped_holds P (λ s n h. (
      record {
        pops = h.0.pops;
        pushes = h.0.pushes;
        popped =
            h.0.popped;
        pushed = h.0.pushed;
        saturated_pops = h.0.saturated_pops;
        saturated_pushes =
            h.0.saturated_pushes;
      },
      h.1,
    )) (suc turn_limit) test body
    (λ s h. IfOk-weaker (test s) (λ given. Counted x s.traffic given.1.traffic
    × (scope_of given.1.variables ≡ scope)) _
    (λ given k. (
      still_twice store.traffic s.traffic given.1.traffic h.0
          (still s.traffic given.1.traffic k.0),
      k.1,
    )) (tests s h.1))
    (λ s h. IfOk-weaker (body s) (λ after. Moves s.traffic after.traffic no_items
    × (scope_of after.variables ≡ scope)) _
    (λ after k. (still_twice store.traffic s.traffic after.traffic h.0 k.0, k.1)) (turns s h.1))
    store (stays store.traffic, is))

still_part : (scope : Scope) (x : Option Counts) (does : Store → Result Store Cause) → IsStill x
    → Parts scope x does → (store : Store) → scope_of store.variables ≡ scope
    → IfOk (does store) (λ after. Moves store.traffic after.traffic no_items
    × (scope_of after.variables ≡ scope))
still_part scope x does still parts store is =
    IfOk-weaker (does store) (λ after. Counted x store.traffic after.traffic
    × (scope_of after.variables ≡ scope)) _
    (λ after h. (still store.traffic after.traffic h.0, h.1)) (parts store is)

none_sound : (before : Traffic) (result : Result Store Cause)
    → CountedOk store_traffic None before result
none_sound before result = any_ok result

-- what must count nothing either isn't known or moves nothing
two_nothings : (x y : Option Counts) (before : Traffic) (result : Result Store Cause)
    → (IsStill x → IsStill y → IfOk result (λ after. Moves before after.traffic no_items))
    → CountedOk store_traffic (sequence (require_zero x) (require_zero y)) before result
two_nothings x y before result go =
    ⊎_elim
    (λ (e : require_zero x ≡ None). subst
    (λ z. CountedOk store_traffic (sequence z (require_zero y)) before result) (sym e)
    (none_sound before result))
    (λ (h : (require_zero x ≡ Some no_items) × IsStill x).
    subst (λ z. CountedOk store_traffic (sequence z (require_zero y)) before result) (sym h.0)
    (⊎_elim
    (λ (e : require_zero y ≡ None). subst
    (λ z. CountedOk store_traffic (sequence (Some no_items) z) before result) (sym e)
    (none_sound before result))
    (λ (k : (require_zero y ≡ Some no_items) × IsStill y).
    subst (λ z. CountedOk store_traffic (sequence (Some no_items) z) before result) (sym k.0)
    (IfOk-weaker result (λ after. Moves before after.traffic no_items) _
    (λ after l. moves_same before after.traffic no_items (added no_items no_items) (omega arith)
    (omega arith) l) (go h.1 k.1)))
    (nothing_cases y)))
    (nothing_cases x)

three_nothings : (x y z : Option Counts) (before : Traffic) (result : Result Store Cause)
    → (IsStill x → IsStill y → IsStill z → IfOk result
    (λ after. Moves before after.traffic no_items))
    → CountedOk store_traffic (sequence (require_zero x)
    (sequence (require_zero y) (require_zero z))) before result
three_nothings x y z before result go =
    ⊎_elim
    (λ (e : require_zero x ≡ None). subst
    (λ n. CountedOk store_traffic (sequence n (sequence (require_zero y) (require_zero z))) before
    result) (sym e) (none_sound before result))
    (λ (h : (require_zero x ≡ Some no_items) × IsStill x).
    subst (λ n. CountedOk store_traffic (sequence n (sequence (require_zero y) (require_zero z)))
    before result) (sym h.0)
    (advance_counts store_traffic before before (Some no_items)
    (sequence (require_zero y) (require_zero z)) result (stays before)
    (two_nothings y z before result (go h.1))))
    (nothing_cases x)

while_counts : (scope : Scope) (x y : Option Counts) (test : Store → Result (ℤ × Store) Cause)
    (body : Store → Result Store Cause) → Tests scope x test → Parts scope y body → (store : Store)
    → scope_of store.variables ≡ scope → CountedOk store_traffic
    (sequence (require_zero x) (require_zero y)) store.traffic
    (looped (suc turn_limit) test body store)
while_counts scope x y test body tests turns store is =
    two_nothings x y store.traffic (looped (suc turn_limit) test body store)
    (λ still_x still_y. still_loop scope x test body still_x tests
    (still_part scope y body still_y turns) store is)

for_counts : (scope : Scope) (x y z : Option Counts) (test : Store → Result (ℤ × Store) Cause)
    (step body : Store → Result Store Cause) → Tests scope x test → Parts scope y step
    → Parts scope z body → (store : Store) → scope_of store.variables ≡ scope
    → CountedOk store_traffic (sequence (require_zero x)
    (sequence (require_zero y) (require_zero z))) store.traffic
    (looped (suc turn_limit) test (λ turn. result_and_then (body turn) step) store)
for_counts scope x y z test step body tests steps turns store is =
    three_nothings x y z store.traffic (looped (suc turn_limit) test
    (λ turn. result_and_then (body turn) step) store)
    (λ still_x still_y still_z.
    still_loop scope x test (λ turn. result_and_then (body turn) step) still_x tests
    (λ s at.
    then_ok (body s) step (λ middle. Moves s.traffic middle.traffic no_items
    × (scope_of middle.variables ≡ scope))
    (λ after. Moves s.traffic after.traffic no_items × (scope_of after.variables ≡ scope))
    (still_part scope z body still_z turns s at)
    (λ middle h. IfOk-weaker (step middle)
    (λ after. Moves middle.traffic after.traffic no_items × (scope_of after.variables ≡ scope)) _
    (λ after k. (still_twice s.traffic middle.traffic after.traffic h.0 k.0, k.1))
    (still_part scope y step still_y steps middle h.1)))
    store is)

-- ---- counted loops

-- as many turns as are reported
counted_turns : (locals : Locals) (first : tree.Stmt) (condition : Option tree.Expr)
    (step body : tree.Stmt) (loop : Loop) → Known locals first condition step body loop
    → (setting : Setting) (names scope : Scope) (x : Option Counts) → IsPlain names body
    → Parts scope x (inside (stmt_done setting body)) → (store : Store)
    → scope_of store.variables ≡ scope → HasValue setting.fields loop.name loop.start store
    → CountedOk store_traffic (repeated loop.turns x) store.traffic
    (looped (suc turn_limit) (condition_value setting condition)
    (λ turn. result_and_then (inside (stmt_done setting body) turn)
    (inside (stmt_done setting step))) store)
counted_turns locals first condition step body loop known setting names scope x closed turns store
    is begins =
    let P : ℕ → Traffic → Type 0 = λ t traffic. Counted (repeated t x) store.traffic traffic in
    let size : length (cells_named store.variables loop.name) ≡ size_of scope loop.name =
    cells_sized store.variables loop.name ∙ ap (λ s. size_of s loop.name) is in
    let some : 1 ≤ length (cells_named store.variables loop.name) = begins.some in
    let sized : HasPlace setting.fields scope loop.name =
    (omega arith, sym (ap (λ s. is_declared (above setting.fields s) loop.name) is) ∙ begins.inner)
    in
    let bodies : (t : ℕ) (s : Store) → t < loop.turns → scope_of s.variables ≡ scope
    → value_in s loop.name ≡ value_after loop t → P t s.traffic
    → IfOk (inside (stmt_done setting body) s) (λ after. P (t + 1) after.traffic) =
    λ t s lt shape value so_far.
    IfOk-weaker (inside (stmt_done setting body) s)
    (λ after. Counted x s.traffic after.traffic × (scope_of after.variables ≡ scope)) _
    (λ after h. one_more_counted t store.traffic s.traffic after.traffic x so_far h.0)
    (turns s shape) in
    IfOk-weaker (looped (suc turn_limit) (condition_value setting condition)
    (λ turn. result_and_then (inside (stmt_done setting body) turn)
    (inside (stmt_done setting step))) store) (At known setting names scope closed sized P
    (λ t traffic n h. more_turns (repeated t x) store.traffic traffic n h) bodies loop.turns) _
    (λ after h. h.so_far)
    (loop_from known setting names scope closed sized P
    (λ t traffic n h. more_turns (repeated t x) store.traffic traffic n h) bodies
    (suc turn_limit) 0 store (omega arith)
    (record {
      shape = is;
      value = begins.value_is ∙ sym (no_moves loop.start loop.move);
      so_far =
          stays store.traffic;
    }))

-- the turns of a `for`, whether it is counted or not
turns_by : (locals : Locals) (first : tree.Stmt) (condition : Option tree.Expr)
    (step body : tree.Stmt) (reported : Option Loop) (setting : Setting) (names scope : Scope)
    (y z : Option Counts) → IsPlain names body → Parts scope y
    (inside (stmt_done setting step))
    → Parts scope z (inside (stmt_done setting body)) → (store : Store)
    → scope_of store.variables ≡ scope → IfSome reported
    (λ loop. Known locals first condition step body loop
    × HasValue setting.fields loop.name loop.start store)
    → CountedOk store_traffic (turns_counts reported (option_counts condition) y z) store.traffic
    (looped (suc turn_limit) (condition_value setting condition)
    (λ turn. result_and_then (inside (stmt_done setting body) turn)
    (inside (stmt_done setting step))) store)
turns_by locals first condition step body None setting names scope y z closed steps turns store is
    known =
    for_counts scope (option_counts condition) y z (condition_value setting condition)
    (inside (stmt_done setting step)) (inside (stmt_done setting body))
    (condition_tests setting condition scope) steps turns store is
turns_by locals first condition step body
    (Some loop) setting names scope y z closed steps turns store is known =
    counted_turns locals first condition step body loop known.0 setting names scope z closed turns
    store is known.1

-- the variable of a counted loop has its first value after the first part
pub begins_by : (locals : Locals) (first : tree.Stmt) (condition : Option tree.Expr)
    (step body : tree.Stmt) (reported : Option Loop) (setting : Setting) (store : Store)
    → Seen setting.fields locals (scope_of store.variables)
    → IfSome reported (Known locals first condition step body)
    → IfOk (stmt_done setting first store) (λ begun. IfSome reported
    (λ loop. Known locals first condition step body loop
    × HasValue setting.fields loop.name loop.start begun))
begins_by locals first condition step body None setting store seen known =
    any_ok (stmt_done setting first store)
begins_by locals first condition step body (Some loop) setting store seen known =
    IfOk-weaker (stmt_done setting first store) (HasValue setting.fields loop.name loop.start) _
    (λ begun h. (known, h)) (known.begins setting store seen)

-- ---- statements

plain_value : (setting : Setting) (e : tree.Expr) (store : Store)
    (go : ℤ × Store → Result Store Cause) (x : Option Counts) → ((given : ℤ × Store)
    → CountedOk store_traffic x given.1.traffic (go given))
    → CountedOk store_traffic (sequence (expr_counts e) x) store.traffic
    (result_and_then (value_of setting e store) go)
plain_value setting e store go x more =
    then_ok (value_of setting e store) go (λ given. Counted
    (expr_counts e) store.traffic given.1.traffic)
    (λ after. Counted (sequence (expr_counts e) x) store.traffic after.traffic)
    (value_counts setting e store)
    (λ given h. advance_counts store_traffic store.traffic given.1.traffic (expr_counts e) x
    (go given) h (more given))

still_value : (setting : Setting) (e : tree.Expr) (store : Store) (go : ℤ × Store → Store)
    → ((x : Option Counts) (before : Traffic) (given : ℤ × Store) → Counted x before given.1.traffic
    → Counted x before (go given).traffic)
    → CountedOk store_traffic (expr_counts e) store.traffic
    (result_and_then (value_of setting e store) (λ given. Ok (go given)))
still_value setting e store go same =
    then_ok (value_of setting e store) _ (λ given. Counted
    (expr_counts e) store.traffic given.1.traffic)
    (λ after. Counted (expr_counts e) store.traffic after.traffic) (value_counts setting e store)
    (λ given h. same (expr_counts e) store.traffic given h)

-- a word is printed
printed_counted : (x : Option Counts) (before traffic after : Traffic)
    → after.popped ≡ traffic.popped → after.pushes ≡ traffic.pushes → Counted x before traffic
    → Counted x before after
printed_counted None before traffic after e f h = tt
printed_counted (Some x) before traffic after e f h =
    record {
      pops = h.pops;
      pushes = h.pushes;
      popped = e ∙ h.popped;
      pushed =
          ap length f ∙ h.pushed;
      saturated_pops = h.saturated_pops;
      saturated_pushes =
          h.saturated_pushes;
    }

mutual
  pub stmt_counted : (setting : Setting) (s : tree.Stmt) (locals : Locals) (names : Scope)
      (store : Store) → IsPlain names s → Seen setting.fields locals (scope_of store.variables)
      → CountedOk store_traffic (stmt_counts locals s) store.traffic (stmt_done setting s store)
  stmt_counted setting tree.Empty locals names store closed seen = stays store.traffic
  stmt_counted setting (tree.Compose statement) locals names store closed seen =
      stays store.traffic
  stmt_counted setting (tree.Return value) locals names store closed seen =
      let returned : true ≡ false = closed.1 in absurd (cc)
  stmt_counted setting (tree.Block body) locals names store closed seen =
      inside_counts (stmts_counts locals body) (stmts_done setting body) store
      (stmts_counted setting body locals names store closed seen)
  stmt_counted setting (tree.Declare kind variables) locals names store closed seen =
      declared_counts setting (cells_of kind) variables store
  stmt_counted setting (tree.Evaluate value) locals names store closed seen =
      still_value setting value store _ (λ x before given h. h)
  stmt_counted setting (tree.Assign name operator value) locals names store closed seen =
      assigned_counts setting name operator value store
  stmt_counted setting (tree.AssignElement name index operator value) locals names store closed
      seen = element_assigned_counts setting name index operator value store
  stmt_counted setting (tree.If condition chosen) locals names store closed seen =
      let x = branch_counts (constant condition) (stmt_counts locals chosen) (Some no_items) in
      then_ok (value_of setting condition store) _
      (λ test. Counted (expr_counts condition) store.traffic test.1.traffic
      × (scope_of test.1.variables ≡ scope_of store.variables)
      × IfSome (constant condition) (λ v. test.0 ≡ v))
      (λ after. Counted (sequence (expr_counts condition) x) store.traffic after.traffic)
      (value_in_scope setting condition store)
      (λ test h. advance_counts store_traffic store.traffic test.1.traffic (expr_counts condition) x
      (cond (is_true test.0) (inside (stmt_done setting chosen) test.1) (Ok test.1)) h.0
      (side_counts store_traffic (constant condition) test.0 (stmt_counts locals chosen)
      (Some no_items) test.1.traffic (inside (stmt_done setting chosen) test.1) (Ok test.1) h.2
      (inside_counts (stmt_counts locals chosen) (stmt_done setting chosen) test.1
      (stmt_counted setting chosen locals names test.1 (closed.0.1, closed.1)
      (subst (Seen setting.fields locals) (sym h.1) seen)))
      (stays test.1.traffic)))
  stmt_counted setting (tree.IfElse condition chosen other) locals names store closed seen
      =
      let x = branch_counts (constant condition) (stmt_counts locals chosen)
      (stmt_counts locals other) in
      let sides = plain_sides names condition chosen other closed in
      then_ok (value_of setting condition store) _
      (λ test. Counted (expr_counts condition) store.traffic test.1.traffic
      × (scope_of test.1.variables ≡ scope_of store.variables)
      × IfSome (constant condition) (λ v. test.0 ≡ v))
      (λ after. Counted (sequence (expr_counts condition) x) store.traffic after.traffic)
      (value_in_scope setting condition store)
      (λ test h. advance_counts store_traffic store.traffic test.1.traffic (expr_counts condition) x
      (cond (is_true test.0) (inside (stmt_done setting chosen) test.1)
      (inside (stmt_done setting other) test.1)) h.0
      (side_counts store_traffic (constant condition) test.0 (stmt_counts locals chosen)
      (stmt_counts locals other) test.1.traffic (inside (stmt_done setting chosen) test.1)
      (inside (stmt_done setting other) test.1) h.2
      (inside_counts (stmt_counts locals chosen) (stmt_done setting chosen) test.1
      (stmt_counted setting chosen locals names test.1 sides.0
      (subst (Seen setting.fields locals) (sym h.1) seen)))
      (inside_counts (stmt_counts locals other) (stmt_done setting other) test.1
      (stmt_counted setting other locals names test.1 sides.1
      (subst (Seen setting.fields locals) (sym h.1) seen)))))
  stmt_counted setting (tree.While condition body) locals names store closed seen =
      let scope = scope_of store.variables in
      let turn : IsPlain names body = (closed.0.1, closed.1) in
      while_ok setting condition body store
      (λ after. Counted (stmt_counts locals (tree.While condition body)) store.traffic
      after.traffic) closed.1
      (while_counts scope (expr_counts condition) (stmt_counts locals body)
      (value_of setting condition)
      (inside (stmt_done setting body)) (expr_tests setting condition scope)
      (inside_parts setting body names scope (stmt_counts locals body) turn
      (λ s is. stmt_counted setting body locals names s turn
      (subst (Seen setting.fields locals) (sym is) seen))) store refl)
  stmt_counted setting (tree.For first condition step body) locals names store closed seen
      =
      let scope = names_after (scope_of store.variables) first in
      let inner = locals_after locals first in
      let reported = counted_loop locals first condition step body in
      let parts = plain_parts names first condition step body closed in
      let seen_inner : Seen setting.fields inner scope =
      seen_after setting.fields first locals (scope_of store.variables) names parts.0.0 seen in
      let loop : Store → Result Store Cause =
      looped (suc turn_limit) (condition_value setting condition)
      (λ turn. result_and_then (inside (stmt_done setting body) turn)
      (inside (stmt_done setting step))) in
      let x = turns_counts reported (option_counts condition) (stmt_counts inner step)
      (stmt_counts inner body) in
      for_ok setting first condition step body store
      (λ after. Counted (sequence (stmt_counts locals first) x) store.traffic after.traffic)
      parts.2.1
      (inside_counts (sequence (stmt_counts locals first) x)
      (λ outer. result_and_then (stmt_done setting first outer) loop) store
      (then_ok (stmt_done setting first store) loop
      (λ begun. Counted (stmt_counts locals first) store.traffic begun.traffic
      × (Done setting.fields (λ name. stmt_writes name first) scope store.variables begun.variables
      × IfSome reported (λ l. Known locals first condition step body l
      × HasValue setting.fields l.name l.start begun)))
      (λ after. Counted (sequence (stmt_counts locals first) x) store.traffic after.traffic)
      (both_ok (stmt_done setting first store) _ _
      (stmt_counted setting first locals names store parts.0 seen)
      (both_ok (stmt_done setting first store) _ _
      (stmt_keeps setting first names store parts.0)
      (begins_by locals first condition step body reported setting store seen
      (loop_known locals first condition step body))))
      (λ begun h. advance_counts store_traffic store.traffic begun.traffic
      (stmt_counts locals first) x (loop begun) h.0
      (turns_by locals first condition step body reported setting (names_after names first) scope
      (stmt_counts inner step) (stmt_counts inner body) parts.2
      (inside_parts setting step (names_after names first) scope (stmt_counts inner step) parts.1
      (λ s is. stmt_counted setting step inner (names_after names first) s parts.1
      (subst (Seen setting.fields inner) (sym is) seen_inner)))
      (inside_parts setting body (names_after names first) scope (stmt_counts inner body) parts.2
      (λ s is. stmt_counted setting body inner (names_after names first) s parts.2
      (subst (Seen setting.fields inner) (sym is) seen_inner)))
      begun h.1.0.exact h.1.1))))
  stmt_counted setting (tree.Push value) locals names store closed seen =
      plain_value setting value store _ (Some one_push)
      (λ given. then_ok (pushed_to setting.port given.0 given.1.traffic) _
      (λ traffic. Moves given.1.traffic traffic one_push)
      (λ after. Moves given.1.traffic after.traffic one_push)
      (push_counts setting given.0 given.1.traffic) (λ traffic h. h))
  stmt_counted setting (tree.Print value) locals names store closed seen =
      still_value setting value store _ (λ x before given h.
      printed_counted x before given.1.traffic _ refl refl h)
  stmt_counted setting (tree.Println value) locals names store closed seen =
      still_value setting value store _ (λ x before given h.
      printed_counted x before given.1.traffic _ refl refl h)

  pub stmts_counted : (setting : Setting) (s : tree.Stmts) (locals : Locals) (names : Scope)
      (store : Store) → ArePlain names s → Seen setting.fields locals (scope_of store.variables)
      → CountedOk store_traffic (stmts_counts locals s) store.traffic (stmts_done setting s store)
  stmts_counted setting tree.Done locals names store closed seen = stays store.traffic
  stmts_counted setting (tree.Then first rest) locals names store closed seen =
      let scope = names_after (scope_of store.variables) first in
      let parts = plain_then names first rest closed in
      block_ok setting first rest store
      (λ after. Counted (stmts_counts locals (tree.Then first rest)) store.traffic after.traffic)
      parts.0.1
      (then_ok (stmt_done setting first store) (stmts_done setting rest)
      (λ middle. Counted (stmt_counts locals first) store.traffic middle.traffic
      × Done setting.fields (λ name. stmt_writes name first) scope store.variables middle.variables)
      (λ after. Counted (stmts_counts locals (tree.Then first rest)) store.traffic
      after.traffic)
      (both_ok (stmt_done setting first store) _ _
      (stmt_counted setting first locals names store parts.0 seen)
      (stmt_keeps setting first names store parts.0))
      (λ middle h. advance_counts store_traffic store.traffic middle.traffic
      (stmt_counts locals first) (stmts_counts (locals_after locals first) rest)
      (stmts_done setting rest middle) h.0
      (stmts_counted setting rest (locals_after locals first)
      (names_after names first) middle parts.1
      (subst (Seen setting.fields (locals_after locals first)) (sym h.1.exact)
      (seen_after setting.fields first locals (scope_of store.variables) names parts.0.0 seen)))))
