-- Each statement's code does what it means.
use Rattle.std.proofs.Common.{◌≡◌, ℕ, suc, ◌+◌, ◌<◌, ◌≤◌, ◌||◌, Bool, true, false, cond, ℤ, pos}
use Rattle.std.proofs.Common.{negsuc, List, length, set, Option, Some, None, Result, Ok, Err, refl}
use Rattle.std.proofs.Common.{sym, ap, ◌∙◌, subst, arith}
use Rattle.std.proofs.lemmas.Bool.{false≢true}
use Rattle.std.proofs.lemmas.List.{length-set}
use Rattle.strc_lex_names.specs.Results.{result_and_then}
use Rattle.strc_parse_tree.specs.Tree as tree
use Rattle.strc_parse_tree.specs.declared.tree.StepOperator.TheVariants as step
use Rattle.strc_work_meaning.specs.declared.fault.Cause.{Cause}
use Rattle.strc_work_code.specs.declared.inst.Inst.{Inst}
use Rattle.strc_work_code.specs.declared.inst.Inst.TheVariants as act
use Rattle.strc_work_meaning.specs.Arithmetic.{is_true}
use Rattle.strc_work_meaning.specs.Scoping.{Scope, answer_name, cells_of, total, slot_of, size_of}
use Rattle.strc_work_meaning.specs.Scoping.{names_after}
use Rattle.strc_work_meaning.specs.Returns.{stmt_returns, stmt_shadows, stmts_shadow}
use Rattle.strc_work_meaning.specs.Closed.{IsNamed, IsClosed}
use Rattle.strc_work_meaning.specs.Firing.{Setting, Store, Traffic, value_of, pushed_to, printed}
use Rattle.strc_work_meaning.specs.Firing.{assigned, assigned_value, turn_limit, looped}
use Rattle.strc_work_meaning.specs.Firing.{condition_value, inside, block_left, stmt_done}
use Rattle.strc_work_meaning.specs.Firing.{stmts_done}
use Rattle.strc_work_meaning.specs.Firing.{has_returned, unless_returned, test_unless_returned}
use Rattle.strc_work_meaning.specs.Firing.{cell_set, with_cell}
use Rattle.strc_work_code.specs.Nodes.{Machine, Nodes, End, Choice, Loop, before, slot_value}
use Rattle.strc_work_code.specs.Nodes.{inst_done}
use Rattle.strc_work_code.specs.Nodes.{chosen_by, nodes_done, nodes_room}
use Rattle.strc_work_code.specs.Lowering.{one, expr_nodes, operand_slot, operand_nodes, loop_test}
use Rattle.strc_work_code.specs.Lowering.{loop_slot, unless_answered, stmt_nodes, stmts_nodes}
use Rattle.strc_work_code.specs.Lowering.{used_nodes}
use Rattle.strc_work_meaning.proofs.Growth.{base_of_itself}
use Rattle.strc_work.proofs.Variables.{scope_of, scope_of-with_cell, Holds, Holds-set_above}
use Rattle.strc_work.proofs.Variables.{Holds-with_cell}
use Rattle.strc_work.proofs.Related.{Related, then_related, map_related, nodes_done-before}
use Rattle.strc_work.proofs.Related.{then_end, then_last, chosen_related}
use Rattle.strc_work_code.proofs.Spelled.{nodes_room-before}
use Rattle.strc_work.proofs.Standing.{Stands, stands_after}
use Rattle.strc_work.proofs.Expressions.{Arrives, IsInSlot, Ready, machine_at, operand_runs}
use Rattle.strc_work.proofs.ExpressionRuns.{expr_runs}
use Rattle.strc_work.proofs.Answered.{or_first, or_second, stmt_named, named_after, left_out}
use Rattle.strc_work.proofs.Answered.{unless_answered_done}
use Rattle.strc_work.proofs.Reaching.{Reaches, ReachesOn, IsRunnable, AreRunnable, IsUnanswered}
use Rattle.strc_work.proofs.Reaching.{RunsStmt, RunsStmts, few, answer_tested, empty_reaches}
use Rattle.strc_work.proofs.Reaching.{left_reaches, reaches_on, rest_runs, inside_goes_on}
use Rattle.strc_work.proofs.Loops.{choice_runs, loop_nodes_run}
use Rattle.strc_work.proofs.Assignments.{assigned_reaches, stepped_reaches, assigned_closed}
use Rattle.strc_work.proofs.Assignments.{element_assigned}
use Rattle.strc_work.proofs.Declarations.{variables_run}

-- a value that isn't used
evaluated_reaches : (names : Scope) (slots : List ℤ) (given : ℤ × Store) (after : Machine)
    → total names ≤ length slots → Arrives names (total names) (total names + 1) slots given after
    → Reaches names (length slots) given.1 after
evaluated_reaches names slots given after roomy arrives =
    let top = few names given.1.variables arrives.names_are in
    let le : total (scope_of given.1.variables) ≤ total names = omega arith in
    subst (Reaches names (length slots) given.1) (sym arrives.written)
    (record {
      traffic = refl;
      names_are = arrives.names_are;
      holds = Holds-set_above given.1.variables arrives.slots
          (total names) given.0 le arrives.holds;
      same = length-set arrives.slots (total names) given.0 ∙ arrives.size;
      roomy = roomy;
    })

-- an expression for its effects alone
evaluation_runs : (setting : Setting) (e : tree.Expr) (names : Scope) (store : Store)
    (slots : List ℤ)
    → IsClosed names e → Stands setting names → Ready names (total names) store slots
    → nodes_room (expr_nodes names e (total names) (total names + 1)) ≤ length slots
    → Related (Reaches names (length slots))
    (result_and_then (value_of setting e store) (λ given. Ok given.1))
    (nodes_done setting (expr_nodes names e (total names) (total names + 1))
    (machine_at slots store))
evaluation_runs setting e names store slots closed stands ready room =
    let roomy = ready.roomy in
    let ready' : Ready names (total names + 1) store slots =
    record {
      names_are = ready.names_are;
      holds = ready.holds;
      above = omega arith;
      roomy =
          roomy;
    } in
    map_related (Arrives names (total names) (total names + 1) slots) (Reaches names (length slots))
    (λ given. given.1) (value_of setting e store)
    (nodes_done setting (expr_nodes names e (total names) (total names + 1))
    (machine_at slots store)) (expr_runs setting e names (total names)
    (total names + 1) store slots closed stands ready' room)
    (λ given after arrives. evaluated_reaches names slots given after roomy arrives)

-- one more item is pushed, on both sides
pushed_reaches : (names : Scope) (slots : List ℤ) (store : Store) (after : Machine)
    (r : Result Traffic Cause) → total names ≤ length slots → scope_of store.variables ≡ names
    → Holds store.variables after.slots → length after.slots ≡ length slots
    → Related (Reaches names (length slots))
    (result_and_then r (λ traffic. Ok (record store { traffic = traffic })))
    (result_and_then r (λ traffic. Ok (record after { traffic = traffic })))
pushed_reaches names slots store after (Ok traffic) roomy names_are holds same = record {
  traffic = refl;
  names_are = names_are;
  holds = holds;
  same = same;
  roomy = roomy;
}
pushed_reaches names slots store after (Err cause) roomy names_are holds same = refl

-- one more word is printed, on both sides
printed_reaches : (names : Scope) (slots : List ℤ) (ends_line : Bool) (slot : ℕ) (given : ℤ × Store)
    (after : Machine) → total names ≤ length slots
    → IsInSlot names slot (total names) slots given after
    → Reaches names (length slots) (record given.1
    { traffic = printed (record { value = given.0; ends_line = ends_line }) given.1.traffic })
    (record after {
      traffic = printed (record
          { value = slot_value after slot; ends_line = ends_line }) after.traffic;
    })
printed_reaches names slots ends_line slot given after roomy in_slot = record {
  traffic =
      ap (λ v. printed (record { value = v; ends_line = ends_line }) after.traffic) in_slot.value
      ∙ ap (printed (record { value = given.0; ends_line = ends_line })) in_slot.traffic;
  names_are = in_slot.names_are;
  holds = in_slot.holds;
  same = in_slot.size;
  roomy = roomy;
}

-- a statement that uses an expression's value in a last step
used_runs : (setting : Setting) (e : tree.Expr) (last : ℕ → Inst)
    (meant : ℤ × Store → Result Store Cause)
    (names : Scope) (store : Store) (slots : List ℤ) → IsClosed names e
    → Stands setting names → Ready names (total names) store slots
    → nodes_room (used_nodes names e last) ≤ length slots
    → ((given : ℤ × Store) (m : Machine) → IsInSlot names (operand_slot names true e (total names))
    (total names) slots given m → Related (Reaches names (length slots)) (meant given)
    (inst_done setting.port (last (operand_slot names true e (total names))) m))
    → Related (Reaches names (length slots)) (result_and_then (value_of setting e store) meant)
    (nodes_done setting (used_nodes names e last) (machine_at slots store))
used_runs setting e last meant names store slots closed stands ready room go =
    let free = total names in
    let a = operand_nodes names true e free in
    let slot = operand_slot names true e free in
    let room_a : nodes_room a ≤ length slots =
    omega (arith, nodes_room-before a (one (last slot))) in
    subst (Related (Reaches names (length slots))
    (result_and_then (value_of setting e store) meant))
    (sym (then_last setting a (last slot) (machine_at slots store)))
    (then_related (IsInSlot names slot free slots) (Reaches names (length slots))
    (value_of setting e store) (nodes_done setting a (machine_at slots store)) meant
    (inst_done setting.port (last slot)) (operand_runs setting e
    (expr_runs setting e) names true free store slots closed stands ready room_a)
    (λ given m is in_slot. go given m in_slot))

push_runs : (setting : Setting) (e : tree.Expr) → RunsStmt setting (tree.Push e)
push_runs setting e names store slots runnable stands ready room =
    let roomy = ready.roomy in
    let slot = operand_slot names true e (total names) in
    let meant : ℤ × Store → Result Store Cause =
    λ given. result_and_then (pushed_to setting.port given.0 given.1.traffic)
    (λ traffic. Ok (record given.1 { traffic = traffic })) in
    used_runs setting e act.Push meant names store slots runnable.0 stands ready room
    (λ given m in_slot.
    let done_is : inst_done setting.port (act.Push slot) m
    ≡ result_and_then (pushed_to setting.port given.0 given.1.traffic)
    (λ traffic. Ok (record m { traffic = traffic })) =
    ap (λ v. result_and_then (pushed_to setting.port v m.traffic)
    (λ traffic. Ok (record m { traffic = traffic }))) in_slot.value
    ∙ ap (λ t. result_and_then (pushed_to setting.port given.0 t)
    (λ traffic. Ok (record m { traffic = traffic }))) in_slot.traffic in
    subst (Related (Reaches names (length slots)) (meant given)) (sym done_is)
    (pushed_reaches names slots given.1 m
    (pushed_to setting.port given.0 given.1.traffic) roomy in_slot.names_are in_slot.holds
    in_slot.size))

-- ---- loops

-- the step of a loop of three parts, after its body
step_goes_on : (setting : Setting) (returns : Bool) (step : tree.Stmt) → RunsStmt setting step
    → (names : Scope) (size : ℕ) → IsRunnable setting names step → Stands setting names
    → (returns ≡ true → IsNamed names answer_name)
    → nodes_room (unless_answered names returns (stmt_nodes names step)) ≤ size
    → (given : Store) (m : Machine) → Reaches names size given m
    → Related (Reaches names size) (unless_returned returns (inside (stmt_done setting step)) given)
    (nodes_done setting (unless_answered names returns (stmt_nodes names step)) m)
step_goes_on setting false step run names size runnable stands named room given m reaches =
    inside_goes_on setting step run names size runnable stands room given m reaches
step_goes_on setting true step run names size runnable stands named room given m reaches =
    let code = stmt_nodes names step in
    let answer = slot_of names answer_name in
    let does = inside (stmt_done setting step) in
    subst (Related (Reaches names size) (unless_returned true does given))
    (sym (then_end setting (chosen_by (is_true (slot_value m answer)) (nodes_done setting End)
    (nodes_done setting code) m)))
    (chosen_related (Reaches names size) (has_returned given) (is_true (slot_value m answer))
    (Ok given) (does given) (nodes_done setting End) (nodes_done setting code) m
    (answer_tested names size given m reaches (named refl)) reaches
    (inside_goes_on setting step run names size runnable stands (omega arith) given m reaches))

-- the body of a loop of three parts, and its step
turn_goes_on : (setting : Setting) (body step : tree.Stmt) → RunsStmt setting body
    → RunsStmt setting step
    → (names : Scope) (size : ℕ) → IsRunnable setting names body → IsRunnable setting names step
    → Stands setting names
    → nodes_room (before (stmt_nodes names body)
    (unless_answered names (stmt_returns body) (stmt_nodes names step))) ≤ size
    → (given : Store) (m : Machine) → Reaches names size given m
    → Related (Reaches names size) (result_and_then (inside (stmt_done setting body) given)
    (unless_returned (stmt_returns body) (inside (stmt_done setting step)))) (nodes_done setting
    (before (stmt_nodes names body)
    (unless_answered names (stmt_returns body) (stmt_nodes names step))) m)
turn_goes_on setting body step run_body run_step names size runnable runnable' stands room given m
    reaches =
    let returns = stmt_returns body in
    let a = stmt_nodes names body in
    let b = unless_answered names returns (stmt_nodes names step) in
    let after = unless_returned returns (inside (stmt_done setting step)) in
    let room_a : nodes_room a ≤ size = omega (arith, nodes_room-before a b) in
    let room_b : nodes_room b ≤ size = omega (arith, nodes_room-before a b) in
    subst (Related (Reaches names size) (result_and_then (inside (stmt_done setting body) given)
    after)) (sym (nodes_done-before setting a b m))
    (then_related (Reaches names size) (Reaches names size) (inside (stmt_done setting body) given)
    (nodes_done setting a m) after (nodes_done setting b)
    (inside_goes_on setting body run_body names size runnable stands room_a given m reaches)
    (λ next m' is reaches'.
    step_goes_on setting returns step run_step names size runnable' stands
    (stmt_named body names runnable.0 runnable.1) room_b next m' reaches'))

-- a loop of three parts
for_runs : (setting : Setting) (first : tree.Stmt) (condition : Option tree.Expr)
    (step body : tree.Stmt)
    → RunsStmt setting first → RunsStmt setting step → RunsStmt setting body
    → RunsStmt setting (tree.For first condition step body)
for_runs setting first condition step body run_first run_step run_body names store slots runnable
    stands ready room =
    let names' = names_after names first in
    let stands' = stands_after setting names first stands in
    let size = length slots in
    let returns = stmt_returns body in
    let a = stmt_nodes names first in
    let test = loop_test names' returns condition in
    let slot = loop_slot names' returns condition in
    let turn = before (stmt_nodes names' body)
    (unless_answered names' returns (stmt_nodes names' step)) in
    let b = Loop test slot turn End in
    let room_a : nodes_room a ≤ size = omega (arith, nodes_room-before a b) in
    let room_test : nodes_room test ≤ size = omega (arith, nodes_room-before a b) in
    let room_slot : slot + 1 ≤ size = omega (arith, nodes_room-before a b) in
    let room_turn : nodes_room turn ≤ size = omega (arith, nodes_room-before a b) in
    let shown_first = or_first (stmt_shadows first) (stmt_shadows step || stmt_shadows body)
    runnable.1 in
    let shown_later = or_second (stmt_shadows first) (stmt_shadows step || stmt_shadows body)
    runnable.1 in
    let runnable_first : IsRunnable setting names first =
    (runnable.0.0, shown_first, runnable.2.0) in
    let runnable_step : IsRunnable setting names' step =
    (runnable.0.2, or_first (stmt_shadows step) (stmt_shadows body) shown_later, runnable.2.1) in
    let runnable_body : IsRunnable setting names' body =
    (runnable.0.3, or_second (stmt_shadows step) (stmt_shadows body) shown_later, runnable.2.2) in
    let turns : Store → Result Store Cause =
    λ turning. result_and_then (inside (stmt_done setting body) turning)
    (unless_returned returns (inside (stmt_done setting step))) in
    let loops : Store → Result Store Cause =
    looped (suc turn_limit)
    (test_unless_returned returns (condition_value setting condition)) turns in
    map_related (Reaches names' size) (Reaches names size) (block_left store)
    (result_and_then (stmt_done setting first store) loops)
    (nodes_done setting (before a b) (machine_at slots store))
    (subst (Related (Reaches names' size) (result_and_then (stmt_done setting first store) loops))
    (sym (nodes_done-before setting a b (machine_at slots store)))
    (then_related (Reaches names' size) (Reaches names' size) (stmt_done setting first store)
    (nodes_done setting a (machine_at slots store)) loops (nodes_done setting b)
    (run_first names store slots runnable_first stands ready room_a) (λ begun m is reaches.
    loop_nodes_run setting returns condition turn turns names' size runnable.0.1 stands'
    (stmt_named body names' runnable_body.0 runnable_body.1) room_test room_slot
    (λ given m' reaches'. turn_goes_on setting body step run_body run_step names' size
    runnable_body runnable_step stands' room_turn given m' reaches') begun m reaches)))
    (λ inner after reaches. left_reaches names slots store inner after ready
    (reaches_on names size first inner after reaches))

-- ---- returns

-- a constant in a variable's slot
constant_arrives : (names : Scope) (into : ℕ) (value : ℤ) (store : Store) (m : Machine) (size : ℕ)
    → Reaches names size store m
    → Arrives names into (total names) m.slots (value, store)
    (record { slots = set m.slots into value; traffic = m.traffic })
constant_arrives names into value store m size reaches = record {
  slots = m.slots;
  written = ap (λ t. record { slots = set m.slots into value; traffic = t }) reaches.traffic;
  names_are = reaches.names_are;
  holds = reaches.holds;
  kept = λ k le lt. refl;
  size = refl;
}

-- the answer's first cell says that there is an answer
answered_reaches : (names : Scope) (size : ℕ) (store : Store) (m : Machine)
    → IsNamed names answer_name → Reaches names size store m
    → Reaches names size (cell_set store answer_name 0 (pos 1))
    (record { slots = set m.slots (slot_of names answer_name) (pos 1); traffic = m.traffic })
answered_reaches names size store m named reaches =
    let same = reaches.same in
    let roomy = reaches.roomy in
    let after : Machine =
    record { slots = set m.slots (slot_of names answer_name) (pos 1); traffic = m.traffic } in
    subst (λ n. Reaches names n (cell_set store answer_name 0 (pos 1)) after) same
    (assigned_reaches names answer_name m.slots (pos 1, store) after named (omega arith)
    (constant_arrives names (slot_of names answer_name) (pos 1) store m size reaches))

-- what is returned is in the answer's second cell
given_reaches : (names : Scope) (slots : List ℤ) (given : ℤ × Store) (after : Machine)
    → IsNamed names answer_name → 1 < size_of names answer_name → total names ≤ length slots
    → Arrives names (slot_of names answer_name + 1) (total names) slots given after
    → Reaches names (length slots) (cell_set given.1 answer_name 1 given.0) after
given_reaches names slots given after named two roomy arrives =
    let variables = given.1.variables in
    let size = arrives.size in
    let top = few names variables arrives.names_are in
    let named' : IsNamed (scope_of variables) answer_name =
    subst (λ n. IsNamed n answer_name) (sym arrives.names_are) named in
    let two' : 1 < size_of (scope_of variables) answer_name =
    subst (λ n. 1 < size_of n answer_name) (sym arrives.names_are) two in
    subst (Reaches names (length slots) (cell_set given.1 answer_name 1 given.0))
    (sym arrives.written)
    (record {
      traffic = refl;
      names_are = scope_of-with_cell variables answer_name 1 given.0 ∙ arrives.names_are;
      holds = subst (λ n. Holds (with_cell variables answer_name 1 given.0)
          (set arrives.slots (slot_of n answer_name + 1) given.0)) arrives.names_are
          (Holds-with_cell variables arrives.slots answer_name 1 given.0 (omega arith)
          arrives.holds named' two');
      same = length-set arrives.slots (slot_of names answer_name + 1) given.0 ∙ size;
      roomy = roomy;
    })

return_runs : (setting : Setting) (value : Option tree.Expr) → RunsStmt setting (tree.Return value)
return_runs setting None names store slots runnable stands ready room =
    answered_reaches names (length slots) store (machine_at slots store) runnable.0.0
    (empty_reaches names store slots ready)
return_runs setting (Some value) names store slots runnable stands ready room =
    let free = total names in
    let answer = slot_of names answer_name in
    let a = expr_nodes names value (answer + 1) free in
    let last : Inst = act.Const answer (pos 1) in
    let meant : ℤ × Store → Result Store Cause =
    λ given. Ok (cell_set (cell_set given.1 answer_name 1 given.0) answer_name 0 (pos 1)) in
    let room_a : nodes_room a ≤ length slots = omega (arith, nodes_room-before a (one last)) in
    subst (Related (Reaches names (length slots))
    (result_and_then (value_of setting value store) meant))
    (sym (then_last setting a last (machine_at slots store)))
    (then_related (Arrives names (answer + 1) free slots) (Reaches names (length slots))
    (value_of setting value store) (nodes_done setting a (machine_at slots store)) meant
    (inst_done setting.port last)
    (expr_runs setting value names (answer + 1) free store slots runnable.0.1 stands ready room_a)
    (λ given m is arrives.
    answered_reaches names (length slots) (cell_set given.1 answer_name 1 given.0) m runnable.0.0
    (given_reaches names slots given m runnable.0.0 runnable.2 ready.roomy arrives)))

-- ---- statements after others

-- once there is an answer nothing more is done
rest_by_answer : (setting : Setting) (first : tree.Stmt) (rest : tree.Stmts)
    → RunsStmts setting rest → (names : Scope) (slots : List ℤ) (given : Store) (m : Machine)
    → AreRunnable setting (names_after names first) true rest
    → Stands setting (names_after names first)
    → IsNamed (names_after names first) answer_name
    → nodes_room (stmts_nodes (names_after names first) true rest) ≤ length slots
    → Reaches (names_after names first) (length slots) given m
    → (answered : Bool) → has_returned given ≡ answered
    → Related (ReachesOn names (length slots))
    (cond answered (Ok given) (stmts_done setting rest given))
    (nodes_done setting (stmts_nodes (names_after names first) true rest) m)
rest_by_answer setting first rest run names slots given m runnable stands named room reaches true
    e =
    let names' = names_after names first in
    subst (Related (ReachesOn names (length slots)) (Ok given))
    (sym (left_out setting rest names' m runnable.1
    (answer_tested names' (length slots) given m reaches named ∙ e)))
    (reaches_on names (length slots) first given m reaches)
rest_by_answer setting first rest run names slots given m runnable stands named room reaches false
    e =
    rest_runs setting first rest run true names slots given m runnable stands (λ r. (named, e)) room
    reaches

-- the rest of a block, whether its first statement returns or not
rest_goes_on : (setting : Setting) (first : tree.Stmt) (rest : tree.Stmts)
    → RunsStmts setting rest → (before returns : Bool) (names : Scope) (slots : List ℤ)
    (given : Store) (m : Machine)
    → AreRunnable setting (names_after names first) (before || returns) rest
    → Stands setting (names_after names first)
    → (before ≡ true → returns ≡ false → IsUnanswered (names_after names first) given)
    → (returns ≡ true → IsNamed (names_after names first) answer_name)
    → nodes_room (stmts_nodes (names_after names first) (before || returns) rest) ≤ length slots
    → Reaches (names_after names first) (length slots) given m
    → Related (ReachesOn names (length slots))
    (unless_returned returns (stmts_done setting rest) given)
    (nodes_done setting (stmts_nodes (names_after names first) (before || returns) rest) m)
rest_goes_on setting first rest run false false names slots given m runnable stands unanswered named
    room reaches =
    rest_runs setting first rest run false names slots given m runnable stands
    (λ r. absurd (false≢true r)) room reaches
rest_goes_on setting first rest run true false names slots given m runnable stands unanswered named
    room reaches =
    rest_runs setting first rest run true names slots given m runnable stands
    (λ r. unanswered refl refl) room reaches
rest_goes_on setting first rest run false true names slots given m runnable stands unanswered named
    room reaches =
    rest_by_answer setting first rest run names slots given m runnable stands (named refl) room
    reaches (has_returned given) refl
rest_goes_on setting first rest run true true names slots given m runnable stands unanswered named
    room reaches =
    rest_by_answer setting first rest run names slots given m runnable stands (named refl) room
    reaches (has_returned given) refl

-- ---- statements

-- code under a test of the answer needs no fewer slots
pub unless_answered_room : (names : Scope) (returns : Bool) (code : Nodes)
    → nodes_room code ≤ nodes_room (unless_answered names returns code)
unless_answered_room names false code = omega arith
unless_answered_room names true code = omega arith

mutual
  -- every statement's code does what it means
  pub stmt_runs : (setting : Setting) (s : tree.Stmt) → RunsStmt setting s
  stmt_runs setting tree.Empty names store slots runnable stands ready room =
      empty_reaches names store slots ready
  stmt_runs setting (tree.Compose statement) names store slots runnable stands ready room =
      empty_reaches names store slots ready
  stmt_runs setting (tree.Block body) names store slots runnable stands ready room =
      map_related (ReachesOn names (length slots)) (Reaches names (length slots)) (block_left store)
      (stmts_done setting body store) (nodes_done setting (stmts_nodes names false body)
      (machine_at slots store)) (stmts_runs setting body false names store slots runnable stands
      ready (λ r. absurd (false≢true r)) room)
      (λ inner after reaches. left_reaches names slots store inner after ready reaches)
  stmt_runs setting (tree.Declare kind variables) names store slots runnable stands ready room =
      variables_run setting (cells_of kind) variables names store slots runnable.0 stands ready room
  stmt_runs setting (tree.Evaluate (tree.Step step.IncrementFirst name)) names store slots runnable
      stands ready room =
      stepped_reaches names name (pos 1) store slots runnable.0 ready
  stmt_runs setting (tree.Evaluate (tree.Step step.DecrementFirst name)) names store slots runnable
      stands ready room =
      stepped_reaches names name (negsuc 0) store slots runnable.0 ready
  stmt_runs setting (tree.Evaluate (tree.Step step.IncrementAfter name)) names store slots runnable
      stands ready room =
      stepped_reaches names name (pos 1) store slots runnable.0 ready
  stmt_runs setting (tree.Evaluate (tree.Step step.DecrementAfter name)) names store slots runnable
      stands ready room =
      stepped_reaches names name (negsuc 0) store slots runnable.0 ready
  stmt_runs setting (tree.Evaluate (tree.Number value)) names store slots runnable stands ready
      room =
      evaluation_runs setting (tree.Number value) names store slots runnable.0 stands ready room
  stmt_runs setting (tree.Evaluate (tree.Truth value)) names store slots runnable stands ready room
      =
      evaluation_runs setting (tree.Truth value) names store slots runnable.0 stands ready room
  stmt_runs setting (tree.Evaluate (tree.Element name index)) names store slots runnable stands
      ready room =
      evaluation_runs setting (tree.Element name index) names store slots runnable.0 stands ready
      room
  stmt_runs setting (tree.Evaluate (tree.Peek index)) names store slots runnable stands ready room =
      evaluation_runs setting (tree.Peek index) names store slots runnable.0 stands ready room
  stmt_runs setting (tree.Evaluate (tree.Call name arguments)) names store slots runnable stands
      ready room =
      evaluation_runs setting (tree.Call name arguments) names store slots runnable.0 stands ready
      room
  stmt_runs setting (tree.Evaluate (tree.StepElement operator name index)) names store slots
      runnable stands ready room =
      evaluation_runs setting (tree.StepElement operator name index) names store slots runnable.0
      stands ready room
  stmt_runs setting (tree.Evaluate (tree.Conditional condition chosen other)) names store slots
      runnable stands ready room =
      evaluation_runs setting (tree.Conditional condition chosen other) names store slots
      runnable.0 stands ready room
  stmt_runs setting (tree.Evaluate (tree.Read name)) names store slots runnable stands ready room =
      evaluation_runs setting (tree.Read name) names store slots runnable.0 stands ready room
  stmt_runs setting (tree.Evaluate tree.Pop) names store slots runnable stands ready room =
      evaluation_runs setting tree.Pop names store slots runnable.0 stands ready room
  stmt_runs setting (tree.Evaluate (tree.Group inner)) names store slots runnable stands ready room
      =
      evaluation_runs setting (tree.Group inner) names store slots runnable.0 stands ready room
  stmt_runs setting (tree.Evaluate (tree.Unary operator operand)) names store slots runnable stands
      ready room =
      evaluation_runs setting (tree.Unary operator operand) names store slots runnable.0 stands
      ready room
  stmt_runs setting (tree.Evaluate (tree.Binary operator left right)) names store slots runnable
      stands ready room =
      evaluation_runs setting (tree.Binary operator left right) names store slots runnable.0 stands
      ready room
  stmt_runs setting (tree.Assign name operator value) names store slots runnable stands ready room =
      let e = assigned_value name operator value in
      let into = slot_of names name in
      let free = total names in
      map_related (Arrives names into free slots) (Reaches names (length slots))
      (λ given. assigned given.1 name given.0) (value_of setting e store)
      (nodes_done setting (expr_nodes names e into free) (machine_at slots store))
      (expr_runs setting e names into free store slots
      (assigned_closed names name operator value runnable.0.0 runnable.0.1) stands ready room)
      (λ given after arrives. assigned_reaches names name slots given after runnable.0.0 ready.roomy
      arrives)
  stmt_runs setting (tree.AssignElement name index operator value) names store slots runnable stands
      ready room =
      element_assigned setting name index operator value names store slots runnable stands ready
      room
  stmt_runs setting (tree.If condition chosen) names store slots runnable stands ready room =
      let a = operand_nodes names true condition (total names) in
      let slot = operand_slot names true condition (total names) in
      let b = stmt_nodes names chosen in
      let room_b : nodes_room b ≤ length slots =
      omega (arith, nodes_room-before a (Choice slot b End End)) in
      choice_runs setting condition b End (inside (stmt_done setting chosen))
      (λ given. Ok given) names store slots runnable.0.0 stands ready room
      (λ given m reaches. inside_goes_on setting chosen (stmt_runs setting chosen) names
      (length slots) (runnable.0.1, runnable.1, runnable.2) stands room_b given m reaches)
      (λ given m reaches. reaches)
  stmt_runs setting (tree.IfElse condition chosen other) names store slots runnable stands ready
      room =
      let a = operand_nodes names true condition (total names) in
      let slot = operand_slot names true condition (total names) in
      let b = stmt_nodes names chosen in
      let c = stmt_nodes names other in
      let room_b : nodes_room b ≤ length slots =
      omega (arith, nodes_room-before a (Choice slot b c End)) in
      let room_c : nodes_room c ≤ length slots =
      omega (arith, nodes_room-before a (Choice slot b c End)) in
      let runnable_chosen : IsRunnable setting names chosen =
      (runnable.0.1, or_first (stmt_shadows chosen) (stmt_shadows other) runnable.1, runnable.2.0)
      in
      let runnable_other : IsRunnable setting names other =
      (runnable.0.2, or_second (stmt_shadows chosen) (stmt_shadows other) runnable.1, runnable.2.1)
      in
      choice_runs setting condition b c (inside (stmt_done setting chosen))
      (inside (stmt_done setting other)) names store slots runnable.0.0 stands ready room
      (λ given m reaches. inside_goes_on setting chosen (stmt_runs setting chosen) names
      (length slots) runnable_chosen stands room_b given m reaches)
      (λ given m reaches. inside_goes_on setting other (stmt_runs setting other) names
      (length slots) runnable_other stands room_c given m reaches)
  stmt_runs setting (tree.While condition body) names store slots runnable stands ready room =
      let returns = stmt_returns body in
      let a = loop_test names returns (Some condition) in
      let b = stmt_nodes names body in
      let room_a : nodes_room a ≤ length slots = omega arith in
      let room_b : nodes_room b ≤ length slots = omega arith in
      let room_slot : loop_slot names returns (Some condition) + 1 ≤ length slots = omega arith in
      loop_nodes_run setting returns (Some condition) b (inside (stmt_done setting body)) names
      (length slots) runnable.0.0 stands (stmt_named body names runnable.0.1 runnable.1) room_a
      room_slot (λ given m reaches. inside_goes_on setting body (stmt_runs setting body) names
      (length slots) (runnable.0.1, runnable.1, runnable.2) stands room_b given m reaches) store
      (machine_at slots store) (empty_reaches names store slots ready)
  stmt_runs setting (tree.For first condition step body) names store slots runnable stands ready
      room =
      for_runs setting first condition step body (stmt_runs setting first) (stmt_runs setting step)
      (stmt_runs setting body) names store slots runnable stands ready room
  stmt_runs setting (tree.Push value) names store slots runnable stands ready room =
      push_runs setting value names store slots runnable stands ready room
  stmt_runs setting (tree.Print value) names store slots runnable stands ready room =
      used_runs setting value act.Print (λ given. Ok
      (record given.1 {
        traffic = printed
            (record { value = given.0; ends_line = false }) given.1.traffic;
      })) names store slots
      runnable.0 stands ready room (λ given m in_slot. printed_reaches names slots false
      (operand_slot names true value (total names)) given m ready.roomy in_slot)
  stmt_runs setting (tree.Println value) names store slots runnable stands ready room =
      used_runs setting value act.Println (λ given. Ok
      (record given.1 {
        traffic = printed
            (record { value = given.0; ends_line = true }) given.1.traffic;
      })) names store slots
      runnable.0 stands ready room (λ given m in_slot. printed_reaches names slots true
      (operand_slot names true value (total names)) given m ready.roomy in_slot)
  stmt_runs setting (tree.Return value) names store slots runnable stands ready room =
      return_runs setting value names store slots runnable stands ready room

  -- and the code of statements, one after another
  pub stmts_runs : (setting : Setting) (b : tree.Stmts) → RunsStmts setting b
  stmts_runs setting tree.Done returns names store slots runnable stands ready unanswered room =
      record {
        traffic = refl;
        base = rw ready.names_are (base_of_itself names);
        holds =
            ready.holds;
        same = refl;
      }
  stmts_runs setting (tree.Then first rest) returns names store slots runnable stands ready
      unanswered room =
      let names' = names_after names first in
      let size = length slots in
      let machine = machine_at slots store in
      let code = stmt_nodes names first in
      let a = unless_answered names returns code in
      let b = stmts_nodes names' (returns || stmt_returns first) rest in
      let does = unless_returned (stmt_returns first) (stmts_done setting rest) in
      let room_first : nodes_room code ≤ size =
      omega (arith, nodes_room-before a b, unless_answered_room names returns code) in
      let room_b : nodes_room b ≤ size = omega (arith, nodes_room-before a b) in
      let shown_first = or_first (stmt_shadows first) (stmts_shadow rest) runnable.1 in
      let shown_rest = or_second (stmt_shadows first) (stmts_shadow rest) runnable.1 in
      let first_is : nodes_done setting a machine ≡ nodes_done setting code machine =
      unless_answered_done setting names returns code machine
      (λ r. let none = unanswered r in
      answer_tested names size store machine (empty_reaches names store slots ready) none.0
      ∙ none.1) in
      subst (Related (ReachesOn names size) (result_and_then (stmt_done setting first store) does))
      (sym (nodes_done-before setting a b machine
      ∙ ap (λ r. result_and_then r (nodes_done setting b)) first_is))
      (then_related (Reaches names' size) (ReachesOn names size) (stmt_done setting first store)
      (nodes_done setting code machine) does (nodes_done setting b)
      (stmt_runs setting first names store slots (runnable.0.0, shown_first, runnable.2.0) stands
      ready room_first) (λ given m is reaches.
      rest_goes_on setting first rest (stmts_runs setting rest) returns (stmt_returns first) names
      slots given m (runnable.0.1, shown_rest, runnable.2.2)
      (stands_after setting names first stands)
      (λ r none. let before = unanswered r in (
        named_after names first shown_first before.0,
        runnable.2.1 r none store given ready.names_are is before.1,
      ))
      (λ r. named_after names first shown_first
      (stmt_named first names runnable.0.0 shown_first r)) room_b reaches))
