-- The code of a text prints just where it does.
use Rattle.std.proofs.Common.{◌≡◌, ℕ, zero, suc, ◌+◌, Bool, true, false, ◌||◌, pos, List, []}
use Rattle.std.proofs.Common.{◌∷◌}
use Rattle.std.proofs.Common.{Option, Some, None, Result, Ok, Err, refl, sym, ap, ◌∙◌}
use Rattle.std.specs.Prelude.{unwrap_or}
use Rattle.strc_parse_tree.specs.Tree as tree
use Rattle.strc_parse_tree.specs.declared.tree.UnaryOperator.{UnaryOperator}
use Rattle.strc_parse_tree.specs.declared.tree.UnaryOperator.TheVariants as unary
use Rattle.strc_parse_tree.specs.declared.tree.BinaryOperator.{BinaryOperator}
use Rattle.strc_parse_tree.specs.declared.tree.BinaryOperator.TheVariants as binary
use Rattle.strc_parse_tree.specs.declared.tree.AssignOperator.{AssignOperator}
use Rattle.strc_parse_tree.specs.declared.tree.AssignOperator.TheVariants as assign
use Rattle.strc_parse_tree.specs.declared.tree.StepOperator.{StepOperator}
use Rattle.strc_parse_tree.specs.declared.tree.StepOperator.TheVariants as step
use Rattle.strc_work_code.specs.declared.inst.Inst.{Inst}
use Rattle.strc_work_code.specs.declared.inst.Inst.TheVariants as act
use Rattle.strc_work_meaning.specs.declared.body.Body.{Body}
use Rattle.strc_work_meaning.specs.declared.fault.Halt.{Halt}
use Rattle.strc_work_meaning.specs.declared.fault.Halt.TheVariants as halt
use Rattle.strc_work_instructions.specs.Running.{WantsOnlyWords}
use Rattle.strc_work_meaning.specs.Filters.{Filter, stmt_prints, stmts_print, body_block}
use Rattle.strc_work_meaning.specs.Filters.{body_prints}
use Rattle.strc_work_meaning.specs.Firing.{assigned_value}
use Rattle.strc_work_meaning.specs.Scoping.{Scope, answer_name, cells_of, total, slot_of, size_of}
use Rattle.strc_work_meaning.specs.Scoping.{names_after}
use Rattle.strc_work_code.specs.Nodes.{Nodes, End, Act, Choice, Loop, Call, before}
use Rattle.strc_work_code.specs.Nodes.{inst_prints, nodes_print}
use Rattle.strc_work_code.specs.Lowering.{unless_there, variable_slot, alias_slot}
use Rattle.strc_work_code.specs.Lowering.{writes_no_variable}
use Rattle.strc_work_code.specs.Lowering.{one, unary_step, binary_step, step_nodes}
use Rattle.strc_work_code.specs.Lowering.{element_step_nodes}
use Rattle.strc_work_code.specs.Lowering.{binary_nodes, expr_nodes, arguments_nodes}
use Rattle.strc_work_meaning.specs.Calls.{argument_count}
use Rattle.strc_work_code.specs.Lowering.{operand_slot, operand_nodes}
use Rattle.strc_work_code.specs.Lowering.{evaluation_nodes, used_nodes, compound_nodes}
use Rattle.strc_work_code.specs.Lowering.{element_nodes}
use Rattle.strc_work_code.specs.Lowering.{initial_nodes, variables_nodes, condition_nodes}
use Rattle.strc_work_code.specs.Lowering.{held_nodes, loop_test, loop_slot, unless_answered}
use Rattle.strc_work_code.specs.Lowering.{return_nodes, stmt_nodes, stmts_nodes, body_nodes}
use Rattle.strc_work_code.specs.Lowering.{field_scope}
use Rattle.strc_work_meaning.specs.Returns.{stmt_returns}
use Rattle.strc_work.proofs.Expressions.{by_operator}

-- ---- truths

or_by_result : (a b c d : Bool) → d ≡ b || c → a || d ≡ (a || b) || c
or_by_result true b c d e = refl
or_by_result false b c d e = e

three_or : (a b c d e : Bool) → e ≡ c || d → a || b || e ≡ (a || b || c) || d
three_or true b c d e h = refl
three_or false true c d e h = refl
three_or false false c d e h = h

-- two that are silent before a third
two_silent : (a b c : Bool) → a ≡ false → b ≡ false → a || b || c ≡ c
two_silent false false c e e' = refl
two_silent true b c e e' = absurd (cc)
two_silent false true c e e' = absurd (cc)

-- a silent one before, and nothing after
one_of_two : (a b : Bool) → a ≡ false → a || b || false ≡ b
one_of_two false true e = refl
one_of_two false false e = refl
one_of_two true b e = absurd (cc)

first_of_two : (a b : Bool) → b ≡ false → a || b || false ≡ a
first_of_two true b e = refl
first_of_two false false e = refl
first_of_two false true e = absurd (cc)

both_of_two : (a b : Bool) → a || b || false ≡ a || b
both_of_two true b = refl
both_of_two false true = refl
both_of_two false false = refl

or_turned : (a b : Bool) → a || b ≡ b || a
or_turned true true = refl
or_turned true false = refl
or_turned false true = refl
or_turned false false = refl

-- ---- code after other code

nodes_print-before : (a b : Nodes) → nodes_print (before a b) ≡ nodes_print a || nodes_print b
nodes_print-before End b = refl
nodes_print-before (Act first rest) b =
    or_by_result (inst_prints first) (nodes_print rest) (nodes_print b)
    (nodes_print (before rest b)) (nodes_print-before rest b)
nodes_print-before (Choice slot chosen other rest) b =
    three_or (nodes_print chosen) (nodes_print other) (nodes_print rest) (nodes_print b)
    (nodes_print (before rest b)) (nodes_print-before rest b)
nodes_print-before (Loop condition slot body rest) b =
    three_or (nodes_print condition) (nodes_print body) (nodes_print rest) (nodes_print b)
    (nodes_print (before rest b)) (nodes_print-before rest b)
nodes_print-before (Call name first count into rest) b = nodes_print-before rest b

-- silent code before other code
silent-before : (a b : Nodes) → nodes_print a ≡ false → nodes_print (before a b) ≡ nodes_print b
silent-before a b e = nodes_print-before a b ∙ ap (λ t. t || nodes_print b) e

-- ---- expressions

unless_there_silent : (o : Option ℕ) (code : Nodes) → nodes_print code ≡ false
    → nodes_print (unless_there o code) ≡ false
unless_there_silent None code e = e
unless_there_silent (Some slot) code e = refl

unary_silent : (operator : UnaryOperator) (into from : ℕ)
    → nodes_print (one (unary_step operator into from)) ≡ false
unary_silent unary.Negate into from = refl
unary_silent unary.Not into from = refl
unary_silent unary.Complement into from = refl

binary_silent : (operator : BinaryOperator) (into left right : ℕ)
    → nodes_print (one (binary_step operator into left right)) ≡ false
binary_silent binary.LogicalOr into left right = refl
binary_silent binary.LogicalAnd into left right = refl
binary_silent binary.Equal into left right = refl
binary_silent binary.NotEqual into left right = refl
binary_silent binary.Less into left right = refl
binary_silent binary.LessOrEqual into left right = refl
binary_silent binary.Greater into left right = refl
binary_silent binary.GreaterOrEqual into left right = refl
binary_silent binary.Or into left right = refl
binary_silent binary.ExclusiveOr into left right = refl
binary_silent binary.And into left right = refl
binary_silent binary.ShiftLeft into left right = refl
binary_silent binary.ShiftRight into left right = refl
binary_silent binary.Add into left right = refl
binary_silent binary.Subtract into left right = refl
binary_silent binary.Multiply into left right = refl
binary_silent binary.Divide into left right = refl
binary_silent binary.Remainder into left right = refl

step_silent : (operator : StepOperator) (slot into free : ℕ)
    → nodes_print (step_nodes operator slot into free) ≡ false
step_silent step.IncrementFirst slot into free = refl
step_silent step.DecrementFirst slot into free = refl
step_silent step.IncrementAfter slot into free = refl
step_silent step.DecrementAfter slot into free = refl

-- an operator between its operands is silent where these are
between_silent : (operator : BinaryOperator) (left right other : Nodes) (into free : ℕ)
    → nodes_print left ≡ false → nodes_print right ≡ false → nodes_print other ≡ false
    → nodes_print (binary_nodes operator left right other into free) ≡ false
between_silent operator left right other into free silent silent' silent'' =
    by_operator (λ o. nodes_print (binary_nodes o left right other into free) ≡ false)
    (silent-before left (Choice free End right (one (act.Copy into free))) silent
    ∙ two_silent false (nodes_print right) false refl silent')
    (silent-before left (Choice free right End (one (act.Copy into free))) silent
    ∙ two_silent (nodes_print right) false false silent' refl)
    (λ o strict. ap nodes_print (strict.code left right other into free) ∙ silent'')
    operator

mutual
  expr_silent : (names : Scope) (e : tree.Expr) (into free : ℕ)
      → nodes_print (expr_nodes names e into free) ≡ false
  expr_silent names (tree.Number value) into free = refl
  expr_silent names (tree.Truth value) into free = refl
  expr_silent names (tree.Read name) into free = refl
  expr_silent names (tree.Element name index) into free =
      let o = variable_slot names index in
      let a = expr_nodes names index free (free + 1) in
      silent-before (unless_there o a) (one
      (act.Load into (slot_of names name) (size_of names name) (unwrap_or o free) 0))
      (unless_there_silent o a (expr_silent names index free (free + 1)))
  expr_silent names tree.Pop into free = refl
  expr_silent names (tree.Peek index) into free =
      let o = variable_slot names index in
      let a = expr_nodes names index free (free + 1) in
      silent-before (unless_there o a) (one (act.Peek into (unwrap_or o free) 0))
      (unless_there_silent o a (expr_silent names index free (free + 1)))
  expr_silent names (tree.Call name arguments) into free =
      silent-before (arguments_nodes names arguments free)
      (Call name free (argument_count arguments) into End)
      (arguments_silent names arguments free)
  expr_silent names (tree.Group inner) into free = expr_silent names inner into free
  expr_silent names (tree.Unary operator operand) into free =
      let o = variable_slot names operand in
      let a = expr_nodes names operand free (free + 1) in
      let last = unary_step operator into (unwrap_or o free) in
      silent-before (unless_there o a) (one last)
      (unless_there_silent o a (expr_silent names operand free (free + 1)))
      ∙ unary_silent operator into (unwrap_or o free)
  expr_silent names (tree.Step operator name) into free =
      step_silent operator (slot_of names name) into free
  expr_silent names (tree.StepElement operator name index) into free =
      let o = variable_slot names index in
      let a = expr_nodes names index free (free + 1) in
      silent-before (unless_there o a) (element_step_nodes operator (slot_of names name)
      (size_of names name) (unwrap_or o free) into (free + 1))
      (unless_there_silent o a (expr_silent names index free (free + 1)))
  expr_silent names (tree.Binary operator left right) into free =
      let o = alias_slot names (writes_no_variable right) left in
      let p = variable_slot names right in
      let a = expr_nodes names left free (free + 1) in
      let b = expr_nodes names right (free + 1) (free + 1 + 1) in
      let last = one (binary_step operator into (unwrap_or o free) (unwrap_or p (free + 1))) in
      let other = before (unless_there o a) (before (unless_there p b) last) in
      let other_silent : nodes_print other ≡ false =
      silent-before (unless_there o a) (before (unless_there p b) last)
      (unless_there_silent o a (expr_silent names left free (free + 1)))
      ∙ silent-before (unless_there p b) last
      (unless_there_silent p b (expr_silent names right (free + 1) (free + 1 + 1)))
      ∙ binary_silent operator into (unwrap_or o free) (unwrap_or p (free + 1)) in
      between_silent operator a (expr_nodes names right free (free + 1)) other into free
      (expr_silent names left free (free + 1))
      (expr_silent names right free (free + 1)) other_silent
  expr_silent names (tree.Conditional condition chosen other) into free =
      let o = variable_slot names condition in
      let a = expr_nodes names condition free (free + 1) in
      let b = expr_nodes names chosen into free in
      let c = expr_nodes names other into free in
      silent-before (unless_there o a) (Choice (unwrap_or o free) b c End)
      (unless_there_silent o a (expr_silent names condition free (free + 1)))
      ∙ two_silent (nodes_print b) (nodes_print c) false (expr_silent names chosen into free)
      (expr_silent names other into free)

  arguments_silent : (names : Scope) (arguments : tree.Arguments) (free : ℕ)
      → nodes_print (arguments_nodes names arguments free) ≡ false
  arguments_silent names tree.NoArgument free = refl
  arguments_silent names (tree.Argument first rest) free =
      silent-before (expr_nodes names first free (free + 1))
      (arguments_nodes names rest (free + 1)) (expr_silent names first free (free + 1))
      ∙ arguments_silent names rest (free + 1)

-- ---- statements

operand_silent : (names : Scope) (may_alias : Bool) (e : tree.Expr) (free : ℕ)
    → nodes_print (operand_nodes names may_alias e free) ≡ false
operand_silent names may_alias e free =
    unless_there_silent (alias_slot names may_alias e) (expr_nodes names e free (free + 1))
    (expr_silent names e free (free + 1))

condition_silent : (names : Scope) (condition : Option tree.Expr)
    → nodes_print (condition_nodes names condition) ≡ false
condition_silent names None = refl
condition_silent names (Some condition) = operand_silent names true condition (total names)

used_print : (names : Scope) (e : tree.Expr) (last : ℕ → Inst)
    → nodes_print (used_nodes names e last)
    ≡ nodes_print (one (last (operand_slot names true e (total names))))
used_print names e last =
    silent-before (operand_nodes names true e (total names))
    (one (last (operand_slot names true e (total names))))
    (operand_silent names true e (total names))

evaluation_silent : (names : Scope) (e : tree.Expr)
    → nodes_print (evaluation_nodes names e (total names)) ≡ false
evaluation_silent names (tree.Step operator name) = refl
evaluation_silent names (tree.Number value) = refl
evaluation_silent names (tree.Truth value) =
    expr_silent names (tree.Truth value) (total names) (total names + 1)
evaluation_silent names (tree.Read name) = refl
evaluation_silent names (tree.Element name index) =
    expr_silent names (tree.Element name index) (total names) (total names + 1)
evaluation_silent names (tree.Peek index) =
    expr_silent names (tree.Peek index) (total names) (total names + 1)
evaluation_silent names (tree.Call name arguments) =
    expr_silent names (tree.Call name arguments) (total names) (total names + 1)
evaluation_silent names (tree.StepElement operator name index) =
    expr_silent names (tree.StepElement operator name index) (total names) (total names + 1)
evaluation_silent names (tree.Conditional condition chosen other) =
    expr_silent names (tree.Conditional condition chosen other) (total names) (total names + 1)
evaluation_silent names tree.Pop = refl
evaluation_silent names (tree.Group inner) =
    expr_silent names (tree.Group inner) (total names) (total names + 1)
evaluation_silent names (tree.Unary operator operand) =
    expr_silent names (tree.Unary operator operand) (total names) (total names + 1)
evaluation_silent names (tree.Binary operator left right) =
    expr_silent names (tree.Binary operator left right) (total names) (total names + 1)

initial_silent : (names : Scope) (cells : ℕ) (initial : Option tree.Expr) (into free : ℕ)
    → nodes_print (initial_nodes names cells initial into free) ≡ false
initial_silent names zero None into free = refl
initial_silent names (suc zero) None into free = refl
initial_silent names (suc (suc more)) None into free = refl
initial_silent names cells (Some initial) into free = expr_silent names initial into free

variables_silent : (names : Scope) (cells : ℕ) (variables : List tree.Variable)
    → nodes_print (variables_nodes names cells variables) ≡ false
variables_silent names cells [] = refl
variables_silent names cells (first ∷ rest) =
    let names' : Scope = record { 0 = first.name; 1 = cells } ∷ names in
    silent-before (initial_nodes names cells first.initial (total names) (total names + cells))
    (variables_nodes names' cells rest)
    (initial_silent names cells first.initial (total names) (total names + cells))
    ∙ variables_silent names' cells rest

compound_silent : (names : Scope) (name : List ℕ) (index : ℕ) (operator : BinaryOperator)
    (value : tree.Expr) (free : ℕ) → nodes_print
    (compound_nodes names name index operator value free) ≡ false
compound_silent names name index operator value free =
    let c = operand_nodes names true value (free + 1) in
    let last = binary_step operator free free (operand_slot names true value (free + 1)) in
    let store = one (act.Store (slot_of names name) (size_of names name) index free 0) in
    silent-before c (Act last store) (operand_silent names true value (free + 1))
    ∙ binary_silent operator free free (operand_slot names true value (free + 1))

element_silent : (names : Scope) (name : List ℕ) (index : ℕ) (operator : AssignOperator)
    (value : tree.Expr) (free : ℕ) → nodes_print
    (element_nodes names name index operator value free) ≡ false
element_silent names name index assign.Set value free =
    silent-before (operand_nodes names true value free)
    (one (act.Store (slot_of names name) (size_of names name) index
    (operand_slot names true value free) 0)) (operand_silent names true value free)
element_silent names name index assign.Add value free =
    compound_silent names name index binary.Add value free
element_silent names name index assign.Subtract value free =
    compound_silent names name index binary.Subtract value free
element_silent names name index assign.Multiply value free =
    compound_silent names name index binary.Multiply value free
element_silent names name index assign.Divide value free =
    compound_silent names name index binary.Divide value free
element_silent names name index assign.Remainder value free =
    compound_silent names name index binary.Remainder value free

loop_test_silent : (names : Scope) (returns : Bool) (condition : Option tree.Expr)
    → nodes_print (loop_test names returns condition) ≡ false
loop_test_silent names false condition = condition_silent names condition
loop_test_silent names true None = refl
loop_test_silent names true (Some condition) =
    one_of_two false (nodes_print (held_nodes names (Some condition))) refl
    ∙ expr_silent names condition (total names) (total names + 1)

unless_answered_print : (names : Scope) (returns : Bool) (code : Nodes)
    → nodes_print (unless_answered names returns code) ≡ nodes_print code
unless_answered_print names false code = refl
unless_answered_print names true code = one_of_two false (nodes_print code) refl

return_silent : (names : Scope) (value : Option tree.Expr)
    → nodes_print (return_nodes names value) ≡ false
return_silent names None = refl
return_silent names (Some value) =
    let slot = slot_of names answer_name in
    silent-before (expr_nodes names value (slot + 1) (total names))
    (one (act.Const slot (pos 1)))
    (expr_silent names value (slot + 1) (total names))

mutual
  stmt_print : (names : Scope) (s : tree.Stmt)
      → nodes_print (stmt_nodes names s) ≡ stmt_prints s
  stmt_print names tree.Empty = refl
  stmt_print names (tree.Compose statement) = refl
  stmt_print names (tree.Block body) = stmts_print_is names false body
  stmt_print names (tree.Declare kind variables) =
      variables_silent names (cells_of kind) variables
  stmt_print names (tree.Evaluate value) = evaluation_silent names value
  stmt_print names (tree.Assign name operator value) =
      expr_silent names (assigned_value name operator value) (slot_of names name) (total names)
  stmt_print names (tree.AssignElement name index operator value) =
      let may_alias = writes_no_variable value in
      let from = operand_slot names may_alias index (total names) in
      silent-before (operand_nodes names may_alias index (total names))
      (element_nodes names name from operator value (total names + 1))
      (operand_silent names may_alias index (total names))
      ∙ element_silent names name from operator value (total names + 1)
  stmt_print names (tree.If condition chosen) =
      let b = stmt_nodes names chosen in
      silent-before (operand_nodes names true condition (total names))
      (Choice (operand_slot names true condition (total names)) b End End)
      (operand_silent names true condition (total names))
      ∙ first_of_two (nodes_print b) false refl
      ∙ stmt_print names chosen
  stmt_print names (tree.IfElse condition chosen other) =
      let b = stmt_nodes names chosen in
      let c = stmt_nodes names other in
      silent-before (operand_nodes names true condition (total names))
      (Choice (operand_slot names true condition (total names)) b c End)
      (operand_silent names true condition (total names))
      ∙ both_of_two (nodes_print b) (nodes_print c)
      ∙ ap (λ t. t || nodes_print c) (stmt_print names chosen)
      ∙ ap (λ t. stmt_prints chosen || t) (stmt_print names other)
  stmt_print names (tree.While condition body) =
      let returns = stmt_returns body in
      let a = loop_test names returns (Some condition) in
      let b = stmt_nodes names body in
      one_of_two (nodes_print a) (nodes_print b) (loop_test_silent names returns (Some condition))
      ∙ stmt_print names body
  stmt_print names (tree.For first condition step body) =
      let inner = names_after names first in
      let returns = stmt_returns body in
      let a = stmt_nodes names first in
      let b = stmt_nodes inner body in
      let c = stmt_nodes inner step in
      let c' = unless_answered inner returns c in
      let d = loop_test inner returns condition in
      let turn = before b c' in
      nodes_print-before a (Loop d (loop_slot inner returns condition) turn End)
      ∙ ap (λ t. nodes_print a || t) (one_of_two (nodes_print d) (nodes_print turn)
      (loop_test_silent inner returns condition) ∙ nodes_print-before b c'
      ∙ ap (λ t. nodes_print b || t) (unless_answered_print inner returns c)
      ∙ or_turned (nodes_print b) (nodes_print c))
      ∙ ap (λ t. t || (nodes_print c || nodes_print b)) (stmt_print names first)
      ∙ ap (λ t. stmt_prints first || (t || nodes_print b)) (stmt_print inner step)
      ∙ ap (λ t. stmt_prints first || (stmt_prints step || t)) (stmt_print inner body)
  stmt_print names (tree.Push value) = used_print names value act.Push
  stmt_print names (tree.Print value) = used_print names value act.Print
  stmt_print names (tree.Println value) = used_print names value act.Println
  stmt_print names (tree.Return value) = return_silent names value

  pub stmts_print_is : (names : Scope) (returns : Bool) (b : tree.Stmts)
      → nodes_print (stmts_nodes names returns b) ≡ stmts_print b
  stmts_print_is names returns tree.Done = refl
  stmts_print_is names returns (tree.Then first rest) =
      let code = stmt_nodes names first in
      let rest_code = stmts_nodes (names_after names first) (returns || stmt_returns first) rest in
      nodes_print-before (unless_answered names returns code) rest_code
      ∙ ap (λ t. t || nodes_print rest_code)
      (unless_answered_print names returns code ∙ stmt_print names first)
      ∙ ap (λ t. stmt_prints first || t)
      (stmts_print_is (names_after names first) (returns || stmt_returns first) rest)

-- a body's code prints just where its text does
pub body_print : (body : Body) (filter : Filter)
    → nodes_print (body_nodes body filter) ≡ stmts_print (body_block body filter.members)
body_print body filter =
    stmts_print_is (field_scope filter) false (body_block body filter.members)

-- out of memory at code that prints where other code does
wants_also : (prints prints' : Bool) → (prints ≡ true → prints' ≡ true)
    → (result : Result (Unit {0}) Halt) → WantsOnlyWords prints result
    → WantsOnlyWords prints' result
wants_also prints prints' more (Ok done) wants = tt
wants_also prints prints' more (Err (halt.Fault cause)) wants = tt
wants_also prints prints' more (Err halt.NoMemory) wants = more wants

-- only a body that prints can run out of memory when it is fired
pub body_wants : (body : Body) (filter : Filter) (code : Nodes) (result : Result (Unit {0}) Halt)
    → code ≡ body_nodes body filter
    → WantsOnlyWords (nodes_print code) result → WantsOnlyWords (body_prints body filter) result
body_wants body filter code result code_is wants =
    wants_also (nodes_print code) (body_prints body filter)
    (λ prints. sym (body_print body filter) ∙ sym (ap nodes_print code_is) ∙ prints)
    result wants
