-- Lowered code is plain.
use Rattle.std.proofs.Common.{◌≡◌, ℕ, zero, suc, ◌+◌, Bool, true, false, List, []}
use Rattle.std.proofs.Common.{◌∷◌, Option, Some, None, refl}
use Rattle.std.specs.Prelude.{unwrap_or}
use Rattle.strc_parse_tree.specs.Tree as tree
use Rattle.strc_parse_tree.specs.declared.tree.AssignOperator.{AssignOperator}
use Rattle.strc_parse_tree.specs.declared.tree.AssignOperator.TheVariants as assign
use Rattle.strc_parse_tree.specs.declared.tree.StepOperator.{StepOperator}
use Rattle.strc_parse_tree.specs.declared.tree.StepOperator.TheVariants as step
use Rattle.strc_parse_tree.specs.declared.tree.UnaryOperator.{UnaryOperator}
use Rattle.strc_parse_tree.specs.declared.tree.UnaryOperator.TheVariants as unary
use Rattle.strc_parse_tree.specs.declared.tree.BinaryOperator.{BinaryOperator}
use Rattle.strc_parse_tree.specs.declared.tree.BinaryOperator.TheVariants as binary
use Rattle.strc_work_meaning.specs.Firing.{assigned_value}
use Rattle.strc_work_meaning.specs.Filters.{body_block}
use Rattle.strc_work_meaning.specs.Returns.{stmt_returns}
use Rattle.strc_work_meaning.specs.Scoping.{Scope, cells_of, names_after, total}
use Rattle.strc_work_code.specs.declared.inst.Inst.{Inst}
use Rattle.strc_work_code.specs.declared.inst.Inst.TheVariants as act
use Rattle.strc_work_code.specs.Nodes.{Nodes, End, Act, Choice, Loop, Call, before}
use Rattle.strc_work_code.specs.Lowering.{variable_slot, writes_no_variable, alias_slot}
use Rattle.strc_work_code.specs.Lowering.{unless_there, one, unary_step, binary_step, step_nodes}
use Rattle.strc_work_code.specs.Lowering.{binary_nodes, expr_nodes}
use Rattle.strc_work_code.specs.Lowering.{arguments_nodes, operand_nodes, zeros_step}
use Rattle.strc_work_code.specs.Lowering.{initial_nodes, variables_nodes, evaluation_nodes}
use Rattle.strc_work_code.specs.Lowering.{used_nodes, condition_nodes, held_nodes, compound_nodes}
use Rattle.strc_work_code.specs.Lowering.{element_nodes, unless_answered, loop_test, return_nodes}
use Rattle.strc_work_code.specs.Lowering.{stmt_nodes, stmts_nodes, field_scope}
use Rattle.strc_emit_meaning.specs.Plain.{is_plain, IsPlain}
use Rattle.strc_emit_meaning.specs.Known.{IsKnown, AreKnownArguments, IsKnownOption}
use Rattle.strc_emit_meaning.specs.Known.{AreKnownVariables, IsKnownStmt, AreKnown, LoweredIsPlain}
use Rattle.strc_emit_meaning.specs.Known.{BodiesArePlain}

unary_plain : (operator : UnaryOperator) (into from : ℕ)
    → is_plain (unary_step operator into from) ≡ true
unary_plain unary.Negate into from = refl
unary_plain _ into from = refl

binary_plain : (operator : BinaryOperator) (into left right : ℕ)
    → is_plain (binary_step operator into left right) ≡ true
binary_plain binary.LogicalOr into left right = refl
binary_plain _ into left right = refl

zeros_plain : (into cells : ℕ) → is_plain (zeros_step into cells) ≡ true
zeros_plain into zero = refl
zeros_plain into (suc zero) = refl
zeros_plain into (suc (suc cells)) = refl

assigned_known : (known : List ℕ → ℕ → Bool) (name : List ℕ) (operator : AssignOperator)
    (value : tree.Expr) → IsKnown known value → IsKnown known (assigned_value name operator value)
assigned_known known name assign.Set value h = h
assigned_known known name _ value h = (tt, h)

module _ (known : List ℕ → ℕ → Bool) where
  before_plain : (a b : Nodes) → IsPlain known a → IsPlain known b → IsPlain known (before a b)
  before_plain End b h k = k
  before_plain (Act inst rest) b h k = (h.0, before_plain rest b h.1 k)
  before_plain (Choice slot chosen other rest) b h k = (h.0, h.1, before_plain rest b h.2 k)
  before_plain (Loop condition slot body rest) b h k = (h.0, h.1, before_plain rest b h.2 k)
  before_plain (Call name first count into rest) b h k = (h.0, before_plain rest b h.1 k)

  unless_plain : (o : Option ℕ) (code : Nodes) → IsPlain known code
      → IsPlain known (unless_there o code)
  unless_plain None code h = h
  unless_plain (Some slot) code h = tt

  step_plain : (operator : StepOperator) (slot into free : ℕ)
      → IsPlain known (step_nodes operator slot into free)
  step_plain step.IncrementFirst slot into free = (refl, (refl, tt))
  step_plain step.DecrementFirst slot into free = (refl, (refl, tt))
  step_plain step.IncrementAfter slot into free = (refl, (refl, (refl, tt)))
  step_plain step.DecrementAfter slot into free = (refl, (refl, (refl, tt)))

  binary_nodes_plain : (operator : BinaryOperator) (left right other : Nodes) (into free : ℕ)
      → IsPlain known left → IsPlain known right → IsPlain known other
      → IsPlain known (binary_nodes operator left right other into free)
  binary_nodes_plain binary.LogicalOr left right other into free l r o =
      before_plain left (Choice free End right (one (act.Copy into free))) l (tt, r, (refl, tt))
  binary_nodes_plain binary.LogicalAnd left right other into free l r o =
      before_plain left (Choice free right End (one (act.Copy into free))) l (r, tt, (refl, tt))
  binary_nodes_plain _ left right other into free l r o = o

  mutual
    expr_plain : (names : Scope) (value : tree.Expr) (into free : ℕ) → IsKnown known value
        → IsPlain known (expr_nodes names value into free)
    expr_plain names (tree.Number value) into free h = (refl, tt)
    expr_plain names (tree.Truth value) into free h = (refl, tt)
    expr_plain names (tree.Read name) into free h = (refl, tt)
    expr_plain names (tree.Element name index) into free h =
        before_plain (unless_there (variable_slot names index)
        (expr_nodes names index free (free + 1))) _
        (unless_plain (variable_slot names index) (expr_nodes names index free (free + 1))
        (expr_plain names index free (free + 1) h)) (refl, tt)
    expr_plain names tree.Pop into free h = (refl, tt)
    expr_plain names (tree.Peek index) into free h =
        before_plain (unless_there (variable_slot names index)
        (expr_nodes names index free (free + 1))) _
        (unless_plain (variable_slot names index) (expr_nodes names index free (free + 1))
        (expr_plain names index free (free + 1) h)) (refl, tt)
    expr_plain names (tree.Call name arguments) into free h =
        before_plain (arguments_nodes names arguments free) _
        (arguments_plain names arguments free h.1) (h.0, tt)
    expr_plain names (tree.Group inner) into free h = expr_plain names inner into free h
    expr_plain names (tree.Unary operator operand) into free h =
        before_plain (unless_there (variable_slot names operand)
        (expr_nodes names operand free (free + 1))) _
        (unless_plain (variable_slot names operand) (expr_nodes names operand free (free + 1))
        (expr_plain names operand free (free + 1) h))
        (unary_plain operator into (unwrap_or (variable_slot names operand) free), tt)
    expr_plain names (tree.Step operator name) into free h = step_plain operator _ into free
    expr_plain names (tree.StepElement operator name index) into free h =
        before_plain (unless_there (variable_slot names index)
        (expr_nodes names index free (free + 1))) _
        (unless_plain (variable_slot names index) (expr_nodes names index free (free + 1))
        (expr_plain names index free (free + 1) h)) (refl, (refl, (refl, (refl, tt))))
    expr_plain names (tree.Binary operator left right) into free h =
        let first = alias_slot names (writes_no_variable right) left in
        let second = variable_slot names right in
        let l = expr_plain names left free (free + 1) h.0 in
        binary_nodes_plain operator (expr_nodes names left free (free + 1))
        (expr_nodes names right free (free + 1)) _ into free l
        (expr_plain names right free (free + 1) h.1)
        (before_plain (unless_there first (expr_nodes names left free (free + 1))) _
        (unless_plain first (expr_nodes names left free (free + 1)) l)
        (before_plain (unless_there second (expr_nodes names right (free + 1) (free + 1 + 1))) _
        (unless_plain second (expr_nodes names right (free + 1) (free + 1 + 1))
        (expr_plain names right (free + 1) (free + 1 + 1) h.1))
        (binary_plain operator into (unwrap_or first free) (unwrap_or second (free + 1)), tt)))
    expr_plain names (tree.Conditional condition chosen other) into free h =
        before_plain (unless_there (variable_slot names condition)
        (expr_nodes names condition free (free + 1))) _
        (unless_plain (variable_slot names condition) (expr_nodes names condition free (free + 1))
        (expr_plain names condition free (free + 1) h.0))
        (expr_plain names chosen into free h.1, expr_plain names other into free h.2, tt)

    arguments_plain : (names : Scope) (arguments : tree.Arguments) (free : ℕ)
        → AreKnownArguments known arguments
        → IsPlain known (arguments_nodes names arguments free)
    arguments_plain names tree.NoArgument free h = tt
    arguments_plain names (tree.Argument first rest) free h =
        before_plain (expr_nodes names first free (free + 1)) _
        (expr_plain names first free (free + 1) h.0)
        (arguments_plain names rest (free + 1) h.1)

  operand_plain : (names : Scope) (may_alias : Bool) (value : tree.Expr) (free : ℕ)
      → IsKnown known value → IsPlain known (operand_nodes names may_alias value free)
  operand_plain names may_alias value free h =
      unless_plain (alias_slot names may_alias value) (expr_nodes names value free (free + 1))
      (expr_plain names value free (free + 1) h)

  initial_plain : (names : Scope) (cells : ℕ) (initial : Option tree.Expr) (into free : ℕ)
      → IsKnownOption known initial
      → IsPlain known (initial_nodes names cells initial into free)
  initial_plain names cells None into free h = (zeros_plain into cells, tt)
  initial_plain names cells (Some value) into free h = expr_plain names value into free h

  variables_plain : (names : Scope) (cells : ℕ) (variables : List tree.Variable)
      → AreKnownVariables known variables
      → IsPlain known (variables_nodes names cells variables)
  variables_plain names cells [] h = tt
  variables_plain names cells (first ∷ rest) h =
      before_plain (initial_nodes names cells first.initial (total names) (total names + cells)) _
      (initial_plain names cells first.initial (total names) (total names + cells) h.0)
      (variables_plain (record { 0 = first.name; 1 = cells } ∷ names) cells rest h.1)

  evaluation_plain : (names : Scope) (value : tree.Expr) (free : ℕ) → IsKnown known value
      → IsPlain known (evaluation_nodes names value free)
  evaluation_plain names (tree.Step operator name) free h = (refl, tt)
  evaluation_plain names value free h = expr_plain names value free (free + 1) h

  used_plain : (names : Scope) (value : tree.Expr) (last : ℕ → Inst)
      → ((slot : ℕ) → is_plain (last slot) ≡ true) → IsKnown known value
      → IsPlain known (used_nodes names value last)
  used_plain names value last is h =
      before_plain (operand_nodes names true value (total names)) _
      (operand_plain names true value (total names) h) (is _, tt)

  condition_plain : (names : Scope) (condition : Option tree.Expr)
      → IsKnownOption known condition → IsPlain known (condition_nodes names condition)
  condition_plain names None h = (refl, tt)
  condition_plain names (Some value) h = operand_plain names true value (total names) h

  held_plain : (names : Scope) (condition : Option tree.Expr)
      → IsKnownOption known condition → IsPlain known (held_nodes names condition)
  held_plain names None h = (refl, tt)
  held_plain names (Some value) h = expr_plain names value (total names) (total names + 1) h

  compound_plain : (names : Scope) (name : List ℕ) (index : ℕ) (operator : BinaryOperator)
      (value : tree.Expr) (free : ℕ) → IsKnown known value
      → IsPlain known (compound_nodes names name index operator value free)
  compound_plain names name index operator value free h = (
    refl,
    before_plain (operand_nodes names true value (free + 1)) _
        (operand_plain names true value (free + 1) h)
        (binary_plain operator free free _, (refl, tt)),
  )

  element_plain : (names : Scope) (name : List ℕ) (index : ℕ) (operator : AssignOperator)
      (value : tree.Expr) (free : ℕ) → IsKnown known value
      → IsPlain known (element_nodes names name index operator value free)
  element_plain names name index assign.Set value free h =
      before_plain (operand_nodes names true value free) _
      (operand_plain names true value free h) (refl, tt)
  element_plain names name index assign.Add value free h =
      compound_plain names name index binary.Add value free h
  element_plain names name index assign.Subtract value free h =
      compound_plain names name index binary.Subtract value free h
  element_plain names name index assign.Multiply value free h =
      compound_plain names name index binary.Multiply value free h
  element_plain names name index assign.Divide value free h =
      compound_plain names name index binary.Divide value free h
  element_plain names name index assign.Remainder value free h =
      compound_plain names name index binary.Remainder value free h

  answered_plain : (names : Scope) (returns : Bool) (code : Nodes) → IsPlain known code
      → IsPlain known (unless_answered names returns code)
  answered_plain names true code h = (tt, h, tt)
  answered_plain names false code h = h

  test_plain : (names : Scope) (returns : Bool) (condition : Option tree.Expr)
      → IsKnownOption known condition → IsPlain known (loop_test names returns condition)
  test_plain names false condition h = condition_plain names condition h
  test_plain names true condition h = ((refl, tt), held_plain names condition h, tt)

  return_plain : (names : Scope) (value : Option tree.Expr) → IsKnownOption known value
      → IsPlain known (return_nodes names value)
  return_plain names None h = (refl, tt)
  return_plain names (Some value) h =
      before_plain (expr_nodes names value _ (total names)) _
      (expr_plain names value _ (total names) h) (refl, tt)

  mutual
    stmt_plain : (names : Scope) (statement : tree.Stmt) → IsKnownStmt known statement
        → IsPlain known (stmt_nodes names statement)
    stmt_plain names tree.Empty h = tt
    stmt_plain names (tree.Compose statement) h = tt
    stmt_plain names (tree.Block body) h = stmts_plain names false body h
    stmt_plain names (tree.Declare kind variables) h =
        variables_plain names (cells_of kind) variables h
    stmt_plain names (tree.Evaluate value) h = evaluation_plain names value (total names) h
    stmt_plain names (tree.Assign name operator value) h =
        expr_plain names (assigned_value name operator value) _ (total names)
        (assigned_known known name operator value h)
    stmt_plain names (tree.AssignElement name index operator value) h =
        before_plain (operand_nodes names (writes_no_variable value) index (total names)) _
        (operand_plain names (writes_no_variable value) index (total names) h.0)
        (element_plain names name _ operator value (total names + 1) h.1)
    stmt_plain names (tree.If condition chosen) h =
        before_plain (operand_nodes names true condition (total names)) _
        (operand_plain names true condition (total names) h.0)
        (stmt_plain names chosen h.1, tt, tt)
    stmt_plain names (tree.IfElse condition chosen other) h =
        before_plain (operand_nodes names true condition (total names)) _
        (operand_plain names true condition (total names) h.0)
        (stmt_plain names chosen h.1, stmt_plain names other h.2, tt)
    stmt_plain names (tree.While condition body) h =
        (test_plain names (stmt_returns body) (Some condition) h.0, stmt_plain names body h.1, tt)
    stmt_plain names (tree.For first condition step body) h =
        let inner = names_after names first in
        before_plain (stmt_nodes names first) _ (stmt_plain names first h.0) (
          test_plain inner (stmt_returns body) condition h.1,
          before_plain (stmt_nodes inner body) _ (stmt_plain inner body h.3)
              (answered_plain inner (stmt_returns body) (stmt_nodes inner step)
              (stmt_plain inner step h.2)),
          tt,
        )
    stmt_plain names (tree.Push value) h = used_plain names value act.Push (λ slot. refl) h
    stmt_plain names (tree.Print value) h = used_plain names value act.Print (λ slot. refl) h
    stmt_plain names (tree.Println value) h = used_plain names value act.Println (λ slot. refl) h
    stmt_plain names (tree.Return value) h = return_plain names value h

    stmts_plain : (names : Scope) (returns : Bool) (block : tree.Stmts) → AreKnown known block
        → IsPlain known (stmts_nodes names returns block)
    stmts_plain names returns tree.Done h = tt
    stmts_plain names returns (tree.Then first rest) h =
        before_plain (unless_answered names returns (stmt_nodes names first)) _
        (answered_plain names returns (stmt_nodes names first) (stmt_plain names first h.0))
        (stmts_plain (names_after names first) _ rest h.1)

pub lowered_is_plain : LoweredIsPlain
lowered_is_plain known names returns block h = stmts_plain known names returns block h

pub bodies_are_plain : BodiesArePlain
bodies_are_plain known body filter h =
    stmts_plain known (field_scope filter) false (body_block body filter.members) h
