-- The rules on names and types, and the filter with its constants substituted.
use Rattle.std.specs.Prelude.{ℕ, ◌+◌, ℤ, pos, Bool, true, false, ◌==◌, ◌&&◌, ◌||◌, not}
use Rattle.std.specs.Prelude.{if◌then◌else◌, List, [], ◌∷◌, length, Option, Some, None, Result, Ok}
use Rattle.std.specs.Prelude.{Err, nat_lt, bytes_eq}
use Rattle.strc_work_meaning.specs.Scoping.{answer_name}
use Rattle.std.specs.Int.RustNames.{int_lt}
use Rattle.strc_lex_names.specs.Results.{result_and_then}
use Rattle.strc_parse_tree.specs.Tree as tree
use Rattle.strc_parse_tree.specs.declared.tree.ItemType.{ItemType}
use Rattle.strc_parse_tree.specs.declared.tree.ItemType.TheVariants as item
use Rattle.strc_parse_tree.specs.declared.tree.RateKind.{RateKind}
use Rattle.strc_parse_tree.specs.declared.tree.RateKind.TheVariants as kind
use Rattle.strc_parse_tree.specs.declared.tree.AssignOperator.{AssignOperator}
use Rattle.strc_parse_tree.specs.declared.tree.AssignOperator.TheVariants as assign
use Rattle.strc_parse_tree.specs.declared.tree.UnaryOperator.{UnaryOperator}
use Rattle.strc_parse_tree.specs.declared.tree.UnaryOperator.TheVariants as unary
use Rattle.strc_parse_tree.specs.declared.tree.BinaryOperator.{BinaryOperator}
use Rattle.strc_parse_tree.specs.declared.tree.BinaryOperator.TheVariants as binary
use Rattle.strc_parse_tree.specs.declared.tree.StepOperator.{StepOperator}
use Rattle.strc_parse_tree.specs.declared.tree.HelperType.{HelperType}
use Rattle.strc_work_meaning.specs.declared.fault.Cause.{Cause}
use Rattle.strc_work_meaning.specs.declared.fault.Cause.TheVariants.{Index}
use Rattle.strc_work_rules.specs.declared.error.LowerError.{LowerError}
use Rattle.strc_work_rules.specs.declared.error.LowerErrorKind.TheVariants as refused
use Rattle.strc_work_rules.specs.declared.type_rules.TheConstants.{LENGTH_LIMIT}
use Rattle.strc_work_meaning.specs.declared.types.ValueType.{ValueType}
use Rattle.strc_work_meaning.specs.declared.types.ValueType.TheVariants.{Int, Boolean, Array}
use Rattle.strc_lex_names.specs.Names.{has_name, value_named}
use Rattle.strc_work_meaning.specs.Filters.{Filter, work_count}
use Rattle.strc_work_meaning.specs.Typing.{TypedNames, same_type, is_array, names_with, names_after}
use Rattle.strc_work_meaning.specs.Typing.{block_names, names_after_fields}
use Rattle.strc_work_meaning.specs.Constants.{constant_value}
use Rattle.strc_work_rules.specs.declared.signatures.Signature.{Signature}
use Rattle.strc_work_rules.specs.Signatures.{Signatures, signatures_after, given_type}
use Rattle.strc_work_meaning.specs.Calls.{argument_count}
use Rattle.strc_work_rules.specs.Signatures.{with_parameters}

-- goes on where a rule is kept
abbrev pub where_kept : {A : Type 0} → Bool → Result A LowerError → Result A LowerError
where_kept true next = next
where_kept false next = Err refused.TypeMismatch

-- where a text is: its constants, whether it may pop and peek, push and print, and whether it
-- is fixed before the start, so that it reads no variable; the helper functions that it may call,
-- if it may call any; and in a helper function what that gives
pub record Context : Type 0 where
  pub constants : List (List ℕ × ℤ)
  pub pops : Bool
  pub pushes : Bool
  pub prints : Bool
  pub constants_only : Bool
  pub helpers : Option Signatures
  pub returns : Option HelperType

-- an expression with its constants substituted, and the type of its value
pub record Typed : Type 0 where
  pub kind : ValueType
  pub value : tree.Expr

-- the expression, if its value has the type
abbrev pub expect_type : ValueType → Typed → Result tree.Expr LowerError
expect_type kind typed = where_kept (same_type typed.kind kind) (Ok typed.value)

-- what a name stands for that is no variable: a constant's value
abbrev pub constant_read : List ℕ → Option ℤ → Result Typed LowerError
constant_read name None = Err (refused.UnknownName name)
constant_read name (Some value) = Ok (record { kind = Int; value = tree.Number value })

-- what a name stands for that is read: its innermost variable, which is no array, or else a
-- constant
abbrev pub read_as : Context → List ℕ → Option ValueType → Result Typed LowerError
read_as context name (Some kind) =
    where_kept (not context.constants_only)
    (where_kept (not (is_array kind)) (Ok (record { kind = kind; value = tree.Read name })))
read_as context name None = constant_read name (value_named context.constants name)

abbrev pub name_resolved : Context → TypedNames → List ℕ → Result Typed LowerError
name_resolved context names name = read_as context name (value_named names name)

-- why a name that is no variable can't be written
abbrev pub write_refused : List ℕ → Option ℤ → LowerError
write_refused name None = refused.UnknownName name
write_refused name (Some value) = refused.TypeMismatch

-- the type of a name that is written: that of its innermost variable
abbrev pub write_as : Context → List ℕ → Option ValueType → Result ValueType LowerError
write_as context name (Some kind) = Ok kind
write_as context name None = Err (write_refused name (value_named context.constants name))

abbrev pub write_resolved : Context → TypedNames → List ℕ → Result ValueType LowerError
write_resolved context names name = write_as context name (value_named names name)

-- the type of an operand, and of the operator's value
abbrev pub operand_type : UnaryOperator → ValueType
operand_type unary.Negate = Int
operand_type unary.Not = Boolean
operand_type unary.Complement = Int

-- the type of both operands, where the left one has this type
abbrev pub sides_type : BinaryOperator → (left : ValueType) → ValueType
sides_type binary.LogicalOr left = Boolean
sides_type binary.LogicalAnd left = Boolean
sides_type binary.Equal left = left
sides_type binary.NotEqual left = left
sides_type _ left = Int

-- the type of an operator's value
abbrev pub binary_type : BinaryOperator → ValueType
binary_type binary.LogicalOr = Boolean
binary_type binary.LogicalAnd = Boolean
binary_type binary.Equal = Boolean
binary_type binary.NotEqual = Boolean
binary_type binary.Less = Boolean
binary_type binary.LessOrEqual = Boolean
binary_type binary.Greater = Boolean
binary_type binary.GreaterOrEqual = Boolean
binary_type _ = Int

-- an operator before its operand
abbrev pub unary_typed : UnaryOperator → Typed → Result Typed LowerError
unary_typed operator operand =
    result_and_then (expect_type (operand_type operator) operand) (λ operand'.
    Ok (record { kind = operand_type operator; value = tree.Unary operator operand' }))

-- an operator between its operands
abbrev pub binary_typed : BinaryOperator → Typed → Typed → Result Typed LowerError
binary_typed operator left right =
    result_and_then (expect_type (sides_type operator left.kind) left) (λ left'.
    result_and_then (expect_type (sides_type operator left.kind) right) (λ right'.
    Ok (record { kind = binary_type operator; value = tree.Binary operator left' right' })))

-- a choice between two values of one type
abbrev pub conditional_typed : Typed → Typed → Typed → Result Typed LowerError
conditional_typed condition chosen other =
    result_and_then (expect_type Boolean condition) (λ condition'.
    result_and_then (expect_type chosen.kind other) (λ other'.
    Ok (record { kind = chosen.kind; value = tree.Conditional condition' chosen.value other' })))

-- a look at an item
abbrev pub peek_typed : (pops : Bool) → Typed → Result Typed LowerError
peek_typed pops index =
    where_kept pops (result_and_then (expect_type Int index)
    (λ index'. Ok (record { kind = Int; value = tree.Peek index' })))

-- an expression in brackets
abbrev pub group_typed : Typed → Typed
group_typed inner = record { kind = inner.kind; value = tree.Group inner.value }

-- a name that is stepped: a variable that holds a number
abbrev pub step_resolved : Context → TypedNames → List ℕ → Result (List ℕ) LowerError
step_resolved context names name =
    where_kept (not context.constants_only)
    (result_and_then (write_resolved context names name)
    (λ kind. where_kept (same_type kind Int) (Ok name)))

-- the name of an array, of which an element is read or written
abbrev pub array_resolved : Context → TypedNames → List ℕ → Result (List ℕ) LowerError
array_resolved context names name =
    where_kept (not context.constants_only)
    (result_and_then (write_resolved context names name)
    (λ kind. where_kept (is_array kind) (Ok name)))

-- an element of an array, and its step
abbrev pub element_typed : List ℕ → Typed → Result Typed LowerError
element_typed name index = result_and_then (expect_type Int index)
    (λ index'. Ok (record { kind = Int; value = tree.Element name index' }))

abbrev pub step_element_typed : StepOperator → List ℕ → Typed → Result Typed LowerError
step_element_typed operator name index =
    result_and_then (expect_type Int index)
    (λ index'. Ok (record { kind = Int; value = tree.StepElement operator name index' }))

-- what a helper function gives that is called with so many arguments
abbrev pub called_as : List ℕ → (count : ℕ) → Option Signature → Result HelperType LowerError
called_as name count None = Err (refused.UnknownName name)
called_as name count (Some signature) =
    if signature.parameters == count then Ok signature.kind else Err refused.BadArguments

-- a helper function of this name, where calls may stand
abbrev pub called_among : List ℕ → (count : ℕ) → Option Signatures → Result HelperType LowerError
called_among name count None = Err refused.TypeMismatch
called_among name count (Some helpers) = called_as name count (value_named helpers name)

-- a call with its constants substituted, and what it gives
pub record Called : Type 0 where
  pub kind : HelperType
  pub call : tree.Expr

-- a call with these arguments, of which this comes
abbrev pub call_given : Context → List ℕ → tree.Arguments → Result tree.Arguments LowerError
    → Result Called LowerError
call_given context name arguments resolved =
    result_and_then (called_among name (argument_count arguments) context.helpers) (λ kind.
    result_and_then resolved
    (λ arguments'. Ok (record { kind = kind; call = tree.Call name arguments' })))

-- what a call gives, as a value
abbrev pub value_called : Option ValueType → tree.Expr → Result Typed LowerError
value_called None call = Err refused.TypeMismatch
value_called (Some kind) call = Ok (record { kind = kind; value = call })

abbrev pub called_typed : Called → Result Typed LowerError
called_typed called = value_called (given_type called.kind) called.call

abbrev mutual
  -- an expression, among these names of variables
  pub expr_resolved : Context → TypedNames → tree.Expr → Result Typed LowerError
  expr_resolved context names (tree.Number value) =
      Ok (record { kind = Int; value = tree.Number value })
  expr_resolved context names (tree.Truth value) =
      Ok (record { kind = Boolean; value = tree.Truth value })
  expr_resolved context names (tree.Read name) = name_resolved context names name
  expr_resolved context names (tree.Element name index) =
      result_and_then (array_resolved context names name) (λ name'.
      result_and_then (expr_resolved context names index) (λ index'. element_typed name' index'))
  expr_resolved context names tree.Pop = where_kept context.pops
      (Ok (record { kind = Int; value = tree.Pop }))
  expr_resolved context names (tree.Peek index) =
      result_and_then (expr_resolved context names index) (λ index'. peek_typed context.pops index')
  expr_resolved context names (tree.Call name arguments) =
      result_and_then (call_given context name arguments
      (arguments_resolved context names arguments)) (λ called. called_typed called)
  expr_resolved context names (tree.Group inner) =
      result_and_then (expr_resolved context names inner) (λ inner'. Ok (group_typed inner'))
  expr_resolved context names (tree.Unary operator operand) =
      result_and_then (expr_resolved context names operand)
      (λ operand'. unary_typed operator operand')
  expr_resolved context names (tree.Step operator name) =
      result_and_then (step_resolved context names name)
      (λ name'. Ok (record { kind = Int; value = tree.Step operator name' }))
  expr_resolved context names (tree.StepElement operator name index) =
      result_and_then (array_resolved context names name) (λ name'.
      result_and_then (expr_resolved context names index)
      (λ index'. step_element_typed operator name' index'))
  expr_resolved context names (tree.Binary operator left right) =
      result_and_then (expr_resolved context names left) (λ left'.
      result_and_then (expr_resolved context names right)
      (λ right'. binary_typed operator left' right'))
  expr_resolved context names (tree.Conditional condition chosen other) =
      result_and_then (expr_resolved context names condition) (λ condition'.
      result_and_then (expr_resolved context names chosen) (λ chosen'.
      result_and_then (expr_resolved context names other)
      (λ other'. conditional_typed condition' chosen' other')))

  -- the arguments of a call, which are numbers, from left to right
  pub arguments_resolved : Context → TypedNames → tree.Arguments → Result tree.Arguments LowerError
  arguments_resolved context names tree.NoArgument = Ok tree.NoArgument
  arguments_resolved context names (tree.Argument first rest) =
      result_and_then (result_and_then (expr_resolved context names first)
      (λ typed. expect_type Int typed)) (λ first'.
      result_and_then (arguments_resolved context names rest)
      (λ rest'. Ok (tree.Argument first' rest')))

-- a call
abbrev pub call_resolved : Context → TypedNames → List ℕ → tree.Arguments
    → Result Called LowerError
call_resolved context names name arguments =
    call_given context name arguments (arguments_resolved context names arguments)

-- an expression that is a statement: a call may give nothing there
abbrev pub evaluated : Context → TypedNames → tree.Expr → Result tree.Expr LowerError
evaluated context names (tree.Call name arguments) =
    result_and_then (call_resolved context names name arguments) (λ called. Ok called.call)
evaluated context names value =
    result_and_then (expr_resolved context names value) (λ typed. Ok typed.value)

-- an expression of this type
abbrev pub expr_as : Context → TypedNames → ValueType → tree.Expr → Result tree.Expr LowerError
expr_as context names kind value = result_and_then (expr_resolved context names value)
    (λ typed. expect_type kind typed)

-- an initialiser or a condition of this type, where there is one
abbrev pub initial_resolved : Context → TypedNames → ValueType → Option tree.Expr
    → Result (Option tree.Expr) LowerError
initial_resolved context names kind None = Ok None
initial_resolved context names kind (Some value) =
    result_and_then (expr_as context names kind value) (λ value'. Ok (Some value'))

-- the site of rates and of lengths
abbrev pub rate_context : List (List ℕ × ℤ) → Context
rate_context constants = record {
  constants = constants;
  pops = false;
  pushes = false;
  prints =
      false;
  constants_only = true;
  helpers = None;
  returns = None;
}

-- the value of a constant expression, or its fault
abbrev pub value_given : Result ℤ Cause → Result ℤ LowerError
value_given (Ok value) = Ok value
value_given (Err cause) = Err (refused.ConstFault cause)

-- the number of a rate or of a length, over constants alone
abbrev pub number_resolved : List (List ℕ × ℤ) → TypedNames → tree.Expr → Result ℤ LowerError
number_resolved constants names value =
    result_and_then (expr_as (rate_context constants) names Int value)
    (λ value'. value_given (constant_value value'))

-- a declared type: what a name of it stands for, and how it is written, with a number as its length
pub record ResolvedType : Type 0 where
  pub kind : ValueType
  pub written : tree.VariableType

-- an array of this length has a cell, and no more than an array may have
abbrev pub array_type : ℤ → Result ResolvedType LowerError
array_type number =
    if int_lt number (pos 1) || int_lt LENGTH_LIMIT number
    then Err (refused.ConstFault Index)
    else Ok (record { kind = Array; written = tree.Array (tree.Number number) })

-- a declared type, with the constants and the names that can be seen where it is
abbrev pub type_resolved : List (List ℕ × ℤ) → TypedNames → tree.VariableType
    → Result ResolvedType LowerError
type_resolved constants names tree.Boolean = Ok (record { kind = Boolean; written = tree.Boolean })
type_resolved constants names tree.Int = Ok (record { kind = Int; written = tree.Int })
type_resolved constants names (tree.Array length) =
    result_and_then (number_resolved constants names length) (λ number. array_type number)

-- whether a name is taken in a block: by another of its variables, or by a helper function's
-- answer, whose name no NAME of a text is
abbrev pub is_taken : TypedNames → (outer : ℕ) → List ℕ → Bool
is_taken names outer name = bytes_eq name answer_name || has_name (block_names outer names) name

-- a variable of a filter's block
abbrev pub local_resolved : Context → TypedNames → (outer : ℕ) → ValueType → tree.Variable
    → Result tree.Variable LowerError
local_resolved context names outer kind variable =
    where_kept (not (is_taken names outer variable.name))
    (result_and_then (initial_resolved context names kind variable.initial) (λ initial'.
    Ok (record { name = variable.name; initial = initial' })))

-- a variable of a composite stream's block, whose name no other one of its block has
abbrev pub variable_resolved : Context → TypedNames → (outer : ℕ) → ValueType → tree.Variable
    → Result tree.Variable LowerError
variable_resolved context names outer kind variable =
    where_kept (not (has_name (block_names outer names) variable.name))
    (result_and_then (initial_resolved context names kind variable.initial) (λ initial'.
    Ok (record { name = variable.name; initial = initial' })))

-- the variables of a declaration, each seen by those after it
abbrev pub variables_resolved : Context → TypedNames → (outer : ℕ) → ValueType → List tree.Variable
    → Result (List tree.Variable) LowerError
variables_resolved context names outer kind [] = Ok []
variables_resolved context names outer kind (first ∷ rest) =
    result_and_then (local_resolved context names outer kind first) (λ first'.
    result_and_then (variables_resolved context
    (record { 0 = first.name; 1 = kind } ∷ names) outer kind rest) (λ rest'.
    Ok (first' ∷ rest')))

-- the type of what is assigned to a variable of this type
abbrev pub assigned_type : AssignOperator → ValueType → Result ValueType LowerError
assigned_type assign.Set kind = Ok kind
assigned_type assign.Add kind = where_kept (same_type kind Int) (Ok kind)
assigned_type assign.Subtract kind = where_kept (same_type kind Int) (Ok kind)
assigned_type assign.Multiply kind = where_kept (same_type kind Int) (Ok kind)
assigned_type assign.Divide kind = where_kept (same_type kind Int) (Ok kind)
assigned_type assign.Remainder kind = where_kept (same_type kind Int) (Ok kind)

-- an assignment to a variable
abbrev pub assign_resolved : Context → TypedNames → List ℕ → AssignOperator → tree.Expr
    → Result tree.Stmt LowerError
assign_resolved context names name operator value =
    result_and_then (write_resolved context names name) (λ kind.
    result_and_then (assigned_type operator kind) (λ kind'.
    result_and_then (expr_as context names kind' value)
    (λ value'. Ok (tree.Assign name operator value'))))

-- an assignment to an element
abbrev pub element_assign_resolved : Context → TypedNames → List ℕ → (index : tree.Expr)
    → AssignOperator → tree.Expr → Result tree.Stmt LowerError
element_assign_resolved context names name index operator value =
    result_and_then (array_resolved context names name) (λ name'.
    result_and_then (expr_as context names Int index) (λ index'.
    result_and_then (expr_as context names Int value)
    (λ value'. Ok (tree.AssignElement name' index' operator value'))))

-- a number that is given away, where that may be
abbrev pub given_resolved : Context → TypedNames → Bool → tree.Expr → Result tree.Expr LowerError
given_resolved context names may value = where_kept may (expr_as context names Int value)

-- what is returned where this type is wanted, if a value is
abbrev pub returned_as : Context → TypedNames → Option ValueType → Option tree.Expr
    → Result (Option tree.Expr) LowerError
returned_as context names None None = Ok None
returned_as context names None (Some value) = Err refused.TypeMismatch
returned_as context names (Some kind) None = Err refused.TypeMismatch
returned_as context names (Some kind) (Some value) =
    initial_resolved context names kind (Some value)

-- what is returned from a helper function, if this is in one
abbrev pub returned : Context → TypedNames → Option HelperType → Option tree.Expr
    → Result (Option tree.Expr) LowerError
returned context names None value = Err refused.TypeMismatch
returned context names (Some kind) value = returned_as context names (given_type kind) value

abbrev mutual
  -- a statement, among the names that can be seen, of which so many are outside its block
  pub stmt_resolved : Context → TypedNames → (outer : ℕ) → tree.Stmt → Result tree.Stmt LowerError
  stmt_resolved context names outer tree.Empty = Ok tree.Empty
  stmt_resolved context names outer (tree.Compose statement) = Err refused.TypeMismatch
  stmt_resolved context names outer (tree.Block body) =
      result_and_then (stmts_resolved context names (length names) body)
      (λ body'. Ok (tree.Block body'))
  stmt_resolved context names outer (tree.Declare kind variables) =
      result_and_then (type_resolved context.constants names kind) (λ resolved.
      result_and_then (variables_resolved context names outer resolved.kind variables)
      (λ variables'.
      Ok (tree.Declare resolved.written variables')))
  stmt_resolved context names outer (tree.Evaluate value) =
      result_and_then (evaluated context names value) (λ value'. Ok (tree.Evaluate value'))
  stmt_resolved context names outer (tree.Assign name operator value) =
      assign_resolved context names name operator value
  stmt_resolved context names outer (tree.AssignElement name index operator value) =
      element_assign_resolved context names name index operator value
  stmt_resolved context names outer (tree.If condition chosen) =
      result_and_then (expr_as context names Boolean condition) (λ condition'.
      result_and_then (stmt_resolved context names (length names) chosen)
      (λ chosen'. Ok (tree.If condition' chosen')))
  stmt_resolved context names outer (tree.IfElse condition chosen other) =
      result_and_then (expr_as context names Boolean condition) (λ condition'.
      result_and_then (stmt_resolved context names (length names) chosen) (λ chosen'.
      result_and_then (stmt_resolved context names (length names) other)
      (λ other'. Ok (tree.IfElse condition' chosen' other'))))
  stmt_resolved context names outer (tree.While condition body) =
      result_and_then (expr_as context names Boolean condition) (λ condition'.
      result_and_then (stmt_resolved context names (length names) body)
      (λ body'. Ok (tree.While condition' body')))
  stmt_resolved context names outer (tree.For first condition step body) =
      result_and_then (stmt_resolved context names (length names) first) (λ first'.
      result_and_then (initial_resolved context (names_after names first) Boolean condition)
      (λ condition'.
      result_and_then (stmt_resolved context (names_after names first)
      (length (names_after names first)) step) (λ step'.
      result_and_then (stmt_resolved context (names_after names first)
      (length (names_after names first)) body) (λ body'.
      Ok (tree.For first' condition' step' body')))))
  stmt_resolved context names outer (tree.Push value) =
      result_and_then (given_resolved context names context.pushes value)
      (λ value'. Ok (tree.Push value'))
  stmt_resolved context names outer (tree.Print value) =
      result_and_then (given_resolved context names context.prints value)
      (λ value'. Ok (tree.Print value'))
  stmt_resolved context names outer (tree.Println value) =
      result_and_then (given_resolved context names context.prints value)
      (λ value'. Ok (tree.Println value'))
  stmt_resolved context names outer (tree.Return value) =
      result_and_then (returned context names context.returns value)
      (λ value'. Ok (tree.Return value'))

  -- the statements of a block, each among the names that are declared before it
  pub stmts_resolved : Context → TypedNames → (outer : ℕ) → tree.Stmts
      → Result tree.Stmts LowerError
  stmts_resolved context names outer tree.Done = Ok tree.Done
  stmts_resolved context names outer (tree.Then first rest) =
      result_and_then (stmt_resolved context names outer first) (λ first'.
      result_and_then (stmts_resolved context (names_after names first) outer rest)
      (λ rest'. Ok (tree.Then first' rest')))

-- whether items flow on a side
abbrev pub carries_items : ItemType → Bool
carries_items item.Int = true
carries_items item.Void = false

-- the sites: the block of a composite stream; initialisers and `init`, which call helper
-- functions; those, which return what they give; and bodies
abbrev pub init_context : List (List ℕ × ℤ) → Context
init_context constants = record {
  constants = constants;
  pops = false;
  pushes = false;
  prints = false;
  constants_only = false;
  helpers = None;
  returns = None;
}

abbrev pub start_context : List (List ℕ × ℤ) → Signatures → Context
start_context constants helpers = record (init_context constants) { helpers = Some helpers }

abbrev pub helper_context : List (List ℕ × ℤ) → Signatures → HelperType → Context
helper_context constants helpers kind =
    record (start_context constants helpers) { returns = Some kind }

abbrev pub body_context : List (List ℕ × ℤ) → Signatures → (input output : ItemType) → Context
body_context constants helpers input output =
    record {
      constants = constants;
      pops = carries_items input;
      pushes = carries_items output;
      prints = true;
      constants_only = false;
      helpers = Some helpers;
      returns = None;
    }

-- the side of a filter that a rate speaks of
abbrev pub side_of : (input output : ItemType) → RateKind → ItemType
side_of input output kind.Push = output
side_of input output kind.Pop = input
side_of input output kind.Peek = input

-- whether a rate may be declared: above 0 only where items flow
abbrev pub rate_fits : ItemType → ItemType → RateKind → ℤ → Bool
rate_fits input output kind number = not (int_lt (pos 0) number
    && not (carries_items (side_of input output kind)))

-- a rate, on a side where it may be declared
abbrev pub rate_resolved : List (List ℕ × ℤ) → (fields : TypedNames) → ItemType → ItemType
    → tree.Rate → Result tree.Rate LowerError
rate_resolved constants fields input output rate =
    result_and_then (number_resolved constants fields rate.rate) (λ number.
    where_kept (rate_fits input output rate.kind number)
    (Ok (record { kind = rate.kind; rate = tree.Number number })))

abbrev pub rates_resolved : List (List ℕ × ℤ) → (fields : TypedNames) → ItemType → ItemType
    → List tree.Rate → Result (List tree.Rate) LowerError
rates_resolved constants fields input output [] = Ok []
rates_resolved constants fields input output (first ∷ rest) =
    result_and_then (rate_resolved constants fields input output first) (λ first'.
    result_and_then (rates_resolved constants fields input output rest)
    (λ rest'. Ok (first' ∷ rest')))

-- whether a field's name is taken, by an earlier field or by a helper function's answer
abbrev pub is_field_taken : (before : List (List ℕ)) → List ℕ → Bool
is_field_taken before name = bytes_eq name answer_name || has_name before name

-- a field, whose name is new; it sees all fields
abbrev pub field_resolved : Context → (fields : TypedNames) (before : List (List ℕ)) → ValueType
    → tree.Variable → Result tree.Variable LowerError
field_resolved context fields before kind variable =
    where_kept (not (is_field_taken before variable.name))
    (result_and_then (initial_resolved context fields kind variable.initial) (λ initial'.
    Ok (record { name = variable.name; initial = initial' })))

-- fields that are declared together, with those before them
abbrev pub fields_resolved : Context → (fields : TypedNames) (before : List (List ℕ)) → ValueType
    → List tree.Variable → Result (List tree.Variable) LowerError
fields_resolved context fields before kind [] = Ok []
fields_resolved context fields before kind (first ∷ rest) =
    result_and_then (field_resolved context fields before kind first) (λ first'.
    result_and_then (fields_resolved context fields (first.name ∷ before) kind rest)
    (λ rest'. Ok (first' ∷ rest')))

-- the names of the fields after a member
abbrev pub fields_after : List (List ℕ) → tree.Member → List (List ℕ)
fields_after before (tree.Fields kind variables) = names_with before variables
fields_after before _ = before

-- the block of a body or of `init`, among the fields
abbrev pub body_resolved : Context → (fields : TypedNames) → tree.Stmts
    → Result tree.Stmts LowerError
body_resolved context fields block = stmts_resolved context fields (length fields) block

-- a body with its rates
pub record Work : Type 0 where
  pub rates : List tree.Rate
  pub block : tree.Stmts

abbrev pub work_resolved : (constants : List (List ℕ × ℤ)) (helpers : Signatures)
    (input output : ItemType) (fields : TypedNames) → Work → Result Work LowerError
work_resolved constants helpers input output fields work =
    result_and_then (rates_resolved constants fields input output work.rates) (λ rates'.
    result_and_then (body_resolved (body_context constants helpers input output) fields work.block)
    (λ block'.
    Ok (record { rates = rates'; block = block' })))

-- a parameter, whose name no earlier one has
abbrev pub parameter_resolved : TypedNames → (outer : ℕ) → List ℕ → Result (List ℕ) LowerError
parameter_resolved names outer name =
    where_kept (not (is_taken names outer name)) (Ok name)

-- the parameters of a helper function
abbrev pub parameters_resolved : TypedNames → (outer : ℕ) → List (List ℕ)
    → Result (List (List ℕ)) LowerError
parameters_resolved names outer [] = Ok []
parameters_resolved names outer (first ∷ rest) =
    result_and_then (parameter_resolved names outer first) (λ first'.
    result_and_then (parameters_resolved (record { 0 = first; 1 = Int } ∷ names) outer rest)
    (λ rest'. Ok (first' ∷ rest')))

-- a helper function, whose name no earlier one has. Its block is inside its parameters, and they
-- are inside the fields
abbrev pub helper_resolved : (constants : List (List ℕ × ℤ)) (helpers : Signatures)
    (fields : TypedNames) (known : List (List ℕ)) → HelperType → List ℕ
    → (parameters : List (List ℕ)) → tree.Stmts → Result tree.Member LowerError
helper_resolved constants helpers fields known kind name parameters block =
    where_kept (not (has_name known name))
    (result_and_then (parameters_resolved fields (length fields) parameters) (λ parameters'.
    result_and_then (body_resolved (helper_context constants helpers kind)
    (with_parameters fields parameters) block) (λ block'.
    Ok (tree.Helper kind name parameters' block'))))

-- the names of the helper functions after a member
abbrev pub known_after : List (List ℕ) → tree.Member → List (List ℕ)
known_after known (tree.Helper kind name parameters block) = name ∷ known
known_after known _ = known

-- a member, with the fields and the helper functions before it; it sees all of them
abbrev pub member_resolved : (constants : List (List ℕ × ℤ)) (helpers : Signatures)
    (input output : ItemType) (fields : TypedNames) (before known : List (List ℕ)) → tree.Member
    → Result tree.Member LowerError
member_resolved constants helpers input output fields before known (tree.Fields kind variables) =
    result_and_then (type_resolved constants fields kind) (λ resolved.
    result_and_then (fields_resolved (start_context constants helpers) fields before resolved.kind
    variables) (λ variables'.
    Ok (tree.Fields resolved.written variables')))
member_resolved constants helpers input output fields before known (tree.Init block) =
    result_and_then (body_resolved (start_context constants helpers) fields block)
    (λ block'. Ok (tree.Init block'))
member_resolved constants helpers input output fields before known (tree.Prework rates block) =
    result_and_then (work_resolved constants helpers input output fields
    (record { rates = rates; block = block })) (λ work'.
    Ok (tree.Prework work'.rates work'.block))
member_resolved constants helpers input output fields before known (tree.Work rates block) =
    result_and_then (work_resolved constants helpers input output fields
    (record { rates = rates; block = block })) (λ work'.
    Ok (tree.Work work'.rates work'.block))
member_resolved constants helpers input output fields before known
    (tree.Helper kind name parameters block) =
    helper_resolved constants helpers fields known kind name parameters block

-- the members, in order of the text
abbrev pub members_resolved : (constants : List (List ℕ × ℤ)) (helpers : Signatures)
    (input output : ItemType) (fields : TypedNames) (before known : List (List ℕ))
    → List tree.Member → Result (List tree.Member) LowerError
members_resolved constants helpers input output fields before known [] = Ok []
members_resolved constants helpers input output fields before known (first ∷ rest) =
    result_and_then (member_resolved constants helpers input output fields before known first)
    (λ first'.
    result_and_then (members_resolved constants helpers input output fields
    (fields_after before first) (known_after known first) rest) (λ rest'.
    Ok (first' ∷ rest')))

-- how many preworks there are
abbrev pub prework_count : List tree.Member → ℕ
prework_count [] = 0
prework_count (tree.Fields kind variables ∷ rest) = prework_count rest
prework_count (tree.Init block ∷ rest) = prework_count rest
prework_count (tree.Prework rates block ∷ rest) = 1 + prework_count rest
prework_count (tree.Work rates block ∷ rest) = prework_count rest
prework_count (tree.Helper kind name parameters block ∷ rest) = prework_count rest

-- how many `init`s there are
abbrev pub init_count : List tree.Member → ℕ
init_count [] = 0
init_count (tree.Fields kind variables ∷ rest) = init_count rest
init_count (tree.Init block ∷ rest) = 1 + init_count rest
init_count (tree.Prework rates block ∷ rest) = init_count rest
init_count (tree.Work rates block ∷ rest) = init_count rest
init_count (tree.Helper kind name parameters block ∷ rest) = init_count rest

-- whether there is one work, and at most one prework and one `init`
abbrev pub has_parts : List tree.Member → Bool
has_parts members = (work_count members == 1)
    && (nat_lt (prework_count members) 2 && nat_lt (init_count members) 2)

-- a filter with its constants substituted, or the first rule that it breaks
abbrev pub filter_resolved : List (List ℕ × ℤ) → Filter → Result Filter LowerError
filter_resolved constants filter =
    where_kept (has_parts filter.members)
    (result_and_then (members_resolved constants (signatures_after [] filter.members) filter.input
    filter.output (names_after_fields [] filter.members) [] [] filter.members) (λ members'.
    Ok (record filter { members = members' })))
