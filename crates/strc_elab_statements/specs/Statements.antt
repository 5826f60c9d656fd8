-- The work language's own statements in a composite stream's body: what they give, up to the first
-- rule that is broken (StreamIt specification 2.1, "Streams").
use Rattle.std.specs.Prelude.{ℕ, ℤ, pos, negsuc, ◌||◌, nat_lt, List, [], ◌∷◌, length, Result, Ok}
use Rattle.std.specs.Prelude.{Err, if◌then◌else◌}
use Rattle.std.specs.Int.RustNames.{int_lt}
use Rattle.strc_lex_names.specs.Results.{result_and_then}
use Rattle.strc_parse_tree.specs.Tree as tree
use Rattle.strc_work_meaning.specs.Firing.{Store, value_of, stmt_done, initial_cells, declared_in}
use Rattle.strc_work_meaning.specs.Firing.{alone}
use Rattle.strc_work_rules.specs.Resolution.{expr_as, variable_resolved, stmt_resolved}
use Rattle.strc_work_rules.specs.Resolution.{init_context}
use Rattle.strc_work_meaning.specs.Typing.{TypedNames, type_of}
use Rattle.strc_work_meaning.specs.declared.fault.Cause.{Cause}
use Rattle.strc_work_meaning.specs.declared.fault.Cause.TheVariants as causes
use Rattle.strc_work_rules.specs.declared.type_rules.TheConstants.{LENGTH_LIMIT}
use Rattle.strc_work_rules.specs.declared.error.LowerError.{LowerError}
use Rattle.strc_work_rules.specs.declared.error.LowerErrorKind.TheVariants as lowering
use Rattle.strc_work_meaning.specs.declared.types.ValueType.{ValueType}
use Rattle.strc_work_meaning.specs.declared.types.ValueType.TheVariants as kind
use Rattle.strc_elab_statements.specs.Texts.{Place}
use Rattle.strc_elab_statements.specs.declared.error.ElabError.{ElabError}
use Rattle.strc_elab_statements.specs.declared.error.ElabErrorKind.TheVariants as refused

-- a refusal of the rules on names and types, reported of the declaration that holds the text
abbrev pub at_declaration : ℕ → LowerError → ElabError
at_declaration declaration (lowering.UnknownName name) = refused.UnknownName name
at_declaration declaration lowering.TypeMismatch = refused.TypeMismatch declaration
at_declaration declaration (lowering.ConstFault cause) = refused.ConstFault cause
at_declaration declaration lowering.BadArguments = refused.BadArguments declaration
at_declaration declaration lowering.NoMemory = refused.NoMemory

abbrev pub ruled : {A : Type 0} → (declaration : ℕ) → Result A LowerError → Result A ElabError
ruled declaration (Ok value) = Ok value
ruled declaration (Err broken) = Err (at_declaration declaration broken)

-- what is computed, or its fault
abbrev pub computed : {A : Type 0} → Result A Cause → Result A ElabError
computed (Ok value) = Ok value
computed (Err cause) = Err (refused.ConstFault cause)

-- the value of an expression of this type, among these names, and the store after it; names and
-- types are checked just before
abbrev pub eval_checked : Place → TypedNames → ValueType → tree.Expr → Store
    → Result (ℤ × Store) ElabError
eval_checked place names kind value store =
    result_and_then (ruled place.declaration
    (expr_as (init_context place.constants) names kind value)) (λ value'.
    computed (value_of alone value' store))

-- an expression or an assignment as a statement; one that gives items or words away is refused
-- here, as every text but a filter's bodies
abbrev pub simple_done : Place → TypedNames → (outer : ℕ) → tree.Stmt → Store
    → Result Store ElabError
simple_done place names outer statement store =
    result_and_then (ruled place.declaration
    (stmt_resolved (init_context place.constants) names outer statement)) (λ statement'.
    computed (stmt_done alone statement' store))

-- a variable of a declaration, and its variables in turn, each checked and evaluated before the
-- next one, which sees it
abbrev pub variable_done : Place → TypedNames → (outer : ℕ) → ValueType → (cells : ℕ)
    → tree.Variable → Store → Result Store ElabError
variable_done place names outer kind cells variable store =
    result_and_then (ruled place.declaration
    (variable_resolved (init_context place.constants) names outer kind variable)) (λ variable'.
    result_and_then (computed (initial_cells alone cells variable'.initial store)) (λ initial.
    Ok (declared_in initial.1 variable.name initial.0)))

abbrev pub variables_done : Place → TypedNames → (outer : ℕ) → ValueType → (cells : ℕ)
    → List tree.Variable → Store → Result Store ElabError
variables_done place names outer kind cells [] store = Ok store
variables_done place names outer kind cells (first ∷ rest) store =
    result_and_then (variable_done place names outer kind cells first store)
    (variables_done place (record { 0 = first.name; 1 = kind } ∷ names) outer kind cells rest)

-- how many cells an array of this length has: one at least, and no more than an array may have
abbrev pub array_cells : ℤ → Result ℕ ElabError
array_cells (pos length) =
    if nat_lt length 1 || int_lt LENGTH_LIMIT (pos length) then Err
    (refused.ConstFault causes.Index) else Ok length
array_cells (negsuc length) = Err (refused.ConstFault causes.Index)

-- how many cells a variable of a declared type has; the length of an array is an expression like
-- any other, evaluated where the declaration runs
abbrev pub cells_declared : Place → TypedNames → tree.VariableType → Store
    → Result (ℕ × Store) ElabError
cells_declared place names (tree.Array length) store =
    result_and_then (eval_checked place names kind.Int length store) (λ number.
    result_and_then (array_cells number.0) (λ cells. Ok (cells, number.1)))
cells_declared place names declared store = Ok (1, store)

-- a declaration: its type, and then its variables
abbrev pub declaration_done : Place → TypedNames → (outer : ℕ) → tree.VariableType
    → List tree.Variable → Store → Result Store ElabError
declaration_done place names outer declared variables store =
    result_and_then (cells_declared place names declared store) (λ sized.
    variables_done place names outer (type_of declared) sized.0 variables sized.1)
