-- What the rules' walk has to do with the relation, each the contract of a function of `laws`.
use Rattle.std.specs.Prelude.{◌≡◌, ◌↔◌, ℕ, ℤ, List, Ok, IsOk}
use Rattle.strc_lex_names.specs.Results.{result_and_then}
use Rattle.strc_parse_tree.specs.Tree as tree
use Rattle.strc_parse_tree.specs.declared.tree.ItemType.{ItemType}
use Rattle.strc_work_meaning.specs.Constants.{IsConstant, constant_value}
use Rattle.strc_work_meaning.specs.Filters.{Filter}
use Rattle.strc_work_meaning.specs.Firing.{Setting, Store, value_of}
use Rattle.strc_work_meaning.specs.declared.types.ValueType.{ValueType}
use Rattle.strc_work_meaning.specs.Typing.{TypedNames}
use Rattle.strc_work_rules.specs.Resolution.{Context, expr_resolved, expr_as, number_resolved}
use Rattle.strc_work_rules.specs.Resolution.{type_resolved, stmt_resolved, stmts_resolved}
use Rattle.strc_work_rules.specs.Resolution.{rate_resolved}
use Rattle.strc_work_rules.specs.Resolution.{members_resolved, filter_resolved}
use Rattle.strc_work_rules.specs.Signatures.{Signatures}
use Rattle.strc_work.specs.Expressions.{HasType}
use Rattle.strc_work.specs.Numbers.{HasNumber}
use Rattle.strc_work.specs.Statements.{IsDeclarable, IsWellFormed, AreWellFormed}
use Rattle.strc_work.specs.Filters.{IsRate, AreWellFormedMembers, IsWellTyped}

-- the walk accepts an expression at this type exactly where the expression has it
abbrev pub WalkGivesTypes : Type 0
WalkGivesTypes = (context : Context) (names : TypedNames) (value : tree.Expr) (kind : ValueType)
    → ((resolved : tree.Expr)
    × (expr_resolved context names value ≡ Ok (record { kind = kind; value = resolved })))
    ↔ HasType context names value kind

-- it accepts an expression of a needed type exactly where the expression has that type
abbrev pub WalkAcceptsValues : Type 0
WalkAcceptsValues = (context : Context) (names : TypedNames) (kind : ValueType) (value : tree.Expr)
    → IsOk (expr_as context names kind value) ↔ HasType context names value kind

-- an expression has at most one type
abbrev pub TypesAreUnique : Type 0
TypesAreUnique =
    (context : Context) (names : TypedNames) (value : tree.Expr) (kind kind' : ValueType)
    → HasType context names value kind → HasType context names value kind' → kind ≡ kind'

-- the walk finds a number of a constant expression exactly where the expression means it
abbrev pub WalkGivesNumbers : Type 0
WalkGivesNumbers =
    (constants : List (List ℕ × ℤ)) (names : TypedNames) (value : tree.Expr) (number : ℤ)
    → (number_resolved constants names value ≡ Ok number) ↔ HasNumber constants names value number

-- a constant expression has at most one number
abbrev pub NumbersAreUnique : Type 0
NumbersAreUnique =
    (constants : List (List ℕ × ℤ)) (names : TypedNames) (value : tree.Expr) (number number' : ℤ)
    → HasNumber constants names value number → HasNumber constants names value number'
    → number ≡ number'

-- the value of an expression that names no variable is that of the expression wherever it is,
-- and nothing changes
abbrev pub ConstantsMeanTheirValue : Type 0
ConstantsMeanTheirValue = (setting : Setting) (value : tree.Expr) (store : Store) → IsConstant value
    → value_of setting value store
    ≡ result_and_then (constant_value value) (λ number. Ok (number, store))

-- the walk accepts a declared type, a statement and a block exactly where they are well formed
abbrev pub WalkAcceptsTypes : Type 0
WalkAcceptsTypes = (constants : List (List ℕ × ℤ)) (names : TypedNames) (kind : tree.VariableType)
    → IsOk (type_resolved constants names kind) ↔ IsDeclarable constants names kind

abbrev pub WalkAcceptsStatements : Type 0
WalkAcceptsStatements =
    (context : Context) (names : TypedNames) (outer : ℕ) (statement : tree.Stmt)
    → IsOk (stmt_resolved context names outer statement)
    ↔ IsWellFormed context names outer statement

abbrev pub WalkAcceptsBlocks : Type 0
WalkAcceptsBlocks = (context : Context) (names : TypedNames) (outer : ℕ) (block : tree.Stmts)
    → IsOk (stmts_resolved context names outer block) ↔ AreWellFormed context names outer block

-- so it does a rate, a member, the members of a filter, and a filter
abbrev pub WalkAcceptsRates : Type 0
WalkAcceptsRates = (constants : List (List ℕ × ℤ)) (fields : TypedNames) (input output : ItemType)
    (rate : tree.Rate) → IsOk (rate_resolved constants fields input output rate)
    ↔ IsRate constants fields input output rate

abbrev pub WalkAcceptsMembers : Type 0
WalkAcceptsMembers = (constants : List (List ℕ × ℤ)) (helpers : Signatures)
    (input output : ItemType) (fields : TypedNames) (before known : List (List ℕ))
    (members : List tree.Member)
    → IsOk (members_resolved constants helpers input output fields before known members)
    ↔ AreWellFormedMembers constants helpers input output fields before known members

abbrev pub WalkAcceptsFilters : Type 0
WalkAcceptsFilters = (constants : List (List ℕ × ℤ)) (filter : Filter)
    → IsOk (filter_resolved constants filter) ↔ IsWellTyped constants filter
