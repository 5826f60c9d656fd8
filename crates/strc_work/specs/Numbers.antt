-- The number of a constant expression, by the meaning of expressions.
use Rattle.std.specs.Prelude.{◌≡◌, ℕ, ℤ, List, [], ◌∷◌, Ok}
use Rattle.strc_parse_tree.specs.Tree as tree
use Rattle.strc_work_meaning.specs.Firing.{Setting, Traffic, Variables, Store, value_of}
use Rattle.strc_work_meaning.specs.declared.types.ValueType.TheVariants.{Int}
use Rattle.strc_work_meaning.specs.Typing.{TypedNames}
use Rattle.strc_work_rules.specs.Resolution.{rate_context}
use Rattle.strc_work.specs.Expressions.{HasType}

-- each constant as a variable that holds its value
abbrev pub constant_variables : List (List ℕ × ℤ) → Variables
constant_variables [] = []
constant_variables (first ∷ rest) =
    record { 0 = first.0; 1 = first.1 ∷ [] } ∷ constant_variables rest

-- a store whose variables are the constants
abbrev pub constant_store : List (List ℕ × ℤ) → Traffic → Store
constant_store constants traffic = record
    { variables = constant_variables constants; traffic = traffic }

-- where each constant has its value, the expression means this number: without fault, whatever
-- items there are and whatever calls give, and it changes nothing
abbrev pub Means : List (List ℕ × ℤ) → tree.Expr → ℤ → Type 0
Means constants value number = (setting : Setting) (traffic : Traffic)
    → value_of setting value (constant_store constants traffic)
    ≡ Ok (number, constant_store constants traffic)

-- a constant expression, as of a rate or of a length: an Int over constants alone, and its number
abbrev pub HasNumber : List (List ℕ × ℤ) → TypedNames → tree.Expr → ℤ → Type 0
HasNumber constants names value number =
    HasType (rate_context constants) names value Int × Means constants value number
