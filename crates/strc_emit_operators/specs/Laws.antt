-- The functions of operators compute what operators mean.
use Rattle.std.specs.Prelude.{◌≡◌, ℤ, [], ◌∷◌, Ok}
use Rattle.std.specs.Int.RustNames.{FitsSigned}
use mir.Syntax.{w32}
use Rattle.strc_parse_tree.specs.declared.tree.UnaryOperator.{UnaryOperator}
use Rattle.strc_parse_tree.specs.declared.tree.BinaryOperator.{BinaryOperator}
use Rattle.strc_work_meaning.specs.Arithmetic.{unary_value, binary_value}
use Rattle.strc_emit_c.specs.Spelling.{unary_name, binary_name}
use Rattle.strc_emit_c.specs.Meaning.{defined}
use Rattle.strc_emit_operators.specs.Meaning.{Calls, no_calls, calls_after}
use Rattle.strc_emit_operators.specs.Operators.{functions}

-- a call of an operator's function, after all of them
abbrev pub operator_called : Calls
operator_called = calls_after no_calls functions

-- a call of an operator by its name returns its value wherever it has one: only a division by 0 is
-- undefined
pub record OperatorsCompute : Type 0 where
  pub unary : (operator : UnaryOperator) (a : ℤ) → FitsSigned w32 a
      → operator_called (unary_name operator) (a ∷ []) ≡ Ok (unary_value operator a)
  pub binary : (operator : BinaryOperator) (a b : ℤ) → FitsSigned w32 a → FitsSigned w32 b
      → operator_called (binary_name operator) (a ∷ b ∷ [])
      ≡ defined (binary_value operator a b)
