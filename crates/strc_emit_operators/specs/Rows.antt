-- Rows of what expressions are worth.
use Rattle.std.specs.Prelude.{◌≡◌, ℕ, ℤ, pos, negsuc, [], codes, Result, Ok, Err}
use Rattle.strc_emit_c.specs.Meaning.{Stop, Undefined}
use Rattle.strc_emit_operators.specs.Expressions.{Signed, Unsigned, Plus, Minus, Times}
use Rattle.strc_emit_operators.specs.Expressions.{Over, Modulo, Left, Right, Less}
use Rattle.strc_emit_operators.specs.Expressions.{Expression, Parameter, Literal, Cast, Negative}
use Rattle.strc_emit_operators.specs.Expressions.{Inverted, Calculated, Shifted, Compared}
use Rattle.strc_emit_operators.specs.Expressions.{Conditional, Comma, Call}
use Rattle.strc_emit_operators.specs.Meaning.{no_calls, value_of}

abbrev pub value : Expression → Result ℤ Stop
value expression = value_of no_calls [] expression

abbrev pub int : ℕ → Expression
int number = Literal Signed number

abbrev pub unsigned : ℕ → Expression
unsigned number = Literal Unsigned number

-- `-2147483647 - 1`
abbrev pub least : Expression
least = Calculated Minus (Negative (int 2147483647)) (int 1)

pub record MeaningRows : Type 0 where
  -- signed arithmetic may not overflow, and unsigned arithmetic wraps around
  pub least_is : value least ≡ Ok (negsuc 2147483647)
  pub overflows : value (Calculated Plus (int 2147483647) (int 1)) ≡ Err Undefined
  pub wraps : value (Calculated Minus (unsigned 0) (unsigned 1)) ≡ Ok (pos 4294967295)
  pub wraps_product : value (Calculated Times (unsigned 65536) (unsigned 65537)) ≡ Ok (pos 65536)
  pub too_large : value (int 2147483648) ≡ Err Undefined
  -- quotients are rounded towards 0
  pub divides : value (Calculated Over (Negative (int 7)) (int 2)) ≡ Ok (negsuc 2)
  pub leaves : value (Calculated Modulo (Negative (int 7)) (int 2)) ≡ Ok (negsuc 0)
  pub by_zero : value (Calculated Over (int 7) (int 0)) ≡ Err Undefined
  pub past_most : value (Calculated Over least (Negative (int 1))) ≡ Err Undefined
  pub rest_past_most : value (Calculated Modulo least (Negative (int 1))) ≡ Err Undefined
  pub unsigned_divides : value (Calculated Over (unsigned 4294967295) (int 2)) ≡ Ok (pos 2147483647)
  -- shifts are by less than 32
  pub shifts : value (Shifted Left (unsigned 3) (unsigned 31)) ≡ Ok (pos 2147483648)
  pub by_too_much : value (Shifted Left (unsigned 3) (unsigned 32)) ≡ Err Undefined
  pub by_too_little : value (Shifted Right (int 3) (Negative (int 1))) ≡ Err Undefined
  pub past_sign : value (Shifted Left (int 1) (int 31)) ≡ Err Undefined
  pub negative : value (Shifted Left (Negative (int 1)) (int 1)) ≡ Err Undefined
  pub keeps_sign : value (Shifted Right (Negative (int 7)) (int 1)) ≡ Ok (negsuc 3)
  -- an unsigned operand makes the other one unsigned
  pub compares : value (Compared Less (Negative (int 1)) (int 0)) ≡ Ok (pos 1)
  pub compares_unsigned : value (Compared Less (Negative (int 1)) (unsigned 0)) ≡ Ok (pos 0)
  pub inverts : value (Inverted (int 0)) ≡ Ok (negsuc 0)
  pub inverts_unsigned : value (Inverted (unsigned 0)) ≡ Ok (pos 4294967295)
  pub casts : value (Cast Signed (unsigned 4294967295)) ≡ Ok (negsuc 0)
  -- only what is chosen is computed, and what is before a comma too
  pub chooses : value (Conditional (int 1) (int 2) (Calculated Over (int 1) (int 0))) ≡ Ok (pos 2)
  pub chooses_type : value (Conditional (int 1) (Negative (int 1)) (unsigned 0))
      ≡ Ok (pos 4294967295)
  pub drops : value (Comma (int 1) (int 2)) ≡ Ok (pos 2)
  pub drops_nothing : value (Comma (Calculated Over (int 1) (int 0)) (int 2)) ≡ Err Undefined
  -- there is no such parameter, and no such function
  pub no_parameter : value (Parameter 0) ≡ Err Undefined
  pub no_function : value (Call (codes "negate") (int 1)) ≡ Err Undefined
