-- What operators of constants come to without wrapping.
use Rattle.std.specs.Prelude.{ℤ, ◌+ℤ◌, ◌-ℤ◌, ◌*ℤ◌, Option, Some, None}
use Rattle.strc_parse_tree.specs.declared.tree.BinaryOperator.{BinaryOperator}
use Rattle.strc_parse_tree.specs.declared.tree.BinaryOperator.TheVariants as operator

-- a sum, a difference or a product
abbrev pub exact : BinaryOperator → (left right : ℤ) → Option ℤ
exact operator.Add left right = Some (left +ℤ right)
exact operator.Subtract left right = Some (left -ℤ right)
exact operator.Multiply left right = Some (left *ℤ right)
exact other left right = None
