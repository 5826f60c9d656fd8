-- Statements that a body does as they are, once they are checked: expressions and assignments.
use Rattle.strc_parse_tree.specs.Tree as tree
use Rattle.strc_parse_tree.specs.declared.tree.BinaryOperator.{BinaryOperator}
use Rattle.strc_parse_tree.specs.declared.tree.BinaryOperator.TheVariants as binary

abbrev pub IsSimple : tree.Stmt → Type 0
IsSimple tree.Empty = Unit {0}
IsSimple (tree.Evaluate value) = Unit {0}
IsSimple (tree.Assign name operator value) = Unit {0}
IsSimple (tree.AssignElement name index operator value) = Unit {0}
IsSimple _ = ⊥

-- an operator that needs both its sides
abbrev pub IsPlain : BinaryOperator → Type 0
IsPlain binary.LogicalOr = ⊥
IsPlain binary.LogicalAnd = ⊥
IsPlain _ = Unit {0}
