-- The estimate of a sum of 31 products, by hand: 1 for the first value; 31 turns of 1 for the
-- turn, 3 for the condition, 1 for the step and 6 for the body.
use Rattle.std.specs.Prelude.{◌≡◌, [], ◌∷◌, Some, pos, codes}
use Rattle.strc_parse_tree.specs.Tree as tree
use Rattle.strc_parse_tree.specs.declared.tree.AssignOperator.TheVariants as assign
use Rattle.strc_parse_tree.specs.declared.tree.BinaryOperator.TheVariants as binary
use Rattle.strc_parse_tree.specs.declared.tree.StepOperator.TheVariants as step
use Rattle.strc_rate_estimate.specs.Estimates.{expr_estimate, stmt_estimate}

-- `i`
abbrev pub index : tree.Expr
index = tree.Read (codes "i")

-- `w[i] * peek(i)`
abbrev pub product_of_item : tree.Expr
product_of_item = tree.Binary binary.Multiply (tree.Element (codes "w") index) (tree.Peek index)

-- `for (int i = 0; i < 31; i++) sum += w[i] * peek(i);`
abbrev pub sum_of_products : tree.Stmt
sum_of_products = tree.For
    (tree.Declare tree.Int (record { name = codes "i"; initial = Some (tree.Number (pos 0)) } ∷ []))
    (Some (tree.Binary binary.Less index (tree.Number (pos 31))))
    (tree.Evaluate (tree.Step step.IncrementAfter (codes "i")))
    (tree.Assign (codes "sum") assign.Add product_of_item)

-- and a loop whose turns aren't counted: 8 turns of 1, 1 and 6
abbrev pub uncounted : tree.Stmt
uncounted = tree.While index (tree.Assign (codes "sum") assign.Add product_of_item)

pub record EstimateRow : Type 0 where
  pub product : expr_estimate [] product_of_item ≡ 5
  pub counted : stmt_estimate [] [] sum_of_products ≡ 342
  pub uncounted : stmt_estimate [] [] uncounted ≡ 64
