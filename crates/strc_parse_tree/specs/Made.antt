-- Nodes that are made of just these parts, with whatever places stand in them.
use Rattle.std.specs.Prelude.{◌≡◌, Option}
use Rattle.strc_parse_tree.specs.declared.tree.Expr.{Expr}
use Rattle.strc_parse_tree.specs.declared.tree.Stmt.{Stmt}
use Rattle.strc_parse_tree.specs.declared.tree.Stmt.TheVariants as stmt

abbrev pub IsIfOf : Expr → (chosen : Stmt) → (made : Stmt) → Type 0
IsIfOf condition chosen (stmt.If' tested at inner) = (tested ≡ condition) × (inner ≡ chosen)
IsIfOf condition chosen _ = ⊥

abbrev pub IsIfElseOf : Expr → (chosen other : Stmt) → (made : Stmt) → Type 0
IsIfElseOf condition chosen other (stmt.IfElse' tested at inner at' last) =
    (tested ≡ condition) × (inner ≡ chosen) × (last ≡ other)
IsIfElseOf condition chosen other _ = ⊥

abbrev pub IsWhileOf : Expr → (body : Stmt) → (made : Stmt) → Type 0
IsWhileOf condition body (stmt.While' tested at inner) = (tested ≡ condition) × (inner ≡ body)
IsWhileOf condition body _ = ⊥

abbrev pub IsForOf : (first : Stmt) → Option Expr → (step body : Stmt) → (made : Stmt) → Type 0
IsForOf first condition step body (stmt.For' at begun tested at' stepped at'' inner) =
    (begun ≡ first) × (tested ≡ condition) × (stepped ≡ step) × (inner ≡ body)
IsForOf first condition step body _ = ⊥
