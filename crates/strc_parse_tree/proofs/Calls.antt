-- The arguments of a call as the tree that contracts see, whichever way their row is kept.
use Rattle.std.proofs.Common.{◌≡◌, ℕ, suc, ◌+◌, ◌<◌, List, [], ◌∷◌, length, drop, map, get_or}
use Rattle.std.proofs.Common.{Vec, Global, refl, sym, ap, ◌∙◌, add-one}
use Rattle.std.proofs.Math.Seq.{drop-cons}
use mathlib.Core.Former.{Count}
use Rattle.strc_lex_names.specs.declared.name.Name.{Name}
use Rattle.strc_parse_tree.specs.Tree as tree
use Rattle.strc_parse_tree.specs.Tree.{arguments_of}
use Rattle.strc_parse_tree.specs.View.{expr_view, arguments_view, listed_view}
use Rattle.strc_parse_tree.specs.declared.tree.Expr.{Expr, Call, Call', Row_of-Expr, end_of-Expr}
use Rattle.strc_parse_tree.specs.declared.tree.Expr.{more_of-Expr, items-the_row-Expr}
use Rattle.strc_parse_tree.specs.declared.tree.Expr.{items_hidden-the_row-Expr-0}

arguments_view_items : (n : _) (kept : Row_of-Expr n)
    → arguments_view kept ≡ listed_view (items-the_row-Expr n kept)
arguments_view_items n end_of-Expr = refl
arguments_view_items n (more_of-Expr first rest) =
    ap (tree.Argument (expr_view first)) (arguments_view_items _ rest)

-- a list of arguments is their row
pub arguments_listed : (items : List Expr) → listed_view items ≡ arguments_of (map expr_view items)
arguments_listed [] = refl
arguments_listed (first ∷ others) = ap (tree.Argument (expr_view first)) (arguments_listed others)

abbrev kept_arguments : Expr → (n : Count) × Row_of-Expr n
kept_arguments (Call' _ _ kept) = (_, kept)
kept_arguments _ = (_, end_of-Expr)

-- a call holds the arguments of its list
pub expr_view-Call : (name : Name) (arguments : Vec Expr Global)
    → expr_view (Call name arguments) ≡ tree.Call name (listed_view arguments.items)
expr_view-Call name arguments =
    let kept = kept_arguments (Call name arguments) in
    ap (tree.Call name) (arguments_view_items kept.0 kept.1
    ∙ ap listed_view (items_hidden-the_row-Expr-0 arguments))

-- and as a row
pub expr_view_call : (name : Name) (arguments : Vec Expr Global)
    → expr_view (Call name arguments)
    ≡ tree.Call name (arguments_of (map expr_view arguments.items))
expr_view_call name arguments = expr_view-Call name arguments
    ∙ ap (tree.Call name) (arguments_listed arguments.items)

-- the first of the arguments that are left, and the others
pub listed_view-drop : (items : List Expr) (i : ℕ) (x : Expr) → i < length items
    → x ≡ get_or items i x → listed_view (drop i items)
    ≡ tree.Argument (expr_view x) (listed_view (drop (i + 1) items))
listed_view-drop items i x lt at =
    let e : drop (suc i) items ≡ drop (i + 1) items = rw add-one refl in
    ap listed_view (drop-cons items i x lt)
    ∙ ap (λ s. tree.Argument (expr_view s) (listed_view (drop (suc i) items))) (sym at)
    ∙ ap (λ l. tree.Argument (expr_view x) (listed_view l)) e
