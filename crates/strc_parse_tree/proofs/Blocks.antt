-- A block's statements as the tree that contracts see.
use Rattle.std.proofs.Common.{◌≡◌, ℕ, suc, ◌+◌, ◌<◌, List, length, drop, map, get_or, Vec, Global}
use Rattle.std.proofs.Common.{refl, sym, ap, ◌∙◌, add-one}
use Rattle.std.proofs.Math.Seq.{drop-cons}
use Rattle.strc_parse_tree.specs.Tree as tree
use Rattle.strc_parse_tree.specs.View.{stmt_view, block_view, rate_view, member_view}
use Rattle.strc_parse_tree.specs.declared.tree.RateTree.{RateTree}
use Rattle.strc_parse_tree.specs.declared.tree.HelperType.{HelperType}
use Rattle.strc_lex_names.specs.declared.name.Name.{Name}
use Rattle.strc_parse_tree.specs.declared.tree.Stmt.{Stmt, Block}
use Rattle.strc_parse_tree.specs.declared.tree.Member.{Init, Prework, Work, Helper}
use Rattle.strc_parse_tree.proofs.Views.{row_of_views, stmt_view_block, member_view_init}
use Rattle.strc_parse_tree.proofs.Views.{member_view_prework, member_view_work, member_view_helper}

-- a block holds the statements of its list
pub stmt_view-Block : (body : Vec Stmt Global)
    → stmt_view (Block body) ≡ tree.Block (block_view body.items)
stmt_view-Block body = stmt_view_block body ∙ ap tree.Block (sym (row_of_views body.items))

-- and so does a member
pub member_view-Init : (block : Vec Stmt Global)
    → member_view (Init block) ≡ tree.Init (block_view block.items)
member_view-Init block = member_view_init block ∙ ap tree.Init (sym (row_of_views block.items))

pub member_view-Prework : (rates : Vec RateTree Global) (block : Vec Stmt Global)
    → member_view (Prework rates block) ≡ tree.Prework (map rate_view rates.items)
    (block_view block.items)
member_view-Prework rates block = member_view_prework rates block
    ∙ ap (tree.Prework (map rate_view rates.items)) (sym (row_of_views block.items))

pub member_view-Work : (rates : Vec RateTree Global) (block : Vec Stmt Global)
    → member_view (Work rates block) ≡ tree.Work (map rate_view rates.items)
    (block_view block.items)
member_view-Work rates block = member_view_work rates block
    ∙ ap (tree.Work (map rate_view rates.items)) (sym (row_of_views block.items))

pub member_view-Helper : (kind : HelperType) (name : Name) (parameters : Vec Name Global)
    (block : Vec Stmt Global) → member_view (Helper kind name parameters block)
    ≡ tree.Helper kind name parameters.items (block_view block.items)
member_view-Helper kind name parameters block = member_view_helper kind name parameters block
    ∙ ap (tree.Helper kind name parameters.items) (sym (row_of_views block.items))

-- the first of the statements that are left, and the others
pub block_view-drop : (items : List Stmt) (i : ℕ) (x : Stmt) → i < length items
    → x ≡ get_or items i x → block_view (drop i items)
    ≡ tree.Then (stmt_view x) (block_view (drop (i + 1) items))
block_view-drop items i x lt at =
    let e : drop (suc i) items ≡ drop (i + 1) items = rw add-one refl in
    ap block_view (drop-cons items i x lt)
    ∙ ap (λ s. tree.Then (stmt_view s) (block_view (drop (suc i) items))) (sym at)
    ∙ ap (λ l. tree.Then (stmt_view x) (block_view l)) e
