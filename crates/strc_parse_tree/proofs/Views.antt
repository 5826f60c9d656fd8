-- The views of statements and members in a row, whichever way the row is kept.
use Rattle.std.proofs.Common.{◌≡◌, List, [], ◌∷◌, map, Option, refl, ap, ◌∙◌}
use Rattle.std.specs.Global.{Vec}
use mathlib.Core.Former.{Count}
use Rattle.strc_parse_tree.specs.declared.tree.StreamType.{StreamType}
use Rattle.strc_parse_tree.specs.declared.tree.CompositeKind.{CompositeKind}
use Rattle.strc_parse_tree.specs.declared.tree.RateTree.{RateTree}
use Rattle.strc_parse_tree.specs.declared.tree.HelperType.{HelperType}
use Rattle.strc_lex_names.specs.declared.name.Name.{Name}
use Rattle.strc_parse_tree.specs.declared.tree.Stmt.{Stmt, Block, Block', Row_of-Stmt, end_of-Stmt}
use Rattle.strc_parse_tree.specs.declared.tree.Stmt.{more_of-Stmt, items-the_row-Stmt}
use Rattle.strc_parse_tree.specs.declared.tree.Stmt.{items_hidden-the_row-Stmt-1}
use Rattle.strc_parse_tree.specs.declared.tree.Member.{Member, Init, Prework, Work, Helper}
use Rattle.strc_parse_tree.specs.declared.tree.Child.{Child, Filter, Filter', Composite}
use Rattle.strc_parse_tree.specs.declared.tree.Child.{Row_of-Member}
use Rattle.strc_parse_tree.specs.declared.tree.Child.{end_of-Member, more_of-Member}
use Rattle.strc_parse_tree.specs.declared.tree.Child.{items-the_row-Member}
use Rattle.strc_parse_tree.specs.declared.tree.Child.{items_hidden-the_row-Member-0}
use Rattle.strc_parse_tree.specs.Tree as tree
use Rattle.strc_parse_tree.specs.View.{rate_view, stmt_view, row_view, block_view, child_view}
use Rattle.strc_parse_tree.specs.View.{member_view, members_view}
use Rattle.strc_parse_tree.specs.Tree.{row, chain}

row_view_items : (n : _) (kept : Row_of-Stmt n)
    → row_view kept ≡ block_view (items-the_row-Stmt n kept)
row_view_items n end_of-Stmt = refl
row_view_items n (more_of-Stmt first rest) =
    ap (λ (r : tree.Stmts). tree.Then (stmt_view first) r) (row_view_items _ rest)

pub row_of_views : (body : List Stmt) → block_view body ≡ row (map stmt_view body)
row_of_views [] = refl
row_of_views (first ∷ others) = ap (λ (r : tree.Stmts). tree.Then (stmt_view first) r)
    (row_of_views others)

abbrev kept_row : Stmt → (n : Count) × Row_of-Stmt n
kept_row (Block' _ kept) = (_, kept)
kept_row _ = (_, end_of-Stmt)

row_view_kept : (body : Vec Stmt) → row_view (kept_row (Block body)).1
    ≡ row (map stmt_view body.items)
row_view_kept body =
    let kept = kept_row (Block body) in row_view_items kept.0 kept.1
    ∙ ap block_view (items_hidden-the_row-Stmt-1 body) ∙ row_of_views body.items

pub stmt_view_block : (body : Vec Stmt) → stmt_view (Block body)
    ≡ tree.Block (row (map stmt_view body.items))
stmt_view_block body = ap tree.Block (row_view_kept body)

pub member_view_init : (body : Vec Stmt) → member_view (Init body)
    ≡ tree.Init (row (map stmt_view body.items))
member_view_init body = ap tree.Init (row_view_kept body)

pub member_view_prework : (rates : Vec RateTree) (body : Vec Stmt)
    → member_view (Prework rates body) ≡ tree.Prework (map rate_view rates.items)
    (row (map stmt_view body.items))
member_view_prework rates body = ap (tree.Prework (map rate_view rates.items)) (row_view_kept body)

pub member_view_work : (rates : Vec RateTree) (body : Vec Stmt)
    → member_view (Work rates body) ≡ tree.Work (map rate_view rates.items)
    (row (map stmt_view body.items))
member_view_work rates body = ap (tree.Work (map rate_view rates.items)) (row_view_kept body)

pub member_view_helper : (kind : HelperType) (name : Name) (parameters : Vec Name) (body : Vec Stmt)
    → member_view (Helper kind name parameters body)
    ≡ tree.Helper kind name parameters.items (row (map stmt_view body.items))
member_view_helper kind name parameters body =
    ap (tree.Helper kind name parameters.items) (row_view_kept body)

pub child_view_composite : (types : Option StreamType) (kind : CompositeKind) (body : Vec Stmt)
    → child_view (Composite types kind body)
    ≡ tree.AnonymousComposite types kind (row (map stmt_view body.items))
child_view_composite types kind body = ap (tree.AnonymousComposite types kind) (row_view_kept body)

-- ---- members

members_view_items : (n : _) (kept : Row_of-Member n)
    → members_view kept ≡ chain (map member_view (items-the_row-Member n kept))
members_view_items n end_of-Member = refl
members_view_items n (more_of-Member first rest) =
    ap (λ (r : tree.Members). tree.And (member_view first) r) (members_view_items _ rest)

abbrev kept_members : Child → (n : Count) × Row_of-Member n
kept_members (Filter' _ _ kept) = (_, kept)
kept_members _ = (_, end_of-Member)

pub child_view_filter : (types : StreamType) (members : Vec Member)
    → child_view (Filter types members) ≡ tree.AnonymousFilter types
    (chain (map member_view members.items))
child_view_filter types members =
    let kept = kept_members (Filter types members) in
    ap (tree.AnonymousFilter types) (members_view_items kept.0 kept.1
    ∙ ap (λ (items : List Member). chain (map member_view items))
    (items_hidden-the_row-Member-0 members))
