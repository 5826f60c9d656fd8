-- What the statements of a block add, whichever way the block is kept.
use Rattle.std.proofs.Common.{◌≡◌, ℕ, ◌++◌, None, Vec, Global, Option, Some, refl, ap, ◌∙◌}
use mathlib.Core.Former.{Count}
use Rattle.std.specs.Option.{option_or}
use Rattle.strc_lex_names.specs.declared.place.Span.{Span}
use Rattle.strc_parse_tree.specs.declared.tree.CompositeKind.{CompositeKind}
use Rattle.strc_parse_tree.specs.declared.tree.StreamType.{StreamType}
use Rattle.strc_parse_tree.specs.declared.tree.Stmt.{Stmt, Block, Block', Row_of-Stmt, end_of-Stmt}
use Rattle.strc_parse_tree.specs.declared.tree.Stmt.{more_of-Stmt, items-the_row-Stmt}
use Rattle.strc_parse_tree.specs.declared.tree.Stmt.{items_hidden-the_row-Stmt-1}
use Rattle.strc_parse_tree.specs.declared.tree.Member.{Member}
use Rattle.strc_parse_tree.specs.declared.tree.Program.{Program}
use Rattle.strc_work_rules.specs.declared.site.Part.{Part}
use Rattle.strc_parse_tree.specs.declared.tree.Child.{Filter, Composite}
use Rattle.strc_parse_tree.specs.declared.tree.Child.{items_hidden-the_row-Member-0}
use Rattle.strc_cli_places.specs.Streams.{child_in, child_in_row, child_in_block, child_below}
use Rattle.strc_cli_places.specs.Streams.{part_in, part_in_row, part_in_block, child_block}
use Rattle.strc_cli_places.specs.Streams.{child_members, additions_in, additions_in_row}
use Rattle.strc_cli_places.specs.Streams.{additions_in_block, additions_below}

row_items : (at : ℕ) (n : _) (kept : Row_of-Stmt n)
    → child_in_row at kept ≡ child_in_block at (items-the_row-Stmt n kept)
row_items at n end_of-Stmt = refl
row_items at n (more_of-Stmt first rest) =
    ap (λ found. option_or (child_in at first) found) (row_items at _ rest)

abbrev kept_row : Stmt → (n : Count) × Row_of-Stmt n
kept_row (Block' _ kept) = (_, kept)
kept_row _ = (_, end_of-Stmt)

row_kept : (at : ℕ) (body : Vec Stmt Global)
    → child_in_row at (kept_row (Block body)).1 ≡ child_in_block at body.items
row_kept at body =
    let kept = kept_row (Block body) in row_items at kept.0 kept.1
    ∙ ap (child_in_block at) (items_hidden-the_row-Stmt-1 body)

pub child_in-Block : (at : ℕ) (body : Vec Stmt Global)
    → child_in at (Block body) ≡ child_in_block at body.items
child_in-Block at body = row_kept at body

pub child_below-Composite : (at : ℕ) (types : Option StreamType) (kind : CompositeKind)
    (body : Vec Stmt Global)
    → child_below at (Composite types kind body) ≡ child_in_block at body.items
child_below-Composite at types kind body = row_kept at body

pub child_members-Filter : (types : StreamType) (members : Vec Member Global)
    → child_members (Filter types members) ≡ Some members.items
child_members-Filter types members = ap Some (items_hidden-the_row-Member-0 members)

additions_items : (n : _) (kept : Row_of-Stmt n)
    → additions_in_row kept ≡ additions_in_block (items-the_row-Stmt n kept)
additions_items n end_of-Stmt = refl
additions_items n (more_of-Stmt first rest) =
    ap (λ found. additions_in None first ++ found) (additions_items _ rest)

additions_kept : (body : Vec Stmt Global)
    → additions_in_row (kept_row (Block body)).1 ≡ additions_in_block body.items
additions_kept body =
    let kept = kept_row (Block body) in additions_items kept.0 kept.1
    ∙ ap additions_in_block (items_hidden-the_row-Stmt-1 body)

pub additions_in-Block : (here : Option Span) (body : Vec Stmt Global)
    → additions_in here (Block body) ≡ additions_in_block body.items
additions_in-Block here body = additions_kept body

pub additions_below-Composite : (here : Option Span) (types : Option StreamType)
    (kind : CompositeKind) (body : Vec Stmt Global)
    → additions_below here (Composite types kind body) ≡ additions_in_block body.items
additions_below-Composite here types kind body = additions_kept body

part_items : (sought : Part) (n : _) (kept : Row_of-Stmt n)
    → part_in_row sought kept ≡ part_in_block sought (items-the_row-Stmt n kept)
part_items sought n end_of-Stmt = refl
part_items sought n (more_of-Stmt first rest) =
    ap (λ found. option_or (part_in sought first) found) (part_items sought _ rest)

pub part_in-Block : (sought : Part) (body : Vec Stmt Global)
    → part_in sought (Block body) ≡ part_in_block sought body.items
part_in-Block sought body =
    let kept = kept_row (Block body) in part_items sought kept.0 kept.1
    ∙ ap (part_in_block sought) (items_hidden-the_row-Stmt-1 body)

pub child_block-Composite : (program : Option Program) (types : Option StreamType)
    (kind : CompositeKind) (body : Vec Stmt Global)
    → child_block program (Composite types kind body) ≡ Some body.items
child_block-Composite program types kind body = ap Some (items_hidden-the_row-Stmt-1 body)
