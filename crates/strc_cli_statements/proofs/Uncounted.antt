-- Which statement can't be counted, by the beginnings of its block.
use Rattle.std.proofs.Common.{◌≡◌, ℕ, zero, suc, ◌<◌, true, false, cond, List, [], ◌∷◌, ◌++◌}
use Rattle.std.proofs.Common.{length, take, get_or, is_some, Option, Some, None, Vec, Global}
use Rattle.std.proofs.Common.{refl, sym, ap, ◌∙◌, append_assoc, arith}
use mathlib.Core.Former.{Count}
use Rattle.strc_lex_names.specs.declared.place.Span.{Span}
use Rattle.strc_parse_tree.specs.declared.tree.Stmt.{Stmt, Block, Block', Row_of-Stmt, end_of-Stmt}
use Rattle.strc_parse_tree.specs.declared.tree.Stmt.{more_of-Stmt, items-the_row-Stmt}
use Rattle.strc_parse_tree.specs.declared.tree.Stmt.{items_hidden-the_row-Stmt-1}
use Rattle.strc_parse_tree.specs.View.{stmt_view, row_view, block_view}
use Rattle.strc_parse_tree.specs.Tree as tree
use Rattle.strc_work_writes.specs.LocalWrites.{Locals, locals_after}
use Rattle.strc_rate.specs.declared.counts.Counts.{Counts}
use Rattle.strc_rate.specs.Counts.{sequence, stmt_counts, stmts_counts}
use Rattle.strc_cli_statements.specs.Statements.{are_counted, is_counted, uncounted_in}
use Rattle.strc_cli_statements.specs.Statements.{uncounted_row}
use Rattle.strc_cli_statements.specs.Statements.{uncounted_after, uncounted_among}

both : (first second : Option Counts) → is_some (sequence first second) ≡ true
    → (is_some first ≡ true) × (is_some second ≡ true)
both None second counted = absurd cc
both (Some counts) None counted = absurd cc
both (Some counts) (Some more) counted = (refl, refl)

joined : (first second : Option Counts) → is_some first ≡ true → is_some second ≡ true
    → is_some (sequence first second) ≡ true
joined None second one two = absurd cc
joined (Some counts) None one two = absurd cc
joined (Some counts) (Some more) one two = refl

-- what can be counted can be up to any of its statements
shorter : (locals : Locals) (first rest : List Stmt)
    → is_some (stmts_counts locals (block_view (first ++ rest))) ≡ true
    → is_some (stmts_counts locals (block_view first)) ≡ true
shorter locals [] rest counted = refl
shorter locals (x ∷ first) rest counted =
    let after = locals_after locals (stmt_view x) in
    let two = both (stmt_counts locals (stmt_view x))
    (stmts_counts after (block_view (first ++ rest))) counted in
    joined (stmt_counts locals (stmt_view x)) (stmts_counts after (block_view first)) two.0
    (shorter after first rest two.1)

pub counted_before : (first rest : List Stmt) → are_counted (first ++ rest) ≡ true
    → are_counted first ≡ true
counted_before first rest counted = shorter [] first rest counted

-- the first statement with which statements can't be counted
pub uncounted_is : (here : Option Span) (before rest : List Stmt) (n : ℕ) (x : Stmt)
    → n < length rest → x ≡ get_or rest n x → are_counted (before ++ take n rest) ≡ true
    → are_counted (before ++ take (suc n) rest) ≡ false
    → uncounted_after here before rest ≡ uncounted_in here x
uncounted_is here before [] n x within at some none = absurd (omega arith)
uncounted_is here before (y ∷ rest) zero x within at some none =
    rw none (ap (uncounted_in here) (sym at))
uncounted_is here before (y ∷ rest) (suc n) x within at some none =
    let with = append_assoc before (y ∷ []) (take n rest) in
    let more = append_assoc before (y ∷ []) (take (suc n) rest) in
    let counted = ap are_counted with ∙ some in
    rw (counted_before (before ++ (y ∷ [])) (take n rest) counted)
    (uncounted_is here (before ++ (y ∷ [])) rest n x (omega arith) at counted
    (ap are_counted more ∙ none))

-- all of them can be
all_counted : (here : Option Span) (before rest : List Stmt) → are_counted (before ++ rest) ≡ true
    → uncounted_after here before rest ≡ here
all_counted here before [] counted = refl
all_counted here before (y ∷ rest) counted =
    let with = append_assoc before (y ∷ []) rest in
    let same = ap are_counted with ∙ counted in
    rw (counted_before (before ++ (y ∷ [])) rest same)
    (all_counted here (before ++ (y ∷ [])) rest same)

pub none_uncounted : (here : Option Span) (block : List Stmt) → are_counted block ≡ true
    → uncounted_among here block ≡ here
none_uncounted here block counted = all_counted here [] block counted

-- a block holds the statements of its list
row_items : (here : Option Span) (before : List Stmt) (n : _) (kept : Row_of-Stmt n)
    → uncounted_row here before kept ≡ uncounted_after here before (items-the_row-Stmt n kept)
row_items here before n end_of-Stmt = refl
row_items here before n (more_of-Stmt first rest) =
    ap (λ found. cond (are_counted (before ++ (first ∷ []))) found (uncounted_in here first))
    (row_items here (before ++ (first ∷ [])) _ rest)

view_items : (n : _) (kept : Row_of-Stmt n)
    → row_view kept ≡ block_view (items-the_row-Stmt n kept)
view_items n end_of-Stmt = refl
view_items n (more_of-Stmt first rest) = ap (tree.Then (stmt_view first)) (view_items _ rest)

abbrev kept_row : Stmt → (n : Count) × Row_of-Stmt n
kept_row (Block' _ kept) = (_, kept)
kept_row _ = (_, end_of-Stmt)

pub uncounted_in-Block : (here : Option Span) (body : Vec Stmt Global)
    → uncounted_in here (Block body) ≡ uncounted_among here body.items
uncounted_in-Block here body =
    let kept = kept_row (Block body) in row_items here [] kept.0 kept.1
    ∙ ap (uncounted_after here []) (items_hidden-the_row-Stmt-1 body)

pub is_counted-Block : (body : Vec Stmt Global)
    → is_counted (Block body) ≡ are_counted body.items
is_counted-Block body =
    let kept = kept_row (Block body) in
    ap (λ view. is_some (stmts_counts [] view)) (view_items kept.0 kept.1)
    ∙ ap are_counted (items_hidden-the_row-Stmt-1 body)
