-- Places found one part after the other.
use Rattle.std.proofs.Common.{◌≡◌, ℕ, suc, ◌+◌, ◌<◌, List, ◌∷◌, ◌++◌, length, drop, get_or}
use Rattle.std.proofs.Common.{replicate, Option, None, refl, sym, ap, ◌∙◌, add-one, append_assoc}
use Rattle.std.proofs.Common.{Vec, Global, arith}
use Rattle.std.proofs.Math.Seq.{drop-cons}
use Rattle.std.proofs.lemmas.List.{replicate-append-replicate}
use mathlib.Core.Former.{Count}
use Rattle.strc_lex_names.specs.declared.place.Span.{Span}
use Rattle.strc_lex_names.specs.declared.name.Name.{Name}
use Rattle.strc_parse_tree.specs.declared.tree.HelperType.{HelperType}
use Rattle.strc_parse_tree.specs.declared.tree.Stmt.{Stmt, Block, Block', Row_of-Stmt, end_of-Stmt}
use Rattle.strc_parse_tree.specs.declared.tree.Stmt.{more_of-Stmt, items-the_row-Stmt}
use Rattle.strc_parse_tree.specs.declared.tree.Stmt.{items_hidden-the_row-Stmt-1}
use Rattle.strc_parse_tree.specs.declared.tree.Member.{Init, Helper}
use Rattle.strc_cli_statements.specs.declared.occurrences.Sought.{Sought}
use Rattle.strc_cli_statements.specs.OccurrencePlaces.{stmt_places, row_places, block_places}
use Rattle.strc_cli_statements.specs.OccurrencePlaces.{member_places, helper_places}

-- one part, and then another
pub then_places : {A : Type 0} (old new more first second : List A) → new ≡ old ++ first
    → more ≡ new ++ second → more ≡ old ++ (first ++ second)
then_places old new more first second one two =
    two ∙ ap (λ l. l ++ second) one ∙ append_assoc old first second

-- and where each of both has the same place
pub then_here : {A : Type 0} (old new more : List A) (n m : ℕ) (here : A)
    → new ≡ old ++ replicate n here → more ≡ new ++ replicate m here
    → more ≡ old ++ replicate (n + m) here
then_here old new more n m here one two =
    then_places old new more (replicate n here) (replicate m here) one two
    ∙ ap (λ l. old ++ l) (replicate-append-replicate n m here)

-- and three of them
pub then_thrice : {A : Type 0} (old new more last : List A) (n m k : ℕ) (here : A)
    → new ≡ old ++ replicate n here → more ≡ new ++ replicate m here
    → last ≡ more ++ replicate k here → last ≡ old ++ replicate (n + m + k) here
then_thrice old new more last n m k here one two three =
    then_here old more last (n + m) k here (then_here old new more n m here one two) three

-- a call, after its arguments
pub call_here : {A : Type 0} (before passed called : List A) (arguments calls turns : ℕ) (here : A)
    → passed ≡ before ++ replicate arguments here
    → called ≡ passed ++ replicate (calls + turns) here
    → called ≡ before ++ replicate (arguments + calls + turns) here
call_here before passed called arguments calls turns here first second =
    let same : arguments + (calls + turns) ≡ arguments + calls + turns = omega arith in
    then_here before passed called arguments (calls + turns) here first second
    ∙ ap (λ n. before ++ replicate n here) same

-- of what is left the first, and then the rest
pub places_more : {A : Type 0} (before after whole first rest all : List A)
    → after ≡ before ++ first → all ≡ first ++ rest → before ++ all ≡ whole
    → after ++ rest ≡ whole
places_more before after whole first rest all more is left =
    ap (λ l. l ++ rest) more ∙ append_assoc before first rest
    ∙ ap (λ l. before ++ l) (sym is) ∙ left

pub here_more : {A : Type 0} (before after whole : List A) (here : A) (first rest all : ℕ)
    → after ≡ before ++ replicate first here → all ≡ first + rest
    → before ++ replicate all here ≡ whole → after ++ replicate rest here ≡ whole
here_more before after whole here first rest all more is left =
    places_more before after whole (replicate first here) (replicate rest here)
    (replicate all here) more (ap (λ n. replicate n here) is
    ∙ sym (replicate-append-replicate first rest here)) left

-- the first of the items that are left, and the others
pub drop-item : {X : Type 0} (xs : List X) (i : ℕ) (x : X) → i < length xs
    → x ≡ get_or xs i x → drop i xs ≡ x ∷ drop (i + 1) xs
drop-item xs i x lt at =
    rw add-one (drop-cons xs i x lt ∙ ap (λ y. y ∷ drop (suc i) xs) (sym at))

row_places_items : (looked : Sought) (here : Option Span) (n : _) (kept : Row_of-Stmt n)
    → row_places looked here kept ≡ block_places looked here (items-the_row-Stmt n kept)
row_places_items looked here n end_of-Stmt = refl
row_places_items looked here n (more_of-Stmt first rest) =
    ap (λ r. stmt_places looked here first ++ r) (row_places_items looked here _ rest)

abbrev kept_row : Stmt → (n : Count) × Row_of-Stmt n
kept_row (Block' _ kept) = (_, kept)
kept_row _ = (_, end_of-Stmt)

row_places_kept : (looked : Sought) (here : Option Span) (body : Vec Stmt Global)
    → row_places looked here (kept_row (Block body)).1 ≡ block_places looked here body.items
row_places_kept looked here body =
    let kept = kept_row (Block body) in row_places_items looked here kept.0 kept.1
    ∙ ap (block_places looked here) (items_hidden-the_row-Stmt-1 body)

-- a block holds the statements of its list
pub stmt_places-Block : (looked : Sought) (here : Option Span) (body : Vec Stmt Global)
    → stmt_places looked here (Block body) ≡ block_places looked here body.items
stmt_places-Block looked here body = row_places_kept looked here body

-- and so does a member
pub member_places-Init : (looked : Sought) (body : Vec Stmt Global)
    → member_places looked (Init body) ≡ block_places looked None body.items
member_places-Init looked body = row_places_kept looked None body

pub helper_places-Helper : (looked : Sought) (kind : HelperType) (name : Name)
    (parameters : Vec Name Global) (body : Vec Stmt Global)
    → helper_places looked (Helper kind name parameters body)
    ≡ block_places looked None body.items
helper_places-Helper looked kind name parameters body = row_places_kept looked None body
