-- Where statements of a body are refused, one after another.
use Rattle.std.proofs.Common.{◌≡◌, ℕ, ℤ, suc, ◌+◌, ◌<◌, Bool, cond, List, ◌∷◌}
use Rattle.std.proofs.Common.{length, drop, get_or, Option, Result, Ok, Err, Vec, Global, refl}
use Rattle.std.proofs.Common.{sym, ap, ◌∙◌, add-one}
use Rattle.std.proofs.Math.Seq.{drop-cons}
use mathlib.Core.Former.{Count}
use Rattle.strc_lex_names.specs.declared.place.Span.{Span}
use Rattle.strc_parse_tree.specs.View.{stmt_view}
use Rattle.strc_parse_tree.specs.declared.tree.StreamType.{StreamType}
use Rattle.strc_parse_tree.specs.declared.tree.CompositeKind.{CompositeKind}
use Rattle.strc_parse_tree.specs.declared.tree.Member.{Member}
use Rattle.strc_parse_tree.specs.declared.tree.Decl.{Decl}
use Rattle.strc_parse_tree.specs.declared.tree.Stmt.{Stmt, Block, Block', Row_of-Stmt, end_of-Stmt}
use Rattle.strc_parse_tree.specs.declared.tree.Stmt.{more_of-Stmt, items-the_row-Stmt}
use Rattle.strc_parse_tree.specs.declared.tree.Stmt.{items_hidden-the_row-Stmt-1}
use Rattle.strc_parse_tree.specs.declared.tree.Child.{Child, Filter, Filter', Composite}
use Rattle.strc_parse_tree.specs.declared.tree.Child.{Row_of-Member}
use Rattle.strc_parse_tree.specs.declared.tree.Child.{end_of-Member, more_of-Member}
use Rattle.strc_parse_tree.specs.declared.tree.Child.{items-the_row-Member}
use Rattle.strc_parse_tree.specs.declared.tree.Child.{items_hidden-the_row-Member-0}
use Rattle.strc_work_meaning.specs.Arithmetic.{is_true}
use Rattle.strc_work_meaning.specs.Typing.{TypedNames, names_after}
use Rattle.strc_elab_statements.specs.Answers.{IsRefusal}
use Rattle.strc_elab_statements.specs.declared.error.ElabError.{ElabError}
use Rattle.strc_elab.specs.Answering.{IsPlaceOf}
use Rattle.strc_elab.specs.Elaboration.{Progress, stmt_run}
use Rattle.strc_elab.specs.Places.{Tracing, place_after, stmt_trace, row_trace, block_trace}
use Rattle.strc_elab.specs.declared.trace.Trace.{Trace}
use Rattle.strc_elab.specs.Sources.{FilterSource, CompositeSource, row_statements, row_members}
use Rattle.strc_elab.specs.Sources.{child_source}
use Rattle.strc_elab.proofs.Places.{placed_same, first_placed, place_after_done}

-- ---- blocks

drop_first : (items : List Stmt) (i : ℕ) (x : Stmt) → i < length items → x ≡ get_or items i x
    → drop i items ≡ x ∷ drop (i + 1) items
drop_first items i x lt at =
    let e : drop (suc i) items ≡ drop (i + 1) items = rw add-one refl in
    drop-cons items i x lt
    ∙ ap (λ (s : Stmt). s ∷ drop (suc i) items) (sym at)
    ∙ ap (λ (l : List Stmt). x ∷ l) e

-- the first of the statements that are left runs
pub blocks_go_on : (tracing : Tracing) (names names' : TypedNames) (outer : ℕ)
    (items : List Stmt) (i : ℕ) (x : Stmt) (p after : Progress) (trace trace' : Trace)
    → i < length items → x ≡ get_or items i x
    → stmt_run tracing.setting names outer (stmt_view x) p ≡ Ok after
    → names' ≡ names_after names (stmt_view x)
    → trace' ≡ stmt_trace tracing names outer x p trace
    → block_trace tracing names' outer (drop (i + 1) items) after trace'
    ≡ block_trace tracing names outer (drop i items) p trace
blocks_go_on tracing names names' outer items i x p after trace trace' lt at ran grown moved =
    let own = stmt_trace tracing names outer x p trace in
    let rest : Progress → Trace → Trace =
    block_trace tracing (names_after names (stmt_view x)) outer (drop (i + 1) items) in
    ap (λ n. block_trace tracing n outer (drop (i + 1) items) after trace') grown
    ∙ ap (rest after) moved
    ∙ sym (ap (λ l. block_trace tracing names outer l p trace) (drop_first items i x lt at)
    ∙ place_after_done (stmt_run tracing.setting names outer (stmt_view x) p) own
    (λ a. rest a own) after ran)

-- the first of the statements that are left is refused
pub block_placed : (tracing : Tracing) (names : TypedNames) (outer : ℕ) (items : List Stmt)
    (i : ℕ) (x : Stmt) (p : Progress) (trace : Trace) (found : Option Span) (e : ElabError)
    → i < length items → x ≡ get_or items i x
    → IsRefusal (stmt_run tracing.setting names outer (stmt_view x) p) e
    → IsPlaceOf e (stmt_trace tracing names outer x p trace).here found
    → IsPlaceOf e (block_trace tracing names outer (drop i items) p trace).here found
block_placed tracing names outer items i x p trace found e lt at refuses is =
    let own = stmt_trace tracing names outer x p trace in
    let rest : Progress → Trace = λ a.
    block_trace tracing (names_after names (stmt_view x)) outer (drop (i + 1) items) a own in
    let r = stmt_run tracing.setting names outer (stmt_view x) p in
    placed_same e (place_after r own rest).here
    (block_trace tracing names outer (drop i items) p trace).here found
    (ap (λ l. (block_trace tracing names outer l p trace).here) (drop_first items i x lt at))
    (first_placed r e own found rest refuses is)

-- ---- rows

after_same : {A T : Type 0} (r : Result A ElabError) (own : T) (next next' : A → T)
    → ((x : A) → next x ≡ next' x) → place_after r own next ≡ place_after r own next'
after_same (Ok x) own next next' same = same x
after_same (Err e) own next next' same = refl

row_traces : (n : _) (row : Row_of-Stmt n) (tracing : Tracing) (names : TypedNames) (outer : ℕ)
    (p : Progress) (trace : Trace) → row_trace tracing names outer row p trace
    ≡ block_trace tracing names outer (row_statements row) p trace
row_traces n end_of-Stmt tracing names outer p trace = refl
row_traces n (more_of-Stmt first rest) tracing names outer p trace =
    let own = stmt_trace tracing names outer first p trace in
    after_same (stmt_run tracing.setting names outer (stmt_view first) p) own
    (λ after. row_trace tracing (names_after names (stmt_view first)) outer rest after own)
    (λ after. block_trace tracing (names_after names (stmt_view first)) outer
    (row_statements rest) after own)
    (λ after. row_traces _ rest tracing (names_after names (stmt_view first)) outer after own)

row_statements-items : (n : _) (row : Row_of-Stmt n)
    → row_statements row ≡ items-the_row-Stmt n row
row_statements-items n end_of-Stmt = refl
row_statements-items n (more_of-Stmt first rest) =
    ap (λ (l : List Stmt). first ∷ l) (row_statements-items _ rest)

row_members-items : (n : _) (row : Row_of-Member n) → row_members row ≡ items-the_row-Member n row
row_members-items n end_of-Member = refl
row_members-items n (more_of-Member first rest) =
    ap (λ (l : List Member). first ∷ l) (row_members-items _ rest)

abbrev kept_row : Stmt → (n : Count) × Row_of-Stmt n
kept_row (Block' _ kept) = (_, kept)
kept_row _ = (_, end_of-Stmt)

kept_statements : (body : Vec Stmt Global) → row_statements (kept_row (Block body)).1 ≡ body.items
kept_statements body =
    let kept = kept_row (Block body) in row_statements-items kept.0 kept.1
    ∙ items_hidden-the_row-Stmt-1 body

-- a block is traced as the statements of its list are
pub stmt_trace-Block : (tracing : Tracing) (names : TypedNames) (outer : ℕ)
    (body : Vec Stmt Global) (p : Progress) (trace : Trace)
    → stmt_trace tracing names outer (Block body) p trace
    ≡ block_trace tracing names (length names) body.items p trace
stmt_trace-Block tracing names outer body p trace =
    let kept = kept_row (Block body) in
    row_traces kept.0 kept.1 tracing names (length names) p trace
    ∙ ap (λ l. block_trace tracing names (length names) l p trace) (kept_statements body)

pub child_source-Composite : (declarations : List Decl) (written : Option StreamType)
    (kind : CompositeKind) (body : Vec Stmt Global)
    → child_source declarations (Composite written kind body)
    ≡ CompositeSource written kind body.items
child_source-Composite declarations written kind body =
    ap (CompositeSource written kind) (kept_statements body)

abbrev kept_members : Child → (n : Count) × Row_of-Member n
kept_members (Filter' _ _ kept) = (_, kept)
kept_members _ = (_, end_of-Member)

pub child_source-Filter : (declarations : List Decl) (types : StreamType)
    (members : Vec Member Global)
    → child_source declarations (Filter types members) ≡ FilterSource types members.items
child_source-Filter declarations types members =
    let kept = kept_members (Filter types members) in
    ap (FilterSource types) (row_members-items kept.0 kept.1
    ∙ items_hidden-the_row-Member-0 members)

-- ---- choices

-- what is traced of a chosen statement, once the condition has its value
pub chosen_trace : (test : Result (ℤ × Progress) ElabError) (trace : Trace)
    (chosen other : Progress → Trace) (value : ℤ) (tested : Progress) (b : Bool)
    → test ≡ Ok (value, tested) → is_true value ≡ b
    → place_after test trace (λ t. cond (is_true t.0) (chosen t.1) (other t.1))
    ≡ cond b (chosen tested) (other tested)
chosen_trace test trace chosen other value tested b is holds =
    let go : ℤ × Progress → Trace = λ t. cond (is_true t.0) (chosen t.1) (other t.1) in
    place_after_done test trace go (value, tested) is
    ∙ ap (λ t. cond t (chosen tested) (other tested)) holds
