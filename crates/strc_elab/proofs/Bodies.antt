-- Statements of a body, one after another.
use Rattle.std.proofs.Common.{◌≡◌, ℕ, ℤ, suc, ◌+◌, ◌-◌, ◌<◌, Bool, cond, List, length, drop, get_or}
use Rattle.std.proofs.Common.{Option, Some, None, Result, Ok, Bor, Vec, Global, sym, ap, ◌∙◌}
use Rattle.std.specs.Option.{option_map, option_copied}
use Rattle.strc_lex_names.specs.Results.{result_and_then}
use Rattle.strc_parse_tree.specs.Tree as tree
use Rattle.strc_parse_tree.specs.View.{expr_view, stmt_view, block_view}
use Rattle.strc_parse_tree.specs.declared.tree.Expr.{Expr}
use Rattle.strc_parse_tree.specs.declared.tree.Stmt.{Stmt, Block}
use Rattle.strc_work_meaning.specs.Arithmetic.{is_true}
use Rattle.strc_work_meaning.specs.Firing.{Variables, block_left, turn_limit}
use Rattle.strc_work_meaning.specs.Typing.{TypedNames, names_after}
use Rattle.strc_parse_tree.proofs.Blocks.{stmt_view-Block, block_view-drop}
use Rattle.strc_work_rules.proofs.TypedGrowth.{StandsOn, stands_on_itself, stands_on_after}
use Rattle.strc_work_rules.proofs.TypedGrowth.{drop_inner}
use Rattle.strc_work_rules.proofs.TypedGrowth.{drop_own}
use Rattle.strc_elab.specs.Elaboration.{Setting, Progress, inside, stmt_run, stmts_run}
use Rattle.strc_elab_statements.specs.Answers.{IsRefusal}
use Rattle.strc_elab.specs.Loops.{for_looped, names_after_block}
use Rattle.strc_elab_statements.specs.declared.error.ElabError.{ElabError}
use Rattle.strc_elab_statements.proofs.Refusals.{refused_same, first_refused}

-- ---- names

-- the names that a statement adds are forgotten
pub names_left : (names : TypedNames) (s : tree.Stmt)
    → drop (length (names_after names s) - length names) (names_after names s) ≡ names
names_left names s = drop_own names s

stands_on_behind : (base names : TypedNames) (block : tree.Stmts) → StandsOn base names
    → StandsOn base (names_after_block names block)
stands_on_behind base names tree.Done h = h
stands_on_behind base names (tree.Then first rest) h =
    stands_on_behind base (names_after names first) rest (stands_on_after base names first h)

-- and so are those that a block adds
pub block_names_left : (names inner left : TypedNames) (block : tree.Stmts) (start : ℕ)
    → start ≡ length names → inner ≡ names_after_block names block
    → left ≡ drop (length inner - start) inner → left ≡ names
block_names_left names inner left block start start_is inner_is left_is =
    left_is
    ∙ ap (λ n. drop (length inner - n) inner) start_is
    ∙ ap (λ l. drop (length l - length names) l) inner_is
    ∙ drop_inner names (names_after_block names block)
    (stands_on_behind names names block (stands_on_itself names))

pub statement_names_left : (names inner left : TypedNames) (s : tree.Stmt) (start : ℕ)
    → start ≡ length names → inner ≡ names_after names s → left ≡ drop (length inner - start) inner
    → left ≡ names
statement_names_left names inner left s start start_is inner_is left_is =
    left_is
    ∙ ap (λ n. drop (length inner - n) inner) start_is
    ∙ ap (λ l. drop (length l - length names) l) inner_is
    ∙ drop_own names s

-- ---- scopes

-- a body where the variables of its inner scope are forgotten
abbrev pub left_of : Progress → Progress → Progress
left_of outer inner = record inner { store = block_left outer.store inner.store }

pub left_is : (outer inner : Progress) (variables : Variables) (start : ℕ)
    → start ≡ length outer.store.variables
    → variables ≡ drop (length inner.store.variables - start) inner.store.variables
    → left_of outer inner ≡ record inner { store = record inner.store { variables = variables } }
left_is outer inner variables start start_is is =
    sym (ap (λ v. record inner { store = record inner.store { variables = v } })
    (is ∙ ap (λ n. drop (length inner.store.variables - n) inner.store.variables) start_is))

pub inside_refused : (runs : Progress → Result Progress ElabError) (p : Progress) (e : ElabError)
    → IsRefusal (runs p) e → IsRefusal (inside runs p) e
inside_refused runs p e h =
    let leave : Progress → Result Progress ElabError = λ inner. Ok (left_of p inner) in
    first_refused (runs p) leave e h

pub inside_ran : (runs : Progress → Result Progress ElabError) (p after : Progress)
    → runs p ≡ Ok after → inside runs p ≡ Ok (left_of p after)
inside_ran runs p after is =
    let leave : Progress → Result Progress ElabError = λ inner. Ok (left_of p inner) in
    ap (λ r. result_and_then r leave) is

-- ---- blocks

pub block_is : (s : Stmt) (body : Vec Stmt Global) (items : List Stmt) → s ≡ Block body
    → items ≡ body.items → stmt_view s ≡ tree.Block (block_view items)
block_is s body items is items_are = ap stmt_view is ∙ stmt_view-Block body
    ∙ ap (λ l. tree.Block (block_view l)) (sym items_are)

-- the first of the statements that are left runs
pub stmts_go_on : (setting : Setting) (names names' : TypedNames) (outer : ℕ) (items : List Stmt)
    (i : ℕ) (x : Stmt) (p after : Progress) → i < length items → x ≡ get_or items i x
    → stmt_run setting names outer (stmt_view x) p ≡ Ok after
    → names' ≡ names_after names (stmt_view x)
    → stmts_run setting names' outer (block_view (drop (i + 1) items)) after
    ≡ stmts_run setting names outer (block_view (drop i items)) p
stmts_go_on setting names names' outer items i x p after lt at ran grown =
    let rest = stmts_run setting (names_after names (stmt_view x)) outer
    (block_view (drop (i + 1) items)) in
    ap (λ n. stmts_run setting n outer (block_view (drop (i + 1) items)) after) grown
    ∙ sym (ap (λ b. stmts_run setting names outer b p) (block_view-drop items i x lt at)
    ∙ ap (λ r. result_and_then r rest) ran)

-- the first of the statements that are left is refused
pub stmts_refused : (setting : Setting) (names : TypedNames) (outer : ℕ) (items : List Stmt)
    (i : ℕ) (x : Stmt) (p : Progress) (e : ElabError) → i < length items → x ≡ get_or items i x
    → IsRefusal (stmt_run setting names outer (stmt_view x) p) e
    → IsRefusal (stmts_run setting names outer (block_view (drop i items)) p) e
stmts_refused setting names outer items i x p e lt at refuses =
    let first = stmt_run setting names outer (stmt_view x) p in
    let rest : Progress → Result Progress ElabError =
    stmts_run setting (names_after names (stmt_view x)) outer
    (block_view (drop (i + 1) items)) in
    refused_same (result_and_then first rest)
    (stmts_run setting names outer (block_view (drop i items)) p) e
    (ap (λ b. stmts_run setting names outer b p) (block_view-drop items i x lt at))
    (first_refused first rest e refuses)

pub names_go_on : (names names' : TypedNames) (items : List Stmt) (i : ℕ) (x : Stmt)
    → i < length items → x ≡ get_or items i x → names' ≡ names_after names (stmt_view x)
    → names_after_block names' (block_view (drop (i + 1) items))
    ≡ names_after_block names (block_view (drop i items))
names_go_on names names' items i x lt at grown =
    ap (λ n. names_after_block n (block_view (drop (i + 1) items))) grown
    ∙ sym (ap (names_after_block names) (block_view-drop items i x lt at))

-- ---- choices

-- what runs where a condition has its value
pub chosen_runs : (test : Result (ℤ × Progress) ElabError)
    (chosen other : Progress → Result Progress ElabError) (value : ℤ) (tested : Progress) (b : Bool)
    → test ≡ Ok (value, tested) → is_true value ≡ b
    → result_and_then test (λ t. cond (is_true t.0) (chosen t.1) (other t.1))
    ≡ cond b (chosen tested) (other tested)
chosen_runs test chosen other value tested b is holds =
    let go : ℤ × Progress → Result Progress ElabError =
    λ t. cond (is_true t.0) (chosen t.1) (other t.1) in
    ap (λ r. result_and_then r go) is ∙ ap (λ t. cond t (chosen tested) (other tested)) holds

-- ---- loops

-- a condition that may be absent, seen by a reference
pub seen_condition : (captures : Option (Bor Expr)) (condition : Option Expr)
    → option_copied captures ≡ condition → option_map (λ e. expr_view e.now) captures
    ≡ option_map expr_view condition
seen_condition None condition is = ap (option_map expr_view) is
seen_condition (Some e) condition is = ap (option_map expr_view) is

-- a loop runs among the names after its first part, in a scope of its own
pub for_runs : (setting : Setting) (names names' : TypedNames) (outer start : ℕ)
    (first step body : tree.Stmt) (condition : Option tree.Expr) (p begun : Progress)
    → start ≡ length names → stmt_run setting names start first p ≡ Ok begun
    → names' ≡ names_after names first
    → stmt_run setting names outer (tree.For first condition step body) p
    ≡ inside (λ outside. for_looped setting names' condition step body (suc turn_limit) begun) p
for_runs setting names names' outer start first step body condition p begun start_is ran grown =
    let leave : Progress → Result Progress ElabError = λ inner. Ok (left_of p inner) in
    let loop = for_looped setting (names_after names first) condition step body (suc turn_limit) in
    ap (λ r. result_and_then (result_and_then r loop) leave)
    (ap (λ n. stmt_run setting names n first p) (sym start_is) ∙ ran)
    ∙ ap (λ n. result_and_then (for_looped setting n condition step body (suc turn_limit) begun)
    leave) (sym grown)
