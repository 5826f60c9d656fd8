-- What a body's stream statements keep, and each change of its variables, its run keeps.
use Rattle.std.proofs.Common.{ℕ, zero, suc, ℤ, length, Option, Some, None, Result, Ok, IfOk, cond}
use Rattle.strc_lex_names.specs.Results.{result_and_then}
use Rattle.strc_lex_names.proofs.Results.{then_ok}
use Rattle.strc_parse_tree.specs.Tree as tree
use Rattle.strc_work_meaning.specs.Firing.{Store, turn_limit, block_left}
use Rattle.strc_work_meaning.specs.Firing as firing
use Rattle.strc_work_meaning.specs.Arithmetic.{is_true}
use Rattle.strc_work_meaning.specs.Typing.{TypedNames, names_after}
use Rattle.strc_work_meaning.specs.declared.types.ValueType.TheVariants as kind
use Rattle.strc_elab_statements.specs.declared.error.ElabError.{ElabError}
use Rattle.strc_elab_statements.specs.Statements.{computed, eval_checked, simple_done}
use Rattle.strc_elab_statements.specs.Statements.{declaration_done}
use Rattle.strc_elab.specs.Elaboration.{Setting, Progress, on_store, condition_evaluated, inside}
use Rattle.strc_elab.specs.Elaboration.{turned, looped, composed, stmt_run, stmts_run}
use Rattle.strc_elab.proofs.Steps.{any_holds, either_holds}

pub record Keeps (setting : Setting) (P : Progress → Type 0) : Type 0 where
  pub stored : (progress : Progress) (store : Store) → P progress
      → P (record progress { store = store })
  pub composed : (names : TypedNames) (statement : tree.Composition) (progress : Progress)
      → P progress → IfOk (composed setting names statement progress) P

stored_kept : (setting : Setting) (P : Progress → Type 0) → Keeps setting P
    → (does : Store → Result Store ElabError) (progress : Progress) → P progress
    → IfOk (on_store does progress) P
stored_kept setting P keeps does progress kept =
    then_ok (does progress.store) (λ store. Ok (record progress { store = store }))
    (λ store. Unit {0}) P (any_holds (does progress.store))
    (λ store h. keeps.stored progress store kept)

tested_kept : (setting : Setting) (P : Progress → Type 0) → Keeps setting P
    → (names : TypedNames) (condition : Option tree.Expr)
    (progress : Progress) → P progress
    → IfOk (condition_evaluated setting names condition progress) (λ tested. P tested.1)
tested_kept setting P keeps names None progress kept = kept
tested_kept setting P keeps names (Some condition) progress kept =
    then_ok (given_here setting names condition progress)
    (λ test. Ok (test.0, record progress { store = test.1 })) (λ test. Unit {0})
    (λ tested. P tested.1) (any_holds (given_here setting names condition progress))
    (λ test h. keeps.stored progress test.1 kept)
  where
    given_here : Setting → TypedNames → tree.Expr → Progress → Result (ℤ × Store) ElabError
    given_here setting names condition progress =
        eval_checked setting.place names kind.Boolean condition progress.store

inside_kept : (setting : Setting) (P : Progress → Type 0) → Keeps setting P
    → (runs : Progress → Result Progress ElabError) (progress : Progress)
    → IfOk (runs progress) P → IfOk (inside runs progress) P
inside_kept setting P keeps runs progress h =
    then_ok (runs progress) (λ inner. Ok
    (record inner { store = block_left progress.store inner.store })) P P h
    (λ inner kept. keeps.stored inner (block_left progress.store inner.store) kept)

turned_kept : (setting : Setting) (P : Progress → Type 0) → Keeps setting P
    → (progress : Progress) → P progress → IfOk (turned progress) P
turned_kept setting P keeps progress kept =
    then_ok (computed (firing.turned progress.store))
    (λ store. Ok (record progress { store = store })) (λ store. Unit {0}) P
    (any_holds (computed (firing.turned progress.store)))
    (λ store h. keeps.stored progress store kept)

looped_kept : (setting : Setting) (P : Progress → Type 0) → Keeps setting P
    → (fuel : ℕ) (test : Progress → Result (ℤ × Progress) ElabError)
    (body : Progress → Result Progress ElabError)
    → ((p : Progress) → P p → IfOk (test p) (λ tested. P tested.1))
    → ((p : Progress) → P p → IfOk (body p) P) → (progress : Progress)
    → P progress → IfOk (looped fuel test body progress) P
looped_kept setting P keeps zero test body tests runs progress kept = tt
looped_kept setting P keeps (suc fuel) test body tests runs progress kept =
    then_ok (test progress) (λ tested. cond (is_true tested.0)
    (result_and_then (turned tested.1)
    (λ turning. result_and_then (body turning) (looped fuel test body))) (Ok tested.1))
    (λ tested. P tested.1) P (tests progress kept) (λ tested h.
    either_holds (is_true tested.0) (result_and_then (turned tested.1)
    (λ turning. result_and_then (body turning) (looped fuel test body))) (Ok tested.1) P
    (then_ok (turned tested.1) (λ turning. result_and_then (body turning)
    (looped fuel test body)) P P (turned_kept setting P keeps tested.1 h) (λ turning g.
    then_ok (body turning) (looped fuel test body) P P (runs turning g)
    (λ after k. looped_kept setting P keeps fuel test body tests runs after k)))
    h)

mutual
  -- statements keep it
  stmt_kept : (setting : Setting) (P : Progress → Type 0) → Keeps setting P
      → (names : TypedNames) (outer : ℕ) (statement : tree.Stmt) (progress : Progress)
      → P progress → IfOk (stmt_run setting names outer statement progress) P
  stmt_kept setting P keeps names outer tree.Empty progress kept = kept
  stmt_kept setting P keeps names outer (tree.Block body) progress kept =
      inside_kept setting P keeps (stmts_run setting names (length names) body) progress
      (stmts_kept setting P keeps names (length names) body progress kept)
  stmt_kept setting P keeps names outer (tree.Declare kind variables) progress kept =
      stored_kept setting P keeps (declaration_done setting.place names outer kind variables)
      progress kept
  stmt_kept setting P keeps names outer (tree.Evaluate value) progress kept =
      stored_kept setting P keeps (simple_done setting.place names outer (tree.Evaluate value))
      progress kept
  stmt_kept setting P keeps names outer (tree.Assign name operator value) progress kept =
      stored_kept setting P keeps
      (simple_done setting.place names outer (tree.Assign name operator value))
      progress kept
  stmt_kept setting P keeps names outer (tree.AssignElement name index operator value) progress kept
      = stored_kept setting P keeps (simple_done setting.place names outer
      (tree.AssignElement name index operator value)) progress kept
  stmt_kept setting P keeps names outer (tree.If condition chosen) progress kept =
      then_ok (condition_evaluated setting names (Some condition) progress)
      (λ test. cond (is_true test.0) (inside
      (stmt_run setting names (length names) chosen) test.1) (Ok test.1))
      (λ tested. P tested.1) P
      (tested_kept setting P keeps names (Some condition) progress kept) (λ test h.
      either_holds (is_true test.0) (inside (stmt_run setting names (length names) chosen) test.1)
      (Ok test.1) P
      (inside_kept setting P keeps (stmt_run setting names (length names) chosen) test.1
      (stmt_kept setting P keeps names (length names) chosen test.1 h)) h)
  stmt_kept setting P keeps names outer (tree.IfElse condition chosen other) progress kept =
      then_ok (condition_evaluated setting names (Some condition) progress)
      (λ test. cond (is_true test.0) (inside
      (stmt_run setting names (length names) chosen) test.1)
      (inside (stmt_run setting names (length names) other) test.1))
      (λ tested. P tested.1) P
      (tested_kept setting P keeps names (Some condition) progress kept) (λ test h.
      either_holds (is_true test.0) (inside (stmt_run setting names (length names) chosen) test.1)
      (inside (stmt_run setting names (length names) other) test.1) P
      (inside_kept setting P keeps (stmt_run setting names (length names) chosen) test.1
      (stmt_kept setting P keeps names (length names) chosen test.1 h))
      (inside_kept setting P keeps (stmt_run setting names (length names) other) test.1
      (stmt_kept setting P keeps names (length names) other test.1 h)))
  stmt_kept setting P keeps names outer (tree.While condition body) progress kept =
      looped_kept setting P keeps (suc turn_limit)
      (condition_evaluated setting names (Some condition))
      (inside (stmt_run setting names (length names) body))
      (tested_kept setting P keeps names (Some condition))
      (λ p h. inside_kept setting P keeps (stmt_run setting names (length names) body) p
      (stmt_kept setting P keeps names (length names) body p h)) progress kept
  stmt_kept setting P keeps names outer (tree.For first condition step body) progress kept =
      let inner = names_after names first in
      let turn = λ (turn : Progress). result_and_then
      (inside (stmt_run setting inner (length inner) body) turn)
      (inside (stmt_run setting inner (length inner) step)) in
      let loop = looped (suc turn_limit) (condition_evaluated setting inner condition) turn in
      inside_kept setting P keeps
      (λ outside. result_and_then (stmt_run setting names (length names) first outside)
      (λ begun. loop begun)) progress (
      then_ok (stmt_run setting names (length names) first progress)
      (λ begun. loop begun) P P
      (stmt_kept setting P keeps names (length names) first progress kept) (λ begun h.
      looped_kept setting P keeps (suc turn_limit) (condition_evaluated setting inner condition)
      turn
      (tested_kept setting P keeps inner condition)
      (λ p g. then_ok (inside (stmt_run setting inner (length inner) body) p)
      (inside (stmt_run setting inner (length inner) step)) P P
      (inside_kept setting P keeps (stmt_run setting inner (length inner) body) p
      (stmt_kept setting P keeps inner (length inner) body p g))
      (λ q k. inside_kept setting P keeps (stmt_run setting inner (length inner) step) q
      (stmt_kept setting P keeps inner (length inner) step q k))) begun h))
  stmt_kept setting P keeps names outer (tree.Push value) progress kept =
      stored_kept setting P keeps (simple_done setting.place names outer (tree.Push value)) progress
      kept
  stmt_kept setting P keeps names outer (tree.Print value) progress kept =
      stored_kept setting P keeps (simple_done setting.place names outer (tree.Print value))
      progress kept
  stmt_kept setting P keeps names outer (tree.Println value) progress kept =
      stored_kept setting P keeps (simple_done setting.place names outer (tree.Println value))
      progress kept
  stmt_kept setting P keeps names outer (tree.Return value) progress kept =
      stored_kept setting P keeps (simple_done setting.place names outer (tree.Return value))
      progress kept
  stmt_kept setting P keeps names outer (tree.Compose statement) progress kept =
      keeps.composed names statement progress kept

  pub stmts_kept : (setting : Setting) (P : Progress → Type 0) → Keeps setting P
      → (names : TypedNames) (outer : ℕ) (block : tree.Stmts) (progress : Progress)
      → P progress → IfOk (stmts_run setting names outer block progress) P
  stmts_kept setting P keeps names outer tree.Done progress kept = kept
  stmts_kept setting P keeps names outer (tree.Then first rest) progress kept =
      then_ok (stmt_run setting names outer first progress)
      (stmts_run setting (names_after names first) outer rest) P P
      (stmt_kept setting P keeps names outer first progress kept)
      (λ after h. stmts_kept setting P keeps (names_after names first) outer rest after h)
