-- Statements that write no outer variable, and call no helper function that does: the outer
-- variables stay as they are.
use Rattle.std.proofs.Common.{◌≡◌, refl, sym, ◌∙◌, ap, ℕ, suc, ℤ, pos, Bool, true, false}
use Rattle.std.proofs.Common.{not, ◌&&◌, ◌||◌, List, [], ◌∷◌, Option, Some, None}
use Rattle.std.proofs.Common.{Result, Ok}
use Rattle.std.specs.Prelude.{bytes_eq}
use Rattle.std.specs.Result.{IfOk}
use Rattle.std.proofs.lemmas.Result.{IfOk-weaker}
use Rattle.strc_lex_names.specs.Names.{has_name, plain_names}
use Rattle.strc_lex_names.specs.Results.{result_and_then}
use Rattle.strc_parse_tree.specs.Tree as tree
use Rattle.strc_work_meaning.specs.declared.fault.Cause.{Cause}
use Rattle.strc_work_meaning.specs.Arithmetic.{is_true}
use Rattle.strc_work_meaning.specs.Scoping.{answer_name, cells_of}
use Rattle.strc_work_meaning.specs.Returns.{stmt_returns, stmts_return}
use Rattle.strc_work_meaning.specs.Firing.{Setting, Store, Variables, cell_set, declared_in}
use Rattle.strc_work_meaning.specs.Firing.{value_of}
use Rattle.strc_work_meaning.specs.Firing.{initial_cells, variables_declared, condition_value}
use Rattle.strc_work_meaning.specs.Firing.{pushed_to, turn_limit, looped, inside, has_returned}
use Rattle.strc_work_meaning.specs.Firing.{unless_returned, test_unless_returned, returned}
use Rattle.strc_work_meaning.specs.Firing.{stmt_done, stmts_done}
use Rattle.strc_work_writes.specs.LocalWrites.{shadows, expr_writes, option_writes, variables_write}
use Rattle.strc_work_writes.specs.LocalWrites.{stmt_writes, stmts_write, with_locals, locals_after}
use Rattle.strc_work_writes.specs.Calls.{expr_calls_one, option_calls_one, variables_call_one}
use Rattle.strc_work_writes.specs.Calls.{stmt_calls_one, stmts_call_one}
use Rattle.strc_rate.proofs.Results.{or_first, or_second, then_ok, any_ok}
use Rattle.strc_rate.proofs.Keeping.{Covers, Given, HoldingBut, same_name, one_holds, neither}
use Rattle.strc_rate.proofs.Keeping.{value_holds_but, condition_holds_but, assigned_holds_but}
use Rattle.strc_rate.proofs.Keeping.{element_assigned_holds_but}
use Rattle.strc_rate.proofs.Unwritten.{looped_holds, unless_shadowed, branch_holds}
use Rattle.strc_rate.proofs.Within.{Within, Around, around, is_free, left_within}
use Rattle.strc_rate.proofs.Within.{bare_after, further_after, around_further}

-- whatever inner variables there are, evaluations leave the outer ones, where they write free names
-- and have no such calls
abbrev pub Spares : Setting → (outer : Variables) → (such : List ℕ → Bool) → Type 0
Spares setting outer such =
    (names : List (List ℕ)) → HoldingBut setting (λ store. Within outer names store.variables)
    (is_free (plain_names outer) names) such

-- the answer is an inner variable, where something returns
abbrev pub Answers : (names : List (List ℕ)) → (returns : Bool) → Type 0
Answers names returns = returns ≡ true → has_name names answer_name ≡ true

answers_first : (names : List (List ℕ)) (a b : Bool) → Answers names (a || b) → Answers names a
answers_first names true b answers e = answers refl
answers_first names false b answers e = absurd (cc)

answers_second : (names : List (List ℕ)) (a b : Bool) → Answers names (a || b) → Answers names b
answers_second names true b answers e = answers refl
answers_second names false b answers e = answers e

-- the answer stays an inner variable
answers_after : (names : List (List ℕ)) (s : tree.Stmt) (returns : Bool) → Answers names returns
    → Answers (locals_after names s) returns
answers_after names s returns answers e = by_test (has_name (locals_after names s) answer_name) refl
  where
    by_test : (t : Bool) → has_name (locals_after names s) answer_name ≡ t → t ≡ true
    by_test true f = refl
    by_test false f =
        let none : has_name names answer_name ≡ false = (bare_after names s answer_name f).0 in
        let some : has_name names answer_name ≡ true = answers e in
        absurd (cc)

-- it may be written
answer_covers : (outer names : List (List ℕ)) → has_name names answer_name ≡ true
    → Covers (is_free outer names) (bytes_eq answer_name)
answer_covers outer names found name bare = by_test (bytes_eq answer_name name) refl
  where
    by_test : (t : Bool) → bytes_eq answer_name name ≡ t → t ≡ false
    by_test false e = refl
    by_test true e =
        let none : has_name names name ≡ false = or_first (has_name names name) _ bare in
        let some : has_name names name ≡ true =
        sym (ap (has_name names) (same_name answer_name name e)) ∙ found in
        absurd (cc)

-- what comes after a statement
covers_after : (outer names : List (List ℕ)) (s : tree.Stmt) (here later : List ℕ → Bool)
    → Covers (is_free outer names) (λ name. here name || (not (shadows name s) && later name))
    → Covers (is_free outer (locals_after names s)) later
covers_after outer names s here later covers name bare =
    let shown = bare_after names s name (or_first (has_name (locals_after names s) name) _ bare) in
    let free : is_free outer names name ≡ false =
    neither _ _ shown.0 (or_second (has_name (locals_after names s) name) _ bare) in
    unless_shadowed (shadows name s) (later name) (or_second (here name) _ (covers name free))
    shown.1

-- ---- parts of statements

unless_spares : (Q : Store → Type 0) (returns : Bool) (does : Store → Result Store Cause)
    (store : Store) → Q store → IfOk (does store) Q → IfOk (unless_returned returns does store) Q
unless_spares Q false does store h k = k
unless_spares Q true does store h k =
    branch_holds Q (has_returned store) (Ok store) (does store) h k

test_spares : (P : Store → Type 0) (returns : Bool) (test : Store → Result (ℤ × Store) Cause)
    (store : Store) → P store → Given P (test store)
    → Given P (test_unless_returned returns test store)
test_spares P false test store h k = k
test_spares P true test store h k =
    one_holds P (has_returned store) (Ok (pos 0, store)) (test store) h k

-- a statement in a scope of its own
inside_spares : (outer : Variables) (names : List (List ℕ)) (does : Store → Result Store Cause)
    (store : Store) → Within outer names store.variables
    → IfOk (does store) (λ after. Around outer names after.variables)
    → IfOk (inside does store) (λ after. Within outer names after.variables)
inside_spares outer names does store h done =
    then_ok (does store) _ (λ after. Around outer names after.variables)
    (λ after. Within outer names after.variables) done
    (λ inner k. left_within outer names store inner h k)

-- the same, of a statement that may add names
scope_spares : (setting : Setting) (outer : Variables) (names : List (List ℕ)) (s : tree.Stmt)
    (store : Store) → Within outer names store.variables
    → IfOk (stmt_done setting s store)
    (λ after. Within outer (locals_after names s) after.variables)
    → IfOk (inside (stmt_done setting s) store) (λ after. Within outer names after.variables)
scope_spares setting outer names s store h done =
    inside_spares outer names (stmt_done setting s) store h
    (IfOk-weaker (stmt_done setting s store)
    (λ after. Within outer (locals_after names s) after.variables) _
    (λ after k. around_further outer names (locals_after names s) after.variables
    (further_after names s) (around outer (locals_after names s) after.variables k)) done)

-- the turns of a `for`
turns_spare : (setting : Setting) (outer : Variables) (such : List ℕ → Bool)
    → Spares setting outer such → (condition : Option tree.Expr)
    (names : List (List ℕ)) (returns : Bool) (step body : Store → Result Store Cause)
    (store : Store) → Covers (is_free (plain_names outer) names)
    (λ name. option_writes name condition)
    → option_calls_one such condition ≡ false
    → ((turn : Store) → Within outer names turn.variables
    → IfOk (step turn) (λ after. Within outer names after.variables))
    → ((turn : Store) → Within outer names turn.variables
    → IfOk (body turn) (λ after. Within outer names after.variables))
    → Within outer names store.variables
    → IfOk (looped (suc turn_limit)
    (test_unless_returned returns (condition_value setting condition))
    (λ turn. result_and_then (body turn) (unless_returned returns step)) store)
    (λ after. Within outer names after.variables)
turns_spare setting outer such spares condition names returns step body store covers none steps
    bodies h =
    looped_holds (λ s. Within outer names s.variables) (λ s n k. k) (suc turn_limit)
    (test_unless_returned returns (condition_value setting condition))
    (λ turn. result_and_then (body turn) (unless_returned returns step))
    (λ s k. test_spares (λ t. Within outer names t.variables) returns
    (condition_value setting condition) s k
    (condition_holds_but setting (λ t. Within outer names t.variables)
    (is_free (plain_names outer) names) such (spares names) condition s covers none k))
    (λ s k. then_ok (body s) _ (λ middle. Within outer names middle.variables)
    (λ after. Within outer names after.variables) (bodies s k)
    (λ middle l. unless_spares (λ after. Within outer names after.variables) returns step middle l
    (steps middle l)))
    store h

initial_spares : (setting : Setting) (outer : Variables) (such : List ℕ → Bool)
    → Spares setting outer such → (cells : ℕ) (initial : Option tree.Expr)
    (names : List (List ℕ)) (store : Store)
    → Covers (is_free (plain_names outer) names) (λ name. option_writes name initial)
    → option_calls_one such initial ≡ false → Within outer names store.variables
    → IfOk (initial_cells setting cells initial store)
    (λ given. Within outer names given.1.variables)
initial_spares setting outer such spares cells None names store covers none h = h
initial_spares setting outer such spares cells (Some initial) names store covers none h =
    then_ok (value_of setting initial store) _ (λ given. Within outer names given.1.variables)
    (λ given. Within outer names given.1.variables)
    (value_holds_but setting (λ s. Within outer names s.variables)
    (is_free (plain_names outer) names) such (spares names) initial store covers none h)
    (λ given k. k)

variables_spare : (setting : Setting) (outer : Variables) (such : List ℕ → Bool)
    → Spares setting outer such → (cells : ℕ) (variables : List tree.Variable)
    (names : List (List ℕ)) (store : Store)
    → Covers (is_free (plain_names outer) names) (λ name. variables_write name variables)
    → variables_call_one such variables ≡ false → Within outer names store.variables
    → IfOk (variables_declared setting cells variables store)
    (λ after. Within outer (with_locals names variables) after.variables)
variables_spare setting outer such spares cells [] names store covers none h = h
variables_spare setting outer such spares cells (first ∷ rest) names store covers none h =
    let further = first.name ∷ names in
    let later : Covers (is_free (plain_names outer) further) (λ name. variables_write name rest) =
    λ name bare.
    let shown = or_first (bytes_eq first.name name || has_name names name) _ bare in
    let free : is_free (plain_names outer) names name ≡ false =
    neither _ _ (or_second (bytes_eq first.name name) _ shown)
    (or_second (bytes_eq first.name name || has_name names name) _ bare) in
    unless_shadowed (bytes_eq first.name name) (variables_write name rest)
    (or_second (option_writes name first.initial) _ (covers name free))
    (or_first (bytes_eq first.name name) _ shown) in
    then_ok (initial_cells setting cells first.initial store) _
    (λ given. Within outer names given.1.variables)
    (λ after. Within outer (with_locals further rest) after.variables)
    (initial_spares setting outer such spares cells first.initial names store
    (λ name bare. or_first (option_writes name first.initial) _ (covers name bare))
    (or_first (option_calls_one such first.initial) _ none) h)
    (λ given k. variables_spare setting outer such spares cells rest further
    (declared_in given.1 first.name given.0) later
    (or_second (option_calls_one such first.initial) _ none)
    (record {
      inner = record { 0 = first.name; 1 = given.0 } ∷ k.inner;
      is = ap (λ v. record { 0 = first.name; 1 = given.0 } ∷ v) k.is;
      named = ap (λ l. first.name ∷ l) k.named;
    }))

returned_spares : (setting : Setting) (outer : Variables) (such : List ℕ → Bool)
    → Spares setting outer such → (value : Option tree.Expr) (names : List (List ℕ))
    (store : Store) → has_name names answer_name ≡ true
    → Covers (is_free (plain_names outer) names) (λ name. option_writes name value)
    → option_calls_one such value ≡ false → Within outer names store.variables
    → IfOk (returned setting value store) (λ after. Within outer names after.variables)
returned_spares setting outer such spares None names store found covers none h =
    (spares names).written store answer_name 0 (pos 1)
    (answer_covers (plain_names outer) names found) h
returned_spares setting outer such spares (Some value) names store found covers none h =
    let free = answer_covers (plain_names outer) names found in
    then_ok (value_of setting value store) _ (λ given. Within outer names given.1.variables)
    (λ after. Within outer names after.variables)
    (value_holds_but setting (λ s. Within outer names s.variables)
    (is_free (plain_names outer) names) such (spares names) value store covers none h)
    (λ given k.
    (spares names).written (cell_set given.1 answer_name 1 given.0) answer_name 0 (pos 1) free
    ((spares names).written given.1 answer_name 1 given.0 free k))

-- ---- statements

mutual
  pub stmt_spares : (setting : Setting) (outer : Variables) (such : List ℕ → Bool)
      → Spares setting outer such → (s : tree.Stmt) (names : List (List ℕ)) (store : Store)
      → Covers (is_free (plain_names outer) names) (λ name. stmt_writes name s)
      → stmt_calls_one such s ≡ false → Answers names (stmt_returns s)
      → Within outer names store.variables → IfOk (stmt_done setting s store)
      (λ after. Within outer (locals_after names s) after.variables)
  stmt_spares setting outer such spares tree.Empty names store covers none answers h = h
  stmt_spares setting outer such spares (tree.Compose statement) names store covers none answers h =
      h
  stmt_spares setting outer such spares (tree.Block body) names store covers none answers h =
      inside_spares outer names (stmts_done setting body) store h
      (stmts_spare setting outer such spares body names store covers none answers h)
  stmt_spares setting outer such spares (tree.Declare kind variables) names store covers none
      answers h =
      variables_spare setting outer such spares (cells_of kind) variables names store covers none h
  stmt_spares setting outer such spares (tree.Evaluate value) names store covers none answers h =
      then_ok (value_of setting value store) _ (λ given. Within outer names given.1.variables)
      (λ after. Within outer names after.variables)
      (value_holds_but setting (λ s. Within outer names s.variables)
      (is_free (plain_names outer) names) such (spares names) value store covers none h)
      (λ given k. k)
  stmt_spares setting outer such spares (tree.Assign assigned operator value) names store covers
      none answers h =
      assigned_holds_but setting (λ s. Within outer names s.variables)
      (is_free (plain_names outer) names) such (spares names) assigned operator value store covers
      none h
  stmt_spares setting outer such spares (tree.AssignElement array index operator value) names store
      covers none answers h =
      element_assigned_holds_but setting (λ s. Within outer names s.variables)
      (is_free (plain_names outer) names) such (spares names) array index operator value store
      covers none h
  stmt_spares setting outer such spares (tree.If condition chosen) names store covers none answers
      h =
      then_ok (value_of setting condition store) _ (λ test. Within outer names test.1.variables)
      (λ after. Within outer names after.variables)
      (value_holds_but setting (λ s. Within outer names s.variables)
      (is_free (plain_names outer) names) such (spares names) condition store
      (λ name e. or_first (expr_writes name condition) _ (covers name e))
      (or_first (expr_calls_one such condition) _ none) h)
      (λ test k. branch_holds (λ after. Within outer names after.variables) (is_true test.0)
      (inside (stmt_done setting chosen) test.1) (Ok test.1)
      (scope_spares setting outer names chosen test.1 k
      (stmt_spares setting outer such spares chosen names test.1
      (λ name e. or_second (expr_writes name condition) _ (covers name e))
      (or_second (expr_calls_one such condition) _ none) answers k)) k)
  stmt_spares setting outer such spares (tree.IfElse condition chosen other) names store covers none
      answers h =
      let sides = or_second (expr_calls_one such condition) _ none in
      then_ok (value_of setting condition store) _ (λ test. Within outer names test.1.variables)
      (λ after. Within outer names after.variables)
      (value_holds_but setting (λ s. Within outer names s.variables)
      (is_free (plain_names outer) names) such (spares names) condition store
      (λ name e. or_first (expr_writes name condition) _ (covers name e))
      (or_first (expr_calls_one such condition) _ none) h)
      (λ test k. branch_holds (λ after. Within outer names after.variables) (is_true test.0)
      (inside (stmt_done setting chosen) test.1) (inside (stmt_done setting other) test.1)
      (scope_spares setting outer names chosen test.1 k
      (stmt_spares setting outer such spares chosen names test.1
      (λ name e. or_first (stmt_writes name chosen) _
      (or_second (expr_writes name condition) _ (covers name e)))
      (or_first (stmt_calls_one such chosen) _ sides)
      (answers_first names (stmt_returns chosen) (stmt_returns other) answers) k))
      (scope_spares setting outer names other test.1 k
      (stmt_spares setting outer such spares other names test.1
      (λ name e. or_second (stmt_writes name chosen) _
      (or_second (expr_writes name condition) _ (covers name e)))
      (or_second (stmt_calls_one such chosen) _ sides)
      (answers_second names (stmt_returns chosen) (stmt_returns other) answers) k)))
  stmt_spares setting outer such spares (tree.While condition body) names store covers none answers
      h =
      looped_holds (λ s. Within outer names s.variables) (λ s n k. k) (suc turn_limit)
      (test_unless_returned (stmt_returns body) (value_of setting condition))
      (inside (stmt_done setting body))
      (λ s k. test_spares (λ t. Within outer names t.variables) (stmt_returns body)
      (value_of setting condition) s k
      (value_holds_but setting (λ t. Within outer names t.variables)
      (is_free (plain_names outer) names) such (spares names) condition s
      (λ name e. or_first (expr_writes name condition) _ (covers name e))
      (or_first (expr_calls_one such condition) _ none) k))
      (λ s k. scope_spares setting outer names body s k
      (stmt_spares setting outer such spares body names s
      (λ name e. or_second (expr_writes name condition) _ (covers name e))
      (or_second (expr_calls_one such condition) _ none) answers k)) store h
  stmt_spares setting outer such spares (tree.For first condition step body) names store covers none
      answers h =
      let further = locals_after names first in
      let advance : List ℕ → Bool = λ name. option_writes name condition
      || (stmt_writes name step || stmt_writes name body) in
      let later : Covers (is_free (plain_names outer) further) advance =
      covers_after (plain_names outer) names first
      (λ name. stmt_writes name first) advance covers in
      let calls = or_second (stmt_calls_one such first) _ none in
      let turns = or_second (option_calls_one such condition) _ calls in
      let returning = answers_second names (stmt_returns first) _ answers in
      let loop : Store → Result Store Cause =
      looped (suc turn_limit)
      (test_unless_returned (stmt_returns body) (condition_value setting condition))
      (λ turn. result_and_then (inside (stmt_done setting body) turn)
      (unless_returned (stmt_returns body) (inside (stmt_done setting step)))) in
      inside_spares outer names (λ outside. result_and_then (stmt_done setting first outside) loop)
      store h
      (then_ok (stmt_done setting first store) loop
      (λ begun. Within outer further begun.variables)
      (λ after. Around outer names after.variables)
      (stmt_spares setting outer such spares first names store
      (λ name e. or_first (stmt_writes name first) _ (covers name e))
      (or_first (stmt_calls_one such first) _ none)
      (answers_first names (stmt_returns first) _ answers) h)
      (λ begun k. IfOk-weaker (loop begun)
      (λ after. Within outer further after.variables) _
      (λ after l. around_further outer names further after.variables (further_after names first)
      (around outer further after.variables l))
      (turns_spare setting outer such spares condition further (stmt_returns body)
      (inside (stmt_done setting step)) (inside (stmt_done setting body)) begun
      (λ name e. or_first (option_writes name condition) _ (later name e))
      (or_first (option_calls_one such condition) _ calls)
      (λ s l. scope_spares setting outer further step s l
      (stmt_spares setting outer such spares step further s
      (λ name e. or_first (stmt_writes name step) _
      (or_second (option_writes name condition) _ (later name e)))
      (or_first (stmt_calls_one such step) _ turns)
      (answers_after names first (stmt_returns step)
      (answers_first names (stmt_returns step) (stmt_returns body) returning)) l))
      (λ s l. scope_spares setting outer further body s l
      (stmt_spares setting outer such spares body further s
      (λ name e. or_second (stmt_writes name step) _
      (or_second (option_writes name condition) _ (later name e)))
      (or_second (stmt_calls_one such step) _ turns)
      (answers_after names first (stmt_returns body)
      (answers_second names (stmt_returns step) (stmt_returns body) returning)) l)) k)))
  stmt_spares setting outer such spares (tree.Push value) names store covers none answers h =
      then_ok (value_of setting value store) _ (λ given. Within outer names given.1.variables)
      (λ after. Within outer names after.variables)
      (value_holds_but setting (λ s. Within outer names s.variables)
      (is_free (plain_names outer) names) such (spares names) value store covers none h)
      (λ given k. then_ok (pushed_to setting.port given.0 given.1.traffic) _
      (λ traffic. Unit {0}) (λ after. Within outer names after.variables)
      (any_ok (pushed_to setting.port given.0 given.1.traffic)) (λ traffic _. k))
  stmt_spares setting outer such spares (tree.Print value) names store covers none answers h =
      then_ok (value_of setting value store) _ (λ given. Within outer names given.1.variables)
      (λ after. Within outer names after.variables)
      (value_holds_but setting (λ s. Within outer names s.variables)
      (is_free (plain_names outer) names) such (spares names) value store covers none h)
      (λ given k. k)
  stmt_spares setting outer such spares (tree.Println value) names store covers none answers h =
      then_ok (value_of setting value store) _ (λ given. Within outer names given.1.variables)
      (λ after. Within outer names after.variables)
      (value_holds_but setting (λ s. Within outer names s.variables)
      (is_free (plain_names outer) names) such (spares names) value store covers none h)
      (λ given k. k)
  stmt_spares setting outer such spares (tree.Return value) names store covers none answers h =
      returned_spares setting outer such spares value names store (answers refl) covers none h

  pub stmts_spare : (setting : Setting) (outer : Variables) (such : List ℕ → Bool)
      → Spares setting outer such → (block : tree.Stmts) (names : List (List ℕ)) (store : Store)
      → Covers (is_free (plain_names outer) names) (λ name. stmts_write name block)
      → stmts_call_one such block ≡ false → Answers names (stmts_return block)
      → Within outer names store.variables → IfOk (stmts_done setting block store)
      (λ after. Around outer names after.variables)
  stmts_spare setting outer such spares tree.Done names store covers none answers h =
      around outer names store.variables h
  stmts_spare setting outer such spares (tree.Then first rest) names store covers none answers h =
      let further = locals_after names first in
      then_ok (stmt_done setting first store) _ (λ middle. Within outer further middle.variables)
      (λ after. Around outer names after.variables)
      (stmt_spares setting outer such spares first names store
      (λ name e. or_first (stmt_writes name first) _ (covers name e))
      (or_first (stmt_calls_one such first) _ none)
      (answers_first names (stmt_returns first) (stmts_return rest) answers) h)
      (λ middle k. unless_spares (λ after. Around outer names after.variables)
      (stmt_returns first) (stmts_done setting rest) middle
      (around_further outer names further middle.variables (further_after names first)
      (around outer further middle.variables k))
      (IfOk-weaker (stmts_done setting rest middle)
      (λ after. Around outer further after.variables) _
      (λ after l. around_further outer names further after.variables (further_after names first) l)
      (stmts_spare setting outer such spares rest further middle
      (covers_after (plain_names outer) names first (λ name. stmt_writes name first)
      (λ name. stmts_write name rest) covers)
      (or_second (stmt_calls_one such first) _ none)
      (answers_after names first (stmts_return rest)
      (answers_second names (stmt_returns first) (stmts_return rest) answers)) k)))
