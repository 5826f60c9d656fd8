-- Where a helper has returned: its answer, and what is left out from there on.
use Rattle.std.proofs.Common.{◌≡◌, ℕ, ◌<◌, ◌||◌, Bool, true, false, cond, List, [], ◌∷◌, Some, Ok}
use Rattle.std.proofs.Common.{refl, sym, ap, ◌∙◌, subst}
use Rattle.std.specs.Prelude.{unwrap_or, bytes_eq}
use Rattle.std.proofs.lemmas.Bool.{false≢true}
use Rattle.strc_lex_names.specs.Results.{result_and_then}
use Rattle.strc_parse_tree.specs.Tree as tree
use Rattle.strc_work_meaning.specs.Arithmetic.{is_true}
use Rattle.strc_work_meaning.specs.Scoping.{Scope, answer_name, cells_of, with_declared}
use Rattle.strc_work_meaning.specs.Scoping.{names_after}
use Rattle.strc_work_meaning.specs.Scoping.{total, is_declared, slot_named, slot_of, size_named}
use Rattle.strc_work_meaning.specs.Scoping.{size_of}
use Rattle.strc_work_meaning.specs.Returns.{stmt_returns, stmts_return, variables_shadow}
use Rattle.strc_work_meaning.specs.Returns.{stmt_shadows}
use Rattle.strc_work_meaning.specs.Returns.{stmts_shadow}
use Rattle.strc_work_meaning.specs.Closed.{IsNamed, IsClosedStmt, AreClosed}
use Rattle.strc_work_meaning.specs.Firing.{Setting, Store, has_returned, stmt_done}
use Rattle.strc_work_code.specs.Nodes.{Machine, Nodes, End, slot_value, chosen_by, nodes_done}
use Rattle.strc_work_code.specs.Lowering.{stmt_nodes, stmts_nodes, unless_answered}
use Rattle.strc_work.proofs.Variables.{scope_of}
use Rattle.strc_work.proofs.Related.{then_end}

-- ---- truths

pub or_first : (a b : Bool) → a || b ≡ false → a ≡ false
or_first true b e = e
or_first false b e = refl

pub or_second : (a b : Bool) → a || b ≡ false → b ≡ false
or_second true b e = absurd (cc)
or_second false b e = e

or_true : (a b : Bool) (P : Type 0) → (a ≡ true → P) → (b ≡ true → P) → a || b ≡ true → P
or_true true b P go go' e = go refl
or_true false b P go go' e = go' e

-- ---- names

-- the answer is where it was
pub record Unshadowed (names after : Scope) : Type 0 where
  pub slot : slot_named after answer_name ≡ slot_named names answer_name
  pub named : is_declared after answer_name ≡ is_declared names answer_name
  pub size : size_named after answer_name ≡ size_named names answer_name

unshadowed_declared : (names : Scope) (cells : ℕ) (vs : List tree.Variable)
    → variables_shadow vs ≡ false → Unshadowed names (with_declared names cells vs)
unshadowed_declared names cells [] shadows = record { slot = refl; named = refl; size = refl }
unshadowed_declared names cells (first ∷ rest) shadows =
    let other = or_first (bytes_eq first.name answer_name) (variables_shadow rest) shadows in
    let inner = unshadowed_declared (record { 0 = first.name; 1 = cells } ∷ names) cells rest
    (or_second (bytes_eq first.name answer_name) (variables_shadow rest) shadows) in
    record {
      slot = inner.slot
          ∙ ap (λ t. cond t (Some (total names)) (slot_named names answer_name)) other;
      named = inner.named ∙ ap (λ t. t || is_declared names answer_name) other;
      size = inner.size ∙ ap (λ t. cond t (Some cells) (size_named names answer_name)) other;
    }

pub unshadowed_after : (names : Scope) (s : tree.Stmt) → stmt_shadows s ≡ false
    → Unshadowed names (names_after names s)
unshadowed_after names (tree.Declare kind variables) shadows =
    unshadowed_declared names (cells_of kind) variables shadows
unshadowed_after names tree.Empty shadows = record { slot = refl; named = refl; size = refl }
unshadowed_after names (tree.Compose statement) shadows = record {
  slot = refl;
  named = refl;
  size =
      refl;
}
unshadowed_after names (tree.Block body) shadows = record { slot = refl; named = refl; size = refl }
unshadowed_after names (tree.Evaluate value) shadows = record {
  slot = refl;
  named = refl;
  size =
      refl;
}
unshadowed_after names (tree.Assign name operator value) shadows = record {
  slot = refl;
  named = refl;
  size = refl;
}
unshadowed_after names (tree.AssignElement name index operator value) shadows =
    record { slot = refl; named = refl; size = refl }
unshadowed_after names (tree.If condition chosen) shadows = record {
  slot = refl;
  named = refl;
  size =
      refl;
}
unshadowed_after names (tree.IfElse condition chosen other) shadows =
    record { slot = refl; named = refl; size = refl }
unshadowed_after names (tree.While condition body) shadows = record {
  slot = refl;
  named = refl;
  size =
      refl;
}
unshadowed_after names (tree.For first condition step body) shadows =
    record { slot = refl; named = refl; size = refl }
unshadowed_after names (tree.Push value) shadows = record { slot = refl; named = refl; size = refl }
unshadowed_after names (tree.Print value) shadows = record {
  slot = refl;
  named = refl;
  size = refl;
}
unshadowed_after names (tree.Println value) shadows = record {
  slot = refl;
  named = refl;
  size =
      refl;
}
unshadowed_after names (tree.Return value) shadows = record {
  slot = refl;
  named = refl;
  size = refl;
}

-- there is an answer still
pub named_after : (names : Scope) (s : tree.Stmt) → stmt_shadows s ≡ false
    → IsNamed names answer_name → IsNamed (names_after names s) answer_name
named_after names s shadows named = (unshadowed_after names s shadows).named ∙ named

-- with as many cells
pub size_after : (names : Scope) (s : tree.Stmt) → stmt_shadows s ≡ false
    → size_of (names_after names s) answer_name ≡ size_of names answer_name
size_after names s shadows = ap (λ o. unwrap_or o 0) (unshadowed_after names s shadows).size

mutual
  -- where a statement returns there is an answer
  pub stmt_named : (s : tree.Stmt) (names : Scope) → IsClosedStmt names s → stmt_shadows s ≡ false
      → stmt_returns s ≡ true → IsNamed names answer_name
  stmt_named tree.Empty names closed shadows returns = absurd (false≢true returns)
  stmt_named (tree.Compose statement) names closed shadows returns = absurd (false≢true returns)
  stmt_named (tree.Block body) names closed shadows returns =
      stmts_named body names closed shadows returns
  stmt_named (tree.Declare kind variables) names closed shadows returns =
      absurd (false≢true returns)
  stmt_named (tree.Evaluate value) names closed shadows returns = absurd (false≢true returns)
  stmt_named (tree.Assign name operator value) names closed shadows returns =
      absurd (false≢true returns)
  stmt_named (tree.AssignElement name index operator value) names closed shadows returns =
      absurd (false≢true returns)
  stmt_named (tree.If condition chosen) names closed shadows returns =
      stmt_named chosen names closed.1 shadows returns
  stmt_named (tree.IfElse condition chosen other) names closed shadows returns =
      or_true (stmt_returns chosen) (stmt_returns other) (IsNamed names answer_name)
      (stmt_named chosen names closed.1 (or_first (stmt_shadows chosen) (stmt_shadows other)
      shadows))
      (stmt_named other names closed.2 (or_second (stmt_shadows chosen) (stmt_shadows other)
      shadows))
      returns
  stmt_named (tree.While condition body) names closed shadows returns =
      stmt_named body names closed.1 shadows returns
  stmt_named (tree.For first condition step body) names closed shadows returns =
      let shadows_first = or_first (stmt_shadows first) (stmt_shadows step || stmt_shadows body)
      shadows in
      let shadows_rest = or_second (stmt_shadows first) (stmt_shadows step || stmt_shadows body)
      shadows in
      let back = sym (unshadowed_after names first shadows_first).named in
      or_true (stmt_returns first) (stmt_returns step || stmt_returns body)
      (IsNamed names answer_name) (stmt_named first names closed.0 shadows_first)
      (or_true (stmt_returns step) (stmt_returns body) (IsNamed names answer_name)
      (λ r. back ∙ stmt_named step (names_after names first) closed.2
      (or_first (stmt_shadows step) (stmt_shadows body) shadows_rest) r)
      (λ r. back ∙ stmt_named body (names_after names first) closed.3
      (or_second (stmt_shadows step) (stmt_shadows body) shadows_rest) r)) returns
  stmt_named (tree.Push value) names closed shadows returns = absurd (false≢true returns)
  stmt_named (tree.Print value) names closed shadows returns = absurd (false≢true returns)
  stmt_named (tree.Println value) names closed shadows returns = absurd (false≢true returns)
  stmt_named (tree.Return value) names closed shadows returns = closed.0

  stmts_named : (b : tree.Stmts) (names : Scope) → AreClosed names b → stmts_shadow b ≡ false
      → stmts_return b ≡ true → IsNamed names answer_name
  stmts_named tree.Done names closed shadows returns = absurd (false≢true returns)
  stmts_named (tree.Then first rest) names closed shadows returns =
      let shadows_first = or_first (stmt_shadows first) (stmts_shadow rest) shadows in
      or_true (stmt_returns first) (stmts_return rest) (IsNamed names answer_name)
      (stmt_named first names closed.0 shadows_first)
      (λ r. sym (unshadowed_after names first shadows_first).named
      ∙ stmts_named rest (names_after names first) closed.1
      (or_second (stmt_shadows first) (stmts_shadow rest) shadows) r) returns

-- ---- what statements leave of the answer

-- a statement after which there is no answer where there was none before it
abbrev pub KeepsAnswer : Setting → Scope → tree.Stmt → Type 0
KeepsAnswer setting names s =
    (given after : Store) → scope_of given.variables ≡ names → stmt_done setting s given ≡ Ok after
    → has_returned given ≡ false → has_returned after ≡ false

-- the answer has a cell for what is returned, and nothing but a `return` gives an answer in
-- statements that come after one
abbrev mutual
  pub Answers : Setting → Scope → tree.Stmt → Type 0
  Answers setting names tree.Empty = Unit {0}
  Answers setting names (tree.Compose statement) = Unit {0}
  Answers setting names (tree.Block body) = AnswersAll setting names false body
  Answers setting names (tree.Declare kind variables) = Unit {0}
  Answers setting names (tree.Evaluate value) = Unit {0}
  Answers setting names (tree.Assign name operator value) = Unit {0}
  Answers setting names (tree.AssignElement name index operator value) = Unit {0}
  Answers setting names (tree.If condition chosen) = Answers setting names chosen
  Answers setting names (tree.IfElse condition chosen other) =
      Answers setting names chosen × Answers setting names other
  Answers setting names (tree.While condition body) = Answers setting names body
  Answers setting names (tree.For first condition step body) =
      Answers setting names first × Answers setting (names_after names first) step
      × Answers setting (names_after names first) body
  Answers setting names (tree.Push value) = Unit {0}
  Answers setting names (tree.Print value) = Unit {0}
  Answers setting names (tree.Println value) = Unit {0}
  Answers setting names (tree.Return value) = 1 < size_of names answer_name

  -- `returns` tells whether a `return` may stand before the statements
  pub AnswersAll : Setting → Scope → (returns : Bool) → tree.Stmts → Type 0
  AnswersAll setting names returns tree.Done = Unit {0}
  AnswersAll setting names returns (tree.Then first rest) =
      Answers setting names first
      × (returns ≡ true → stmt_returns first ≡ false → KeepsAnswer setting names first)
      × AnswersAll setting (names_after names first) (returns || stmt_returns first) rest

mutual
  -- so it is where nothing returns
  pub none_answers : (setting : Setting) (s : tree.Stmt) (names : Scope) → stmt_returns s ≡ false
      → Answers setting names s
  none_answers setting tree.Empty names returns = tt
  none_answers setting (tree.Compose statement) names returns = tt
  none_answers setting (tree.Block body) names returns = none_answer setting body names returns
  none_answers setting (tree.Declare kind variables) names returns = tt
  none_answers setting (tree.Evaluate value) names returns = tt
  none_answers setting (tree.Assign name operator value) names returns = tt
  none_answers setting (tree.AssignElement name index operator value) names returns = tt
  none_answers setting (tree.If condition chosen) names returns =
      none_answers setting chosen names returns
  none_answers setting (tree.IfElse condition chosen other) names returns = (
    none_answers setting chosen names (or_first (stmt_returns chosen) (stmt_returns other) returns),
    none_answers setting other names (or_second (stmt_returns chosen) (stmt_returns other) returns),
  )
  none_answers setting (tree.While condition body) names returns =
      none_answers setting body names returns
  none_answers setting (tree.For first condition step body) names returns =
      let inner = names_after names first in
      let later = or_second (stmt_returns first) (stmt_returns step || stmt_returns body) returns
      in (
        none_answers setting first names
            (or_first (stmt_returns first) (stmt_returns step || stmt_returns body) returns),
        none_answers setting step inner (or_first (stmt_returns step) (stmt_returns body) later),
        none_answers setting body inner (or_second (stmt_returns step) (stmt_returns body) later),
      )
  none_answers setting (tree.Push value) names returns = tt
  none_answers setting (tree.Print value) names returns = tt
  none_answers setting (tree.Println value) names returns = tt
  none_answers setting (tree.Return value) names returns = absurd (cc)

  pub none_answer : (setting : Setting) (b : tree.Stmts) (names : Scope) → stmts_return b ≡ false
      → AnswersAll setting names false b
  none_answer setting tree.Done names returns = tt
  none_answer setting (tree.Then first rest) names returns =
      let none = or_first (stmt_returns first) (stmts_return rest) returns in (
        none_answers setting first names none,
        λ r. absurd (false≢true r),
        subst (λ t. AnswersAll setting (names_after names first) t rest) (sym none)
            (none_answer setting rest (names_after names first)
            (or_second (stmt_returns first) (stmts_return rest) returns)),
      )

-- ---- code

-- code that isn't left out, where there is no answer
pub unless_answered_done : (setting : Setting) (names : Scope) (returns : Bool) (code : Nodes)
    (m : Machine)
    → (returns ≡ true → is_true (slot_value m (slot_of names answer_name)) ≡ false)
    → nodes_done setting (unless_answered names returns code) m ≡ nodes_done setting code m
unless_answered_done setting names false code m unanswered = refl
unless_answered_done setting names true code m unanswered =
    ap (λ t. result_and_then (chosen_by t (nodes_done setting End) (nodes_done setting code) m)
    (nodes_done setting End)) (unanswered refl) ∙ then_end setting (nodes_done setting code m)

-- once there is an answer the rest is left out
pub left_out : (setting : Setting) (rest : tree.Stmts) (names : Scope) (m : Machine)
    → stmts_shadow rest ≡ false → is_true (slot_value m (slot_of names answer_name)) ≡ true
    → nodes_done setting (stmts_nodes names true rest) m ≡ Ok m
left_out setting tree.Done names m shadows answered = refl
left_out setting (tree.Then first rest) names m shadows answered =
    let names' = names_after names first in
    let same = unshadowed_after names first (or_first (stmt_shadows first) (stmts_shadow rest)
    shadows) in
    ap (λ t. result_and_then (chosen_by t (nodes_done setting End)
    (nodes_done setting (stmt_nodes names first)) m)
    (nodes_done setting (stmts_nodes names' true rest))) answered
    ∙ left_out setting rest names' m (or_second (stmt_shadows first) (stmts_shadow rest) shadows)
    (ap (λ o. is_true (slot_value m (unwrap_or o 0))) same.slot ∙ answered)
