-- Statements in which no `return` stands, and what they do: one part after the other.
use Rattle.std.proofs.Common.{◌≡◌, sym, subst, suc, false, List, Option}
use Rattle.std.specs.Result.{IfOk}
use Rattle.strc_lex_names.specs.Results.{result_and_then}
use Rattle.strc_parse_tree.specs.Tree as tree
use Rattle.strc_work_meaning.specs.declared.body.Body.{Body}
use Rattle.strc_work_meaning.specs.Filters.{body_block}
use Rattle.strc_work_meaning.specs.Scoping.{Scope, names_after}
use Rattle.strc_work_meaning.specs.Closed.{IsClosedStmt, AreClosed, AreClosedMembers}
use Rattle.strc_work_meaning.specs.Returns.{stmt_returns, stmts_return}
use Rattle.strc_work_meaning.specs.Firing.{Setting, Store, value_of, condition_value, turn_limit}
use Rattle.strc_work_meaning.specs.Firing.{looped, inside, unless_returned, test_unless_returned}
use Rattle.strc_work_meaning.specs.Firing.{stmt_done, stmts_done}
use Rattle.strc_work_code.proofs.ClosedBodies.{body_kept}
use Rattle.strc_rate.proofs.Results.{or_first, or_second}

-- a statement of known names in which no `return` stands
abbrev pub IsPlain : Scope → tree.Stmt → Type 0
IsPlain names s = IsClosedStmt names s × (stmt_returns s ≡ false)

-- such statements
abbrev pub ArePlain : Scope → tree.Stmts → Type 0
ArePlain names block = AreClosed names block × (stmts_return block ≡ false)

pub plain_sides : (names : Scope) (condition : tree.Expr) (chosen other : tree.Stmt)
    → IsPlain names (tree.IfElse condition chosen other)
    → IsPlain names chosen × IsPlain names other
plain_sides names condition chosen other plain = (
  (plain.0.1, or_first (stmt_returns chosen) (stmt_returns other) plain.1),
  (plain.0.2, or_second (stmt_returns chosen) (stmt_returns other) plain.1),
)

pub plain_parts : (names : Scope) (first : tree.Stmt) (condition : Option tree.Expr)
    (step body : tree.Stmt) → IsPlain names (tree.For first condition step body)
    → IsPlain names first × IsPlain (names_after names first) step
    × IsPlain (names_after names first) body
plain_parts names first condition step body plain =
    let turns = or_second (stmt_returns first) _ plain.1 in (
      (plain.0.0, or_first (stmt_returns first) _ plain.1),
      (plain.0.2, or_first (stmt_returns step) (stmt_returns body) turns),
      (plain.0.3, or_second (stmt_returns step) (stmt_returns body) turns),
    )

pub plain_then : (names : Scope) (first : tree.Stmt) (rest : tree.Stmts)
    → ArePlain names (tree.Then first rest)
    → IsPlain names first × ArePlain (names_after names first) rest
plain_then names first rest plain = (
  (plain.0.0, or_first (stmt_returns first) (stmts_return rest) plain.1),
  (plain.0.1, or_second (stmt_returns first) (stmts_return rest) plain.1),
)

-- the bodies of a filter of known names
pub body_plain : (body : Body) (names : Scope) (members : List tree.Member)
    → AreClosedMembers names members → ArePlain names (body_block body members)
body_plain body names members closed =
    let kept = body_kept body names members closed in (kept.0, kept.1)

-- ---- one part after the other

pub while_ok : (setting : Setting) (condition : tree.Expr) (body : tree.Stmt) (store : Store)
    (P : Store → Type 0) → stmt_returns body ≡ false
    → IfOk (looped (suc turn_limit) (value_of setting condition) (inside (stmt_done setting body))
    store) P
    → IfOk (stmt_done setting (tree.While condition body) store) P
while_ok setting condition body store P none h =
    subst (λ r. IfOk (looped (suc turn_limit)
    (test_unless_returned r (value_of setting condition)) (inside (stmt_done setting body)) store)
    P) (sym none) h

pub for_ok : (setting : Setting) (first : tree.Stmt) (condition : Option tree.Expr)
    (step body : tree.Stmt) (store : Store) (P : Store → Type 0) → stmt_returns body ≡ false
    → IfOk (inside (λ outer. result_and_then (stmt_done setting first outer)
    (looped (suc turn_limit) (condition_value setting condition)
    (λ turn. result_and_then (inside (stmt_done setting body) turn)
    (inside (stmt_done setting step))))) store) P
    → IfOk (stmt_done setting (tree.For first condition step body) store) P
for_ok setting first condition step body store P none h =
    subst (λ r. IfOk (inside (λ outer. result_and_then (stmt_done setting first outer)
    (looped (suc turn_limit) (test_unless_returned r (condition_value setting condition))
    (λ turn. result_and_then (inside (stmt_done setting body) turn)
    (unless_returned r (inside (stmt_done setting step)))))) store) P) (sym none) h

pub block_ok : (setting : Setting) (first : tree.Stmt) (rest : tree.Stmts) (store : Store)
    (P : Store → Type 0) → stmt_returns first ≡ false
    → IfOk (result_and_then (stmt_done setting first store) (stmts_done setting rest)) P
    → IfOk (stmts_done setting (tree.Then first rest) store) P
block_ok setting first rest store P none h =
    subst (λ r. IfOk (result_and_then (stmt_done setting first store)
    (unless_returned r (stmts_done setting rest))) P) (sym none) h
