-- Loops of a body, and the names that its statements leave.
use Rattle.std.specs.Prelude.{ℕ, Option, Some, Result, length}
use Rattle.strc_lex_names.specs.Results.{result_and_then}
use Rattle.strc_parse_tree.specs.Tree as tree
use Rattle.strc_work_meaning.specs.Typing.{TypedNames, names_after}
use Rattle.strc_elab.specs.Elaboration.{Setting, Progress, condition_evaluated, inside, looped}
use Rattle.strc_elab.specs.Elaboration.{stmt_run}
use Rattle.strc_elab_statements.specs.declared.error.ElabError.{ElabError}

-- a loop without a step, which may make fewer iterations than this
abbrev pub while_looped : Setting → TypedNames → tree.Expr → tree.Stmt → (fuel : ℕ) → Progress
    → Result Progress ElabError
while_looped setting names condition body fuel progress =
    looped fuel (condition_evaluated setting names (Some condition))
    (inside (stmt_run setting names (length names) body)) progress

-- a loop with a step after each iteration
abbrev pub for_looped : Setting → TypedNames → Option tree.Expr → (step body : tree.Stmt)
    → (fuel : ℕ) → Progress → Result Progress ElabError
for_looped setting names condition step body fuel progress =
    looped fuel (condition_evaluated setting names condition)
    (λ turn. result_and_then (inside (stmt_run setting names (length names) body) turn)
    (inside (stmt_run setting names (length names) step))) progress

-- the names that can be seen after statements
abbrev pub names_after_block : TypedNames → tree.Stmts → TypedNames
names_after_block names tree.Done = names
names_after_block names (tree.Then first rest) = names_after_block (names_after names first) rest
