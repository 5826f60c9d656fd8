-- What the number of turns of a counted loop promises of its runs.
use Rattle.std.specs.Prelude.{◌≡◌, ℕ, ◌<◌, true, false, Option, IfSome, Ok}
use Rattle.strc_parse_tree.specs.Tree as tree
use Rattle.strc_work_meaning.specs.Arithmetic.{truth}
use Rattle.strc_work_meaning.specs.Firing.{Setting, Store, value_in, condition_value}
use Rattle.strc_rate_intervals.specs.Loops.{value_after, counted_loop}
use Rattle.strc_work_writes.specs.LocalWrites.{Locals}

-- in each turn of a counted loop, where its variable has moved so many times from its first value,
-- the condition holds; after the last turn it doesn't
abbrev pub TurnsAreLeast : Type 0
TurnsAreLeast =
    (locals : Locals) (first : tree.Stmt) (condition : Option tree.Expr) (step body : tree.Stmt)
    → IfSome (counted_loop locals first condition step body) (λ loop.
    (setting : Setting) (store : Store) (turns : ℕ)
    → value_in store loop.name ≡ value_after loop turns
    → (turns < loop.turns → condition_value setting condition store ≡ Ok (truth true, store))
    × (turns ≡ loop.turns → condition_value setting condition store ≡ Ok (truth false, store)))
