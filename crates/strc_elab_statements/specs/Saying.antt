-- How code that evaluates and runs answers.
use Rattle.std.specs.Prelude.{◌≡◌, ℤ, Result, Ok, Err}
use Rattle.strc_work_meaning.specs.Firing as firing
use Rattle.strc_lex_names.specs.Results.{result_and_then}
use Rattle.strc_parse_tree.specs.Tree as tree
use Rattle.strc_work_meaning.specs.Firing.{no_traffic, alone, arguments_given}
use Rattle.strc_work_meaning.specs.declared.fault.Cause.{Cause}
use Rattle.strc_elab_statements.specs.declared.store.Store.{Store}

-- the variables' values, and how many iterations there were
abbrev pub store_of : Store → firing.Store
store_of store = record {
  variables = store.variables.variables;
  traffic =
      record no_traffic { turns = store.turns };
}

-- an answer is what an evaluation gives, with the store after it, or its fault
abbrev pub Evaluates : Result (ℤ × firing.Store) Cause → Result ℤ Cause → firing.Store → Type 0
Evaluates outcome (Ok value) after = outcome ≡ Ok (value, after)
Evaluates outcome (Err cause) after = outcome ≡ Err cause

-- an answer is what a statement does, with the store after it, or its fault
abbrev pub Does : Result firing.Store Cause → Result (Unit {0}) Cause → firing.Store → Type 0
Does outcome (Ok done) after = outcome ≡ Ok after
Does outcome (Err cause) after = outcome ≡ Err cause

-- the store after the arguments of a call
abbrev pub arguments_done : tree.Arguments → firing.Store → Result firing.Store Cause
arguments_done arguments store =
    result_and_then (arguments_given alone arguments store) (λ given. Ok given.1)
