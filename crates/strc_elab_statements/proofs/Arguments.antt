-- The arguments of a call, one after another.
use Rattle.std.proofs.Common.{◌≡◌, ℕ, ℤ, List, ◌∷◌, Result, Ok, Err, refl, ap, ◌∙◌}
use Rattle.strc_lex_names.specs.Results.{result_and_then}
use Rattle.strc_parse_tree.specs.Tree as tree
use Rattle.strc_work_meaning.specs.Firing.{Store, value_of, arguments_given, alone}
use Rattle.strc_work_meaning.specs.declared.fault.Cause.{Cause}
use Rattle.strc_work_meaning.specs.declared.fault.Cause.TheVariants.{Calls}
use Rattle.strc_elab_statements.specs.Saying.{arguments_done}

-- the store after some values
abbrev after_values : Result (List ℤ × Store) Cause → Result Store Cause
after_values result = result_and_then result (λ given. Ok given.1)

-- an argument that has a value, and those after it
pub argument_ok : (first : tree.Expr) (rest : tree.Arguments) (store after : Store) (value : ℤ)
    → value_of alone first store ≡ Ok (value, after)
    → arguments_done (tree.Argument first rest) store ≡ arguments_done rest after
argument_ok first rest store after value e =
    ap (λ r. after_values (result_and_then r (λ given. result_and_then
    (arguments_given alone rest given.1) (λ others. Ok (given.0 ∷ others.0, others.1))))) e
    ∙ more (arguments_given alone rest after)
  where
    more : (r : Result (List ℤ × Store) Cause)
        → after_values (result_and_then r (λ others. Ok (value ∷ others.0, others.1)))
        ≡ after_values r
    more (Ok others) = refl
    more (Err cause) = refl

-- an argument that faults
pub argument_err : (first : tree.Expr) (rest : tree.Arguments) (store : Store) (cause : Cause)
    → value_of alone first store ≡ Err cause
    → arguments_done (tree.Argument first rest) store ≡ Err cause
argument_err first rest store cause e =
    ap (λ r. after_values (result_and_then r (λ given. result_and_then
    (arguments_given alone rest given.1) (λ others. Ok (given.0 ∷ others.0, others.1))))) e

-- a call after its arguments: there is no helper function
abbrev unanswered : Result (List ℤ × Store) Cause → Result (ℤ × Store) Cause
unanswered result = result_and_then result (λ given. Err Calls)

pub call_ok : (name : List ℕ) (arguments : tree.Arguments) (store after : Store)
    → arguments_done arguments store ≡ Ok after
    → value_of alone (tree.Call name arguments) store ≡ Err Calls
call_ok name arguments store after e = by_values (arguments_given alone arguments store) e
  where
    by_values : (r : Result (List ℤ × Store) Cause) → after_values r ≡ Ok after
        → unanswered r ≡ Err Calls
    by_values (Ok given) e = refl
    by_values (Err cause) e = absurd (cc)

-- and a call whose arguments fault
pub call_err : (name : List ℕ) (arguments : tree.Arguments) (store : Store) (cause : Cause)
    → arguments_done arguments store ≡ Err cause
    → value_of alone (tree.Call name arguments) store ≡ Err cause
call_err name arguments store cause e = by_values (arguments_given alone arguments store) e
  where
    by_values : (r : Result (List ℤ × Store) Cause) → after_values r ≡ Err cause
        → unanswered r ≡ Err cause
    by_values (Ok given) e = absurd (cc)
    by_values (Err other) e = cc
