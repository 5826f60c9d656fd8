-- What the examples mean, by computing it.
use Rattle.std.proofs.Common.{◌≡◌, ◌+◌, ℕ, zero, suc, Bool, true, false, cond, [], length, Some}
use Rattle.std.proofs.Common.{Result, Ok, Err, nat_lt, refl, ap}
use Rattle.std.specs.Int.{int_wrap}
use Rattle.strc_lex_names.specs.Results.{result_and_then}
use Rattle.strc_parse_tree.specs.Tree as tree
use Rattle.strc_parse_tree.specs.declared.tree.ItemType.TheVariants.{Void}
use Rattle.strc_parse_tree.specs.declared.tree.CompositeKind.TheVariants.{Pipeline}
use Rattle.strc_work_meaning.specs.Firing.{turn_limit}
use Rattle.strc_work_meaning.specs.Typing.{TypedNames}
use Rattle.strc_work_meaning.specs.declared.fault.Cause.TheVariants.{Turns}
use Rattle.strc_elab_statements.specs.Statements.{computed}
use Rattle.strc_elab.specs.Elaboration.{Setting, Progress, condition_evaluated, inside, looped}
use Rattle.strc_elab.specs.Elaboration.{stmt_run, stmts_run, stream_elaborated, initial_progress}
use Rattle.strc_elab.specs.Elaboration.{composite_assembly, level_limit, filter_limit}
use Rattle.strc_elab_stream.specs.Instances.{Stream}
use Rattle.strc_elab.specs.Examples.{RecursionRow, EndlessRow, LoopRow, EndlessLoopRow}
use Rattle.strc_elab.specs.Examples.{endless_loop, both_added, block}
use Rattle.strc_elab_statements.specs.declared.error.ElabError.{ElabError}
use Rattle.strc_elab_statements.specs.declared.error.ElabErrorKind.TheVariants.{ConstFault}

pub recursion_is : RecursionRow
unfolding level_limit filter_limit int_wrap
recursion_is = refl

pub endless_is : EndlessRow
unfolding level_limit filter_limit int_wrap
endless_is = refl

pub loop_is : LoopRow
unfolding level_limit filter_limit turn_limit int_wrap
loop_is = refl

-- an iteration is too many, or the next ones make too many
turn_by_value : (within : Bool) (progress : Progress) (next : Progress → Result Progress ElabError)
    → ((turning : Progress) → next turning ≡ Err (ConstFault Turns))
    → result_and_then
    (result_and_then
    (computed
    (result_and_then (cond within (Ok (record progress.store.traffic
    { turns = progress.store.traffic.turns + 1 })) (Err Turns)) (λ traffic.
    Ok (record progress.store { traffic = traffic }))))
    (λ store. Ok (record progress { store = store })))
    next
    ≡ Err (ConstFault Turns)
turn_by_value true progress next fails = fails _
turn_by_value false progress next fails = refl

-- a loop whose condition always holds, and which does nothing, makes too many iterations
turns_run_out : (fuel : ℕ) (setting : Setting) (names : TypedNames) (progress : Progress)
    → looped fuel (condition_evaluated setting names (Some (tree.Truth true)))
    (inside (stmt_run setting names (length names) tree.Empty)) progress ≡ Err (ConstFault Turns)
turns_run_out zero setting names progress = refl
turns_run_out (suc fuel) setting names progress =
    turn_by_value (nat_lt progress.store.traffic.turns turn_limit) progress
    (λ turning. result_and_then (inside (stmt_run setting names (length names) tree.Empty) turning)
    (looped fuel (condition_evaluated setting names (Some (tree.Truth true)))
    (inside (stmt_run setting names (length names) tree.Empty))))
    (λ turning. turns_run_out fuel setting names _)

-- where the main stream's body is
abbrev main_setting : Setting
main_setting = record {
  program = endless_loop;
  place =
      record { declaration = 4; constants = [] };
  elaborate = stream_elaborated endless_loop 63;
}

-- the main stream, from its first statement on
abbrev main_after : Result Progress ElabError → Result Stream ElabError
main_after first =
    result_and_then (result_and_then (result_and_then first
    (stmts_run main_setting [] 0 (block both_added)))
    (λ progress. composite_assembly Pipeline 4
    (Some (record { input = Void; output = Void })) progress))
    (λ elaborated. Ok elaborated.stream)

pub endless_loop_is : EndlessLoopRow
unfolding level_limit
endless_loop_is = ap main_after (turns_run_out (suc turn_limit) main_setting []
    (initial_progress Pipeline (record { turns = 0; filters = 0 })))
