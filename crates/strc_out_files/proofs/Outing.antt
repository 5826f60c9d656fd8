-- What the answers of a run say of which tapes go to files.
use Rattle.std.proofs.Common.{◌≡◌, ℕ, List, [], Bool, true, false, Option, Some, None, String}
use Rattle.std.proofs.Common.{Global, Result, Ok, Err, refl}
use Rattle.std.proofs.Common.{map, subst, sym}
use Rattle.strc_elab_graph.specs.NodeView.{node_view}
use Rattle.strc_stage_plan.specs.Plans.{PlanParts}
use Rattle.strc_run.specs.Choices.{Choice}
use Rattle.strc_run.specs.Located.{IsLocated}
use Rattle.strc_run.specs.Refuses.{IsTrueOf}
use Rattle.strc_run_refusal.specs.Placing.{unplaced}
use Rattle.strc_run_refusal.specs.declared.placed_refusal.PlacedRefusal.{PlacedRefusal}
use Rattle.strc_run_refusal.specs.declared.refusal.Refusal.TheVariants.{NoMemory}
use Rattle.strc_cli_words.specs.declared.line.Command.{Command}
use Rattle.strc_cli_output.specs.declared.stop.Stop.TheVariants as stop
use Rattle.strc_cli_words.specs.declared.line.Command.TheVariants as command
use Rattle.strc_cli.specs.Answering.{IsAnswered, choice_of}
use Rattle.strc_cli.specs.Explaining.{IsRefusedAt, IsUnrefused}
use Rattle.strc_cli.specs.Input.{RunsOwn}
use Rattle.strc_cli.specs.declared.answer.Answer.{Answer}
use Rattle.strc_cli.specs.declared.answer.Answer.TheVariants as answer
use Rattle.strc_cli.specs.declared.execute.CliError.{CliError}
use Rattle.strc_out_files.specs.Outs.{AreGiven, HasGiven, IsOutAnswer}
use Rattle.strc_out_files.specs.Outs.{IsOutRefusedAt, IsRefusal}
use Rattle.strc_out_files.specs.declared.answer.OutAnswer.{OutAnswer}
use Rattle.strc_out_files.specs.declared.answer.OutAnswer.TheVariants as out

-- the nodes of a plan's tapes are those of the plan that was run
pub has_given : (plan : PlanParts) (outs : List (List ℕ × List ℕ)) (given : List ℕ)
    (result : Answer) → RunsOwn plan (Ok result)
    → AreGiven (map node_view plan.graph.nodes) outs given → HasGiven result outs given
has_given plan outs given (answer.Ran own outcome batches) same are =
    subst (λ (it : PlanParts). AreGiven (map node_view it.graph.nodes) outs given) (sym same) are
has_given plan outs given (answer.Checked nodes channels) same are = tt
has_given plan outs given (answer.Planned other) same are = tt
has_given plan outs given (answer.Weighed other) same are = tt
has_given plan outs given (answer.Drawn picture) same are = tt
has_given plan outs given (answer.Emitted program) same are = tt
has_given plan outs given (answer.Stopped why) same are = tt

-- an answer that isn't refused says nothing of where
pub unrefused_at : (text : List ℕ) (command : Command) (result : Answer)
    → IsUnrefused (Ok result) → IsRefusedAt text command (Ok result)
unrefused_at text command (answer.Stopped (stop.Refused placed)) never = absurd never
unrefused_at text command (answer.Stopped (stop.BadInput word)) is = tt
unrefused_at text command (answer.Stopped (stop.NotRun why)) is = tt
unrefused_at text command (answer.Stopped (stop.ArrayLimit items)) is = tt
unrefused_at text command (answer.Ran plan outcome batches) is = tt
unrefused_at text command (answer.Checked nodes channels) is = tt
unrefused_at text command (answer.Planned plan) is = tt
unrefused_at text command (answer.Weighed plan) is = tt
unrefused_at text command (answer.Drawn picture) is = tt
unrefused_at text command (answer.Emitted program) is = tt

-- no other command is answered by a run
pub never_ran : (text : List ℕ) (it : Command) (bytes : Option (List ℕ)) (result : Answer)
    (outs : List (List ℕ × List ℕ)) (given : List ℕ)
    → ((rounds : Option ℕ) (workers ways fuse : ℕ) (batch : Option ℕ) (stats : Bool)
    (main : Option (String Global))
    → it ≡ command.Run rounds workers ways fuse batch stats main → ⊥)
    → IsAnswered text it bytes (Ok result) → HasGiven result outs given
never_ran text (command.Run rounds workers ways fuse batch stats main) bytes
    (answer.Ran plan outcome batches) outs given never is =
    absurd (never rounds workers ways fuse batch stats main refl)
never_ran text (command.Check main) bytes (answer.Ran plan outcome batches) outs given never is =
    absurd is
never_ran text (command.Plan true sort main) bytes (answer.Ran plan outcome batches) outs given never
    is = absurd is
never_ran text (command.Plan false None main) bytes (answer.Ran plan outcome batches) outs given
    never is = absurd is
never_ran text (command.Plan false (Some key) main) bytes (answer.Ran plan outcome batches) outs
    given never is = absurd is
never_ran text (command.Emit main) bytes (answer.Ran plan outcome batches) outs given never is =
    absurd is
never_ran text (command.Graph workers ways fuse depth times main) bytes
    (answer.Ran plan outcome batches) outs given never is = absurd is
never_ran text it bytes (answer.Checked nodes channels) outs given never is = tt
never_ran text it bytes (answer.Planned plan) outs given never is = tt
never_ran text it bytes (answer.Weighed plan) outs given never is = tt
never_ran text it bytes (answer.Drawn picture) outs given never is = tt
never_ran text it bytes (answer.Emitted program) outs given never is = tt
never_ran text it bytes (answer.Stopped why) outs given never is = tt

-- a text is refused for what is true of it
pub refused_so : (text : List ℕ) (it : Command) (outs : List (List ℕ × List ℕ))
    (bytes : Option (List ℕ)) (placed : PlacedRefusal) (result : OutAnswer)
    → IsTrueOf text (choice_of it) placed.refusal → IsRefusal placed result
    → IsOutAnswer text it outs bytes (Ok result)
refused_so text it outs bytes placed (out.Answered (answer.Stopped (stop.Refused own)) given)
    true_of same =
    (subst (λ (p : PlacedRefusal). IsTrueOf text (choice_of it) p.refusal) (sym same) true_of, tt)
refused_so text it outs bytes placed (out.Answered (answer.Stopped (stop.BadInput word)) given)
    true_of never = absurd never
refused_so text it outs bytes placed (out.Answered (answer.Stopped (stop.NotRun why)) given)
    true_of never = absurd never
refused_so text it outs bytes placed (out.Answered (answer.Stopped (stop.ArrayLimit items)) given)
    true_of never = absurd never
refused_so text it outs bytes placed (out.Answered (answer.Ran plan outcome batches) given)
    true_of never = absurd never
refused_so text it outs bytes placed (out.Answered (answer.Checked nodes channels) given)
    true_of never = absurd never
refused_so text it outs bytes placed (out.Answered (answer.Planned plan) given)
    true_of never = absurd never
refused_so text it outs bytes placed (out.Answered (answer.Weighed plan) given)
    true_of never = absurd never
refused_so text it outs bytes placed (out.Answered (answer.Drawn picture) given)
    true_of never = absurd never
refused_so text it outs bytes placed (out.Answered (answer.Emitted program) given)
    true_of never = absurd never
refused_so text it outs bytes placed (out.NoTape no_tape) true_of never = absurd never

-- and its place is known
pub refused_at : (text : List ℕ) (it : Command) (placed : PlacedRefusal) (result : OutAnswer)
    → IsLocated text (choice_of it) placed → IsRefusal placed result
    → IsOutRefusedAt text it (Ok result)
refused_at text it placed (out.Answered (answer.Stopped (stop.Refused own)) given) located same =
    subst (IsLocated text (choice_of it)) (sym same) located
refused_at text it placed (out.Answered (answer.Stopped (stop.BadInput word)) given) located never =
    tt
refused_at text it placed (out.Answered (answer.Stopped (stop.NotRun why)) given) located never = tt
refused_at text it placed (out.Answered (answer.Stopped (stop.ArrayLimit items)) given)
    located never = tt
refused_at text it placed (out.Answered (answer.Ran plan outcome batches) given) located never = tt
refused_at text it placed (out.Answered (answer.Checked nodes channels) given) located never = tt
refused_at text it placed (out.Answered (answer.Planned plan) given) located never = tt
refused_at text it placed (out.Answered (answer.Weighed plan) given) located never = tt
refused_at text it placed (out.Answered (answer.Drawn picture) given) located never = tt
refused_at text it placed (out.Answered (answer.Emitted program) given) located never = tt
refused_at text it placed (out.NoTape no_tape) located never = tt

-- memory that runs out is the place of nothing
pub memory_located : (text : List ℕ) (choice : Choice) (placed : PlacedRefusal)
    → placed ≡ unplaced NoMemory → IsLocated text choice placed
memory_located text choice placed same =
    subst (IsLocated text choice) (sym same) (IsLocated.Unread tt refl)

pub memory_true : (text : List ℕ) (choice : Choice) (placed : PlacedRefusal)
    → placed ≡ unplaced NoMemory → IsTrueOf text choice placed.refusal
memory_true text choice placed same =
    subst (λ (p : PlacedRefusal). IsTrueOf text choice p.refusal) (sym same) tt
