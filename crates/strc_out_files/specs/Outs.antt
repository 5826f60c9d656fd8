-- What a run is answered of which tapes go to files: each is found by its name.
use Rattle.std.specs.Prelude.{◌≡◌, ⊤, ℕ, List, [], Option, Some, None, Result, Ok, Err, map}
use Rattle.std.specs.Prelude.{Bool, String, slice_get}
use Rattle.std.specs.declared.alloc.Global.{Global}
use Rattle.strc_elab_graph.specs.Graphs.{NodeCode}
use Rattle.strc_elab_graph.specs.NodeView.{node_view}
use Rattle.strc_stage_plan.specs.Plans.{PlanParts}
use Rattle.strc_run.specs.Choices.{Choice}
use Rattle.strc_run.specs.Plans.{IsPlanOf}
use Rattle.strc_cli_tapes.specs.TapeNames.{named_tapes, node_in}
use Rattle.strc_cli_words.specs.declared.line.Command.{Command}
use Rattle.strc_cli_words.specs.declared.line.Command.TheVariants as command
use Rattle.strc_run_refusal.specs.declared.placed_refusal.PlacedRefusal.{PlacedRefusal}
use Rattle.strc_cli_output.specs.declared.stop.Stop.TheVariants as stop
use Rattle.strc_cli.specs.Answering.{IsAnswered, choice_of, chosen}
use Rattle.strc_cli.specs.Explaining.{IsRefusedAt}
use Rattle.strc_cli.specs.declared.answer.Answer.{Answer}
use Rattle.strc_cli.specs.declared.answer.Answer.TheVariants as answer
use Rattle.strc_cli.specs.declared.execute.CliError.{CliError}
use Rattle.strc_out_files.specs.declared.answer.Given.{Given}
use Rattle.strc_out_files.specs.declared.answer.Given.TheVariants as given
use Rattle.strc_out_files.specs.declared.answer.NoTape.{NoTape}
use Rattle.strc_out_files.specs.declared.answer.OutAnswer.{OutAnswer}
use Rattle.strc_out_files.specs.declared.answer.OutAnswer.TheVariants as out

-- the node whose tape has a name
abbrev pub node_of : List NodeCode → (name : List ℕ) → Option ℕ
node_of codes name = node_in (named_tapes codes) name

-- the nodes of the tapes that go to files, in the order of their names
abbrev pub AreGiven : List NodeCode → (outs : List (List ℕ × List ℕ)) → (given : List ℕ) → Type 0
AreGiven codes outs given = map (λ out. node_of codes out.0) outs ≡ map Some given

-- a name that is given is that of no tape, and these are the tapes
pub record IsAbsent (codes : List NodeCode) (outs : List (List ℕ × List ℕ)) (no_tape : NoTape)
    : Type 0 where
  pub place : ℕ
  pub file : List ℕ
  pub asked : slice_get outs place ≡ Some (no_tape.name.items, file)
  pub absent : node_of codes no_tape.name.items ≡ None
  pub tapes : map (λ it. (it.node, it.name.items)) no_tape.tapes.items ≡ named_tapes codes

-- the tapes are found, or one isn't there
abbrev pub IsGivenBy : List NodeCode → (outs : List (List ℕ × List ℕ)) → Given → Type 0
IsGivenBy codes outs (given.Nodes nodes) = AreGiven codes outs nodes.items
IsGivenBy codes outs (given.Absent no_tape) = IsAbsent codes outs no_tape

-- of a run's outcome the tapes go to files that are named
abbrev pub HasGiven : Answer → (outs : List (List ℕ × List ℕ)) → (given : List ℕ) → Type 0
HasGiven (answer.Ran plan outcome batches) outs given =
    AreGiven (map node_view plan.graph.nodes) outs given
HasGiven _ outs given = ⊤

-- the text is accepted, and its graph has no tape of a name that is given
pub record HasNoTape (text : List ℕ) (choice : Choice) (outs : List (List ℕ × List ℕ))
    (no_tape : NoTape) : Type 0 where
  pub plan : PlanParts
  pub planned : IsPlanOf text choice plan
  pub absent : IsAbsent (map node_view plan.graph.nodes) outs no_tape

-- the answer is that of the command without files; or a name that is given is that of no tape
abbrev pub IsOutAnswer : List ℕ → Command → (outs : List (List ℕ × List ℕ))
    → (bytes : Option (List ℕ)) → Result OutAnswer CliError → Type 0
IsOutAnswer text command outs bytes (Ok (out.Answered answer given)) =
    IsAnswered text command bytes (Ok answer) × HasGiven answer outs given.items
IsOutAnswer text command outs bytes (Ok (out.NoTape no_tape)) =
    HasNoTape text (choice_of command) outs no_tape
IsOutAnswer text command outs bytes (Err failure) = IsAnswered text command bytes (Err failure)

-- a run of a plan is answered so, whatever text it is the plan of
abbrev pub AnswersOutPlan : PlanParts → (rounds : Option ℕ) → (workers : ℕ)
    → (outs : List (List ℕ × List ℕ)) → (bytes : Option (List ℕ)) → Result OutAnswer CliError
    → Type 0
AnswersOutPlan plan rounds workers outs bytes result =
    (text : List ℕ) (main : Option (String Global)) (ways fuse : ℕ) (batch : Option ℕ)
    (stats : Bool) → IsPlanOf text (chosen main ways fuse) plan
    → IsOutAnswer text (command.Run rounds workers ways fuse batch stats main) outs bytes result

-- of a text that is refused the statement that breaks its rule is known
abbrev pub IsOutRefusedAt : List ℕ → Command → Result OutAnswer CliError → Type 0
IsOutRefusedAt text command (Ok (out.Answered answer given)) =
    IsRefusedAt text command (Ok answer)
IsOutRefusedAt text command _ = ⊤

-- a text is refused
abbrev pub IsRefusal : PlacedRefusal → OutAnswer → Type 0
IsRefusal placed (out.Answered (answer.Stopped (stop.Refused own)) given) = own ≡ placed
IsRefusal placed _ = ⊥
