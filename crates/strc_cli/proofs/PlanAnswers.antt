-- What a text's plan says of the text: its size, and how its rounds end.
use Rattle.std.proofs.Common.{◌≡◌, ◌∙◌, refl, ℕ, ℤ, Bool, true, false, List, Option, Vec}
use Rattle.std.proofs.Common.{String, Global, length, sym, ap, subst, Result, Ok, Err}
use Rattle.std.specs.List.{list_any}
use Rattle.std.proofs.lemmas.List.{length-map}
use Rattle.strc_elab_graph.specs.Graphs.{reads_input}
use Rattle.strc_elab_graph.specs.NodeView.{channel_view, node_view}
use Rattle.strc_stage_plan.specs.Plans.{PlanParts}
use Rattle.strc_run.specs.Choices.{Choice}
use Rattle.strc_run.specs.Laws.{PlansAnswerTexts}
use Rattle.strc_run.specs.Plans.{IsPlanOf}
use Rattle.strc_run.specs.Rounds.{plan_reads}
use Rattle.strc_run.specs.TextRuns.{has_reader}
use Rattle.strc_cli.specs.declared.answer.Answer.{Answer}
use Rattle.strc_cli.specs.declared.answer.Answer.TheVariants as answer
use Rattle.strc_cli_output.specs.declared.stop.Stop.TheVariants as stop
use Rattle.strc_cli_words.specs.declared.line.Command.TheVariants as command
use Rattle.strc_cli_input.specs.declared.input.ReadStop.{ReadStop}
use Rattle.strc_cli_input.specs.declared.input.ReadStop.TheVariants as read
use Rattle.strc_cli_input.specs.ReadInput.{WritesNumbers}
use Rattle.strc_cli.specs.Answering.{chosen, HasSize, IsAnswered, IsInput, ReadsText}
use Rattle.strc_cli.specs.Input.{IsInputOf, IsRunAnswer, RunsOwn, unread}

-- all parts of a choice
pub same_choice : (one other : Choice) → one.main ≡ other.main → one.ways ≡ other.ways
    → one.fuse ≡ other.fuse → one ≡ other
same_choice one other main ways fuse =
    ap (λ (m : Option (List ℕ)). record { main = m; ways = one.ways; fuse = one.fuse }) main
    ∙ ap (λ (n : ℕ). record { main = other.main; ways = n; fuse = one.fuse }) ways
    ∙ ap (λ (n : ℕ). record { main = other.main; ways = other.ways; fuse = n }) fuse

-- the size of a plan is that of its text's graph
pub plan_size : (text : List ℕ) (choice : Choice) (plan : PlanParts)
    → IsPlanOf text choice plan
    → HasSize text choice (length plan.graph.nodes) (length plan.graph.channels)
plan_size text choice plan is = record {
  plan = plan;
  accepted = is.accepted;
  nodes = sym (length-map plan.graph.nodes node_view);
  channels = sym (length-map plan.graph.channels channel_view);
}

-- a run of a plan is one of this plan
pub own_run : (plan : PlanParts) (input : List ℤ) (rounds : Option ℕ) (workers : ℕ)
    (result : Answer) → IsRunAnswer plan input rounds workers result → RunsOwn plan (Ok result)
own_run plan input rounds workers (answer.Ran own outcome batches) runs = runs.0
own_run plan input rounds workers (answer.Checked nodes channels) never = absurd never
own_run plan input rounds workers (answer.Planned other) never = absurd never
own_run plan input rounds workers (answer.Weighed other) never = absurd never
own_run plan input rounds workers (answer.Drawn picture) never = absurd never
own_run plan input rounds workers (answer.Emitted program) never = absurd never
own_run plan input rounds workers (answer.Stopped why) unrun = tt

pub own_unread : (plan : PlanParts) (why : ReadStop) → RunsOwn plan (unread why)
own_unread plan (read.BadInput word) = tt
own_unread plan read.Failed = tt
own_unread plan read.NoMemory = tt

module _ (text : List ℕ) (main : Option (String Global)) (ways fuse : ℕ) (plan : PlanParts)
    (is : IsPlanOf text (chosen main ways fuse) plan) (rounds : Option ℕ)
    (workers : ℕ) (batch : Option ℕ) (stats : Bool) (bytes : Option (List ℕ)) where
  -- the plan's nodes are the stream's
  same_reader : plan_reads plan ≡ has_reader is.accepted.stream
  same_reader = ap (list_any reads_input) is.nodes

  -- where the graph reads, the text's stream has a reader
  pub reads_text : plan_reads plan ≡ true → ReadsText text (chosen main ways fuse)
  reads_text is_true = record {
    plan = plan;
    accepted = is.accepted;
    reads = sym same_reader ∙ is_true;
  }

  input_is : (b : Bool) (numbers : Vec ℤ Global) → IsInputOf b bytes (Ok numbers)
      → IsInput b bytes numbers.items
  input_is true numbers is = is
  input_is false numbers is = is

  no_input : (b : Bool) (why : ReadStop) → IsInputOf b bytes (Err why) → b ≡ true
  no_input true why is = refl
  no_input false why never = absurd never

  bad_input : (b : Bool) (word : ℕ) → IsInputOf b bytes (Err (read.BadInput word))
      → WritesNumbers bytes (Err word)
  bad_input true word is = is
  bad_input false word never = absurd never

  module _ (answers : PlansAnswerTexts) (input : List ℤ)
      (given : IsInput (plan_reads plan) bytes input) where
    given_here : IsInput (has_reader is.accepted.stream) bytes input
    given_here = subst (λ b. IsInput b bytes input) same_reader given

    plan_answered : (result : Answer) → IsRunAnswer plan input rounds workers result
        → IsAnswered text (command.Run rounds workers ways fuse batch stats main) bytes (Ok result)
    plan_answered (answer.Ran own outcome batches) runs = (
      subst (IsPlanOf text (chosen main ways fuse)) (sym runs.0) is,
      record {
        plan = plan;
        accepted = is.accepted;
        input = input;
        given = given_here;
        ends = answers text (chosen main ways fuse) plan input rounds workers (Ok outcome)
            is runs.1;
      },
    )
    plan_answered (answer.Checked nodes channels) never = absurd never
    plan_answered (answer.Planned plan) never = absurd never
    plan_answered (answer.Weighed plan) never = absurd never
    plan_answered (answer.Drawn picture) never = absurd never
    plan_answered (answer.Emitted program) never = absurd never
    plan_answered (answer.Stopped (stop.NotRun why)) unrun = record {
      plan = plan;
      accepted = is.accepted;
      input = input;
      given = given_here;
      ends = answers text (chosen main ways fuse) plan input rounds workers (Err why) is
          unrun;
    }
    plan_answered (answer.Stopped (stop.Refused placed)) never = absurd never
    plan_answered (answer.Stopped (stop.BadInput word)) never = absurd never
    plan_answered (answer.Stopped (stop.ArrayLimit items)) never = absurd never

  -- a run of the plan over its input is one of the text
  pub input_run : PlansAnswerTexts → (numbers : Vec ℤ Global) (result : Answer)
      → IsInputOf (plan_reads plan) bytes (Ok numbers)
      → IsRunAnswer plan numbers.items rounds workers result
      → IsAnswered text (command.Run rounds workers ways fuse batch stats main) bytes (Ok result)
  input_run law numbers result given answers =
      plan_answered law numbers.items (input_is (plan_reads plan) numbers given) result answers

  -- or the input isn't read to its end
  pub stopped_run : (why : ReadStop) → IsInputOf (plan_reads plan) bytes (Err why)
      → IsAnswered text (command.Run rounds workers ways fuse batch stats main) bytes (unread why)
  stopped_run (read.BadInput word) given = (
    reads_text (no_input (plan_reads plan) (read.BadInput word) given),
    bad_input (plan_reads plan) word given,
  )
  stopped_run read.Failed given = reads_text (no_input (plan_reads plan) read.Failed given)
  stopped_run read.NoMemory given = reads_text (no_input (plan_reads plan) read.NoMemory given)
