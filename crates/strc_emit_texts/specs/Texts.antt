-- What the C that is written for a text means: what the text does.
use Rattle.std.specs.Prelude.{◌≡◌, ℕ, ◌<◌, ◌≤◌, ◌^◌, List, length, Option, Some, slice_get}
use Rattle.strc_work_meaning.specs.declared.fault.Cause.{Cause}
use Rattle.strc_work_meaning.specs.declared.word.Word.{Word}
use Rattle.strc_elab_dataflow.specs.Answer.{Outcome}
use Rattle.strc_elab_dataflow.specs.Streams as trees
use Rattle.strc_elab_graph.specs.Graphs.{NodeCode}
use Rattle.strc_elab_graph.specs.declared.graph.Node.{Node}
use Rattle.strc_elab_stream.specs.Flattening.{tree_of}
use Rattle.strc_stage_plan.specs.Plans.{PlanParts, IsPlan}
use Rattle.strc_stage_steps.specs.Plans.{IsPlanAnswer, need_of}
use Rattle.strc_run.specs.Choices.{Choice}
use Rattle.strc_run.specs.Plans.{IsPlanOf}
use Rattle.strc_emit_moves.specs.declared.places.Phase.{Phase}
use Rattle.strc_emit_moves.specs.declared.places.Phase.TheVariants as phase
use Rattle.strc_emit_runs.specs.Orders.{TellsEnd}
use Rattle.strc_emit_runs.specs.Running.{Program, RunEnd}
use Rattle.strc_emit.specs.Emitting.{IsProgramOf}
use Rattle.strc_emit_plans.specs.Answers.{whole_done}
use Rattle.strc_emit_plans.specs.Firsts.{first_running}
use Rattle.strc_emit_answers.specs.Fires.{SpellsFires}
use Rattle.strc_emit_answers.specs.Orders.{SpellsOrder}
use Rattle.strc_emit_resolved.specs.Programs.{RunSetting, SpellsProgram}
use Rattle.strc_emit_texts.specs.Orders.{unchanged}

-- a run of a plan's program: from what its arrays and fields are declared with, start-up and so
-- many rounds
abbrev pub run_done : PlanParts → Program → (rounds : ℕ) → RunEnd
run_done plan program rounds = whole_done plan.schedule program rounds (first_running program)

-- it ends with the answer of a tree's stream equations, or at its fault, as a run of the plan
-- itself
abbrev pub EndsWithAnswer : trees.Stream NodeCode → PlanParts → Program → (rounds : ℕ) → Type 0
EndsWithAnswer tree plan program rounds =
    (answer : Outcome Cause Word) × IsPlanAnswer tree plan program.input rounds answer
    × TellsEnd answer (run_done plan program rounds)

-- a plan's text of C spells a program in this setting: its filters' functions, those by which nodes
-- fire, and those of start-up and of a round; and after each number of rounds that the input serves
-- it ends so
pub record MeansTree (tree : trees.Stream NodeCode) (plan : PlanParts) (c : List ℕ)
    (setting : RunSetting) : Type 0 where
  pub program : Program
  pub spelled : SpellsProgram plan c setting program
  pub fires : (when : Phase) (number : ℕ) (code : Node)
      → slice_get program.network.nodes.now number ≡ Some code
      → SpellsFires program when number code
  pub startup : SpellsOrder program phase.Startup plan.schedule.startup
  pub round : SpellsOrder program phase.Round plan.schedule.round
  pub ends : (rounds : ℕ) → rounds < 2 ^ 32 → need_of plan rounds ≤ length setting.input
      → EndsWithAnswer tree plan program rounds

-- a text of C is that of the plan of an accepted text, and means what its main stream means, in any
-- setting
pub record AnswersText (text : List ℕ) (choice : Choice) (plan : PlanParts) (c : List ℕ) : Type 0
  where
    pub planned : IsPlanOf text choice plan
    pub written : IsProgramOf plan c
    pub means : (setting : RunSetting)
        → MeansTree (tree_of planned.accepted.stream) plan c setting

-- so is each that is written for a text's plan, where nothing is split or fused
abbrev pub EmittedTextsAnswer : Type 0
EmittedTextsAnswer =
    (text : List ℕ) (main : Option (List ℕ)) (plan : PlanParts) (c : List ℕ)
    → IsPlan plan → IsPlanOf text (unchanged main) plan → IsProgramOf plan c
    → AnswersText text (unchanged main) plan c
