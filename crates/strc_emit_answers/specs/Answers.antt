-- The program of a plan's text ends as the stream equations say.
use Rattle.std.specs.Prelude.{◌≡◌, ℕ, ◌<◌, ◌^◌, List, length, Some, slice_get}
use Rattle.strc_work_meaning.specs.Filters as filters
use Rattle.strc_work_meaning.specs.Firing.{turn_limit}
use Rattle.strc_elab_graph.specs.declared.graph.Node.{Node}
use Rattle.strc_elab_graph.specs.Graphs.{Graph}
use Rattle.strc_elab_stream.specs.Flattening.{tree_of}
use Rattle.strc_sched_laws.specs.Planned.{IsFilterOf, AreKnown}
use Rattle.strc_stage_plan.specs.Plans.{PlanParts, IsPlan, graph_of}
use Rattle.strc_emit_moves.specs.declared.places.Phase.{Phase}
use Rattle.strc_emit_runs.specs.Running.{Program, Running}
use Rattle.strc_emit.specs.Emitting.{IsProgramOf}
use Rattle.strc_emit_plans.specs.Programs.{KeepsSides}
use Rattle.strc_emit_plans.specs.Firsts.{IsFirst}
use Rattle.strc_emit_plans.specs.Answers.{HasInput, IsAnswerOf, whole_done}
use Rattle.strc_emit_answers.specs.Fires.{SpellsFires}
use Rattle.strc_emit_answers.specs.Spelled.{SpellsNodes}

-- a graph's filters keep their sides
abbrev pub KeepSides : Graph → Type 0
KeepSides graph = (filter : filters.Filter) → IsFilterOf graph filter → KeepsSides filter

-- a program is that of a plan's text: its network is the plan's, its functions are those that the
-- text spells, and its loops may turn as often as the limit says
pub record IsTextProgram (plan : PlanParts) (text : List ℕ) (written : IsProgramOf plan text)
    (program : Program) : Type 0 where
  pub network : program.network ≡ written.network
  pub spells : SpellsNodes program written.network (length written.network.nodes.now)
      written.written.0 written.written.1
  pub fuel : turn_limit < program.fuel

-- from its first cells on, the program of a plan's text ends with the answer of the plan's stream,
-- after any number of rounds
abbrev pub PlansAnswer : Type 0
PlansAnswer =
    (plan : PlanParts) (text : List ℕ) (written : IsProgramOf plan text) (program : Program)
    (rounds : ℕ) (first : Running)
    → (is : IsPlan plan) → AreKnown (graph_of plan) → KeepSides (graph_of plan)
    → IsTextProgram plan text written program → rounds < 2 ^ 32
    → HasInput plan.graph plan.schedule program rounds → IsFirst program first
    → IsAnswerOf (tree_of is.whole.stream) plan.schedule program rounds
    (whole_done plan.schedule program rounds first)

-- the text of the function of each node of a plan's program spells one that does in each call what
-- the program does in it
abbrev pub PlansSpell : Type 0
PlansSpell =
    (plan : PlanParts) (text : List ℕ) (written : IsProgramOf plan text) (program : Program)
    (when : Phase) (number : ℕ) (code : Node)
    → IsPlan plan → AreKnown (graph_of plan) → IsTextProgram plan text written program
    → slice_get program.network.nodes.now number ≡ Some code
    → SpellsFires program when number code
