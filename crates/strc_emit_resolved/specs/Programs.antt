-- The program that the text of a plan of resolved filters spells.
use Rattle.std.specs.Prelude.{◌≡◌, ℕ, ◌<◌, ◌^◌, ℤ, List}
use Rattle.strc_work_meaning.specs.Filters.{Filter}
use Rattle.strc_work_meaning.specs.Firing.{turn_limit}
use Rattle.strc_elab_graph.specs.Graphs.{Graph}
use Rattle.strc_elab_stream.specs.Flattening.{tree_of}
use Rattle.strc_sched_laws.specs.Planned.{IsFilterOf}
use Rattle.strc_stage_plan.specs.Plans.{PlanParts, IsPlan, graph_of}
use Rattle.strc_emit_bodies.specs.Spelling.{FilterFunctions}
use Rattle.strc_emit_firings.specs.Functions.{Unset}
use Rattle.strc_emit_runs.specs.Running.{Program, Running}
use Rattle.strc_emit.specs.Emitting.{IsProgramOf}
use Rattle.strc_emit_plans.specs.Firsts.{IsFirst}
use Rattle.strc_emit_plans.specs.Answers.{HasInput, IsAnswerOf, whole_done}
use Rattle.strc_emit_answers.specs.Answers.{IsTextProgram}
use Rattle.strc_emit_resolved.specs.Resolved.{IsResolved}

-- a graph's filters are resolved
abbrev pub AreResolved : Graph → Type 0
AreResolved graph = (filter : Filter) → IsFilterOf graph filter → IsResolved filter

-- what a program is run with: the numbers of its input, what unset locals hold, how often its loops
-- may turn, and what stands for the functions of nodes that have none
pub record RunSetting : Type 0 where
  pub input : List ℤ
  pub unset : Unset
  pub fuel : ℕ
  pub others : FilterFunctions
  pub enough : turn_limit < fuel

-- a program is that of a plan's text, in this setting
pub record SpellsProgram (plan : PlanParts) (text : List ℕ) (setting : RunSetting)
    (program : Program) : Type 0 where
  pub written : IsProgramOf plan text
  pub is : IsTextProgram plan text written program
  pub input : program.input ≡ setting.input
  pub unset : program.unset ≡ setting.unset
  pub fuel : program.fuel ≡ setting.fuel

-- the text of a plan of resolved filters spells a program, with the network that the text is of, in
-- any setting
abbrev pub TextsHavePrograms : Type 0
TextsHavePrograms =
    (plan : PlanParts) (text : List ℕ) (setting : RunSetting)
    (written : IsProgramOf plan text) → AreResolved (graph_of plan)
    → (program : Program) × SpellsProgram plan text setting program
    × (program.network ≡ written.network)

-- and from its first cells on this ends with the answer of the plan's stream, after any number of
-- rounds
abbrev pub ResolvedPlansAnswer : Type 0
ResolvedPlansAnswer =
    (plan : PlanParts) (text : List ℕ) (setting : RunSetting)
    → (is : IsPlan plan) → IsProgramOf plan text → AreResolved (graph_of plan)
    → (program : Program) × SpellsProgram plan text setting program
    × ((rounds : ℕ) (first : Running) → rounds < 2 ^ 32
    → HasInput plan.graph plan.schedule program rounds → IsFirst program first
    → IsAnswerOf (tree_of is.whole.stream) plan.schedule program rounds
    (whole_done plan.schedule program rounds first))
