-- A program ends as the stream equations say.
use Rattle.std.specs.Prelude.{ℕ, ◌<◌, ◌≤◌, ◌^◌, length}
use Rattle.strc_work_meaning.specs.declared.fault.Cause.{Cause}
use Rattle.strc_work_meaning.specs.declared.word.Word.{Word}
use Rattle.strc_elab_dataflow.specs.Answer.{Outcome, IsAnswer}
use Rattle.strc_elab_dataflow.specs.Queues.{fifo_run}
use Rattle.strc_elab_dataflow.specs.Streams as trees
use Rattle.strc_elab_graph.specs.Graphs.{NodeCode}
use Rattle.strc_elab_graph.specs.Meaning.{node_meaning}
use Rattle.strc_elab_graph.specs.NodeView.{GraphParts, graph_view}
use Rattle.strc_sched_orders.specs.Order.{firing_count}
use Rattle.strc_sched_orders.specs.Schedules.{ScheduleParts}
use Rattle.strc_sched_laws.specs.Laws.{startup_order, round_order, counts_at}
use Rattle.strc_sched_laws.specs.Planned.{items_read}
use Rattle.strc_emit_runs.specs.Running.{Program, Running, RunEnd, program_done}
use Rattle.strc_emit_runs.specs.Orders.{TellsEnd}
use Rattle.strc_emit_plans.specs.Calls.{calls_made}
use Rattle.strc_emit_plans.specs.Firsts.{IsFirst}
use Rattle.strc_emit_plans.specs.Programs.{IsPlannedProgram}

-- so many rounds read no more numbers than the input has
abbrev pub HasInput : GraphParts → ScheduleParts → Program → (rounds : ℕ) → Type 0
HasInput graph schedule program rounds =
    items_read (graph_view graph).nodes (counts_at schedule rounds) ≤ length program.input

-- start-up and so many rounds of a program
abbrev pub whole_done : ScheduleParts → Program → (rounds : ℕ) → Running → RunEnd
whole_done schedule program rounds first =
    program_done program (calls_made program schedule.startup) (calls_made program schedule.round)
    rounds first

-- from its first cells on a program ends as the machine over queues does: with the same words, or
-- at the same fault; it is never undefined
abbrev pub ProgramsMean : Type 0
ProgramsMean =
    (tree : trees.Stream NodeCode) (graph : GraphParts) (schedule : ScheduleParts)
    (program : Program) (rounds : ℕ) (first : Running)
    → IsPlannedProgram tree graph schedule program → rounds < 2 ^ 32
    → HasInput graph schedule program rounds
    → IsFirst program first
    → TellsEnd (fifo_run node_meaning (trees.flat tree) program.input (round_order schedule)
    (startup_order schedule) rounds) (whole_done schedule program rounds first)

-- an end is the answer of a tree's stream equations, at the counts and in the orders of a schedule
abbrev pub IsAnswerOf : trees.Stream NodeCode → ScheduleParts → Program → (rounds : ℕ) → RunEnd
    → Type 0
IsAnswerOf tree schedule program rounds end =
    (outcome : Outcome Cause Word)
    × IsAnswer node_meaning tree program.input (firing_count (startup_order schedule))
    (firing_count (round_order schedule)) (startup_order schedule) (round_order schedule) rounds
    outcome
    × TellsEnd outcome end

abbrev pub ProgramsAnswer : Type 0
ProgramsAnswer =
    (tree : trees.Stream NodeCode) (graph : GraphParts) (schedule : ScheduleParts)
    (program : Program) (rounds : ℕ) (first : Running)
    → IsPlannedProgram tree graph schedule program → rounds < 2 ^ 32
    → HasInput graph schedule program rounds
    → IsFirst program first
    → IsAnswerOf tree schedule program rounds (whole_done schedule program rounds first)
