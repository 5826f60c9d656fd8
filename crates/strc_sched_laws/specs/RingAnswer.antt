-- How a run over rings ends, as the answer of the stream equations.
use Rattle.std.specs.Prelude.{◌≡◌, ℕ, ◌<◌, ◌≤◌, ◌^◌, ℤ, List, length}
use Rattle.strc_elab_dataflow.specs.Answer.{Outcome, Outcome.Done, Outcome.StartupFault}
use Rattle.strc_elab_dataflow.specs.Answer.{Outcome.RoundFault, IsAnswer}
use Rattle.strc_elab_dataflow.specs.Streams as trees
use Rattle.strc_work_meaning.specs.declared.fault.Cause.{Cause}
use Rattle.strc_work_meaning.specs.declared.word.Word.{Word}
use Rattle.strc_elab_graph.specs.Graphs.{NodeCode, Graph}
use Rattle.strc_elab_graph.specs.FlatGraphs.{IsProgram}
use Rattle.strc_elab_graph.specs.Meaning.{node_meaning}
use Rattle.strc_sched_orders.specs.Order.{firing_count}
use Rattle.strc_sched_orders.specs.Schedules.{ScheduleParts}
use Rattle.strc_sched_laws.specs.Circuits.{IsCircuit, IsFirst}
use Rattle.strc_sched_laws.specs.Laws.{startup_order, round_order, counts_at}
use Rattle.strc_sched_laws.specs.Machine.{CircuitView, MachineView, Ending, Ended, FaultedAtFirst}
use Rattle.strc_sched_laws.specs.Machine.{FaultedIn, whole_run, words_at}
use Rattle.strc_sched_laws.specs.Planned.{IsPlanned, AreKnown, items_read}

-- lists of words are those of so many nodes
abbrev pub AreWordsOf : (count : ℕ) → (words : ℕ → List Word) → List (List Word) → Type 0
AreWordsOf count words given = (node : ℕ) → node < count → words_at given node ≡ words node

-- an ending of so many nodes is an outcome: the same words of each node; or the same fault, in
-- start-up without words, in a round with the words before it
abbrev pub Tells : (count : ℕ) → Outcome Cause Word → Ending → Type 0
Tells count (Done words) (Ended given) = AreWordsOf count words given
Tells count (StartupFault stop) (FaultedAtFirst node firing cause) =
    stop ≡ record { node = node; firing = firing; cause = cause }
Tells count (RoundFault q stop words) (FaultedIn round node firing cause given) =
    (q ≡ round) × (stop ≡ record { node = node; firing = firing; cause = cause })
    × AreWordsOf count words given
Tells count _ _ = ⊥

-- an ending is the answer of a tree's stream equations, at the counts and in the orders of a
-- schedule
abbrev pub IsAnswered : trees.Stream NodeCode → ScheduleParts → (input : List ℤ) → (rounds : ℕ)
    → (count : ℕ) → Ending → Type 0
IsAnswered tree schedule input rounds count ending =
    (outcome : Outcome Cause Word)
    × IsAnswer node_meaning tree input (firing_count (startup_order schedule))
    (firing_count (round_order schedule)) (startup_order schedule) (round_order schedule) rounds
    outcome
    × Tells count outcome ending

-- the machine over rings, each as large as the schedule says, gives the answer
abbrev pub RingRunsAnswer : Type 0
RingRunsAnswer =
    (tree : trees.Stream NodeCode) (graph : Graph) (schedule : ScheduleParts) (input : List ℤ)
    (rounds : ℕ) (circuit : CircuitView) (machine : MachineView)
    → IsProgram tree graph → IsPlanned graph schedule → AreKnown graph
    → rounds < 2 ^ 32
    → items_read graph.nodes (counts_at schedule rounds) ≤ length input
    → IsCircuit graph circuit → circuit.input ≡ input → IsFirst graph schedule.sizes machine
    → IsAnswered tree schedule input rounds (length graph.nodes)
    (whole_run circuit (startup_order schedule) (round_order schedule) rounds machine)
