-- The theorems of this crate, each the contract of a function of the root file. They hold at all
-- types of codes, states, causes and words.
use Rattle.std.specs.Prelude.{◌≡◌, ℕ, suc, ◌<◌, ◌≤◌, ◌⊎◌, ℤ, List, [], ◌∷◌, length, get_or}
use Rattle.strc_elab_dataflow.specs.Node.{ByPort, Meaning}
use Rattle.strc_elab_dataflow.specs.Histories.{runs, KeepsRates, Run}
use Rattle.strc_elab_dataflow.specs.Flat.{Graph, runs_at, Solves, arrived}
use Rattle.strc_elab_dataflow.specs.Streams.{Stream, flat, solution}
use Rattle.strc_elab_dataflow.specs.Order.{firing_count, counts_after, IsOrder, IsSchedule, counted}
use Rattle.strc_elab_dataflow.specs.Order.{fill}
use Rattle.strc_elab_dataflow.specs.Pipelines.{pipeline_of, nodes_from, once_each, IsChain}
use Rattle.strc_elab_dataflow.specs.Pipelines.{IsMatched}
use Rattle.strc_elab_dataflow.specs.RoundRobin.{dealt, duplicated, woven, IsRoundRobinSplitter}
use Rattle.strc_elab_dataflow.specs.RoundRobin.{IsDuplicateSplitter, IsRoundRobinJoiner}
use Rattle.strc_elab_dataflow.specs.Rounds.{RepeatsRates, IsBalanced, IsSupplied}
use Rattle.strc_elab_dataflow.specs.Machine.{Stop, go, at_first, Progress.Went}
use Rattle.strc_elab_dataflow.specs.Queues.{Fifo, fifo_go, fifo_at_first, IsQueued, IsAlike}
use Rattle.strc_elab_dataflow.specs.Queues.{TakesWithinWindow, FifoProgress.FifoWent, fifo_run}
use Rattle.strc_elab_dataflow.specs.Answer.{Outcome, Outcome.Done, Outcome.StartupFault}
use Rattle.strc_elab_dataflow.specs.Answer.{Outcome.RoundFault, verdict, IsAnswerOf, IsAnswer}
use Rattle.strc_elab_dataflow.specs.Answer.{whole_run}

-- The solution that the recursion over a stream gives solves the equations of the stream's flat
-- graph, feedback loops included.
abbrev pub SolutionSolves : (Code State Cause Word : Type 0) → Type 0
SolutionSolves Code State Cause Word =
    (meaning : Meaning Code State Cause Word) (stream : Stream Code) (counts : ℕ → ℕ)
    (input : List ℤ)
    → ((node : ℕ) → KeepsRates meaning ((flat stream).code node))
    → Solves meaning (flat stream) counts input (solution meaning counts input stream)

-- The theorem of the run: start-up and k rounds of a schedule that is valid by counts give the
-- answer of the stream equations.
abbrev pub RunGivesAnswer : (Code State Cause Word : Type 0) → Type 0
RunGivesAnswer Code State Cause Word =
    (meaning : Meaning Code State Cause Word) (stream : Stream Code) (input : List ℤ)
    (startup round : ℕ → ℕ) (startup_order round_order : List ℕ) (k : ℕ)
    → ((node : ℕ) → KeepsRates meaning ((flat stream).code node))
    → IsSchedule meaning (flat stream) input startup round startup_order round_order k
    → IsAnswer meaning stream input startup round startup_order round_order k
    (whole_run meaning (flat stream) input round_order startup_order k)

-- Exactly one of three.
abbrev pub ExactlyOne : Type 0 → Type 0 → Type 0 → Type 0
ExactlyOne A B C = (A × ¬ B × ¬ C) ⊎ ((B × ¬ A × ¬ C) ⊎ (C × ¬ A × ¬ B))

-- There is one answer: two of one stream, input, counts and orders are equal, and exactly one of
-- done, a fault in start-up and a fault in a round holds.
abbrev pub AnswerIsOne : (Code State Cause Word : Type 0) → Type 0
AnswerIsOne Code State Cause Word =
    (meaning : Meaning Code State Cause Word) (stream : Stream Code) (input : List ℤ)
    (startup round : ℕ → ℕ) (startup_order round_order : List ℕ) (k : ℕ)
    → ((node : ℕ) → KeepsRates meaning ((flat stream).code node))
    → IsSchedule meaning (flat stream) input startup round startup_order round_order k
    → ((a b : Outcome Cause Word)
    → IsAnswer meaning stream input startup round startup_order round_order k a
    → IsAnswer meaning stream input startup round startup_order round_order k b
    → a ≡ b)
    × ExactlyOne
    ((words : ℕ → List Word) × IsAnswer meaning stream input startup round startup_order round_order
    k (Done words))
    ((stop : Stop Cause) × IsAnswer meaning stream input startup round startup_order round_order k
    (StartupFault stop))
    ((q : ℕ) × (stop : Stop Cause) × (words : ℕ → List Word)
    × IsAnswer meaning stream input startup round startup_order round_order k
    (RoundFault q stop words))

-- The words and the round of a fault are the equations' alone: two schedules of the same counts
-- differ at most in the firing that they name.
abbrev pub OrdersAgree : (Code State Cause Word : Type 0) → Type 0
OrdersAgree Code State Cause Word =
    (meaning : Meaning Code State Cause Word) (stream : Stream Code) (input : List ℤ)
    (startup round : ℕ → ℕ) (startup_order round_order other_startup other_round : List ℕ) (k : ℕ)
    → ((node : ℕ) → KeepsRates meaning ((flat stream).code node))
    → IsSchedule meaning (flat stream) input startup round startup_order round_order k
    → IsSchedule meaning (flat stream) input startup round other_startup other_round k
    → verdict (whole_run meaning (flat stream) input round_order startup_order k)
    ≡ verdict (whole_run meaning (flat stream) input other_round other_startup k)

-- Of any graph and any solutions of its equations the run is the answer that they give,
-- and no other outcome is.
abbrev pub AnySolution : (Code State Cause Word : Type 0) → Type 0
AnySolution Code State Cause Word =
    (meaning : Meaning Code State Cause Word) (graph : Graph Code) (input : List ℤ)
    (startup round : ℕ → ℕ) (startup_order round_order : List ℕ) (k : ℕ) (inputs : ℕ → ℕ → ByPort)
    → ((node : ℕ) → KeepsRates meaning (graph.code node))
    → IsSchedule meaning graph input startup round startup_order round_order k
    → ((q : ℕ) → q ≤ k → Solves meaning graph (counts_after startup round q) input (inputs q))
    → IsAnswerOf (λ q. runs_at meaning graph (counts_after startup round q) (inputs q)) startup
    round startup_order round_order k (whole_run meaning graph input round_order startup_order k)
    × ((outcome : Outcome Cause Word)
    → IsAnswerOf (λ q. runs_at meaning graph (counts_after startup round q) (inputs q)) startup
    round startup_order round_order k outcome
    → outcome ≡ whole_run meaning graph input round_order startup_order k)

-- The machine over queues does what the machine over histories does, for every order, from the
-- beginning and from any state in which each queue is what came without what was taken; and each
-- queue stays so.
abbrev pub QueuesHoldTheRest : (Code State Cause Word : Type 0) → Type 0
QueuesHoldTheRest Code State Cause Word =
    (meaning : Meaning Code State Cause Word) (graph : Graph Code) (input : List ℤ) (order : List ℕ)
    → TakesWithinWindow meaning graph
    → IsAlike meaning graph input (go meaning graph input order (at_first meaning graph))
    (fifo_go meaning graph order (fifo_at_first meaning graph input))
    × ((now : Fifo State Cause Word) → IsQueued meaning graph input now
    → IsAlike meaning graph input (go meaning graph input order now.runs)
    (fifo_go meaning graph order now))

-- The run over queues is the run over histories, and so gives the answer of the stream equations.
abbrev pub QueueRunGivesAnswer : (Code State Cause Word : Type 0) → Type 0
QueueRunGivesAnswer Code State Cause Word =
    (meaning : Meaning Code State Cause Word) (stream : Stream Code) (input : List ℤ)
    (startup round : ℕ → ℕ) (startup_order round_order : List ℕ) (k : ℕ)
    → TakesWithinWindow meaning (flat stream)
    → (fifo_run meaning (flat stream) input round_order startup_order k
    ≡ whole_run meaning (flat stream) input round_order startup_order k)
    × (((node : ℕ) → KeepsRates meaning ((flat stream).code node))
    → IsSchedule meaning (flat stream) input startup round startup_order round_order k
    → IsAnswer meaning stream input startup round startup_order round_order k
    (fifo_run meaning (flat stream) input round_order startup_order k))

-- After an order from the beginning that is valid by counts, where no firing faulted: the state
-- solves the flat equations at its counts.
abbrev pub StateSolves : (Code State Cause Word : Type 0) → Type 0
StateSolves Code State Cause Word =
    (meaning : Meaning Code State Cause Word) (graph : Graph Code) (input : List ℤ) (order : List ℕ)
    (now : ℕ → Run State Cause Word)
    → ((node : ℕ) → KeepsRates meaning (graph.code node))
    → IsOrder meaning graph input (λ node. 0) order
    → go meaning graph input order (at_first meaning graph) ≡ Went now
    → Solves meaning graph (counted (λ node. 0) order) input
    (λ node port. arrived input now (graph.source node port))

-- And the length of each queue is what the counts say, whatever the items.
abbrev pub FillsAreByCounts : (Code State Cause Word : Type 0) → Type 0
FillsAreByCounts Code State Cause Word =
    (meaning : Meaning Code State Cause Word) (graph : Graph Code) (input : List ℤ) (order : List ℕ)
    (now : Fifo State Cause Word)
    → ((node : ℕ) → KeepsRates meaning (graph.code node))
    → TakesWithinWindow meaning graph
    → IsOrder meaning graph input (λ node. 0) order
    → fifo_go meaning graph order (fifo_at_first meaning graph input) ≡ FifoWent now
    → (node port : ℕ) → port < meaning.ports (graph.code node)
    → length (now.queues node port) ≡ fill meaning graph input (counted (λ v. 0) order) node port

-- An order of a round that is valid once is valid in each of k rounds, where the rates repeat, the
-- channels balance and the input suffices.
abbrev pub OrderIsValidAgain : (Code State Cause Word : Type 0) → Type 0
OrderIsValidAgain Code State Cause Word =
    (meaning : Meaning Code State Cause Word) (graph : Graph Code) (input : List ℤ)
    (startup round : ℕ → ℕ) (round_order : List ℕ) (k : ℕ)
    → ((node : ℕ) → firing_count round_order node ≡ round node)
    → RepeatsRates meaning graph startup
    → IsBalanced meaning graph startup round
    → IsSupplied meaning graph input (counts_after startup round k)
    → IsOrder meaning graph input (counts_after startup round 0) round_order
    → (q : ℕ) → q < k → IsOrder meaning graph input (counts_after startup round q) round_order

-- A stream whose flat graph is a chain of nodes, a source first, in which each node looks at no
-- more than the one before gives: firing its nodes in order, each once a round, is a schedule
-- without start-up, and gives the answer.
abbrev pub ChainRunsInOrder : (Code State Cause Word : Type 0) → Type 0
ChainRunsInOrder Code State Cause Word =
    (meaning : Meaning Code State Cause Word) (stream : Stream Code) (first : Code)
    (others : List Code) (input : List ℤ) (k : ℕ)
    → IsChain first others (flat stream)
    → ((node : ℕ) → KeepsRates meaning (get_or (first ∷ others) node first))
    → IsMatched meaning first others
    → IsSchedule meaning (flat stream) input (λ node. 0) (once_each (suc (length others))) []
    (nodes_from 0 (suc (length others))) k
    × IsAnswer meaning stream input (λ node. 0) (once_each (suc (length others))) []
    (nodes_from 0 (suc (length others))) k
    (whole_run meaning (flat stream) input (nodes_from 0 (suc (length others))) [] k)

-- A pipeline of filters, a source first, in which each filter looks at no more than the one before
-- gives, is a chain of nodes; firing them in order, each once a round, is a schedule without
-- start-up, and gives the answer.
abbrev pub PipelineRunsInOrder : (Code State Cause Word : Type 0) → Type 0
PipelineRunsInOrder Code State Cause Word =
    (meaning : Meaning Code State Cause Word) (first : Code) (others : List Code) (input : List ℤ)
    (k : ℕ)
    → ((node : ℕ) → KeepsRates meaning (get_or (first ∷ others) node first))
    → IsMatched meaning first others
    → IsChain first others (flat (pipeline_of first others))
    × IsSchedule meaning (flat (pipeline_of first others)) input (λ node. 0)
    (once_each (suc (length others))) [] (nodes_from 0 (suc (length others))) k
    × IsAnswer meaning (pipeline_of first others) input (λ node. 0)
    (once_each (suc (length others))) [] (nodes_from 0 (suc (length others))) k
    (whole_run meaning (flat (pipeline_of first others)) input
    (nodes_from 0 (suc (length others))) [] k)

-- The runs of round-robin and duplicating splitters and of round-robin joiners, over whole lists,
-- are the formulas on places.
abbrev pub SplittersAndJoiners : (Code State Cause Word : Type 0) → Type 0
SplittersAndJoiners Code State Cause Word =
    (meaning : Meaning Code State Cause Word) (code : Code) (weights : List ℕ) (inputs : ByPort)
    (n : ℕ)
    → (IsRoundRobinSplitter meaning code weights → (port : ℕ)
    → (runs meaning code n inputs).pushes port ≡ dealt weights n (inputs 0) port)
    × (IsDuplicateSplitter meaning code weights → (port : ℕ)
    → (runs meaning code n inputs).pushes port ≡ duplicated weights n (inputs 0) port)
    × (IsRoundRobinJoiner meaning code weights
    → (runs meaning code n inputs).pushes 0 ≡ woven weights n inputs)

-- A port at which no firing looks at an item and none takes one, as a joiner's of weight 0.
abbrev pub IsIdle : {Code State Cause Word : Type 0} → Meaning Code State Cause Word → Code
    → (port : ℕ) → Type 0
IsIdle meaning code port = (firing : ℕ) → (meaning.window code firing port ≡ 0)
    × (meaning.popped code firing port ≡ 0)

-- Two graphs with the same codes, and the same sources at the ports that carry items, run alike:
-- what is at ports that a node doesn't have or leaves idle, as on void sides, makes no
-- difference.
abbrev pub OnlyPortsMatter : (Code State Cause Word : Type 0) → Type 0
OnlyPortsMatter Code State Cause Word =
    (meaning : Meaning Code State Cause Word) (a b : Graph Code)
    → ((node : ℕ) → a.code node ≡ b.code node)
    → ((node port : ℕ) → port < meaning.ports (a.code node)
    → (a.source node port ≡ b.source node port) ⊎ IsIdle meaning (a.code node) port)
    → (input : List ℤ) (startup_order round_order : List ℕ) (k : ℕ)
    → whole_run meaning a input round_order startup_order k
    ≡ whole_run meaning b input round_order startup_order k
