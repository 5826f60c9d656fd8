-- A graph that goes on from a state: its codes know how often they have fired and the state that
-- they are in, and what waits in the queues is enqueued.
use Rattle.std.specs.Prelude.{◌≡◌, ℕ, ◌+◌, ℤ, List, [], ◌++◌, None}
use Rattle.strc_elab_dataflow.specs.Node.{Meaning}
use Rattle.strc_elab_dataflow.specs.Flat.{Origin, Origin.Nowhere, Origin.Input, Origin.Port, Graph}
use Rattle.strc_elab_dataflow.specs.Machine.{Stop}
use Rattle.strc_elab_dataflow.specs.Answer.{Outcome, Outcome.Done, Outcome.StartupFault}
use Rattle.strc_elab_dataflow.specs.Answer.{Outcome.RoundFault}
use Rattle.strc_elab_dataflow.specs.Queues.{Fifo, FifoProgress, FifoProgress.FifoWent, fifo_go}
use Rattle.strc_elab_dataflow.specs.Queues.{FifoProgress.FifoStopped, fifo_at_first, fifo_rounds}

-- A code that has fired so often, and the state that it is in.
pub record Restarted (Code State : Type 0) : Type 0 where
  pub code : Code
  pub fired : ℕ
  pub state : State

-- Its next firing is the code's next one.
unfoldable pub restarted_meaning : {Code State Cause Word : Type 0} → Meaning Code State Cause Word
    → Meaning (Restarted Code State) State Cause Word
restarted_meaning meaning = record {
  start = λ again. again.state;
  ports = λ again. meaning.ports again.code;
  window = λ again n. meaning.window again.code (again.fired + n);
  popped = λ again n. meaning.popped again.code (again.fired + n);
  pushed = λ again n. meaning.pushed again.code (again.fired + n);
  fire = λ again n. meaning.fire again.code (again.fired + n);
}

-- What is left of the program's input waits in a queue.
unfoldable pub taken_in : Origin → Origin
taken_in Nowhere = Nowhere
taken_in Input = Nowhere
taken_in (Port node port) = Port node port

module _ {State Cause Word : Type 0} (from : Fifo State Cause Word) where
  unfoldable pub restarted : {Code : Type 0} → Graph Code → Graph (Restarted Code State)
  restarted graph = record {
    size = graph.size;
    code = λ node. record {
      code = graph.code node;
      fired = (from.runs node).fired;
      state = (from.runs node).state;
    };
    source = λ node port. record {
      enqueued = from.queues node port;
      origin = taken_in (graph.source node port).origin;
    };
  }

  -- A state that a graph came to from there, and one that the restarted graph came to.
  pub record AreSame (now again : Fifo State Cause Word) : Type 0 where
    pub fired : (node : ℕ)
        → (now.runs node).fired ≡ (from.runs node).fired + (again.runs node).fired
    pub state : (node : ℕ) → (now.runs node).state ≡ (again.runs node).state
    pub pushes : (node port : ℕ) → (now.runs node).pushes port
        ≡ (from.runs node).pushes port ++ (again.runs node).pushes port
    pub words : (node : ℕ)
        → (now.runs node).words ≡ (from.runs node).words ++ (again.runs node).words
    pub fault : (node : ℕ) → (now.runs node).fault ≡ (again.runs node).fault
    pub queues : (node port : ℕ) → now.queues node port ≡ again.queues node port

  -- The same fault, at the firing of the node's whole life.
  unfoldable pub numbered_on : Stop Cause → Stop Cause
  numbered_on stop = record {
    node = stop.node;
    firing = (from.runs stop.node).fired + stop.firing;
    cause = stop.cause;
  }

  -- Both went on, to states that are the same; or stopped at the same fault.
  abbrev pub GoAlike : (now again : FifoProgress State Cause Word) → Type 0
  GoAlike (FifoWent now) (FifoWent again) = AreSame now again
  GoAlike (FifoWent now) (FifoStopped stop) = ⊥
  GoAlike (FifoStopped stop) (FifoWent again) = ⊥
  GoAlike (FifoStopped stop) (FifoStopped other) = stop ≡ numbered_on other

  -- Words behind those that were there.
  unfoldable pub words_on : (ℕ → List Word) → ℕ → List Word
  words_on words node = (from.runs node).words ++ words node

  -- An outcome of the restarted graph, as one of the graph.
  unfoldable pub outcome_on : Outcome Cause Word → Outcome Cause Word
  outcome_on (Done words) = Done (words_on words)
  outcome_on (StartupFault stop) = StartupFault (numbered_on stop)
  outcome_on (RoundFault q stop words) = RoundFault q (numbered_on stop) (words_on words)

-- A graph that goes on from a state without faults, and the graph restarted there, which takes
-- nothing from outside: any order and any number of rounds come to the same.
abbrev pub RestartedRunsAlike : (Code State Cause Word : Type 0) → Type 0
RestartedRunsAlike Code State Cause Word =
    (meaning : Meaning Code State Cause Word) (graph : Graph Code) (from : Fifo State Cause Word)
    → (((node : ℕ) → (from.runs node).fault ≡ None) → AreSame from from
    (fifo_at_first (restarted_meaning meaning) (restarted from graph) []))
    × ((order : List ℕ) (now again : Fifo State Cause Word)
    → AreSame from now again
    → GoAlike from (fifo_go meaning graph order now)
    (fifo_go (restarted_meaning meaning) (restarted from graph) order again))
    × ((input : List ℤ) (round_order : List ℕ) (left q : ℕ) (now again : Fifo State Cause Word)
    → AreSame from now again
    → fifo_rounds meaning graph input round_order left q now
    ≡ outcome_on from (fifo_rounds (restarted_meaning meaning) (restarted from graph) []
    round_order left q again))
