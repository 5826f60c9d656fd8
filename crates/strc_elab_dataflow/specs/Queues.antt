-- The machine over queues (Lee and Messerschmitt 1987: samples on an arc are a first-in-first-out
-- queue): a firing sees the fronts of its node's queues, takes items from there and adds what it
-- pushes at the backs of others.
use Rattle.std.specs.Prelude.{◌≡◌, ℕ, ◌<◌, ◌≤◌, Bool, true, false, cond, eqb, leb, ltb, ℤ, List, []}
use Rattle.std.specs.Prelude.{◌∷◌, ◌++◌, length, take, drop, None, zero, suc}
use Rattle.strc_elab_dataflow.specs.Node.{ByPort, Fired, Fired.Fires, Fired.Faults, Meaning, total}
use Rattle.strc_elab_dataflow.specs.Histories.{Run, all_below, initial_run, after_firing}
use Rattle.strc_elab_dataflow.specs.Flat.{Origin, Origin.Nowhere, Origin.Input, Origin.Port, Graph}
use Rattle.strc_elab_dataflow.specs.Flat.{arrived}
use Rattle.strc_elab_dataflow.specs.Answer.{Outcome, Outcome.Done, Outcome.StartupFault}
use Rattle.strc_elab_dataflow.specs.Answer.{Outcome.RoundFault, words_of}
use Rattle.strc_elab_dataflow.specs.Machine.{Stop, Progress, Progress.Went, Progress.Stopped, put}

-- Each node's run, and the queue at each input port.
pub record Fifo (State Cause Word : Type 0) : Type 0 where
  pub runs : ℕ → Run State Cause Word
  pub queues : ℕ → ByPort

-- What firing the nodes of a list came to.
pub data FifoProgress (State Cause Word : Type 0) : Type 0 where
  FifoWent : Fifo State Cause Word → FifoProgress State Cause Word
  FifoStopped : Stop Cause → FifoProgress State Cause Word

-- What follows, unless the machine stopped.
unfoldable pub fifo_then : {State Cause Word : Type 0}
    → (Fifo State Cause Word → FifoProgress State Cause Word) → FifoProgress State Cause Word
    → FifoProgress State Cause Word
fifo_then later (FifoWent now) = later now
fifo_then later (FifoStopped stop) = FifoStopped stop

-- What a firing of a node at these output ports adds to a queue of this origin.
unfoldable pub added : ℕ → ByPort → Origin → List ℤ
added node pushes Nowhere = []
added node pushes Input = []
added node pushes (Port source port) = cond (eqb source node) (pushes port) []

module _ {Code State Cause Word : Type 0} (meaning : Meaning Code State Cause Word)
    (graph : Graph Code) where
  -- Do a node's queues hold the windows of this firing?
  unfoldable pub holds : ℕ → ℕ → ByPort → Bool
  holds node firing queues = all_below (meaning.ports (graph.code node))
      (λ port. leb (meaning.window (graph.code node) firing port) (length (queues port)))

  -- The fronts of a node's queues, which the firing sees.
  unfoldable pub fronts : ℕ → ℕ → ByPort → ByPort
  fronts node firing queues port = cond (ltb port (meaning.ports (graph.code node)))
      (take (meaning.window (graph.code node) firing port) (queues port)) []

  -- The queues after a firing: what it takes leaves the fronts of its node's queues, what it pushes
  -- joins the backs.
  unfoldable pub moved : ℕ → ℕ → (ℕ → ByPort) → ByPort → ℕ → ByPort
  moved node firing queues pushes other port =
      drop (cond (eqb other node) (meaning.popped (graph.code node) firing port) 0)
      (queues other port) ++ added node pushes (graph.source other port).origin

  unfoldable pub fifo_after : Fifo State Cause Word → ℕ → Fired State Cause Word
      → FifoProgress State Cause Word
  fifo_after now node (Fires state pushes words) =
      FifoWent (record {
        runs = put now.runs node
            (after_firing meaning (graph.code node) (now.runs node) (Fires state pushes words));
        queues = moved node (now.runs node).fired now.queues pushes;
      })
  fifo_after now node (Faults cause) = FifoStopped
      (record { node = node; firing = (now.runs node).fired; cause = cause })

  unfoldable pub fifo_if : Fifo State Cause Word → ℕ → Bool → FifoProgress State Cause Word
  fifo_if now node true =
      fifo_after now node (meaning.fire (graph.code node) (now.runs node).fired
      (now.runs node).state (fronts node (now.runs node).fired (now.queues node)))
  fifo_if now node false = FifoWent now

  -- One firing of a node, if its queues hold its windows.
  unfoldable pub fifo_fire : Fifo State Cause Word → ℕ → FifoProgress State Cause Word
  fifo_fire now node = fifo_if now node (holds node (now.runs node).fired (now.queues node))

  -- Fires the nodes of an order one by one and stops at the first fault.
  unfoldable pub fifo_go : List ℕ → Fifo State Cause Word → FifoProgress State Cause Word
  fifo_go [] now = FifoWent now
  fifo_go (node ∷ order) now = fifo_then (fifo_go order) (fifo_fire now node)

  module _ (input : List ℤ) where
    -- No run has a fault, and each queue is what has come to it without what its node took.
    pub record IsQueued (now : Fifo State Cause Word) : Type 0 where
      pub faultless : (node : ℕ) → (now.runs node).fault ≡ None
      pub came : (node port : ℕ) → port < meaning.ports (graph.code node)
          → total (meaning.popped (graph.code node)) (now.runs node).fired port
          ≤ length (arrived input now.runs (graph.source node port))
      pub rest : (node port : ℕ) → port < meaning.ports (graph.code node)
          → now.queues node port ≡ drop (total (meaning.popped (graph.code node))
          (now.runs node).fired port) (arrived input now.runs (graph.source node port))

    -- Both machines stopped at the same fault; or both went on, to the same runs, each queue being
    -- what came without what was taken.
    abbrev pub IsAlike : Progress State Cause Word → FifoProgress State Cause Word → Type 0
    IsAlike (Went now) (FifoWent fifo) = (fifo.runs ≡ now) × IsQueued fifo
    IsAlike (Went now) (FifoStopped stop) = ⊥
    IsAlike (Stopped stop) (FifoWent fifo) = ⊥
    IsAlike (Stopped stop) (FifoStopped other) = stop ≡ other

    -- No node has fired: each queue holds what is enqueued there, and the program's input where it
    -- is read.
    unfoldable pub fifo_at_first : Fifo State Cause Word
    fifo_at_first = record {
      runs = λ node. initial_run meaning (graph.code node);
      queues =
          λ node port. arrived input (λ v. initial_run meaning (graph.code v))
          (graph.source node port);
    }

  -- No firing takes more than it looks at.
  abbrev pub TakesWithinWindow : Type 0
  TakesWithinWindow = (node firing port : ℕ) → port < meaning.ports (graph.code node)
      → meaning.popped (graph.code node) firing port ≤ meaning.window (graph.code node) firing port

module _ {Code State Cause Word : Type 0} (meaning : Meaning Code State Cause Word)
    (graph : Graph Code) (input : List ℤ) (round_order : List ℕ) where
  -- A round's outcome, where the later rounds have theirs.
  unfoldable pub fifo_round_outcome : ℕ → (ℕ → List Word) → FifoProgress State Cause Word
      → (Fifo State Cause Word → Outcome Cause Word) → Outcome Cause Word
  fifo_round_outcome q words (FifoWent now) later = later now
  fifo_round_outcome q words (FifoStopped stop) later = RoundFault q stop words

  -- What is left of the run: so many rounds, from round q on.
  unfoldable pub fifo_rounds : ℕ → ℕ → Fifo State Cause Word → Outcome Cause Word
  fifo_rounds zero q now = Done (words_of now.runs)
  fifo_rounds (suc left) q now = fifo_round_outcome q (words_of now.runs)
      (fifo_go meaning graph round_order now) (fifo_rounds left (suc q))

  unfoldable pub fifo_startup_outcome : ℕ → FifoProgress State Cause Word → Outcome Cause Word
  fifo_startup_outcome k (FifoWent now) = fifo_rounds k 0 now
  fifo_startup_outcome k (FifoStopped stop) = StartupFault stop

  -- The run of the machine over queues: start-up and k rounds.
  unfoldable pub fifo_run : List ℕ → ℕ → Outcome Cause Word
  fifo_run startup_order k = fifo_startup_outcome k
      (fifo_go meaning graph startup_order (fifo_at_first meaning graph input))
