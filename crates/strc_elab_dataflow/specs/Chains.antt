-- A restarted graph run by stages, and what a chain of workers makes of it.
use Rattle.std.specs.Prelude.{◌≡◌, ℕ, ℤ, List, [], Some, None}
use Rattle.strc_elab_dataflow.specs.Node.{ByPort, Meaning}
use Rattle.strc_elab_dataflow.specs.Histories.{KeepsRates}
use Rattle.strc_elab_dataflow.specs.Flat.{Graph}
use Rattle.strc_elab_dataflow.specs.Order.{IsSchedule}
use Rattle.strc_elab_dataflow.specs.Answer.{Outcome, Outcome.Done, Outcome.StartupFault}
use Rattle.strc_elab_dataflow.specs.Answer.{Outcome.RoundFault, words_of}
use Rattle.strc_elab_dataflow.specs.Queues.{Fifo, fifo_at_first, fifo_rounds, TakesWithinWindow}
use Rattle.strc_elab_dataflow.specs.Staging.{Staging, IsStaged, IsStaging}
use Rattle.strc_elab_dataflow.specs.Stages.{Parcel}
use Rattle.strc_elab_dataflow.specs.Workers.{IsChain, collects}
use Rattle.strc_elab_dataflow.specs.Restart.{Restarted, restarted_meaning, restarted, numbered_on}

-- An outcome with the numbers of the firings of whole lives.
unfoldable pub faults_on : {State Cause Word : Type 0} → Fifo State Cause Word
    → Outcome Cause Word → Outcome Cause Word
faults_on from (Done words) = Done words
faults_on from (StartupFault stop) = StartupFault (numbered_on from stop)
faults_on from (RoundFault q stop words) = RoundFault q (numbered_on from stop) words

-- A graph with its state, a round of it, and the stages that the round is cut into.
pub record Resumption (Code State Cause Word : Type 0) : Type 0 where
  pub meaning : Meaning Code State Cause Word
  pub graph : Graph Code
  pub from : Fifo State Cause Word
  pub round : ℕ → ℕ
  pub round_order : List ℕ
  pub rounds : ℕ
  pub stage_of : ℕ → ℕ
  pub segment : ℕ → List ℕ
  pub stages : ℕ

module _ {Code State Cause Word : Type 0} (resumed : Resumption Code State Cause Word) where
  abbrev pub meaning_from : Meaning (Restarted Code State) State Cause Word
  meaning_from = restarted_meaning resumed.meaning

  abbrev pub graph_from : Graph (Restarted Code State)
  graph_from = restarted resumed.from resumed.graph

  -- What the rounds begin with.
  abbrev pub first_from : Fifo State Cause Word
  first_from = fifo_at_first meaning_from graph_from []

  -- The restarted graph with its round in stages, without start-up.
  abbrev pub staging_from : (inputs : ℕ → ℕ → ByPort)
      → Staging (Restarted Code State) State Cause Word
  staging_from inputs = record {
    meaning = meaning_from;
    graph = graph_from;
    input = [];
    startup = λ node. 0;
    round = resumed.round;
    startup_order = [];
    round_order = resumed.round_order;
    rounds = resumed.rounds;
    stage_of = resumed.stage_of;
    segment = resumed.segment;
    stages = resumed.stages;
    inputs = inputs;
  }

  -- The restarted codes keep their rates, no firing takes more than it looks at, the round's order
  -- is valid by counts in each round, and it is cut into stages.
  pub record IsResumption : Type 0 where
    pub faultless : (node : ℕ) → (resumed.from.runs node).fault ≡ None
    pub keeps : (node : ℕ) → KeepsRates meaning_from (graph_from.code node)
    pub takes_within : TakesWithinWindow resumed.meaning resumed.graph
    pub schedule : IsSchedule meaning_from graph_from [] (λ node. 0) resumed.round []
        resumed.round_order resumed.rounds
    pub staged : IsStaged resumed.graph resumed.stage_of resumed.segment resumed.stages
        resumed.round_order

-- A restarted graph has inputs with which it meets what the laws on stages ask.
abbrev pub RestartedIsStaging : (Code State Cause Word : Type 0) → Type 0
RestartedIsStaging Code State Cause Word =
    (resumed : Resumption Code State Cause Word)
    → IsResumption resumed
    → (inputs : ℕ → ℕ → ByPort) × IsStaging (staging_from resumed inputs)

-- Whatever a chain of workers over the stages of the restarted graph has given and taken, with any
-- such inputs: what its collector makes of it, behind the words that were there, is the outcome of
-- the rounds of the graph from its state, but for the numbers of firings.
abbrev pub RestartedChains : (Code State Cause Word : Type 0) → Type 0
RestartedChains Code State Cause Word =
    (resumed : Resumption Code State Cause Word) (inputs : ℕ → ℕ → ByPort)
    (given taken left : ℕ → List (Parcel Cause Word)) (outcome : Outcome Cause Word)
    (input : List ℤ)
    → IsResumption resumed
    → IsStaging (staging_from resumed inputs)
    → IsChain (staging_from resumed inputs) (first_from resumed) given taken left
    → collects (staging_from resumed inputs) resumed.rounds 0 (words_of resumed.from.runs)
    (taken resumed.stages) ≡ Some outcome
    → faults_on resumed.from outcome
    ≡ fifo_rounds resumed.meaning resumed.graph input resumed.round_order resumed.rounds 0
    resumed.from
