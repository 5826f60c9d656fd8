-- A graph with the same nodes and other sources at ports that carry no items. A stream's graph has
-- sources at every port; those that a cut into stages looks at are only the ones that carry items.
use Rattle.std.specs.Prelude.{◌≡◌, ℕ, ◌<◌, Bool, true, false, ℤ, List, ◌++◌}
use Rattle.strc_elab_dataflow.specs.Node.{ByPort, Meaning}
use Rattle.strc_elab_dataflow.specs.Histories.{Run, KeepsRates}
use Rattle.strc_elab_dataflow.specs.Flat.{Source, Graph, arrived}
use Rattle.strc_elab_dataflow.specs.Streams.{Stream, flat, solution}
use Rattle.strc_elab_dataflow.specs.Order.{counts_after, IsSchedule}
use Rattle.strc_elab_dataflow.specs.Queues.{Fifo, FifoProgress, FifoProgress.FifoWent}
use Rattle.strc_elab_dataflow.specs.Queues.{FifoProgress.FifoStopped, TakesWithinWindow}
use Rattle.strc_elab_dataflow.specs.Laws.{IsIdle}
use Rattle.strc_elab_dataflow.specs.Staging.{Staging, after, IsStaged}

abbrev pub rewired : {Code : Type 0} → Graph Code → (source : ℕ → ℕ → Source) → Graph Code
rewired graph source = record { size = graph.size; code = graph.code; source = source }

-- The sources are the same where a port carries items; at other ports of a node none is taken.
pub record IsRewiring {Code State Cause Word : Type 0} (meaning : Meaning Code State Cause Word)
    (graph : Graph Code) (source : ℕ → ℕ → Source) (carries : ℕ → ℕ → Bool) : Type 0 where
  pub same : (node port : ℕ) → carries node port ≡ true
      → graph.source node port ≡ source node port
  pub idle : (node port : ℕ) → port < meaning.ports (graph.code node)
      → carries node port ≡ false → IsIdle meaning (graph.code node) port

-- The staging of a graph over other sources, with the inputs that come from them.
abbrev pub rewired_plan : {Code State Cause Word : Type 0} → Staging Code State Cause Word
    → (source : ℕ → ℕ → Source) → Staging Code State Cause Word
rewired_plan plan source = record {
  meaning = plan.meaning;
  graph = rewired plan.graph source;
  input = plan.input;
  startup = plan.startup;
  round = plan.round;
  startup_order = plan.startup_order;
  round_order = plan.round_order;
  rounds = plan.rounds;
  stage_of = plan.stage_of;
  segment = plan.segment;
  stages = plan.stages;
  inputs = λ t node port. arrived plan.input (after plan t) (source node port);
}

module _ {State Cause Word : Type 0} (own : ℕ → Bool) (carries : ℕ → ℕ → Bool)
    (others : ℕ → Run State Cause Word) (front : ℕ → ByPort) where
  -- A machine over all nodes has the runs and queues of some nodes; those of the others are
  -- anything, and what came to their queues stands behind what was there.
  pub record IsLocal (all here : Fifo State Cause Word) : Type 0 where
    pub own_runs : (v : ℕ) → own v ≡ true → all.runs v ≡ here.runs v
    pub other_runs : (v : ℕ) → own v ≡ false → all.runs v ≡ others v
    pub own_queues : (v port : ℕ) → own v ≡ true → carries v port ≡ true
        → all.queues v port ≡ here.queues v port
    pub other_queues : (v port : ℕ) → own v ≡ false → carries v port ≡ true
        → all.queues v port ≡ front v port ++ here.queues v port

  -- Both stopped at the same fault, or both went on.
  abbrev pub AreLocal : (all here : FifoProgress State Cause Word) → Type 0
  AreLocal (FifoWent all) (FifoWent here) = IsLocal all here
  AreLocal (FifoWent all) (FifoStopped stop) = ⊥
  AreLocal (FifoStopped stop) (FifoWent here) = ⊥
  AreLocal (FifoStopped stop) (FifoStopped other) = stop ≡ other

-- A stream with its schedule, cut into stages: the sources of its graph where ports carry items,
-- each node's stage and each stage's segment.
pub record StagedStream (Code State Cause Word : Type 0) : Type 0 where
  pub meaning : Meaning Code State Cause Word
  pub stream : Stream Code
  pub input : List ℤ
  pub startup : ℕ → ℕ
  pub round : ℕ → ℕ
  pub startup_order : List ℕ
  pub round_order : List ℕ
  pub rounds : ℕ
  pub source : ℕ → ℕ → Source
  pub carries : ℕ → ℕ → Bool
  pub stage_of : ℕ → ℕ
  pub segment : ℕ → List ℕ
  pub stages : ℕ

module _ {Code State Cause Word : Type 0} where
  -- The staging of its graph, with the inputs that the recursion over the stream gives, over the
  -- sources that carry items.
  abbrev pub flat_plan : StagedStream Code State Cause Word → Staging Code State Cause Word
  flat_plan staged = record {
    meaning = staged.meaning;
    graph = flat staged.stream;
    input = staged.input;
    startup = staged.startup;
    round = staged.round;
    startup_order = staged.startup_order;
    round_order = staged.round_order;
    rounds = staged.rounds;
    stage_of = staged.stage_of;
    segment = staged.segment;
    stages = staged.stages;
    inputs = λ t. solution staged.meaning (counts_after staged.startup staged.round t)
        staged.input staged.stream;
  }

  abbrev pub staging_of : StagedStream Code State Cause Word → Staging Code State Cause Word
  staging_of staged = rewired_plan (flat_plan staged) staged.source

  -- Codes keep their rates and take within their windows, the orders are valid by counts, and the
  -- round is staged over the sources that carry items.
  pub record IsStagedStream (staged : StagedStream Code State Cause Word) : Type 0 where
    pub keeps : (node : ℕ) → KeepsRates staged.meaning ((flat staged.stream).code node)
    pub takes_within : TakesWithinWindow staged.meaning (flat staged.stream)
    pub schedule : IsSchedule staged.meaning (flat staged.stream) staged.input staged.startup
        staged.round staged.startup_order staged.round_order staged.rounds
    pub rewiring : IsRewiring staged.meaning (flat staged.stream) staged.source staged.carries
    pub cut : IsStaged (rewired (flat staged.stream) staged.source) staged.stage_of
        staged.segment staged.stages staged.round_order
