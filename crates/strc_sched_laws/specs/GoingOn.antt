-- A graph that goes on from a state, by what is known of its nodes.
use Rattle.std.specs.Prelude.{◌≡◌, ℕ, ◌*◌, ℤ, List, [], None}
use Rattle.strc_elab_dataflow.specs.Flat as flat
use Rattle.strc_elab_dataflow.specs.Order.{firing_count, IsOrder}
use Rattle.strc_elab_dataflow.specs.Queues.{Fifo}
use Rattle.strc_elab_dataflow.specs.Staging.{IsStaged}
use Rattle.strc_work_meaning.specs.declared.fault.Cause.{Cause}
use Rattle.strc_work_meaning.specs.declared.word.Word.{Word}
use Rattle.strc_elab_graph.specs.Graphs.{NodeCode}
use Rattle.strc_elab_graph.specs.Meaning.{node_meaning}
use Rattle.strc_elab_dataflow.specs.Restart.{restarted_meaning, restarted}
use Rattle.strc_elab_dataflow.specs.RestartRounds.{IsBalancedByRounds}
use Rattle.strc_elab_dataflow.specs.Schedules.{fired_in, IsSuppliedFrom}
use Rattle.strc_elab_dataflow.specs.Chains.{Resumption, IsResumption}
use Rattle.strc_sched_laws.specs.Nodes.{HasItsRates}
use Rattle.strc_sched_laws.specs.Repeats.{HasRound, IsNarrow}

module _ (graph : flat.Graph NodeCode) (from : Fifo (List ℤ) Cause Word) (round : ℕ → ℕ) where
  -- No node has faulted, each one has its rates and fires by its rounds from here on, and the
  -- channels balance over a round.
  pub record CanGoOn : Type 0 where
    pub faultless : (node : ℕ) → (from.runs node).fault ≡ None
    pub rates : (node : ℕ) → HasItsRates (graph.code node)
    pub rounds : (node : ℕ)
        → HasRound (graph.code node) (fired_in node_meaning graph from node) (round node)
    pub narrow : (node : ℕ) → IsNarrow (graph.code node)
    pub balanced : IsBalancedByRounds node_meaning graph (fired_in node_meaning graph from) round

  -- so many rounds from there, in stages
  abbrev pub resumption : (round_order : List ℕ) (rounds : ℕ) (stage_of : ℕ → ℕ)
      (segment : ℕ → List ℕ) (stages : ℕ) → Resumption NodeCode (List ℤ) Cause Word
  resumption round_order rounds stage_of segment stages = record {
    meaning = node_meaning;
    graph = graph;
    from = from;
    round = round;
    round_order = round_order;
    rounds = rounds;
    stage_of = stage_of;
    segment = segment;
    stages = stages;
  }

-- Where a round's order finds its windows in the state's queues once, what waits from outside
-- suffices, and the round is cut into stages, the graph restarted there can be run by stages.
abbrev pub GraphsGoOn : Type 0
GraphsGoOn =
    (graph : flat.Graph NodeCode) (from : Fifo (List ℤ) Cause Word) (round : ℕ → ℕ)
    (round_order : List ℕ) (rounds : ℕ) (stage_of : ℕ → ℕ) (segment : ℕ → List ℕ) (stages : ℕ)
    → CanGoOn graph from round
    → ((node : ℕ) → firing_count round_order node ≡ round node)
    → IsSuppliedFrom node_meaning graph from (λ node. rounds * round node)
    → IsOrder (restarted_meaning node_meaning) (restarted from graph) [] (λ node. 0) round_order
    → IsStaged graph stage_of segment stages round_order
    → IsResumption (resumption graph from round round_order rounds stage_of segment stages)
