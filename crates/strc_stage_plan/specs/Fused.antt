-- A planned program after fission, its round fused, and the state that start-up left: how it goes
-- on from there by stages.
use Rattle.std.specs.Prelude.{◌≡◌, ℕ, ◌<◌, ◌*◌, ◌≤◌, ℤ, List, [], length}
use Rattle.strc_elab_dataflow.specs.Flat as flat
use Rattle.strc_elab_dataflow.specs.Order.{firing_count, IsOrder}
use Rattle.strc_elab_dataflow.specs.Queues.{FifoProgress.FifoWent, fifo_go, fifo_at_first}
use Rattle.strc_elab_dataflow.specs.Streams as trees
use Rattle.strc_elab_dataflow.specs.Staging.{IsStaged}
use Rattle.strc_work_meaning.specs.declared.fault.Cause.{Cause}
use Rattle.strc_work_meaning.specs.declared.word.Word.{Word}
use Rattle.strc_elab_graph.specs.Graphs.{NodeCode, Graph, IsGraph}
use Rattle.strc_elab_graph.specs.FlatGraphs.{IsProgram}
use Rattle.strc_elab_graph.specs.Meaning.{node_meaning}
use Rattle.strc_balance.specs.Balance.{count_at}
use Rattle.strc_startup.specs.Rates.{rates_of}
use Rattle.strc_sched_orders.specs.Schedules.{ScheduleParts}
use Rattle.strc_sched_laws.specs.Fits.{Queues}
use Rattle.strc_sched_laws.specs.Laws.{startup_order, counts_at}
use Rattle.strc_sched_laws.specs.Planned.{IsPlanned, AreKnown, items_read}
use Rattle.strc_elab_dataflow.specs.Chains.{Resumption, IsResumption}
use Rattle.strc_elab_dataflow.specs.Restart.{restarted_meaning, restarted}
use Rattle.strc_elab_dataflow.specs.RestartRounds.{IsBalancedByRounds}
use Rattle.strc_elab_dataflow.specs.Schedules.{fired_in, IsSuppliedFrom}
use Rattle.strc_sched_laws.specs.GoingOn.{resumption}
use Rattle.strc_elab_dataflow.specs.FusedUnits.{RoundUnit, AreFused, firings_of}
use Rattle.strc_fuse.specs.Units.{is_free, round_units, ArePlaced}
use Rattle.strc_fiss.specs.Laws.{AreOwn}
use Rattle.strc_fiss.specs.Units.{split_units}
use Rattle.strc_fiss.specs.Ways.{fission_of}
use Rattle.strc_stage_plan.specs.SplitLaws.{new_graph}
use Rattle.strc_stage_plan.specs.Named.{new_origins, old_firings}
use Rattle.strc_stage_plan.specs.Runs.{graph_before, graph_after, dealt_from}

-- A program's graph with its schedule, which nodes are split by how often they fire in a round and
-- in how many ways at most, the units of the round after fission, and start-up's state over an
-- input for so many rounds.
pub record FusedRun : Type 0 where
  pub tree : trees.Stream NodeCode
  pub old : Graph
  pub schedule : ScheduleParts
  pub round : List ℕ
  pub ways : ℕ
  pub fused : List RoundUnit
  pub input : List ℤ
  pub rounds : ℕ
  pub started : Queues

module _ (run : FusedRun) where
  abbrev pub graph_of : flat.Graph NodeCode
  graph_of = graph_after run.tree run.old run.schedule run.round run.ways

  abbrev pub order_of : List ℕ
  order_of = firings_of run.fused

  -- its firings by the nodes before fission
  abbrev pub named_order_of : List ℕ
  named_order_of = old_firings (new_graph run.old run.schedule run.round run.ways).nodes
      (new_origins run.old run.round run.ways) order_of

  -- the state that start-up left, dealt out to the parts
  abbrev pub state_of : Queues
  state_of = dealt_from run.tree run.old run.schedule run.round run.ways run.started

  -- the premises of fission and fusion, the input suffices, and start-up went without a fault
  pub record IsFusedRun (limit : ℕ) : Type 0 where
    pub program : IsProgram run.tree run.old
    pub is : IsGraph run.old
    pub planned : IsPlanned run.old run.schedule
    pub known : AreKnown run.old
    pub own : AreOwn (fission_of run.old run.round run.ways) (round_units run.schedule.round)
    pub placed : ArePlaced (rates_of run.old) (count_at planned.round) (is_free run.old)
        (round_units run.schedule.round)
    pub fusion : AreFused (is_free (new_graph run.old run.schedule run.round run.ways)) limit
        (split_units (fission_of run.old run.round run.ways) (round_units run.schedule.round))
        run.fused
    pub supplied : items_read run.old.nodes (counts_at run.schedule run.rounds) ≤ length run.input
    pub went : fifo_go node_meaning
        (graph_before run.tree run.old run.schedule run.round run.ways)
        (startup_order run.schedule)
        (fifo_at_first node_meaning
        (graph_before run.tree run.old run.schedule run.round run.ways) run.input)
        ≡ FifoWent run.started

  -- its rounds from there on, in stages
  abbrev pub resumed : (stage_of : ℕ → ℕ) (segment : ℕ → List ℕ) (stages : ℕ)
      → Resumption NodeCode (List ℤ) Cause Word
  resumed = resumption graph_of state_of (firing_count order_of) order_of run.rounds

-- On each channel a round takes what it gives.
abbrev pub SplitRoundsBalance : Type 0
SplitRoundsBalance =
    (run : FusedRun) (limit : ℕ)
    → IsFusedRun run limit
    → IsBalancedByRounds node_meaning (graph_of run)
    (fired_in node_meaning (graph_of run) (state_of run)) (firing_count (order_of run))

-- The first round's order finds its windows in the queues of the state.
abbrev pub SplitRoundIsRestartedOrder : Type 0
SplitRoundIsRestartedOrder =
    (run : FusedRun) (limit : ℕ)
    → IsFusedRun run limit
    → 0 < run.rounds
    → IsOrder (restarted_meaning node_meaning) (restarted (state_of run) (graph_of run)) []
    (λ node. 0) (order_of run)

-- What waits from outside suffices for all rounds.
abbrev pub SplitRoundsAreSupplied : Type 0
SplitRoundsAreSupplied =
    (run : FusedRun) (limit : ℕ)
    → IsFusedRun run limit
    → IsSuppliedFrom node_meaning (graph_of run) (state_of run)
    (λ node. run.rounds * firing_count (order_of run) node)

-- So the graph restarted at the state can be run by stages.
abbrev pub SplitGraphsResume : Type 0
SplitGraphsResume =
    (run : FusedRun) (limit : ℕ) (stage_of : ℕ → ℕ) (segment : ℕ → List ℕ) (stages : ℕ)
    → IsFusedRun run limit
    → IsStaged (graph_of run) stage_of segment stages (order_of run)
    → IsResumption (resumed run stage_of segment stages)
