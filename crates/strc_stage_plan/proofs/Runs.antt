-- The rounds of a program's graph, and those of the graph after fission.
use Rattle.std.proofs.Common.{◌≡◌, refl, sym, ap, ◌∙◌, subst, ℕ, ◌<◌, ◌≤◌, arith}
use Rattle.std.proofs.Common.{ℤ, List, length}
use mathlib.Core.Path.{fun_ext}
use Rattle.strc_elab_dataflow.specs.Answer.{Outcome, IsAnswer}
use Rattle.strc_elab_dataflow.specs.Flat as flat
use Rattle.strc_elab_dataflow.specs.Histories.{KeepsRates, initial_run}
use Rattle.strc_elab_dataflow.specs.Order as orders
use Rattle.strc_elab_dataflow.specs.Queues.{FifoProgress.FifoWent, fifo_go, fifo_at_first}
use Rattle.strc_elab_dataflow.specs.Queues.{TakesWithinWindow, fifo_rounds, fifo_run}
use Rattle.strc_elab_dataflow.specs.Queues.{fifo_startup_outcome}
use Rattle.strc_elab_dataflow.specs.Streams.{Stream, any_code}
use Rattle.strc_elab_dataflow.specs.Streams as trees
use Rattle.strc_elab_dataflow.proofs.Theorem.{stream_queue_run}
use Rattle.strc_work_meaning.specs.declared.fault.Cause.{Cause}
use Rattle.strc_work_meaning.specs.declared.word.Word.{Word}
use Rattle.strc_elab_graph.specs.Graphs.{NodeCode, Graph, IsGraph}
use Rattle.strc_elab_graph.specs.FlatGraphs.{IsProgram}
use Rattle.strc_elab_graph.specs.Meaning.{node_meaning}
use Rattle.strc_balance.specs.Balance.{count_at}
use Rattle.strc_startup.specs.Rates.{rates_of}
use Rattle.strc_sched_orders.specs.Order.{firing_count, IsOrder}
use Rattle.strc_sched_orders.specs.Schedules.{ScheduleParts}
use Rattle.strc_sched_laws.specs.Fits.{Queues}
use Rattle.strc_sched_laws.specs.Laws.{startup_order, round_order, counts_at}
use Rattle.strc_sched_laws.specs.Planned.{IsPlanned, AreKnown, items_read}
use Rattle.strc_sched_laws.proofs.Keeping.{nodes_keep_rates, nodes_take_within}
use Rattle.strc_sched_laws.proofs.Orders.{counted_is}
use Rattle.strc_sched_laws.proofs.Rounds.{startup_nodes}
use Rattle.strc_elab_dataflow.specs.Blocks.{Block, old_order, new_order}
use Rattle.strc_elab_dataflow.specs.Counted.{IsCounted}
use Rattle.strc_elab_dataflow.specs.FusedUnits.{RoundUnit, firings_of}
use Rattle.strc_elab_dataflow.specs.PieceBlocks.{blocks_of}
use Rattle.strc_elab_dataflow.specs.Pieces.{Piece, ArePieces}
use Rattle.strc_elab_dataflow.specs.Runs.{IsSameOutcome}
use Rattle.strc_elab_dataflow.specs.Split.{Parts, IsSplitGraph, Agree}
use Rattle.strc_elab_dataflow.proofs.Counted.{counted_first, counted_after}
use Rattle.strc_elab_dataflow.proofs.Numbers.{starts_agree}
use Rattle.strc_elab_dataflow.proofs.PieceBlocks.{blocks_are, before_same, after_same}
use Rattle.strc_elab_dataflow.proofs.RoundsRuns.{fission_runs}
use Rattle.strc_elab_dataflow.proofs.Still.{stays_still}
use Rattle.strc_fuse.specs.Units.{round_units}
use Rattle.strc_fuse.proofs.Counting.{firings_same}
use Rattle.strc_fiss.specs.Laws.{AreOwn, pieces_of}
use Rattle.strc_fiss.specs.Units.{split_units}
use Rattle.strc_fiss.specs.Ways.{fission_of}
use Rattle.strc_fiss.proofs.Pieced.{pieces_before, pieces_after, pieces_own}
use Rattle.strc_stage_plan.specs.Answers.{FissionKeepsAnswers}
use Rattle.strc_stage_plan.specs.Runs.{graph_before, graph_after, parts_of, dealt_from}
use Rattle.strc_stage_plan.specs.SplitLaws.{new_graph, split_order}
use Rattle.strc_stage_plan.specs.Named.{new_origins, old_firings}
use Rattle.strc_stage_plan.specs.Runs.{FissionKeepsProgramRuns}
use Rattle.strc_stage_plan.specs.Owners.{owner}
use Rattle.strc_stage_plan.proofs.Agreeing.{agree_now}
use Rattle.strc_stage_plan.proofs.Lawful.{graphs_are_split}
use Rattle.strc_stage_plan.proofs.Named.{AreBelow, blocks_named, nodes_below}
use Rattle.strc_stage_plan.proofs.Orders.{ends_apart, codes_same, channel_order}
use Rattle.strc_stage_plan.proofs.Owners.{owner_is}
use Rattle.strc_stage_plan.proofs.PlannedRounds.{IsRound, order_nodes, order_finds}
use Rattle.strc_stage_plan.proofs.Trees.{channel_runs_same}

module _ (tree : Stream NodeCode) (old : Graph) (schedule : ScheduleParts) (round : List ℕ)
    (ways : ℕ) (input : List ℤ) (rounds : ℕ) (started : Queues) (program : IsProgram tree old)
    (is : IsGraph old) (planned : IsPlanned old schedule) (known : AreKnown old)
    (units : List RoundUnit) (own : AreOwn (fission_of old round ways) units)
    (are : IsRound old schedule planned (firings_of units))
    (supplied : items_read old.nodes (counts_at schedule rounds) ≤ length input)
    (went : fifo_go node_meaning (graph_before tree old schedule round ways)
    (startup_order schedule)
    (fifo_at_first node_meaning (graph_before tree old schedule round ways) input)
    ≡ FifoWent started) where
  abbrev before : flat.Graph NodeCode
  before = graph_before tree old schedule round ways

  abbrev after : flat.Graph NodeCode
  after = graph_after tree old schedule round ways

  abbrev parts : Parts
  parts = parts_of tree old schedule round ways

  abbrev startup : ℕ → ℕ
  startup = firing_count (startup_order schedule)

  abbrev in_round : ℕ → ℕ
  in_round = firing_count (round_order schedule)

  abbrev pieces : List Piece
  pieces = pieces_of (fission_of old round ways) units

  abbrev blocks : List Block
  blocks = blocks_of (pieces_of (fission_of old round ways) units)

  -- ---- the graph before fission

  keeps : (node : ℕ) → KeepsRates node_meaning (before.code node)
  keeps node = subst (KeepsRates node_meaning) (codes_same tree old program.flat node)
      (nodes_keep_rates tree old schedule program.flat planned known node)

  within : TakesWithinWindow node_meaning before
  within = subst (λ (code : ℕ → NodeCode). (node firing port : ℕ)
      → port < node_meaning.ports (code node)
      → node_meaning.popped (code node) firing port ≤ node_meaning.window (code node) firing port)
      (fun_ext (codes_same tree old program.flat))
      (nodes_take_within tree old schedule program.flat planned)

  split : IsSplitGraph parts node_meaning before after
  split = graphs_are_split (any_code tree) old schedule round ways startup is
      (ends_apart tree old program.flat) planned known

  -- ---- orders

  finds : orders.IsSchedule node_meaning (trees.flat tree) input startup in_round
      (startup_order schedule) (firings_of units) rounds
  finds = order_finds tree old schedule input rounds program planned supplied
      (firings_of units) are

  pieces_are : ArePieces parts pieces
  pieces_are = pieces_own (fission_of old round ways) startup units own

  before_is : firings_of units ≡ old_order parts blocks
  before_is =
      ap firings_of (sym (pieces_before (fission_of old round ways) startup
      units))
      ∙ before_same parts pieces

  after_is : firings_of (split_units (fission_of old round ways) units) ≡ new_order parts blocks
  after_is =
      ap firings_of (sym (pieces_after (fission_of old round ways) startup
      units))
      ∙ after_same parts pieces

  startup_valid : orders.IsOrder node_meaning before input (λ node. 0) (startup_order schedule)
  startup_valid = channel_order tree old program input (λ node. 0) (startup_order schedule)
      (startup_nodes old schedule planned) finds.startup_finds

  round_valid : (q : ℕ) → q < rounds
      → orders.IsOrder node_meaning before input (orders.counts_after startup in_round q)
      (old_order parts blocks)
  round_valid q less =
      subst (orders.IsOrder node_meaning before input (orders.counts_after startup in_round q))
      before_is
      (channel_order tree old program input (orders.counts_after startup in_round q)
      (firings_of units) (order_nodes tree old schedule input rounds program planned supplied
      (firings_of units) are) (finds.round_finds q less))

  round_counts : (node : ℕ) → orders.firing_count (old_order parts blocks) node ≡ in_round node
  round_counts node =
      ap (λ (l : List ℕ). orders.firing_count l node) (sym before_is)
      ∙ finds.round_counts node

  -- ---- after start-up

  counted : IsCounted node_meaning before input startup started
  counted =
      let e : orders.counted (λ node. 0) (startup_order schedule) ≡ startup =
      counted_is (λ node. 0) (startup_order schedule)
      ∙ fun_ext (λ node. omega arith) in
      subst (λ (counts : ℕ → ℕ). IsCounted node_meaning before input counts started) e
      (counted_after node_meaning before input keeps within (startup_order schedule) (λ node. 0)
      (fifo_at_first node_meaning before input) started
      (counted_first node_meaning before input keeps within) startup_valid went)

  agrees : Agree parts node_meaning before (λ v. 0) started
      (dealt_from tree old schedule round ways started)
  unfolding fifo_at_first initial_run
  agrees =
      agree_now tree old schedule round ways started planned
      (starts_agree node_meaning before parts
      (λ number. (owner (fission_of old round ways) number).node)
      (λ number. (owner (fission_of old round ways) number).part) started
      (owner_is (fission_of old round ways))
      (λ v is_split.
      let still = stays_still node_meaning before (parts.share v) v
      (split.split v is_split).filter (startup_order schedule)
      (fifo_at_first node_meaning before input) started refl refl went in
      (counted.fired v, still.0, still.1)))

  pub same_runs : IsSameOutcome parts
      (fifo_rounds node_meaning before input (firings_of units) rounds 0 started)
      (fifo_rounds node_meaning after input
      (firings_of (split_units (fission_of old round ways) units)) rounds 0
      (dealt_from tree old schedule round ways started))
  same_runs =
      subst (λ (order : List ℕ). IsSameOutcome parts
      (fifo_rounds node_meaning before input order rounds 0 started)
      (fifo_rounds node_meaning after input
      (firings_of (split_units (fission_of old round ways) units)) rounds 0
      (dealt_from tree old schedule round ways started))) (sym before_is)
      (subst (λ (order : List ℕ). IsSameOutcome parts
      (fifo_rounds node_meaning before input (old_order parts blocks) rounds 0 started)
      (fifo_rounds node_meaning after input order rounds 0
      (dealt_from tree old schedule round ways started))) (sym after_is)
      (fission_runs node_meaning before after input parts split blocks
      (blocks_are parts pieces pieces_are) startup in_round rounds keeps within round_counts
      round_valid (λ v. 0) started (dealt_from tree old schedule round ways started) counted
      agrees))

  -- the firings of the round after fission, by the nodes before it
  pub named_is : old_firings (new_graph old schedule round ways).nodes (new_origins old round ways)
      (firings_of (split_units (fission_of old round ways) units))
      ≡ firings_of units
  named_is =
      ap (old_firings (new_graph old schedule round ways).nodes (new_origins old round ways))
      after_is
      ∙ blocks_named old schedule round ways planned startup blocks
      (blocks_are parts pieces pieces_are)
      (subst (AreBelow (length old.nodes)) before_is
      (nodes_below old (firings_of units) (order_nodes tree old schedule input rounds program
      planned supplied (firings_of units) are)))
      ∙ sym before_is

  -- the run before fission is the answer
  pub run_answers : IsAnswer node_meaning tree input startup in_round (startup_order schedule)
      (firings_of units) rounds
      (fifo_rounds node_meaning before input (firings_of units) rounds 0 started)
  unfolding fifo_run fifo_startup_outcome
  run_answers =
      subst (λ (outcome : Outcome Cause Word). IsAnswer node_meaning tree input startup in_round
      (startup_order schedule) (firings_of units) rounds outcome)
      (sym (channel_runs_same tree old schedule input (startup_order schedule)
      (firings_of units) rounds program planned)
      ∙ ap (fifo_startup_outcome node_meaning before input (firings_of units) rounds) went)
      ((stream_queue_run node_meaning tree input startup in_round (startup_order schedule)
      (firings_of units) rounds (nodes_take_within tree old schedule program.flat planned)).1
      (nodes_keep_rates tree old schedule program.flat planned known) finds)

-- the round of a planned schedule
pub own_round : (old : Graph) (schedule : ScheduleParts) (planned : IsPlanned old schedule)
    → IsRound old schedule planned (firings_of (round_units schedule.round))
own_round old schedule planned = record {
  valid = subst (IsOrder (rates_of old) (count_at planned.startup)) (firings_same schedule.round)
      planned.schedule.round_order.order;
  all = λ node. ap (λ (l : List ℕ). firing_count l node) (sym (firings_same schedule.round))
      ∙ planned.schedule.round_order.all node;
}

pub program_runs_kept : FissionKeepsProgramRuns
program_runs_kept tree old schedule round ways input rounds started program is planned known own
    supplied went =
    subst (λ (order : List ℕ). IsSameOutcome (parts_of tree old schedule round ways)
    (fifo_rounds node_meaning (graph_before tree old schedule round ways) input order rounds 0
    started)
    (fifo_rounds node_meaning (graph_after tree old schedule round ways) input
    (split_order old schedule round ways) rounds 0
    (dealt_from tree old schedule round ways started))) (sym (firings_same schedule.round))
    (same_runs tree old schedule round ways input rounds started program is planned known
    (round_units schedule.round) own (own_round old schedule planned) supplied went)

pub answers_kept : FissionKeepsAnswers
answers_kept tree old schedule round ways input rounds started program is planned known own
    supplied went = record {
      answer = fifo_rounds node_meaning (graph_before tree old schedule round ways) input
          (round_order schedule) rounds 0 started;
      is_answer = subst (λ (order : List ℕ). IsAnswer node_meaning tree input
          (firing_count (startup_order schedule)) (firing_count (round_order schedule))
          (startup_order schedule) order rounds
          (fifo_rounds node_meaning (graph_before tree old schedule round ways) input order rounds 0
          started)) (sym (firings_same schedule.round))
          (run_answers tree old schedule round ways input rounds started program is planned known
          (round_units schedule.round) own (own_round old schedule planned) supplied went);
      same = program_runs_kept tree old schedule round ways input rounds started program is planned
          known own supplied went;
    }
