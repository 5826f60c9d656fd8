-- A planned program, its graph after fission, and the units of a round before it, of which each
-- node that is split has all its firings in one.
use Rattle.std.proofs.Common.{◌≡◌, refl, sym, ap, ◌∙◌, subst, ℕ, zero, suc, ◌<◌, ◌≤◌}
use Rattle.std.proofs.Common.{arith, ℤ, List, length, map}
use mathlib.Core.Path.{fun_ext}
use Rattle.std.proofs.lemmas.List.{get_or-map}
use Rattle.strc_elab_dataflow.specs.Flat as flat
use Rattle.strc_elab_dataflow.specs.Histories.{KeepsRates, initial_run}
use Rattle.strc_elab_dataflow.specs.Order as orders
use Rattle.strc_elab_dataflow.specs.Queues.{FifoProgress.FifoWent, fifo_go, fifo_at_first}
use Rattle.strc_elab_dataflow.specs.Queues.{TakesWithinWindow}
use Rattle.strc_elab_dataflow.specs.Streams.{Stream, any_code}
use Rattle.strc_elab_graph.specs.Graphs.{NodeCode, Graph, IsGraph}
use Rattle.strc_elab_graph.specs.FlatGraphs.{IsProgram}
use Rattle.strc_elab_graph.specs.Meaning.{node_meaning}
use Rattle.strc_elab_graph.specs.declared.graph.Fission.{Fission}
use Rattle.strc_balance.specs.Balance.{count_at}
use Rattle.strc_startup.specs.Rates.{first_count}
use Rattle.strc_sched_orders.specs.Order.{firing_count}
use Rattle.strc_sched_orders.specs.Schedules.{ScheduleParts}
use Rattle.strc_sched_laws.specs.Fits.{Queues}
use Rattle.strc_sched_laws.specs.Laws.{startup_order, round_order, counts_at}
use Rattle.strc_sched_laws.specs.Planned.{IsPlanned, AreKnown, items_read}
use Rattle.strc_sched_laws.proofs.Keeping.{nodes_keep_rates, nodes_take_within}
use Rattle.strc_sched_laws.proofs.Orders.{counted_is, firing_count_is}
use Rattle.strc_sched_laws.proofs.Rounds.{startup_nodes, round_nodes}
use Rattle.strc_elab_dataflow.specs.Blocks.{Block, AreBlocks, old_order, new_order}
use Rattle.strc_elab_dataflow.specs.Counted.{IsCounted}
use Rattle.strc_elab_dataflow.specs.FusedUnits.{RoundUnit, firings_of}
use Rattle.strc_elab_dataflow.specs.PieceBlocks.{blocks_of}
use Rattle.strc_elab_dataflow.specs.Pieces.{Piece}
use Rattle.strc_elab_dataflow.specs.Split.{Parts, IsSplitGraph, Agree}
use Rattle.strc_elab_dataflow.proofs.Counted.{counted_first, counted_after}
use Rattle.strc_elab_dataflow.proofs.Numbers.{starts_agree}
use Rattle.strc_elab_dataflow.proofs.PieceBlocks.{blocks_are, before_same, after_same}
use Rattle.strc_elab_dataflow.proofs.Still.{stays_still}
use Rattle.strc_fiss.specs.Laws.{AreOwn, pieces_of}
use Rattle.strc_fiss.specs.Units.{split_units}
use Rattle.strc_fiss.specs.Ways.{fission_of}
use Rattle.strc_fiss.proofs.Pieced.{pieces_before, pieces_after, pieces_own}
use Rattle.strc_stage_plan.specs.Runs.{graph_before, graph_after, parts_of, dealt_from}
use Rattle.strc_stage_plan.specs.Owners.{owner}
use Rattle.strc_stage_plan.proofs.Agreeing.{agree_now}
use Rattle.strc_stage_plan.proofs.Lawful.{graphs_are_split}
use Rattle.strc_stage_plan.proofs.Orders.{ends_apart, channel_order, codes_same}
use Rattle.strc_stage_plan.proofs.Owners.{owner_is}
use Rattle.strc_stage_plan.proofs.PlannedRounds.{IsRound, order_nodes, order_finds}

pub record OwnRound : Type 0 where
  pub tree : Stream NodeCode
  pub old : Graph
  pub schedule : ScheduleParts
  pub round : List ℕ
  pub ways : ℕ
  pub units : List RoundUnit
  pub program : IsProgram tree old
  pub is : IsGraph old
  pub planned : IsPlanned old schedule
  pub known : AreKnown old
  pub own : AreOwn (fission_of old round ways) units
  pub are : IsRound old schedule planned (firings_of units)

module _ (run : OwnRound) where
  abbrev pub share : ℕ → Fission
  share = fission_of run.old run.round run.ways

  abbrev pub before : flat.Graph NodeCode
  before = graph_before run.tree run.old run.schedule run.round run.ways

  abbrev pub after : flat.Graph NodeCode
  after = graph_after run.tree run.old run.schedule run.round run.ways

  abbrev pub parts : Parts
  parts = parts_of run.tree run.old run.schedule run.round run.ways

  abbrev pub startup : ℕ → ℕ
  startup = firing_count (startup_order run.schedule)

  abbrev pub in_round : ℕ → ℕ
  in_round = firing_count (round_order run.schedule)

  abbrev pieces : List Piece
  pieces = pieces_of (fission_of run.old run.round run.ways) run.units

  abbrev pub blocks : List Block
  blocks = blocks_of (pieces_of (fission_of run.old run.round run.ways) run.units)

  abbrev pub dealt : Queues → Queues
  dealt = dealt_from run.tree run.old run.schedule run.round run.ways

  -- ---- the graph before fission, and the one after it

  pub keeps : (node : ℕ) → KeepsRates node_meaning (before.code node)
  keeps node = subst (KeepsRates node_meaning) (codes_same run.tree run.old run.program.flat node)
      (nodes_keep_rates run.tree run.old run.schedule run.program.flat run.planned run.known node)

  pub within : TakesWithinWindow node_meaning before
  within = subst (λ (code : ℕ → NodeCode). (node firing port : ℕ)
      → port < node_meaning.ports (code node)
      → node_meaning.popped (code node) firing port ≤ node_meaning.window (code node) firing port)
      (fun_ext (codes_same run.tree run.old run.program.flat))
      (nodes_take_within run.tree run.old run.schedule run.program.flat run.planned)

  pub split : IsSplitGraph parts node_meaning before after
  split = graphs_are_split (any_code run.tree) run.old run.schedule run.round run.ways startup
      run.is (ends_apart run.tree run.old run.program.flat) run.planned run.known

  -- ---- the round

  pub round_blocks : AreBlocks parts blocks
  round_blocks = blocks_are parts pieces (pieces_own share startup run.units run.own)

  pub before_is : firings_of run.units ≡ old_order parts blocks
  before_is = ap firings_of (sym (pieces_before share startup run.units))
      ∙ before_same parts pieces

  pub after_is : firings_of (split_units (fission_of run.old run.round run.ways) run.units)
      ≡ new_order parts blocks
  after_is = ap firings_of (sym (pieces_after share startup run.units)) ∙ after_same parts pieces

  pub old_counts : (node : ℕ) → orders.firing_count (old_order parts blocks) node ≡ in_round node
  old_counts node =
      ap (λ (l : List ℕ). orders.firing_count l node) (sym before_is)
      ∙ firing_count_is (firings_of run.units) node
      ∙ run.are.all node
      ∙ sym (run.planned.schedule.round_order.all node)

  -- a node that isn't there doesn't fire
  pub none_past : (u : ℕ) → length run.old.nodes ≤ u → in_round u ≡ 0
  none_past u past = by_count (in_round u) refl
    where
      by_count : (n : ℕ) → firing_count (round_order run.schedule) u ≡ n → n ≡ 0
      by_count zero e = refl
      by_count (suc n) e = absurd (omega (
        arith,
        past,
        round_nodes run.old run.schedule run.planned u (omega (arith, e)),
      ))

  -- start-up fires each node as often as it must fire first
  pub least : (u : ℕ) → u < length run.old.nodes → first_count (before.code u) ≤ startup u
  least u inside =
      let first : count_at (map first_count run.old.nodes) u ≡ first_count (before.code u) =
      get_or-map first_count run.old.nodes u (any_code run.tree) 0 inside in
      omega (
        arith,
        first,
        run.planned.least_startup.primed.past_prework u,
        run.planned.schedule.startup_order.all u,
      )

  -- ---- with an input that suffices for so many rounds

  module _ (input : List ℤ) (rounds : ℕ)
      (supplied : items_read run.old.nodes (counts_at run.schedule rounds) ≤ length input) where
    pub startup_valid : orders.IsOrder node_meaning before input (λ node. 0)
        (startup_order run.schedule)
    startup_valid = channel_order run.tree run.old run.program input (λ node. 0)
        (startup_order run.schedule) (startup_nodes run.old run.schedule run.planned)
        (order_finds run.tree run.old run.schedule input rounds run.program run.planned supplied
        (firings_of run.units) run.are).startup_finds

    pub round_valid : (q : ℕ) → q < rounds
        → orders.IsOrder node_meaning before input (orders.counts_after startup in_round q)
        (old_order parts blocks)
    round_valid q less =
        subst (orders.IsOrder node_meaning before input (orders.counts_after startup in_round q))
        before_is
        (channel_order run.tree run.old run.program input (orders.counts_after startup in_round q)
        (firings_of run.units)
        (order_nodes run.tree run.old run.schedule input rounds run.program run.planned supplied
        (firings_of run.units) run.are)
        ((order_finds run.tree run.old run.schedule input rounds run.program run.planned supplied
        (firings_of run.units) run.are).round_finds q less))

    module _ (started : Queues)
        (went : fifo_go node_meaning
        (graph_before run.tree run.old run.schedule run.round run.ways)
        (startup_order run.schedule)
        (fifo_at_first node_meaning
        (graph_before run.tree run.old run.schedule run.round run.ways) input)
        ≡ FifoWent started) where
      pub counted : IsCounted node_meaning before input startup started
      counted =
          let e : orders.counted (λ node. 0) (startup_order run.schedule) ≡ startup =
          counted_is (λ node. 0) (startup_order run.schedule)
          ∙ fun_ext (λ node. omega arith) in
          subst (λ (counts : ℕ → ℕ). IsCounted node_meaning before input counts started) e
          (counted_after node_meaning before input keeps within (startup_order run.schedule)
          (λ node. 0) (fifo_at_first node_meaning before input) started
          (counted_first node_meaning before input keeps within) startup_valid went)

      pub agrees : Agree parts node_meaning before (λ v. 0) started (dealt started)
      unfolding fifo_at_first initial_run
      agrees =
          agree_now run.tree run.old run.schedule run.round run.ways started run.planned
          (starts_agree node_meaning before parts (λ number. (owner share number).node)
          (λ number. (owner share number).part) started (owner_is share)
          (λ v is_split.
          let still = stays_still node_meaning before (parts.share v) v
          (split.split v is_split).filter (startup_order run.schedule)
          (fifo_at_first node_meaning before input) started refl refl went in
          (counted.fired v, still.0, still.1)))
