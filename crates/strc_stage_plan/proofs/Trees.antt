-- A program's flat graph by channels runs as that of its tree.
use Rattle.std.proofs.Common.{◌≡◌, sym, ap, ◌∙◌, subst, ℕ, ◌<◌, ◌≤◌, arith, ℤ, List, length}
use Rattle.std.proofs.Common.{get_or, false, ◌⊎◌, inl, inr, Option}
use mathlib.Core.Path.{fun_ext}
use Rattle.std.specs.Option.{option_map_or}
use Rattle.std.proofs.lemmas.Bool.{cases_lt, true≢false}
use Rattle.std.proofs.lemmas.List.{get_or_past}
use Rattle.std.proofs.lemmas.Option.{slice_get_past}
use Rattle.strc_elab_dataflow.specs.Flat.{Source}
use Rattle.strc_elab_dataflow.specs.Laws.{IsIdle}
use Rattle.strc_elab_dataflow.specs.Queues.{TakesWithinWindow, fifo_run}
use Rattle.strc_elab_dataflow.specs.Streams.{Stream, any_code, layout, nothing}
use Rattle.strc_elab_dataflow.specs.Streams as trees
use Rattle.strc_elab_dataflow.proofs.Ports.{ports_matter}
use Rattle.strc_elab_dataflow.proofs.Queued.{fifo_run-whole_run}
use Rattle.strc_elab_graph.specs.Carriers.{carries_in, JoinsCarriers}
use Rattle.strc_elab_graph.specs.Graphs.{NodeCode, Graph, Channel}
use Rattle.strc_elab_graph.specs.FlatGraphs.{IsProgram}
use Rattle.strc_elab_graph.specs.Meaning.{node_meaning, ports_in}
use Rattle.strc_sched_orders.specs.Schedules.{ScheduleParts}
use Rattle.strc_sched_laws.specs.Planned.{IsPlanned}
use Rattle.strc_sched_laws.proofs.Keeping.{nodes_take_within}
use Rattle.strc_fiss.proofs.Each.{all_each, each_more}
use Rattle.strc_stage_plan.specs.Sources.{flat_graph, source_at, takes_input}
use Rattle.strc_stage_plan.specs.Trees.{ChannelRunsAreTreeRuns}
use Rattle.strc_stage_plan.proofs.Ends.{Ends, ends_there, source_none}
use Rattle.strc_stage_plan.proofs.Layouts.{stream_each}
use Rattle.strc_stage_plan.proofs.Orders.{codes_same, sources_same}
use Rattle.strc_stage_plan.proofs.Splits.{at_other}

module _ (tree : Stream NodeCode) (graph : Graph) (program : IsProgram tree graph) where
  -- a channel ends at a node
  target_there : (channel : Channel) → JoinsCarriers graph.nodes channel
      → channel.target.node < length graph.nodes
  target_there channel joins = elim (cases_lt channel.target.node (length graph.nodes)) [
    | inl inside ↦ inside
    | inr past ↦ absurd (true≢false (sym joins.target
        ∙ ap (λ (o : Option NodeCode).
        option_map_or (λ code. carries_in code channel.target.port) o false)
        (slice_get_past graph.nodes channel.target.node past)))
  ]

  -- nothing comes to what is past the last node

  past_none : (node port : ℕ) → length graph.nodes ≤ node
      → source_at graph node port ≡ nothing
  past_none node port past =
      at_other graph node port (ap takes_input (slice_get_past graph.nodes node past))
      ∙ source_none node port graph.channels
      (each_more (JoinsCarriers graph.nodes) (λ channel. Ends node port channel → ⊥) graph.channels
      (λ channel joins ends. omega (
        arith,
        past,
        target_there channel joins,
        (ends_there node port channel ends).0,
      ))
      (all_each (JoinsCarriers graph.nodes) graph.channels program.flat.joined))

  tree_none : (node port : ℕ) → length graph.nodes ≤ node
      → (trees.flat tree).source node port ≡ nothing
  unfolding trees.flat
  tree_none node port past =
      let none : ℕ → Source = λ p. nothing in
      let many = stream_each tree 0 none in
      ap (λ (given : ℕ → Source). given port)
      (get_or_past ((layout tree).sources 0 none) node none (omega (
        arith,
        past,
        many,
        ap length program.flat.nodes,
      )))

  each_same : (node port : ℕ) → port < ports_in (get_or graph.nodes node (any_code tree))
      → ((trees.flat tree).source node port ≡ source_at graph node port)
      ⊎ IsIdle node_meaning (get_or graph.nodes node (any_code tree)) port
  each_same node port less = elim (cases_lt node (length graph.nodes)) [
    | inl inside ↦ sources_same tree graph program node inside port less
    | inr past ↦ inl (tree_none node port past ∙ sym (past_none node port past))
  ]

  module _ (schedule : ScheduleParts) (planned : IsPlanned graph schedule) where
    pub channels_take_within : TakesWithinWindow node_meaning (flat_graph (any_code tree) graph)
    channels_take_within = subst (λ (code : ℕ → NodeCode). (node firing port : ℕ)
        → port < node_meaning.ports (code node)
        → node_meaning.popped (code node) firing port
        ≤ node_meaning.window (code node) firing port)
        (fun_ext (codes_same tree graph program.flat))
        (nodes_take_within tree graph schedule program.flat planned)

    pub runs_same : (input : List ℤ) (startup_order round_order : List ℕ) (rounds : ℕ)
        → fifo_run node_meaning (flat_graph (any_code tree) graph) input round_order startup_order
        rounds
        ≡ fifo_run node_meaning (trees.flat tree) input round_order startup_order rounds
    runs_same input startup_order round_order rounds =
        let by_channels = flat_graph (any_code tree) graph in
        fifo_run-whole_run node_meaning by_channels input channels_take_within round_order
        startup_order rounds
        ∙ sym (ports_matter node_meaning (trees.flat tree) by_channels
        (codes_same tree graph program.flat)
        (λ node port less. subst (λ (code : NodeCode).
        ((trees.flat tree).source node port ≡ source_at graph node port)
        ⊎ IsIdle node_meaning code port) (sym (codes_same tree graph program.flat node))
        (each_same node port (subst (λ (code : NodeCode). port < ports_in code)
        (codes_same tree graph program.flat node) less)))
        input startup_order round_order rounds)
        ∙ sym (fifo_run-whole_run node_meaning (trees.flat tree) input
        (nodes_take_within tree graph schedule program.flat planned) round_order startup_order
        rounds)

pub channel_runs_same : ChannelRunsAreTreeRuns
channel_runs_same tree graph schedule input startup_order round_order rounds program planned =
    runs_same tree graph program schedule planned input startup_order round_order rounds
