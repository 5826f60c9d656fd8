-- The calls that are made of a planned graph's orders.
use Rattle.std.proofs.Common.{◌≡◌, sym, ap, ◌∙◌, ℕ, ◌<◌, List, length, inl, inr, arith}
use Rattle.std.proofs.lemmas.Bool.{cases_lt}
use Rattle.std.proofs.lemmas.List.{get_or_past, length-map}
use Rattle.strc_elab_dataflow.specs.Streams.{Stream}
use Rattle.strc_elab_graph.specs.declared.graph.Node.{Node}
use Rattle.strc_elab_graph.specs.Graphs.{NodeCode}
use Rattle.strc_elab_graph.specs.NodeView.{GraphParts, graph_view, node_view}
use Rattle.strc_balance.specs.Balance.{count_at}
use Rattle.strc_startup.specs.Rates.{rates_of, first_count}
use Rattle.strc_sched_orders.specs.Schedules.{ScheduleParts}
use Rattle.strc_sched_laws.specs.Laws.{startup_order, round_order}
use Rattle.strc_emit_moves.specs.declared.places.Phase.TheVariants as phase
use Rattle.strc_emit_runs.specs.Running.{Program}
use Rattle.strc_emit_plans.specs.Calls.{AreAllCalls, calls_made}
use Rattle.strc_emit_plans.specs.Programs.{IsPlannedProgram}
use Rattle.strc_emit_plans.proofs.Calls.{orders_are_called}

-- a node that has a count has an entry
counted_within : (counts : List ℕ) (node : ℕ) → 0 < count_at counts node → node < length counts
counted_within counts node some = elim (cases_lt node (length counts)) [
  | inl within ↦ within
  | inr past ↦ absurd (omega (arith, some, get_or_past counts node 0 past))
]

module _ (tree : Stream NodeCode) (parts : GraphParts) (schedule : ScheduleParts)
    (program : Program) (is : IsPlannedProgram tree parts schedule program) where
  nodes_there : length (graph_view parts).nodes ≡ length program.network.nodes.now
  nodes_there =
      length-map parts.nodes node_view ∙ sym (ap (λ (l : List Node). length l) is.is.is.parts.nodes)

  pub startup_calls : AreAllCalls program phase.Startup (count_at is.planned.startup)
      (calls_made program schedule.startup) (startup_order schedule)
  startup_calls =
      orders_are_called program phase.Startup (rates_of (graph_view parts)) (λ node. 0)
      (count_at is.planned.startup) schedule.startup is.greedy.startup_order
      (λ node some. omega (
        arith,
        counted_within is.planned.startup node some,
        is.planned.least_startup.primed.each,
        length-map (graph_view parts).nodes first_count,
        nodes_there,
      ))

  pub round_calls : AreAllCalls program phase.Round (count_at is.planned.round)
      (calls_made program schedule.round) (round_order schedule)
  round_calls =
      orders_are_called program phase.Round (rates_of (graph_view parts))
      (count_at is.planned.startup) (count_at is.planned.round) schedule.round
      is.greedy.round_order
      (λ node some. omega (
        arith,
        counted_within is.planned.round node some,
        is.planned.least_round.balances.each,
        nodes_there,
      ))
