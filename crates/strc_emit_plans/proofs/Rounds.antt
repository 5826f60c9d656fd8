-- The calls that are made of a planned graph's orders are those of its phases.
use Rattle.std.proofs.Common.{◌≡◌, sym, ap, ◌∙◌, ℕ, ◌+◌, ◌*◌, ◌<◌, ◌≤◌, List, length, inl, inr}
use Rattle.std.proofs.Common.{Some, arith}
use Rattle.std.specs.Prelude.{slice_get, slice_index}
use Rattle.std.proofs.lemmas.Option.{slice_get_cases}
use Rattle.strc_elab_dataflow.specs.Streams.{Stream, flat}
use Rattle.strc_elab_graph.specs.declared.graph.Channel.{Channel}
use Rattle.strc_elab_graph.specs.Graphs.{NodeCode, Graph}
use Rattle.strc_elab_graph.specs.NodeView.{GraphParts, graph_view, channel_view}
use Rattle.strc_balance.specs.Balance.{count_at}
use Rattle.strc_startup.specs.Rates.{rates_of, rates_of_channel}
use Rattle.strc_sched_orders.specs.Rounds.{RoundBalances}
use Rattle.strc_sched_orders.specs.Schedules.{ScheduleParts}
use Rattle.strc_sched_laws.proofs.Rounds.{balances}
use Rattle.strc_sched_laws.proofs.Supplies.{element}
use Rattle.strc_sched_laws.proofs.Windows.{rates_there}
use Rattle.strc_emit_moves.specs.Places.{pops_of, pushes_of}
use Rattle.strc_emit_moves.specs.declared.places.Phase.TheVariants as phase
use Rattle.strc_emit_moves.specs.Rooms.{taken_first, taken_later}
use Rattle.strc_emit_runs.specs.Running.{Program, rooms_in}
use Rattle.strc_emit_network.proofs.Taken.{rounds_take}
use Rattle.strc_emit_plans.specs.Programs.{IsPlannedProgram, PlansMakeRounds}
use Rattle.strc_emit_plans.specs.Programs.{PlansMakeStartups}
use Rattle.strc_emit_plans.proofs.Networks.{pops_are, pushes_are, channel_there}
use Rattle.strc_emit_plans.proofs.Orders.{startup_calls, round_calls}
use Rattle.strc_emit_plans.proofs.Programs.{plans_make_programs}
use Rattle.strc_emit_plans.proofs.Rooms.{room_first, room_later, rest}

module _ (tree : Stream NodeCode) (parts : GraphParts) (schedule : ScheduleParts)
    (program : Program) (all : IsPlannedProgram tree parts schedule program) where
  abbrev graph : Graph
  graph = graph_view parts

  abbrev startup : List ℕ
  startup = all.planned.startup

  abbrev round : List ℕ
  round = all.planned.round

  abbrev taken : (channel : Channel) → ℕ
  taken channel = pops_of program.network.nodes.now channel.target.node 1 channel.target.port
      * slice_index program.network.round.now channel.target.node

  abbrev given : (channel : Channel) → ℕ
  given channel = pushes_of program.network.nodes.now channel.source.node 1 channel.source.port
      * slice_index program.network.round.now channel.source.node

  gone : (number : ℕ) (channel : Channel)
      → slice_get program.network.channels.now number ≡ Some channel
      → taken_later program.network number ≡ taken channel
  gone number channel at =
      rounds_take (flat tree) program number channel
      (plans_make_programs tree parts schedule program phase.Round all) at

  counted : (rate : ℕ → ℕ) (own node : ℕ) → rate node ≡ own
      → rate node * slice_index program.network.round.now node ≡ own * count_at round node
  counted rate own node e =
      ap (λ n. n * slice_index program.network.round.now node) e
      ∙ ap (λ (l : List ℕ). own * slice_index l node) all.is.is.parts.round_is

  -- as many items come as go
  even : (number : ℕ) (channel : Channel)
      → slice_get program.network.channels.now number ≡ Some channel
      → taken channel ≡ given channel
  even number channel at =
      let rates = rates_of_channel graph.nodes (channel_view channel) in
      let same : RoundBalances (count_at round) rates =
      element (RoundBalances (count_at round)) (rates_of graph) number rates
      (balances graph schedule all.planned)
      (rates_there graph number (channel_view channel)
      (channel_there parts startup round schedule program all.is.is number channel at)) in
      counted (λ node. pops_of program.network.nodes.now node 1 channel.target.port) rates.pop
      channel.target.node
      (pops_are parts startup round schedule program all.is.is channel.target.node 1
      channel.target.port)
      ∙ sym same
      ∙ sym (counted (λ node. pushes_of program.network.nodes.now node 1 channel.source.port)
      rates.push channel.source.node
      (pushes_are parts startup round schedule program all.is.is channel.source.node 1
      channel.source.port))

  channel_at : (number : ℕ) → number < length program.network.channels.now
      → (channel : Channel) × (slice_get program.network.channels.now number ≡ Some channel)
  channel_at number lt = elim (slice_get_cases program.network.channels.now number).1 [
    | inl (channel, less, at, own) ↦ (channel, at)
    | inr (past, none) ↦ absurd (omega (arith, past, lt))
  ]

  round_room : (number : ℕ) → number < length program.network.channels.now
      → taken_later program.network number + slice_index program.network.left.now number
      ≤ rooms_in program number
  round_room number lt =
      let found = channel_at number lt in
      omega (
        arith,
        gone number found.0 found.1,
        even number found.0 found.1,
        room_later parts schedule program all.planned all.is.is number found.0 found.1,
      )

  startup_room : (number : ℕ) → number < length program.network.channels.now
      → taken_first program.network number + slice_index program.network.left.now number
      ≤ rooms_in program number
  startup_room number lt =
      let found = channel_at number lt in
      omega (
        arith,
        rest parts schedule program all.planned all.is.is number found.0 found.1,
        room_first parts schedule program all.planned all.is.is number found.0 found.1,
      )

pub plans_make_rounds : PlansMakeRounds
plans_make_rounds tree parts schedule program all = record {
  all = λ node. (round_calls tree parts schedule program all).all node
      ∙ sym (ap (λ (l : List ℕ). slice_index l node) all.is.is.parts.round_is);
  gone = gone tree parts schedule program all;
  balanced = λ number channel at. gone tree parts schedule program all number channel at
      ∙ even tree parts schedule program all number channel at;
  room = round_room tree parts schedule program all;
}

pub plans_make_startups : PlansMakeStartups
plans_make_startups tree parts schedule program all = record {
  all = λ node. (startup_calls tree parts schedule program all).all node
      ∙ sym (ap (λ (l : List ℕ). slice_index l node) all.is.is.parts.startup_is);
  rest = rest parts schedule program all.planned all.is.is;
  room = startup_room tree parts schedule program all;
}
