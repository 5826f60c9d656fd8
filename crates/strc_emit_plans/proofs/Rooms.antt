-- How large the arrays of a planned graph's network are.
use Rattle.std.proofs.Common.{◌≡◌, ◌⊎◌, inl, inr, refl, sym, ap, ap₂, ◌∙◌, ℕ, zero, suc, ◌+◌}
use Rattle.std.proofs.Common.{◌*◌, ◌<◌, ◌≤◌, ◌^◌, Bool, true, false, cond, List, [], length, map}
use Rattle.std.proofs.Common.{Option, Some, None, arith}
use Rattle.std.specs.Prelude.{slice_get, slice_index}
use Rattle.std.specs.Option.{option_map, option_map_or}
use Rattle.std.proofs.lemmas.Bool.{cases_lt, ltb-false, true≢false}
use Rattle.std.proofs.lemmas.List.{length-map, get_or_past}
use Rattle.std.proofs.lemmas.Option.{slice_get_past, slice_get_within, slice_get-map}
use Rattle.std.proofs.lemmas.Option.{get_or_from_slice_get}
use Rattle.strc_work_meaning.specs.Filters.{Filter}
use Rattle.strc_elab_graph.specs.declared.graph.Channel.{Channel}
use Rattle.strc_elab_graph.specs.declared.graph.Port.{Port as End}
use Rattle.strc_elab_graph.specs.Carriers.{carries_out, gives_at}
use Rattle.strc_elab_graph.specs.Graphs.{NodeCode, Graph, ports_of}
use Rattle.strc_elab_graph.specs.Graphs as graphs
use Rattle.strc_elab_graph.specs.NodeView.{GraphParts, graph_view, channel_view}
use Rattle.strc_elab_graph.specs.Rates.{fires_by_rounds, pushes_at}
use Rattle.strc_balance.specs.Balance.{count_at}
use Rattle.strc_startup.specs.Rates.{rates_of, rates_of_channel}
use Rattle.strc_startup.specs.Startup.{pushed, popped, IsMet}
use Rattle.strc_startup.specs.declared.channel_rates.ChannelRates.{ChannelRates}
use Rattle.strc_sched_orders.specs.Firings.{fill}
use Rattle.strc_sched_orders.specs.Rounds.{IsPastPrework}
use Rattle.strc_sched_orders.specs.Schedules.{ScheduleParts}
use Rattle.strc_sched_laws.specs.Planned.{IsPlanned}
use Rattle.strc_sched_laws.proofs.Rounds.{past_prework}
use Rattle.strc_sched_laws.proofs.Supplies.{element}
use Rattle.strc_sched_laws.proofs.Windows.{rates_there}
use Rattle.strc_emit_moves.specs.Places.{pops_of, pushes_of, enqueued_items}
use Rattle.strc_emit_moves.specs.Rooms.{moved, moved_after, first_port, source_of, given_first}
use Rattle.strc_emit_moves.specs.Rooms.{given_later, taken_first, room, sum_below, total_room}
use Rattle.strc_emit_network.proofs.Taken.{moved_by_later}
use Rattle.strc_emit_runs.specs.Running.{Program, rooms_in}
use Rattle.strc_emit.specs.Networks.{IsNetworkOf}
use Rattle.strc_emit_plans.specs.Programs.{KeepsSides, GoesSomewhere}
use Rattle.strc_emit_plans.proofs.Networks.{pops_are, pushes_are, channel_there, channel_back}

-- a port that doesn't carry items gives none
pub idle_pushes : (code : NodeCode) (firing port : ℕ) → fires_by_rounds code ≡ false
    → ((name : Option (List ℕ)) (filter : Filter) → code ≡ graphs.Filter name filter
    → KeepsSides filter)
    → carries_out code port ≡ false → pushes_at code firing port ≡ 0
idle_pushes (graphs.Filter name filter) firing zero alone sides idle =
    (sides name filter refl).gives firing
    (omega (arith, ltb-false 0 (ports_of filter.output) idle))
idle_pushes (graphs.Filter name filter) firing (suc port) alone sides idle = refl
idle_pushes graphs.Identity firing zero alone sides idle = absurd (true≢false idle)
idle_pushes graphs.Identity firing (suc port) alone sides idle = refl
idle_pushes (graphs.FileReader text) firing zero alone sides idle = absurd (true≢false idle)
idle_pushes (graphs.FileReader text) firing (suc port) alone sides idle = refl
idle_pushes (graphs.FileWriter text) firing port alone sides idle = refl
idle_pushes (graphs.Splitter (graphs.Duplicate carried)) firing port alone sides idle =
    ap (λ t. cond t 1 0) idle
idle_pushes (graphs.Splitter (graphs.Roundrobin weights)) firing port alone sides idle =
    omega (arith, ltb-false 0 (slice_index weights port) idle)
idle_pushes (graphs.Joiner weights) firing zero alone sides idle = absurd (true≢false idle)
idle_pushes (graphs.Joiner weights) firing (suc port) alone sides idle = refl
idle_pushes (graphs.Scatter fission) firing port alone sides idle = absurd (true≢false alone)
idle_pushes (graphs.Copy copied fission) firing port alone sides idle =
    absurd (true≢false alone)
idle_pushes (graphs.Gather fission) firing port alone sides idle = absurd (true≢false alone)

-- a part is no more than the sum
pub below_sum : (amount : ℕ → ℕ) (count number : ℕ) → number < count
    → amount number ≤ sum_below amount count
below_sum amount zero number lt = absurd (omega (arith, lt))
below_sum amount (suc count) number lt = elim (cases_lt number count) [
  | inl less ↦ omega (arith, below_sum amount count number less)
  | inr past ↦
      let last : number ≡ count = omega (arith, lt, past) in
      let same : amount number ≡ amount count = ap amount last in
      omega (arith, same)
]

moved_none : (firings : ℕ) → moved 0 0 firings ≡ 0
moved_none zero = refl
moved_none (suc firings) = omega arith

moved_after_none : (before firings : ℕ) → moved_after before 0 0 firings ≡ 0
moved_after_none zero firings = moved_none firings
moved_after_none (suc before) firings = omega arith

module _ (parts : GraphParts) (schedule : ScheduleParts) (program : Program)
    (planned : IsPlanned (graph_view parts) schedule)
    (own : IsNetworkOf parts planned.startup planned.round schedule program.network) where
  abbrev graph : Graph
  graph = graph_view parts

  -- no firing of a channel's ends that is unlike the later ones is in a round
  pub past : (number : ℕ) (channel : Channel)
      → slice_get program.network.channels.now number ≡ Some channel
      → IsPastPrework (count_at planned.startup)
      (rates_of_channel graph.nodes (channel_view channel))
  past number channel at =
      element (IsPastPrework (count_at planned.startup)) (rates_of graph) number
      (rates_of_channel graph.nodes (channel_view channel))
      (past_prework graph schedule planned)
      (rates_there graph number (channel_view channel)
      (channel_there parts planned.startup planned.round schedule program own number channel at))

  source_is : (number : ℕ) (channel : Channel)
      → slice_get program.network.channels.now number ≡ Some channel
      → source_of program.network.channels.now number ≡ channel.source
  source_is number channel at =
      ap (λ (o : Option Channel). option_map_or (λ (there : Channel). there.source) o first_port) at

  pub given_in_round : (number : ℕ) (channel : Channel)
      → slice_get program.network.channels.now number ≡ Some channel
      → given_later program.network channel.source
      ≡ pushes_of program.network.nodes.now channel.source.node 1 channel.source.port
      * slice_index program.network.round.now channel.source.node
  given_in_round number channel at =
      moved_by_later (slice_index program.network.startup.now channel.source.node)
      (pushes_of program.network.nodes.now channel.source.node 0 channel.source.port)
      (pushes_of program.network.nodes.now channel.source.node 1 channel.source.port)
      (slice_index program.network.round.now channel.source.node)
      (by (past number channel at).source)
    where
      rate : ℕ → ℕ
      rate firing = pushes_of program.network.nodes.now channel.source.node firing
          channel.source.port

      by : (0 < count_at planned.startup channel.source.node)
          ⊎ ((rates_of_channel graph.nodes (channel_view channel)).first_push
          ≡ (rates_of_channel graph.nodes (channel_view channel)).push)
          → (1 ≤ slice_index program.network.startup.now channel.source.node)
          ⊎ (rate 0 ≡ rate 1)
      by (inl some) =
          let same = ap (λ (l : List ℕ). slice_index l channel.source.node) own.parts.startup_is in
          inl (omega (arith, some, same))
      by (inr same) =
          inr (pushes_are parts planned.startup planned.round schedule program own
          channel.source.node 0 channel.source.port ∙ same
          ∙ sym (pushes_are parts planned.startup planned.round schedule program own
          channel.source.node 1 channel.source.port))

  -- an array has room for what is left and what a round gives, and for what is enqueued and what
  -- start-up gives
  has_later : (number : ℕ) (channel : Channel)
      → slice_get program.network.channels.now number ≡ Some channel
      → slice_index program.network.left.now number + given_later program.network channel.source
      ≤ room program.network number
  has_later number channel at =
      let later : given_later program.network (source_of program.network.channels.now number)
      ≡ given_later program.network channel.source =
      ap (given_later program.network) (source_is number channel at) in
      omega (arith, later)

  has_first : (number : ℕ) (channel : Channel)
      → slice_get program.network.channels.now number ≡ Some channel
      → length channel.enqueued.items + given_first program.network channel.source
      ≤ room program.network number
  has_first number channel at =
      let first : given_first program.network (source_of program.network.channels.now number)
      ≡ given_first program.network channel.source =
      ap (given_first program.network) (source_is number channel at) in
      let items : length (enqueued_items program.network.channels.now number)
      ≡ length channel.enqueued.items =
      ap (λ (o : Option Channel). length (option_map_or
      (λ (there : Channel). there.enqueued.items) o [])) at in
      omega (arith, first, items)

  pub room_later : (number : ℕ) (channel : Channel)
      → slice_get program.network.channels.now number ≡ Some channel
      → slice_index program.network.left.now number
      + pushes_of program.network.nodes.now channel.source.node 1 channel.source.port
      * slice_index program.network.round.now channel.source.node
      ≤ rooms_in program number
  room_later number channel at =
      omega (arith, has_later number channel at, given_in_round number channel at)

  pub room_first : (number : ℕ) (channel : Channel)
      → slice_get program.network.channels.now number ≡ Some channel
      → length channel.enqueued.items + given_first program.network channel.source
      ≤ rooms_in program number
  room_first number channel at = omega (arith, has_first number channel at)

  -- start-up takes no more of a channel than comes there, and the rest is left
  abbrev rates : Channel → ChannelRates
  rates channel = rates_of_channel graph.nodes (channel_view channel)

  listed : (number : ℕ) (channel : Channel)
      → slice_get program.network.channels.now number ≡ Some channel
      → slice_get (rates_of graph) number ≡ Some (rates channel)
  listed number channel at =
      rates_there graph number (channel_view channel)
      (channel_there parts planned.startup planned.round schedule program own number channel at)

  popped_is : (number : ℕ) (channel : Channel)
      → slice_get program.network.channels.now number ≡ Some channel
      → taken_first program.network number
      ≡ popped (rates channel) (count_at planned.startup channel.target.node)
  popped_is number channel at =
      ap (λ (end : End). moved (pops_of program.network.nodes.now end.node 0 end.port)
      (pops_of program.network.nodes.now end.node 1 end.port)
      (slice_index program.network.startup.now end.node))
      (ap (λ (o : Option Channel). option_map_or (λ (one : Channel). one.target) o first_port) at)
      ∙ ap₂ (λ a b. moved a b (slice_index program.network.startup.now channel.target.node))
      (pops_are parts planned.startup planned.round schedule program own channel.target.node 0
      channel.target.port)
      (pops_are parts planned.startup planned.round schedule program own channel.target.node 1
      channel.target.port)
      ∙ ap (λ (l : List ℕ). moved (rates channel).first_pop (rates channel).pop
      (slice_index l channel.target.node)) own.parts.startup_is
      ∙ by (count_at planned.startup channel.target.node)
    where
      by : (n : ℕ) → moved (rates channel).first_pop (rates channel).pop n
          ≡ popped (rates channel) n
      by zero = refl
      by (suc n) = refl

  pushed_is : (channel : Channel) → given_first program.network channel.source
      ≡ pushed (rates channel) (count_at planned.startup channel.source.node)
  pushed_is channel =
      ap₂ (λ a b. moved a b (slice_index program.network.startup.now channel.source.node))
      (pushes_are parts planned.startup planned.round schedule program own channel.source.node 0
      channel.source.port)
      (pushes_are parts planned.startup planned.round schedule program own channel.source.node 1
      channel.source.port)
      ∙ ap (λ (l : List ℕ). moved (rates channel).first_push (rates channel).push
      (slice_index l channel.source.node)) own.parts.startup_is
      ∙ by (count_at planned.startup channel.source.node)
    where
      by : (n : ℕ) → moved (rates channel).first_push (rates channel).push n
          ≡ pushed (rates channel) n
      by zero = refl
      by (suc n) = refl

  left_is : (number : ℕ) (channel : Channel)
      → slice_get program.network.channels.now number ≡ Some channel
      → slice_index program.network.left.now number
      ≡ fill (rates channel) (count_at planned.startup)
  left_is number channel at =
      ap (λ (l : List ℕ). slice_index l number) own.parts.left
      ∙ ap (λ (l : List ℕ). slice_index l number) planned.schedule.last
      ∙ get_or_from_slice_get
      (map (λ rates. fill rates (count_at planned.startup)) (rates_of graph)) number
      (fill (rates channel) (count_at planned.startup)) 0
      (slice_get-map (λ rates. fill rates (count_at planned.startup)) (rates_of graph) number
      ∙ ap (option_map (λ rates. fill rates (count_at planned.startup)))
      (listed number channel at))

  met : (number : ℕ) (channel : Channel)
      → slice_get program.network.channels.now number ≡ Some channel
      → IsMet planned.startup (rates channel)
  met number channel at =
      element (IsMet planned.startup) (rates_of graph) number (rates channel)
      planned.least_startup.primed.met (listed number channel at)

  pub rest : (number : ℕ) (channel : Channel)
      → slice_get program.network.channels.now number ≡ Some channel
      → taken_first program.network number + slice_index program.network.left.now number
      ≡ length channel.enqueued.items + given_first program.network channel.source
  rest number channel at =
      omega (
        arith,
        popped_is number channel at,
        pushed_is channel,
        left_is number channel at,
        met number channel at,
      )

  -- the first firing takes no more than all of them
  pub first_taken : (number : ℕ) (channel : Channel)
      → slice_get program.network.channels.now number ≡ Some channel
      → 0 < slice_index program.network.startup.now channel.target.node
      → pops_of program.network.nodes.now channel.target.node 0 channel.target.port
      ≤ rooms_in program number
  first_taken number channel at some =
      omega (
        arith,
        ap (λ (end : End). moved (pops_of program.network.nodes.now end.node 0 end.port)
            (pops_of program.network.nodes.now end.node 1 end.port)
            (slice_index program.network.startup.now end.node))
            (ap (λ (o : Option Channel). option_map_or (λ (one : Channel). one.target) o
            first_port) at),
        by (slice_index program.network.startup.now channel.target.node) some,
        rest number channel at,
        room_first number channel at,
      )
    where
      by : (n : ℕ) → 0 < n
          → pops_of program.network.nodes.now channel.target.node 0 channel.target.port
          ≤ moved (pops_of program.network.nodes.now channel.target.node 0 channel.target.port)
          (pops_of program.network.nodes.now channel.target.node 1 channel.target.port) n
      by zero some = absurd (omega (arith, some))
      by (suc n) some = omega arith

  module _ (somewhere : GoesSomewhere (graph_view parts))
      (small : total_room program.network < 2 ^ 31) where
    abbrev channels : ℕ
    channels = length program.network.channels.now

    room_within : (number : ℕ) → number < channels → room program.network number < 2 ^ 31
    room_within number lt =
        omega (arith, small, below_sum (room program.network) channels number lt)

    -- where there is no channel, nothing comes from one
    left_past : (number : ℕ) → channels ≤ number
        → slice_index program.network.left.now number ≡ 0
    left_past number le =
        let as_many : length program.network.left.now ≡ channels =
        ap (λ (l : List ℕ). length l) own.parts.left
        ∙ ap (λ (l : List ℕ). length l) planned.schedule.last
        ∙ length-map (rates_of graph) (λ rates. fill rates (count_at planned.startup))
        ∙ length-map graph.channels (rates_of_channel graph.nodes)
        ∙ length-map parts.channels channel_view
        ∙ sym (ap (λ (l : List Channel). length l) own.parts.channels) in
        get_or_past program.network.left.now number 0 (omega (arith, le, as_many))

    -- what node 0 gives at its port 0 is within an array, or nothing
    first_given : (given : End → ℕ)
        → ((number : ℕ) (channel : Channel)
        → slice_get program.network.channels.now number ≡ Some channel
        → given channel.source ≤ room program.network number)
        → (((firing : ℕ) → pushes_of program.network.nodes.now 0 firing 0 ≡ 0)
        → given first_port ≡ 0)
        → given first_port < 2 ^ 31
    first_given given fits none = by (gives_at graph.nodes 0 0) refl
      where
        idle : (found : Option NodeCode) → slice_get graph.nodes 0 ≡ found
            → option_map_or (λ code. carries_out code 0) found false ≡ false
            → (firing : ℕ) → option_map_or (λ code. pushes_at code firing 0) found 0 ≡ 0
        idle None there e firing = refl
        idle (Some code) there e firing =
            idle_pushes code firing 0 (planned.unfissioned 0 code there)
            (λ name filter is. somewhere.sides filter (0, name, there ∙ ap Some is)) e

        by : (t : Bool) → gives_at graph.nodes 0 0 ≡ t → given first_port < 2 ^ 31
        by true e =
            let to = somewhere.drained 0 0 e in
            let mine = channel_back parts planned.startup planned.round schedule program own
            to.0 to.1 to.2 in
            let source : mine.0.source ≡ first_port =
            ap (λ (c : graphs.Channel). c.source) mine.2 ∙ to.3 in
            let same : given mine.0.source ≡ given first_port = ap given source in
            omega (
              arith,
              same,
              fits to.0 mine.0 mine.1,
              room_within to.0 (slice_get_within program.network.channels.now to.0 mine.0 mine.1),
            )
        by false e =
            let nothing = none (λ firing. pushes_are parts planned.startup planned.round schedule
            program own 0 firing 0 ∙ idle (slice_get graph.nodes 0) refl e firing) in
            omega (arith, nothing)

    room_past : (number : ℕ) → channels ≤ number → room program.network number < 2 ^ 31
    room_past number le =
        let gone = slice_get_past program.network.channels.now number le in
        let source : source_of program.network.channels.now number ≡ first_port =
        ap (λ (o : Option Channel). option_map_or (λ (there : Channel). there.source) o
        first_port) gone in
        let items : length (enqueued_items program.network.channels.now number) ≡ 0 =
        ap (λ (o : Option Channel). length (option_map_or
        (λ (there : Channel). there.enqueued.items) o [])) gone in
        let first = ap (given_first program.network) source in
        let later = ap (given_later program.network) source in
        omega (
          arith,
          items,
          first,
          later,
          left_past number le,
          first_given (given_first program.network)
              (λ other channel at. omega (arith, has_first other channel at))
              (λ none. ap₂ (λ a b. moved a b (slice_index program.network.startup.now 0))
              (none 0) (none 1) ∙ moved_none (slice_index program.network.startup.now 0)),
          first_given (given_later program.network)
              (λ other channel at. omega (arith, has_later other channel at))
              (λ none. ap₂ (λ a b. moved_after (slice_index program.network.startup.now 0) a b
              (slice_index program.network.round.now 0)) (none 0) (none 1)
              ∙ moved_after_none (slice_index program.network.startup.now 0)
              (slice_index program.network.round.now 0)),
        )

    pub rooms_small : (number : ℕ) → rooms_in program number < 2 ^ 31
    rooms_small number = elim (cases_lt number channels) [
      | inl less ↦ omega (arith, room_within number less)
      | inr past ↦ omega (arith, room_past number past)
    ]
