-- A firing of a filter leaves what it has to.
use Rattle.std.proofs.Common.{◌≡◌, ℕ, zero, suc, ◌+◌, ◌<◌, ℤ, pos, false}
use Rattle.std.proofs.Common.{replicate, List, [], length, get_or, Option, Some, None, refl, sym}
use Rattle.std.proofs.Common.{subst}
use Rattle.std.proofs.lemmas.List.{length-replicate}
use Rattle.std.proofs.Common.{ap, ap₂, ◌∙◌, arith, ◌==◌, ◌&&◌, nat_le, nat_lt, ◌⊎◌, inl, inr}
use Rattle.std.specs.Prelude.{slice_get}
use Rattle.std.proofs.lemmas.Bool.{ne_eqb, cases_eq, and_left, and_right, lt-leb}
use Rattle.std.proofs.lemmas.Option.{slice_get_within}
use Rattle.strc_work_meaning.specs.declared.body.Body.TheVariants as body
use Rattle.strc_work_meaning.specs.Filters.{filter_of}
use Rattle.strc_work_meaning.specs.Firing.{Fired, fired}
use Rattle.strc_elab_dataflow.specs.Node.{ByPort, at_port_0}
use Rattle.strc_elab_graph.specs.declared.graph.Channel.{Channel}
use Rattle.strc_emit_c.specs.Meaning.{Field, Item, Standing}
use Rattle.strc_emit_meaning.proofs.Outcomes.{refines_less}
use Rattle.strc_emit_bodies.specs.Spelling.{BodyFunction}
use Rattle.strc_emit_moves.specs.declared.places.Items.{Items}
use Rattle.strc_emit_moves.specs.declared.places.Phase.{Phase}
use Rattle.strc_emit_moves.specs.declared.places.Phase.TheVariants as phase
use Rattle.strc_emit_moves.specs.Places.{taken_at, given_at, enqueued_items, pops_of, pushes_of}
use Rattle.strc_emit_runs.specs.Running.{Program, Running, no_output, memory_of, body_done}
use Rattle.strc_emit_runs.specs.Running.{work_done, around, first_source, first_target}
use Rattle.strc_emit_runs.specs.Places.{moved_in}
use Rattle.strc_emit_passes.specs.Passing.{FindsItems}
use Rattle.strc_emit_runs.specs.Works.{side, stand_at, FindsBody, BodyShows}
use Rattle.strc_emit_runs.specs.Orders.{Queues, RunShows, items_begin, items_end}
use Rattle.strc_emit_runs.specs.Steps.{FiresTo, pushes_next}
use Rattle.strc_emit_runs.specs.PassingSteps.{TakesOf, GivesOf, IsWired, IsSteady, GivesRates}
use Rattle.strc_emit_runs.specs.PassingSteps.{SeesFronts}
use Rattle.strc_emit_runs.specs.WorkSteps.{WorksOn, WorkFiresTo, PreworkFiresTo}
use Rattle.strc_emit_runs.proofs.PassingSteps.{same_channel, own_end, other_end, enqueued_is}
use Rattle.strc_emit_runs.proofs.PassingSteps as passing
use Rattle.strc_emit_runs.proofs.Works.{works_fire, preworks_fire}

first_pushed : (items : List ℤ) → at_port_0 items 0 ≡ items
unfolding at_port_0
first_pushed items = refl

none_pushed : (items : List ℤ) (port : ℕ) → at_port_0 items (suc port) ≡ []
unfolding at_port_0
none_pushed items port = refl

-- a firing of a body, from where its channels' items begin and to where they end
module _ (program : Program) (when : Phase) (round : ℕ) (times : ℕ → ℕ) (now : Queues)
    (running : Running) (node : ℕ) (function : BodyFunction) (window : List ℤ)
    (shows : RunShows program when round times now running)
    (wired : IsWired program when node times)
    (works : WorksOn program when now node (times node) function window) (from to : ℕ)
    (from_is : (items : Items) → taken_at program.network when node 0 ≡ Some items
    → (is : TakesOf program when node 0 items)
    → from ≡ items_begin program when is.channel times)
    (to_is : (items : Items) → given_at program.network when node 0 ≡ Some items
    → (is : GivesOf program when node 0 items)
    → to ≡ items_end program when items.channel is.channel times) where
  queue_is : (items : Items) (is : TakesOf program when node 0 items)
      → now.queues is.channel.target.node is.channel.target.port ≡ now.queues node 0
  queue_is items is = ap₂ now.queues is.node_is is.port_is

  finds : FindsBody program when node function (now.runs node).state window from to running
  finds = record {
    taken_there = λ items at.
        let is = wired.takes 0 items at in
        slice_get_within program.network.channels.now items.channel is.channel is.there;
    taken_room = λ items at.
        let is = wired.takes 0 items at in
        omega (
          arith,
          from_is items at is,
          works.few,
          works.whole,
          ap length (queue_is items is),
          shows.ends items.channel is.channel is.there,
          wired.room items.channel is.channel is.there,
          other_end program when times node items.channel is.channel
              (λ e. wired.apart items.channel is.channel is.there (e ∙ sym is.node_is)),
        );
    taken_none = works.taken_none;
    window_is = λ items at place lt.
        let is = wired.takes 0 items at in
        ap (λ n. running.cells (Item items.channel (n + place))) (from_is items at is)
        ∙ shows.items items.channel is.channel is.there place
        (omega (arith, lt, works.few, ap length (queue_is items is)))
        ∙ ap (λ l. get_or l place (pos 0)) (queue_is items is)
        ∙ works.front place lt;
    given_there = λ items at.
        let is = wired.gives 0 items at in
        slice_get_within program.network.channels.now items.channel is.channel is.there;
    given_room = λ items at.
        let is = wired.gives 0 items at in
        let rate : pushes_next program when is.channel.source.node (times node)
        is.channel.source.port ≡ pushes_next program when node (times node) 0 =
        ap₂ (λ n p. pushes_next program when n (times node) p) is.node_is is.port_is in
        omega (
          arith,
          to_is items at is,
          rate,
          works.pushes,
          own_end program when times node items.channel is.channel is.node_is,
          wired.room items.channel is.channel is.there,
        );
    given_none = works.given_none;
    apart = λ items others at there same.
        let is = wired.takes 0 items at in
        let out = wired.gives 0 others there in
        let one : is.channel ≡ out.channel =
        same_channel is.channel out.channel (sym is.there
        ∙ ap (slice_get program.network.channels.now) same ∙ out.there) in
        wired.apart items.channel is.channel is.there
        (ap (λ (c : Channel). c.source.node) one ∙ out.node_is ∙ sym is.node_is);
    few_read = works.few_read;
    few_written = works.few_written;
    count = works.count;
    held = λ slot lt. shows.fields node slot works.code works.at
        (omega (arith, lt, works.count));
    whole = works.whole;
  }

  abbrev stand : Standing
  stand = stand_at program when node function from to

  -- no item of a channel is written before its end
  unwritten : (number : ℕ) (channel : Channel) (place : ℕ)
      → slice_get program.network.channels.now number ≡ Some channel
      → place < items_end program when number channel times
      → (o : Option Items) → given_at program.network when node 0 ≡ o
      → ((number == (side o (no_output program) to).0)
      && nat_le (side o (no_output program) to).1 place
      && nat_lt place ((side o (no_output program) to).1 + function.function.pushes)) ≡ false
  unwritten number channel place there before None at =
      let nothing : ℕ = no_output program in
      and_left ((number == nothing) && nat_le 0 place) (nat_lt place (0 + function.function.pushes))
      (and_left (number == nothing) (nat_le 0 place)
      (ne_eqb number nothing (λ e. omega (
        arith,
        e,
        slice_get_within program.network.channels.now number channel there,
      ))))
  unwritten number channel place there before (Some items) at =
      and_left ((number == items.channel) && nat_le to place)
      (nat_lt place (to + function.function.pushes)) (by (cases_eq number items.channel))
    where
      by : (number ≡ items.channel) ⊎ (number ≡ items.channel → ⊥)
          → ((number == items.channel) && nat_le to place) ≡ false
      by (inr differ) =
          and_left (number == items.channel) (nat_le to place)
          (ne_eqb number items.channel differ)
      by (inl same) =
          let is = wired.gives 0 items at in
          let one : channel ≡ is.channel =
          same_channel channel is.channel (sym there
          ∙ ap (slice_get program.network.channels.now) same ∙ is.there) in
          let last : items_end program when number channel times
          ≡ items_end program when items.channel is.channel times =
          ap₂ (λ n c. items_end program when n c times) same one in
          and_right (number == items.channel) (nat_le to place)
          (lt-leb to place (omega (arith, before, last, to_is items at is)))

  given_stand : (given : Fired) (after : Running)
      → BodyShows program when node function from to running given after
      → (number : ℕ) (channel : Channel)
      → slice_get program.network.channels.now number ≡ Some channel
      → channel.source.node ≡ node → (port : ℕ) → channel.source.port ≡ port → (place : ℕ)
      → place < length (at_port_0 given.pushes port)
      → after.cells (Item number (items_end program when number channel times + place))
      ≡ get_or (at_port_0 given.pushes port) place (pos 0)
  given_stand given after b number channel there own (suc port) port_is place lt =
      absurd (omega (arith, lt, ap length (none_pushed given.pushes port)))
  given_stand given after b number channel there own zero port_is place lt =
      let out = wired.given number channel there own in
      let at : given_at program.network when node 0 ≡ Some out.0 =
      ap (given_at program.network when node) (sym port_is) ∙ out.1 in
      let is = wired.gives 0 out.0 at in
      let one : is.channel ≡ channel =
      same_channel is.channel channel (sym is.there
      ∙ ap (slice_get program.network.channels.now) out.2 ∙ there) in
      let last : to ≡ items_end program when number channel times =
      to_is out.0 at is ∙ ap₂ (λ n c. items_end program when n c times) out.2 one in
      ap₂ (λ n p. after.cells (Item n (p + place))) (sym out.2) (sym last)
      ∙ ap (λ o. after.cells (Item (side o (no_output program) to).0
      ((side o (no_output program) to).1 + place))) (sym at)
      ∙ b.shows.items place (omega (arith, lt, ap length (first_pushed given.pushes)))
      ∙ ap (λ l. get_or l place (pos 0)) (sym (first_pushed given.pushes))

  fires_to : function.function.fields ≡ (program.functions node).work.function.fields
      → (given : Fired) (after : Running)
      → BodyShows program when node function from to running given after
      → GivesRates program when node (times node) (at_port_0 given.pushes)
      → FiresTo program when node times given.fields (at_port_0 given.pushes) given.words running
      after
  fires_to same given after b rates = record {
    round = b.round;
    gives = λ number channel there own place lt.
        given_stand given after b number channel there own channel.source.port refl place lt;
    sizes = λ number channel there own.
        rates channel.source.port
        ∙ ap (λ n. pushes_next program when n (times node) channel.source.port) (sym own);
    kept = λ number channel place there before. b.shows.kept (Item number place)
        (unwritten number channel place there before
        (given_at program.network when node 0) refl);
    own = λ slot lt. b.shows.fields slot (omega (arith, lt, b.shows.count));
    others = λ other slot differ. b.shows.kept (Field other slot) (ne_eqb other node differ);
    count = λ name own at. b.shows.count ∙ same;
    tape = b.shows.words;
    tapes = b.tapes;
    reads = λ here. absurd (works.no_reader here);
    reads_none = λ reader here differ. b.taken;
  }

-- a work's items are at their places
module _ (program : Program) (when : Phase) (round : ℕ) (times : ℕ → ℕ) (now : Queues)
    (running : Running) (node : ℕ) (window : List ℤ)
    (shows : RunShows program when round times now running)
    (wired : IsWired program when node times) (steady : IsSteady program when node (times node))
    (works : WorksOn program when now node (times node) (program.functions node).work window) where
  -- what the places of items are doesn't depend on the items
  abbrev some_pushes : ByPort
  some_pushes port = replicate (pushes_next program when node (times node) port) (pos 0)

  some_rates : GivesRates program when node (times node) some_pushes
  some_rates port = length-replicate (pushes_next program when node (times node) port) (pos 0)

  -- the window alone
  abbrev window_seen : ByPort
  window_seen = at_port_0 window

  sees : SeesFronts now node window_seen
  unfolding at_port_0
  sees zero = (works.few, works.front)
  sees (suc port) = (omega arith, λ k lt. absurd (omega (arith, lt)))

  abbrev from : ℕ
  from = passing.from program when round times now running node window_seen some_pushes shows wired
      steady sees some_rates 0

  abbrev to : ℕ
  to = passing.to program when round times now running node window_seen some_pushes shows wired
      steady sees some_rates 0

  found : FindsItems program.network when node (around program) (times node) window_seen some_pushes
      (passing.from program when round times now running node window_seen some_pushes shows wired
      steady sees some_rates)
      (passing.to program when round times now running node window_seen some_pushes shows wired
      steady sees some_rates) (memory_of running node)
  found = passing.finds program when round times now running node window_seen some_pushes shows
      wired steady sees some_rates

  from_begin : (items : Items) → taken_at program.network when node 0 ≡ Some items
      → (is : TakesOf program when node 0 items)
      → from ≡ items_begin program when is.channel times
  from_begin items at is =
      passing.from_is program when round times now running node window_seen some_pushes shows wired
      steady sees some_rates 0 items at
      ∙ passing.taken_begin program when round times now running node window_seen some_pushes shows
      wired steady sees some_rates 0 items is

  to_end : (items : Items) → given_at program.network when node 0 ≡ Some items
      → (is : GivesOf program when node 0 items)
      → to ≡ items_end program when items.channel is.channel times
  to_end items at is =
      passing.to_is program when round times now running node window_seen some_pushes shows wired
      steady sees some_rates 0 items at
      ∙ passing.given_end program when round times now running node window_seen some_pushes shows
      wired steady sees some_rates 0 items is

pub work_fires_to : WorkFiresTo
work_fires_to program when round times now running node filter window shows wired steady has enough
    works =
    let start : ℕ = from program when round times now running node window shows wired steady works
    in
    let end : ℕ = to program when round times now running node window shows wired steady works in
    let items = found program when round times now running node window shows wired steady works in
    let begins = from_begin program when round times now running node window shows wired steady
    works in
    let ends = to_end program when round times now running node window shows wired steady works in
    refines_less
    (BodyShows program when node (program.functions node).work start end running)
    (λ given after. GivesRates program when node (times node) (at_port_0 given.pushes)
    → FiresTo program when node times given.fields (at_port_0 given.pushes) given.words running
    after)
    (fired (filter_of filter) body.Work (now.runs node).state window)
    (work_done program when node (pos (times node)) running)
    (works_fire program when node filter (times node) (now.runs node).state window start end running
    has enough (items.taken_place 0) (items.given_place 0)
    (finds program when round times now running node (program.functions node).work window shows
    wired works start end begins ends))
    (λ given after b rates. fires_to program when round times now running node
    (program.functions node).work window shows wired works start end begins ends refl given after b
    rates)

-- where a prework's channels begin and end
module _ (program : Program) (times : ℕ → ℕ) (node : ℕ) (none : times node ≡ 0) where
  first_begin : (items : Items) (is : TakesOf program phase.Startup node 0 items)
      → 0 ≡ items_begin program phase.Startup is.channel times
  first_begin items is =
      let here : times is.channel.target.node ≡ 0 = ap times is.node_is ∙ none in
      sym (ap (λ n. moved_in phase.Startup
      (pops_of program.network.nodes.now is.channel.target.node 0 is.channel.target.port)
      (pops_of program.network.nodes.now is.channel.target.node 1 is.channel.target.port) n) here)

  first_end : (items : Items) (is : GivesOf program phase.Startup node 0 items)
      → length (enqueued_items program.network.channels.now items.channel)
      ≡ items_end program phase.Startup items.channel is.channel times
  first_end items is =
      let here : times is.channel.source.node ≡ 0 = ap times is.node_is ∙ none in
      let moves = ap (λ n. moved_in phase.Startup
      (pushes_of program.network.nodes.now is.channel.source.node 0 is.channel.source.port)
      (pushes_of program.network.nodes.now is.channel.source.node 1 is.channel.source.port) n)
      here in
      omega (arith, enqueued_is program items.channel is.channel is.there, moves)

  -- where a node gives its first items
  abbrev first_to : Option Items → ℕ
  first_to None = 0
  first_to (Some items) = length (enqueued_items program.network.channels.now items.channel)

pub prework_fires_to : PreworkFiresTo
prework_fires_to program round times now running node filter function window shows wired none has
    enough is same works =
    let own : WorksOn program phase.Startup now node (times node) function window =
    subst (λ n. WorksOn program phase.Startup now node n function window) (sym none) works in
    let end : ℕ = first_to program times node none (given_at program.network phase.Startup node 0)
    in
    let begins : (items : Items) → taken_at program.network phase.Startup node 0 ≡ Some items
    → (is : TakesOf program phase.Startup node 0 items)
    → 0 ≡ items_begin program phase.Startup is.channel times =
    λ items at is. first_begin program times node none items is in
    let at_end : (items : Items) → given_at program.network phase.Startup node 0 ≡ Some items
    → end ≡ length (enqueued_items program.network.channels.now items.channel) =
    λ items at. ap (first_to program times node none) at in
    let ends : (items : Items) → given_at program.network phase.Startup node 0 ≡ Some items
    → (is : GivesOf program phase.Startup node 0 items)
    → end ≡ items_end program phase.Startup items.channel is.channel times =
    λ items at is. at_end items at ∙ first_end program times node none items is in
    refines_less
    (BodyShows program phase.Startup node function 0 end running)
    (λ given after. GivesRates program phase.Startup node 0 (at_port_0 given.pushes)
    → FiresTo program phase.Startup node times given.fields (at_port_0 given.pushes) given.words
    running after)
    (fired (filter_of filter) body.Prework (now.runs node).state window)
    (body_done program node function
    (first_source program (taken_at program.network phase.Startup node 0))
    (first_target program (given_at program.network phase.Startup node 0)) running)
    (preworks_fire program node filter function (now.runs node).state window end running has enough
    is at_end
    (finds program phase.Startup round times now running node function window shows wired own 0
    end begins ends))
    (λ given after b rates. fires_to program phase.Startup round times now running node function
    window shows wired own 0 end begins ends same given after b
    (subst (λ n. GivesRates program phase.Startup node n (at_port_0 given.pushes)) (sym none)
    rates))
