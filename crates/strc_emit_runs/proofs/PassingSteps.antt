-- A firing of a node that only passes items on leaves what it has to.
use Rattle.std.proofs.Common.{◌≡◌, ℕ, zero, suc, ◌+◌, ◌-◌, ◌*◌, ◌<◌, ◌≤◌, ◌^◌, pos, cond, List, []}
use Rattle.std.proofs.Common.{length, get_or, Option, Some, None, Ok, refl, sym, ap, ap₂, ◌∙◌}
use Rattle.std.proofs.Common.{subst}
use Rattle.std.proofs.Common.{arith}
use Rattle.std.specs.Prelude.{slice_get, unwrap_or}
use Rattle.std.specs.Option.{option_map_or}
use Rattle.std.proofs.lemmas.Bool.{eq-eqb, ne_eqb}
use Rattle.strc_work_meaning.specs.declared.word.Word.{Word}
use Rattle.strc_elab_dataflow.specs.Node.{ByPort}
use Rattle.strc_elab_graph.specs.declared.graph.Channel.{Channel}
use Rattle.strc_elab_graph.specs.Graphs.{NodeCode}
use Rattle.strc_elab_graph.specs.Graphs as graphs
use Rattle.strc_emit_c.specs.Meaning.{Cell, Field, Item}
use Rattle.strc_emit_moves.specs.declared.places.Items.{Items}
use Rattle.strc_emit_moves.specs.declared.places.Phase.{Phase}
use Rattle.strc_emit_moves.specs.declared.places.Phase.TheVariants as phase
use Rattle.strc_emit_moves.specs.Places.{taken_at, given_at, taken_before, given_before}
use Rattle.strc_emit_moves.specs.Places.{enqueued_items, pops_of, pushes_of}
use Rattle.strc_emit_passes.specs.Meaning.{place_value}
use Rattle.strc_emit_passes.specs.Passing.{FindsItems, HasPassed, IsNotGiven, numbers_taken}
use Rattle.strc_emit_passes.specs.Passing.{IsPassing}
use Rattle.strc_emit_runs.specs.Running.{Program, Running, around, rooms_in, memory_of, node_done}
use Rattle.strc_emit_runs.specs.Running.{code_at}
use Rattle.strc_emit_runs.specs.Places.{before_it, IsLater, moved_in}
use Rattle.strc_emit_runs.specs.Orders.{Queues, RunShows, items_begin, items_before, items_end}
use Rattle.strc_emit_runs.specs.Orders.{fired_on}
use Rattle.strc_emit_runs.specs.Steps.{FiresTo, pushes_next}
use Rattle.strc_emit_runs.specs.PassingSteps.{TakesOf, GivesOf, IsWired, IsSteady, SeesFronts}
use Rattle.strc_emit_runs.specs.PassingSteps.{GivesRates, ReadsAsReader, PassingFiresTo}
use Rattle.strc_emit_runs.proofs.Places.{places_are_counted, first_places_are_counted, moved_more}
use Rattle.strc_emit_runs.proofs.Passes.{passes_fire}

pub same_channel : (a b : Channel) → Some a ≡ Some b → a ≡ b
same_channel a b e = ap (λ o. unwrap_or o a) e

item_channel : Cell → ℕ
item_channel (Item channel place) = channel
item_channel _ = 0

item_place : Cell → ℕ
item_place (Item channel place) = place
item_place _ = 0

is_item : Cell → Option (List ℕ)
is_item (Item channel place) = Some []
is_item _ = None

pub channel_is : (channel place other there : ℕ) → Item channel place ≡ Item other there
    → channel ≡ other
unfolding item_channel
channel_is channel place other there e = ap item_channel e

pub place_is : (channel place other there : ℕ) → Item channel place ≡ Item other there
    → place ≡ there
unfolding item_place
place_is channel place other there e = ap item_place e

pub not_item : (node slot channel place : ℕ) → Field node slot ≡ Item channel place → ⊥
unfolding is_item
not_item node slot channel place e = none (ap is_item e)
  where
    none : ◌≡◌ {A = Option (List ℕ)} None (Some []) → ⊥
    none e = cc

-- where firing i has its items, after so many others so many each
abbrev pub place_by : Phase → (after each i : ℕ) → ℕ
place_by phase.Startup after each zero = after - each
place_by phase.Startup after each (suc i) = after + each * i
place_by phase.Round after each i = after + each * i

-- the first firing of start-up has some before its own
abbrev FirstFits : Phase → Items → (i : ℕ) → Type 0
FirstFits phase.Startup items zero = (items.each ≤ items.after) × (items.after < 2 ^ 31)
FirstFits phase.Startup items (suc i) = Unit {0}
FirstFits phase.Round items i = Unit {0}

placed : (when : Phase) (items : Items) (i : ℕ) → items.phase ≡ when → i < 2 ^ 31
    → FirstFits when items i → place_by when items.after items.each i < 2 ^ 31
    → place_value items (pos i) ≡ Ok (pos (place_by when items.after items.each i))
placed phase.Startup items zero is few first fits =
    first_places_are_counted items is first.0 first.1
placed phase.Startup items (suc i) is few first fits =
    let last : suc i - 1 ≡ i = omega arith in
    let same : before_it items.phase (suc i) ≡ i = ap (λ w. before_it w (suc i)) is ∙ last in
    let later : 1 ≤ suc i = omega arith in
    places_are_counted items (suc i) (subst (λ w. IsLater w (suc i)) (sym is) later) few
    (subst (λ n. items.after + items.each * n < 2 ^ 31) (sym same) fits)
    ∙ ap (λ n. Ok (pos (items.after + items.each * n))) same
placed phase.Round items i is few first fits =
    let same : before_it items.phase i ≡ i = ap (λ w. before_it w i) is in
    places_are_counted items i (subst (λ w. IsLater w i) (sym is) tt) few
    (subst (λ n. items.after + items.each * n < 2 ^ 31) (sym same) fits)
    ∙ ap (λ n. Ok (pos (items.after + items.each * n))) same

module _ (program : Program) where
  -- the places of what a node takes are those where its channel's items begin
  taken_place : (when : Phase) (node port i : ℕ) → IsSteady program when node i
      → place_by when (taken_before program.network when node port)
      (pops_of program.network.nodes.now node 1 port) i
      ≡ moved_in when (pops_of program.network.nodes.now node 0 port)
      (pops_of program.network.nodes.now node 1 port) i
  taken_place phase.Startup node port zero steady = omega (arith, (steady port).0)
  taken_place phase.Startup node port (suc i) steady = refl
  taken_place when node port i steady = omega arith

  first_taken : (when : Phase) (node port i : ℕ) (items : Items) → IsSteady program when node i
      → items.after ≡ taken_before program.network when node port
      → items.each ≡ pops_of program.network.nodes.now node 1 port → FirstFits when items i
  first_taken phase.Startup node port zero items steady after each = (
    omega (arith, after, each, (steady port).0),
    omega (arith, after, (steady port).2),
  )
  first_taken phase.Startup node port (suc i) items steady after each = tt
  first_taken when node port i items steady after each = tt

  -- those of what it gives are where they end
  pub enqueued_is : (number : ℕ) (channel : Channel)
      → slice_get program.network.channels.now number ≡ Some channel
      → length (enqueued_items program.network.channels.now number)
      ≡ length channel.enqueued.items
  enqueued_is number channel at =
      ap (λ (o : Option Channel). length (option_map_or
      (λ (there : Channel). there.enqueued.items) o [])) at

  given_place : (when : Phase) (node port i number : ℕ) (channel : Channel)
      → IsSteady program when node i
      → slice_get program.network.channels.now number ≡ Some channel
      → place_by when (given_before program.network when node port number)
      (pushes_of program.network.nodes.now node 1 port) i
      ≡ items_before program when number channel + moved_in when
      (pushes_of program.network.nodes.now node 0 port)
      (pushes_of program.network.nodes.now node 1 port) i
  given_place phase.Startup node port zero number channel steady at =
      omega (arith, (steady port).1, enqueued_is number channel at)
  given_place phase.Startup node port (suc i) number channel steady at =
      omega (arith, enqueued_is number channel at)
  given_place when node port i number channel steady at = refl

  first_given : (when : Phase) (node port i : ℕ) (items : Items) (channel : Channel)
      → IsSteady program when node i
      → slice_get program.network.channels.now items.channel ≡ Some channel
      → items.after ≡ given_before program.network when node port items.channel
      → items.each ≡ pushes_of program.network.nodes.now node 1 port
      → items_before program when items.channel channel + moved_in when
      (pushes_of program.network.nodes.now node 0 port)
      (pushes_of program.network.nodes.now node 1 port) (i + 1) < 2 ^ 31
      → FirstFits when items i
  first_given phase.Startup node port zero items channel steady at after each fits = (
    omega (arith, after, each, (steady port).1),
    omega (arith, after, enqueued_is items.channel channel at, fits),
  )
  first_given phase.Startup node port (suc i) items channel steady at after each fits = tt
  first_given when node port i items channel steady at after each fits = tt

module _ (program : Program) (when : Phase) (fired : ℕ → ℕ) (node : ℕ) where
  abbrev come_by : ℕ → Channel → ℕ → ℕ
  come_by number channel n = items_before program when number channel + moved_in when
      (pushes_of program.network.nodes.now channel.source.node 0 channel.source.port)
      (pushes_of program.network.nodes.now channel.source.node 1 channel.source.port) n

  pub own_end : (number : ℕ) (channel : Channel) → channel.source.node ≡ node
      → items_end program when number channel (fired_on fired node 1)
      ≡ items_end program when number channel fired
      + pushes_next program when channel.source.node (fired node) channel.source.port
  own_end number channel is =
      let more : fired node ≡ fired channel.source.node = ap fired (sym is) in
      let next = moved_more when
      (pushes_of program.network.nodes.now channel.source.node 0 channel.source.port)
      (pushes_of program.network.nodes.now channel.source.node 1 channel.source.port)
      (fired node) in
      let sum : come_by number channel (fired node + 1) ≡ come_by number channel (fired node)
      + pushes_next program when channel.source.node (fired node) channel.source.port =
      omega (arith, next) in
      ap (λ t. come_by number channel (cond t (fired node + 1) (fired channel.source.node)))
      (eq-eqb channel.source.node node is)
      ∙ sum
      ∙ ap (λ n. come_by number channel n
      + pushes_next program when channel.source.node (fired node) channel.source.port) more

  pub other_end : (number : ℕ) (channel : Channel) → (channel.source.node ≡ node → ⊥)
      → items_end program when number channel (fired_on fired node 1)
      ≡ items_end program when number channel fired
  other_end number channel differ =
      ap (λ t. come_by number channel (cond t (fired node + 1) (fired channel.source.node)))
      (ne_eqb channel.source.node node differ)

module _ (program : Program) (when : Phase) (round : ℕ) (fired : ℕ → ℕ) (now : Queues)
    (running : Running) (node : ℕ) (seen pushes : ByPort)
    (shows : RunShows program when round fired now running)
    (wired : IsWired program when node fired) (steady : IsSteady program when node (fired node))
    (fronts : SeesFronts now node seen)
    (rates : GivesRates program when node (fired node) pushes) where
  abbrev pub i : ℕ
  i = fired node

  abbrev pub place_of : Option Items → ℕ
  place_of None = 0
  place_of (Some items) = place_by when items.after items.each i

  abbrev pub from : ℕ → ℕ
  from port = place_of (taken_at program.network when node port)

  abbrev pub to : ℕ → ℕ
  to port = place_of (given_at program.network when node port)

  -- where a port's items begin and end
  pub taken_begin : (port : ℕ) (items : Items) (is : TakesOf program when node port items)
      → place_by when items.after items.each i ≡ items_begin program when is.channel fired
  taken_begin port items is =
      ap₂ (λ a e. place_by when a e i) is.after is.each
      ∙ taken_place program when node port i steady
      ∙ ap₂ (λ n p. moved_in when (pops_of program.network.nodes.now n 0 p)
      (pops_of program.network.nodes.now n 1 p) (fired n)) (sym is.node_is) (sym is.port_is)

  pub given_end : (port : ℕ) (items : Items) (is : GivesOf program when node port items)
      → place_by when items.after items.each i
      ≡ items_end program when items.channel is.channel fired
  given_end port items is =
      ap₂ (λ a e. place_by when a e i) is.after is.each
      ∙ given_place program when node port i items.channel is.channel steady is.there
      ∙ ap₂ (λ n p. items_before program when items.channel is.channel + moved_in when
      (pushes_of program.network.nodes.now n 0 p) (pushes_of program.network.nodes.now n 1 p)
      (fired n)) (sym is.node_is) (sym is.port_is)

  -- what is taken ends before the array does
  taken_fits : (port : ℕ) (items : Items) → TakesOf program when node port items
      → place_by when items.after items.each i + length (seen port) ≤ rooms_in program items.channel
  taken_fits port items is =
      let queue : now.queues is.channel.target.node is.channel.target.port ≡ now.queues node port =
      ap₂ now.queues is.node_is is.port_is in
      omega (
        arith,
        taken_begin port items is,
        (fronts port).0,
        ap length queue,
        shows.ends items.channel is.channel is.there,
        wired.room items.channel is.channel is.there,
        other_end program when fired node items.channel is.channel
            (λ e. wired.apart items.channel is.channel is.there (e ∙ sym is.node_is)),
      )

  given_fits : (port : ℕ) (items : Items) → GivesOf program when node port items
      → place_by when items.after items.each i + length (pushes port)
      ≤ rooms_in program items.channel
  given_fits port items is =
      let rate : pushes_next program when is.channel.source.node i is.channel.source.port
      ≡ pushes_next program when node i port =
      ap₂ (λ n p. pushes_next program when n i p) is.node_is is.port_is in
      omega (
        arith,
        given_end port items is,
        rates port,
        rate,
        own_end program when fired node items.channel is.channel is.node_is,
        wired.room items.channel is.channel is.there,
      )

  -- what comes with this firing ends there too
  next_fits : (port : ℕ) (items : Items) (is : GivesOf program when node port items)
      → items_before program when items.channel is.channel + moved_in when
      (pushes_of program.network.nodes.now node 0 port)
      (pushes_of program.network.nodes.now node 1 port) (i + 1) < 2 ^ 31
  next_fits port items is =
      let own : items_end program when items.channel is.channel (fired_on fired node 1)
      ≡ items_before program when items.channel is.channel + moved_in when
      (pushes_of program.network.nodes.now node 0 port)
      (pushes_of program.network.nodes.now node 1 port) (i + 1) =
      ap₂ (λ n p. items_before program when items.channel is.channel + moved_in when
      (pushes_of program.network.nodes.now n 0 p) (pushes_of program.network.nodes.now n 1 p)
      (fired_on fired node 1 n)) is.node_is is.port_is
      ∙ ap (λ t. items_before program when items.channel is.channel + moved_in when
      (pushes_of program.network.nodes.now node 0 port)
      (pushes_of program.network.nodes.now node 1 port) (cond t (fired node + 1) (fired node)))
      (eq-eqb node node refl) in
      omega (
        arith,
        own,
        wired.room items.channel is.channel is.there,
        wired.small items.channel,
      )

  pub from_is : (port : ℕ) (items : Items)
      → taken_at program.network when node port ≡ Some items
      → from port ≡ place_by when items.after items.each i
  from_is port items at = ap place_of at

  pub to_is : (port : ℕ) (items : Items)
      → given_at program.network when node port ≡ Some items
      → to port ≡ place_by when items.after items.each i
  to_is port items at = ap place_of at

  pub finds : FindsItems program.network when node (around program) i seen pushes from to
      (memory_of running node)
  finds = record {
    taken_place = λ port items at.
        let is = wired.takes port items at in
        placed when items i is.phase_is wired.few
        (first_taken program when node port i items steady is.after is.each)
        (omega (arith, taken_fits port items is, wired.small items.channel))
        ∙ ap (λ n. Ok (pos n)) (sym (from_is port items at));
    given_place = λ port items at.
        let is = wired.gives port items at in
        placed when items i is.phase_is wired.few
        (first_given program when node port i items is.channel steady is.there is.after is.each
        (next_fits port items is))
        (omega (arith, given_fits port items is, wired.small items.channel))
        ∙ ap (λ n. Ok (pos n)) (sym (to_is port items at));
    taken_room = λ port items at.
        omega (arith, from_is port items at, taken_fits port items (wired.takes port items at));
    given_room = λ port items at.
        omega (arith, to_is port items at, given_fits port items (wired.gives port items at));
    small = wired.small;
    apart = λ port other items others at there same.
        let is = wired.takes port items at in
        let out = wired.gives other others there in
        let one : is.channel ≡ out.channel =
        same_channel is.channel out.channel (sym is.there
        ∙ ap (slice_get program.network.channels.now) (sym same) ∙ out.there) in
        wired.apart items.channel is.channel is.there
        (ap (λ (c : Channel). c.source.node) one ∙ out.node_is ∙ sym is.node_is);
    own = λ port other items others at there differ same.
        let is = wired.gives port items at in
        let out = wired.gives other others there in
        let one : is.channel ≡ out.channel =
        same_channel is.channel out.channel (sym is.there
        ∙ ap (slice_get program.network.channels.now) same ∙ out.there) in
        differ (sym is.port_is ∙ ap (λ (c : Channel). c.source.port) one ∙ out.port_is);
    finds = λ port items at place lt.
        let is = wired.takes port items at in
        let queue : now.queues is.channel.target.node is.channel.target.port
        ≡ now.queues node port = ap₂ now.queues is.node_is is.port_is in
        ap (λ n. running.cells (Item items.channel (n + place)))
        (from_is port items at ∙ taken_begin port items is)
        ∙ shows.items items.channel is.channel is.there place
        (omega (arith, lt, (fronts port).0, ap length queue))
        ∙ ap (λ l. get_or l place (pos 0)) queue
        ∙ (fronts port).1 place lt;
  }

  -- a cell before a channel's end is none that is given
  not_given : (number : ℕ) (channel : Channel) (place : ℕ)
      → slice_get program.network.channels.now number ≡ Some channel
      → place < items_end program when number channel fired
      → IsNotGiven program.network when node pushes to (Item number place)
  not_given number channel place there before port items k at lt same =
      let is = wired.gives port items at in
      let number_is : number ≡ items.channel =
      channel_is number place items.channel (to port + k) same in
      let one : channel ≡ is.channel =
      same_channel channel is.channel (sym there
      ∙ ap (slice_get program.network.channels.now) number_is ∙ is.there) in
      let end : items_end program when number channel fired
      ≡ items_end program when items.channel is.channel fired =
      ap₂ (λ n c. items_end program when n c fired) number_is one in
      omega (
        arith,
        before,
        end,
        given_end port items is,
        to_is port items at,
        place_is number place items.channel (to port + k) same,
      )

  fires_to : (code : NodeCode) (printed : List Word)
      → code_at program node ≡ Some code → IsPassing code → (after : Running)
      → ReadsAsReader program node code
      → HasPassed program.network when node pushes to printed (memory_of running node)
      (memory_of after node)
      → ((other : ℕ) → (other ≡ node → ⊥) → after.tapes other ≡ running.tapes other)
      → after.taken ≡ running.taken + numbers_taken code → after.round ≡ running.round
      → FiresTo program when node fired [] pushes printed running after
  fires_to code printed at is after reads passed tapes taken same = record {
    round = same;
    gives = λ number channel there own place lt.
        let out = wired.given number channel there own in
        let is = wired.gives channel.source.port out.0 out.1 in
        let one : is.channel ≡ channel =
        same_channel is.channel channel (sym is.there
        ∙ ap (slice_get program.network.channels.now) out.2 ∙ there) in
        let end : to channel.source.port ≡ items_end program when number channel fired =
        to_is channel.source.port out.0 out.1 ∙ given_end channel.source.port out.0 is
        ∙ ap₂ (λ n c. items_end program when n c fired) out.2 one in
        ap₂ (λ n p. after.cells (Item n (p + place))) (sym out.2) (sym end)
        ∙ passed.items channel.source.port out.0 out.1 place lt;
    sizes = λ number channel there own.
        rates channel.source.port
        ∙ ap (λ n. pushes_next program when n i channel.source.port) (sym own);
    kept = λ number channel place there before.
        passed.kept (Item number place) (not_given number channel place there before);
    own = λ slot lt. absurd (omega (arith, lt));
    others = λ other slot differ. passed.kept (Field other slot)
        (λ port items k at lt e. not_item other slot items.channel (to port + k) e);
    count = λ name filter here.
        absurd (subst IsPassing (ap (λ o. unwrap_or o code) (sym at ∙ here)) is);
    tape = passed.words;
    tapes = tapes;
    reads = λ here. taken ∙ ap (λ n. running.taken + n) (reads.own here);
    reads_none = λ reader here differ.
        taken ∙ ap (λ n. running.taken + n) (reads.other reader here differ) ∙ omega arith;
  }

-- what fires leaves what it has to
module _ (program : Program) (when : Phase) (round : ℕ) (fired : ℕ → ℕ) (now : Queues)
    (running : Running) (node : ℕ) (seen : ByPort)
    (shows : RunShows program when round fired now running)
    (wired : IsWired program when node fired) (steady : IsSteady program when node (fired node))
    (fronts : SeesFronts now node seen) where
  leaves : (code : NodeCode) (pushes : ByPort) (printed : List Word)
      → code_at program node ≡ Some code → IsPassing code → ReadsAsReader program node code
      → ((from to : ℕ → ℕ)
      → FindsItems program.network when node (around program) (fired node) seen pushes from
      to (memory_of running node)
      → (after : Running)
      × (node_done program when node code (pos (fired node)) running ≡ Ok after)
      × HasPassed program.network when node pushes to printed (memory_of running node)
      (memory_of after node)
      × ((other : ℕ) → (other ≡ node → ⊥) → after.tapes other ≡ running.tapes other)
      × (after.taken ≡ running.taken + numbers_taken code)
      × (after.round ≡ running.round))
      → GivesRates program when node (fired node) pushes
      → (after : Running)
      × (node_done program when node code (pos (fired node)) running ≡ Ok after)
      × FiresTo program when node fired [] pushes printed running after
  leaves code pushes printed at is reads fire rates =
      let places_from = from program when round fired now running node seen pushes shows wired
      steady fronts
      rates in
      let places_to = to program when round fired now running node seen pushes shows wired
      steady fronts
      rates in
      let done = fire places_from places_to (finds program when round fired now running node seen
      pushes shows wired steady fronts rates) in (
        done.0,
        done.1,
        fires_to program when round fired now running node seen pushes shows wired
            steady fronts
            rates code printed at is done.0 reads done.2 done.3 done.4 done.5,
      )

pub passing_fires_to : PassingFiresTo
passing_fires_to program when round fired now running node graphs.Identity fields
    seen shows wired steady fronts reader at is sees inputs reads =
    leaves program when round fired now running node seen shows wired steady fronts
    graphs.Identity _ _ at is reader
    (λ from to. passes_fire program when node graphs.Identity
    (fired node) fields seen from to running is sees inputs reads)
passing_fires_to program when round fired now running node (graphs.FileReader text) fields
    seen shows wired steady fronts reader at is sees inputs reads =
    leaves program when round fired now running node seen shows wired steady fronts
    (graphs.FileReader text) _ _ at is reader
    (λ from to. passes_fire program when node (graphs.FileReader text)
    (fired node) fields seen from to running is sees inputs reads)
passing_fires_to program when round fired now running node (graphs.FileWriter text) fields
    seen shows wired steady fronts reader at is sees inputs reads =
    leaves program when round fired now running node seen shows wired steady fronts
    (graphs.FileWriter text) _ _ at is reader
    (λ from to. passes_fire program when node (graphs.FileWriter text)
    (fired node) fields seen from to running is sees inputs reads)
passing_fires_to program when round fired now running node
    (graphs.Splitter (graphs.Duplicate carried)) fields seen shows wired steady f r at is sees ins
    reads =
    leaves program when round fired now running node seen shows wired steady f
    (graphs.Splitter (graphs.Duplicate carried)) _ _ at is r
    (λ from to. passes_fire program when node (graphs.Splitter (graphs.Duplicate carried))
    (fired node) fields seen from to running is sees ins reads)
passing_fires_to program when round fired now running node
    (graphs.Splitter (graphs.Roundrobin weights)) fields seen shows wired steady f r at is sees ins
    reads =
    leaves program when round fired now running node seen shows wired steady f
    (graphs.Splitter (graphs.Roundrobin weights)) _ _ at is r
    (λ from to. passes_fire program when node (graphs.Splitter (graphs.Roundrobin weights))
    (fired node) fields seen from to running is sees ins reads)
passing_fires_to program when round fired now running node (graphs.Joiner weights) fields
    seen shows wired steady fronts reader at is sees inputs reads =
    leaves program when round fired now running node seen shows wired steady fronts
    (graphs.Joiner weights) _ _ at is reader
    (λ from to. passes_fire program when node (graphs.Joiner weights)
    (fired node) fields seen from to running is sees inputs reads)
passing_fires_to program when round fired now running node (graphs.Filter name filter) fields
    seen shows wired steady fronts reader at is sees inputs reads = absurd is
passing_fires_to program when round fired now running node (graphs.Scatter fission) fields
    seen shows wired steady fronts reader at is sees inputs reads = absurd is
passing_fires_to program when round fired now running node (graphs.Copy copied fission) fields
    seen shows wired steady fronts reader at is sees inputs reads = absurd is
passing_fires_to program when round fired now running node (graphs.Gather fission) fields
    seen shows wired steady fronts reader at is sees inputs reads = absurd is
