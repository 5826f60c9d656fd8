-- The program of a planned graph is one of the tree's flat graph.
use Rattle.std.proofs.Common.{◌≡◌, ◌⊎◌, inl, inr, refl, sym, ap, ap₂, ◌∙◌, subst, ℕ, zero, suc}
use Rattle.std.proofs.Common.{◌+◌, ◌*◌, ◌<◌, ◌≤◌, ◌^◌, Bool, true, false, cond, List, [], ◌∷◌, map}
use Rattle.std.proofs.Common.{Option, Some, None, arith, mul-le-mul_left}
use Rattle.std.specs.Prelude.{slice_get, slice_index, count_by}
use Rattle.std.specs.Option.{option_map, option_map_or}
use Rattle.std.proofs.lemmas.Bool.{ltb-false, eqb-true, true≢false}
use Rattle.std.proofs.lemmas.List.Sums.{sum_by-cons}
use Rattle.std.proofs.lemmas.Option.{none-some, same_Some}
use Rattle.strc_work_meaning.specs.Filters.{Filter, filter_of}
use Rattle.strc_elab_dataflow.specs.Streams.{Stream, flat}
use Rattle.strc_elab_graph.specs.declared.graph.Channel.{Channel}
use Rattle.strc_elab_graph.specs.declared.graph.Node.{Node}
use Rattle.strc_elab_graph.specs.declared.graph.Node.TheVariants as nodes
use Rattle.strc_elab_graph.specs.declared.graph.Port.{Port as End}
use Rattle.strc_elab_graph.specs.declared.instance.Instance.{Instance}
use Rattle.strc_elab_graph.specs.Carriers.{carries_in, carries_out, takes_at}
use Rattle.strc_elab_graph.specs.Graphs.{NodeCode, Graph, reads_input, input_ports, ports_of}
use Rattle.strc_elab_graph.specs.Graphs as graphs
use Rattle.strc_elab_graph.specs.Meaning.{ports_in}
use Rattle.strc_elab_graph.specs.NodeView.{GraphParts, graph_view, node_view, channel_view}
use Rattle.strc_elab_graph.specs.Rates.{fires_by_rounds, filter_window, filter_pushes, body_at}
use Rattle.strc_elab_graph.specs.Rates.{pops_at}
use Rattle.strc_elab_graph.proofs.Carriers.{carrier_is_input}
use Rattle.strc_sched_orders.specs.Schedules.{ScheduleParts}
use Rattle.strc_sched_laws.specs.ByChannels.{IsByChannels}
use Rattle.strc_sched_laws.proofs.Ends.{carrier_fed}
use Rattle.strc_sched_laws.proofs.Supplies.{target_node}
use Rattle.strc_sched_laws.proofs.TreeGraphs.{by_channels}
use Rattle.strc_sched_laws.proofs.Windows.{both_hold}
use Rattle.strc_emit_moves.specs.declared.places.Items.{Items}
use Rattle.strc_emit_moves.specs.declared.places.Phase.{Phase}
use Rattle.strc_emit_moves.specs.declared.places.Phase.TheVariants as phase
use Rattle.strc_emit_moves.specs.Places.{taken_at, given_at, pops_of, pushes_of}
use Rattle.strc_emit_moves.specs.Rooms.{moved}
use Rattle.strc_emit_passes.specs.Passing.{IsPassing}
use Rattle.strc_emit_runs.specs.Running.{Program, rooms_in, code_at}
use Rattle.strc_emit_runs.specs.Orders.{AreWithin, reader_from, fired_on, items_end}
use Rattle.strc_emit_runs.specs.PassingSteps.{TakesOf, GivesOf, IsWired}
use Rattle.strc_emit_runs.specs.Works.{HasFilter}
use Rattle.strc_emit_runs.proofs.Orders.{within_on}
use Rattle.strc_emit_network.specs.Later.{HasNoPrework}
use Rattle.strc_emit_network.specs.Programs.{count_in, IsNodeIn, IsFilterIn, IsPassingIn}
use Rattle.strc_emit_network.specs.Programs.{TakesFew, IsProgramOf}
use Rattle.strc_emit_network.proofs.Readers.{readers_read}
use Rattle.strc_emit_plans.specs.Programs.{KeepsSides, IsPlannedProgram, PlansMakePrograms}
use Rattle.strc_emit_plans.proofs.Filters as filters
use Rattle.strc_emit_plans.proofs.Networks.{code_is, channel_there, channel_back, channel_is}
use Rattle.strc_emit_plans.proofs.Networks.{taken_items, given_items, taken_is, given_is, end_of}
use Rattle.strc_emit_plans.proofs.Networks.{source_items, pops_are}
use Rattle.strc_emit_plans.proofs.Rooms.{room_first, room_later, rooms_small, first_taken}

-- the reader of a graph of one

abbrev one_if : Bool → ℕ
one_if reads = cond reads 1 0

one_more : (code : NodeCode) (codes : List NodeCode) → count_by reads_input (code ∷ codes)
    ≡ one_if (reads_input code) + count_by reads_input codes
one_more code codes = sum_by-cons (λ own. cond (reads_input own) 1 0) code codes

some_reader : (codes : List NodeCode) (node : ℕ) (text : List ℕ)
    → slice_get codes node ≡ Some (graphs.FileReader text) → 0 < count_by reads_input codes
some_reader [] node text there = absurd (none-some (graphs.FileReader text) there)
some_reader (code ∷ codes) zero text there =
    let reads = ap (λ own. one_if (reads_input own))
    (same_Some code (graphs.FileReader text) there) in
    omega (arith, one_more code codes, reads)
some_reader (code ∷ codes) (suc node) text there =
    omega (arith, one_more code codes, some_reader codes node text there)

first_reader : (all : List Node) (number node : ℕ) (text : List ℕ)
    → count_by reads_input (map node_view all) ≤ 1
    → slice_get (map node_view all) node ≡ Some (graphs.FileReader text)
    → reader_from number all ≡ Some (number + node)
first_reader [] number node text one there = absurd (none-some (graphs.FileReader text) there)
first_reader (first ∷ rest) number zero text one there =
    let here : number ≡ number + zero = omega arith in
    ap (λ own. cond (reads_input own) (Some number) (reader_from (suc number) rest))
    (same_Some (node_view first) (graphs.FileReader text) there)
    ∙ ap Some here
first_reader (first ∷ rest) number (suc node) text one there =
    by (reads_input (node_view first)) refl
    (first_reader rest (suc number) node text)
  where
    by : (reads : Bool) → reads_input (node_view first) ≡ reads
        → (count_by reads_input (map node_view rest) ≤ 1
        → slice_get (map node_view rest) node ≡ Some (graphs.FileReader text)
        → reader_from (suc number) rest ≡ Some (suc number + node))
        → cond (reads_input (node_view first)) (Some number) (reader_from (suc number) rest)
        ≡ Some (number + suc node)
    by true e later =
        let reads = ap one_if e in
        absurd (omega (
          arith,
          one_more (node_view first) (map node_view rest),
          reads,
          some_reader (map node_view rest) node text there,
          one,
        ))
    by false e later =
        let reads = ap one_if e in
        let same : suc number + node ≡ number + suc node = omega arith in
        ap (λ t. cond t (Some number) (reader_from (suc number) rest)) e
        ∙ later (omega (arith, one_more (node_view first) (map node_view rest), reads, one)) there
        ∙ ap Some same

-- a graph's input port is one by which items come in
port_comes : (code : NodeCode) (port : ℕ) → port < input_ports code → port < ports_in code
port_comes (graphs.FileReader text) port less = absurd (omega (arith, less))
port_comes code port less = less

-- a node that isn't a filter, nor one of fission, passes items on
passing : (code : NodeCode) → fires_by_rounds code ≡ false
    → ((name : Option (List ℕ)) (filter : Filter) → code ≡ graphs.Filter name filter → ⊥)
    → IsPassing code
passing (graphs.Filter name filter) alone other = absurd (other name filter refl)
passing graphs.Identity alone other = tt
passing (graphs.FileReader text) alone other = tt
passing (graphs.FileWriter text) alone other = tt
passing (graphs.Splitter splitter) alone other = tt
passing (graphs.Joiner weights) alone other = tt
passing (graphs.Scatter fission) alone other = absurd (true≢false alone)
passing (graphs.Copy copied fission) alone other = absurd (true≢false alone)
passing (graphs.Gather fission) alone other = absurd (true≢false alone)

-- the filter of a node
pub filter_there : (found : Option Node) (name : Option (List ℕ)) (filter : Filter)
    → option_map node_view found ≡ Some (graphs.Filter name filter)
    → (instance : Instance) × (found ≡ Some (nodes.Filter instance))
    × (filter ≡ filter_of instance.code)
filter_there None name filter e = absurd (none-some (graphs.Filter name filter) e)
filter_there (Some (nodes.Filter instance)) name filter e = (instance, refl, cc)
filter_there (Some nodes.Identity) name filter e = absurd (cc)
filter_there (Some (nodes.FileReader text)) name filter e = absurd (cc)
filter_there (Some (nodes.FileWriter text)) name filter e = absurd (cc)
filter_there (Some (nodes.Splitter splitter)) name filter e = absurd (cc)
filter_there (Some (nodes.Joiner weights)) name filter e = absurd (cc)
filter_there (Some (nodes.Scatter fission)) name filter e = absurd (cc)
filter_there (Some (nodes.Copy copied fission)) name filter e = absurd (cc)
filter_there (Some (nodes.Gather fission)) name filter e = absurd (cc)

-- an input port that doesn't carry items takes few: none, or a reader's number of the input
idle_pops : (code : NodeCode) (port : ℕ) → fires_by_rounds code ≡ false
    → ((name : Option (List ℕ)) (filter : Filter) → code ≡ graphs.Filter name filter
    → KeepsSides filter)
    → carries_in code port ≡ false → pops_at code 0 port < 2 ^ 31
idle_pops (graphs.Filter name filter) zero alone sides idle =
    let none = (sides name filter refl).takes 0
    (omega (arith, ltb-false 0 (ports_of filter.input) idle)) in
    omega (arith, none)
idle_pops (graphs.Filter name filter) (suc port) alone sides idle = omega arith
idle_pops graphs.Identity zero alone sides idle = omega arith
idle_pops graphs.Identity (suc port) alone sides idle = omega arith
idle_pops (graphs.FileReader text) zero alone sides idle = omega arith
idle_pops (graphs.FileReader text) (suc port) alone sides idle = omega arith
idle_pops (graphs.FileWriter text) zero alone sides idle = omega arith
idle_pops (graphs.FileWriter text) (suc port) alone sides idle = omega arith
idle_pops (graphs.Splitter splitter) zero alone sides idle = absurd (true≢false idle)
idle_pops (graphs.Splitter splitter) (suc port) alone sides idle = omega arith
idle_pops (graphs.Joiner weights) port alone sides idle =
    omega (arith, ltb-false 0 (slice_index weights port) idle)
idle_pops (graphs.Scatter fission) port alone sides idle = absurd (true≢false alone)
idle_pops (graphs.Copy copied fission) port alone sides idle = absurd (true≢false alone)
idle_pops (graphs.Gather fission) port alone sides idle = absurd (true≢false alone)

-- firings move no more than more firings do
moved_least : (first later few many : ℕ) → few ≤ many
    → moved first later few ≤ moved first later many
moved_least first later zero many le = omega arith
moved_least first later (suc few) zero le = absurd (omega (arith, le))
moved_least first later (suc few) (suc many) le =
    let less : few ≤ many = omega (arith, le) in
    let all : later * few ≤ later * many = mul-le-mul_left later less in
    omega (arith, all)

module _ (tree : Stream NodeCode) (parts : GraphParts) (schedule : ScheduleParts)
    (program : Program) (all : IsPlannedProgram tree parts schedule program) where
  abbrev graph : Graph
  graph = graph_view parts

  abbrev startup : List ℕ
  startup = all.planned.startup

  abbrev round : List ℕ
  round = all.planned.round

  joins : IsByChannels (flat tree) graph
  joins = by_channels tree graph all.whole

  there : (number : ℕ) (channel : Channel)
      → slice_get program.network.channels.now number ≡ Some channel
      → slice_get graph.channels number ≡ Some (channel_view channel)
  there = channel_there parts startup round schedule program all.is.is

  code_there : (node : ℕ) (code : NodeCode) → code_at program node ≡ Some code
      → slice_get graph.nodes node ≡ Some code
  code_there node code at =
      sym (code_is parts startup round schedule program all.is.is node) ∙ at

  sides_of : (node : ℕ) (code : NodeCode) → slice_get graph.nodes node ≡ Some code
      → (name : Option (List ℕ)) (filter : Filter) → code ≡ graphs.Filter name filter
      → KeepsSides filter
  sides_of node code at name filter same =
      all.somewhere.sides filter (node, name, at ∙ ap Some same)

  -- ---- a node's channels

  module _ (when : Phase) where
    takes : (node port : ℕ) (items : Items)
        → taken_at program.network when node port ≡ Some items
        → TakesOf program when node port items
    takes node port items at =
        let found = taken_is parts startup round schedule program all.is.is (flat tree) joins when
        node port items at in
        record {
          channel = found.channel;
          there = found.there;
          node_is = ap (λ (end : End). end.node) found.target;
          port_is = ap (λ (end : End). end.port) found.target;
          after = ap (λ (i : Items). i.after) (sym found.is);
          each = ap (λ (i : Items). i.each) (sym found.is);
          phase_is = ap (λ (i : Items). i.phase) (sym found.is);
        }

    gives : (node port : ℕ) (items : Items)
        → given_at program.network when node port ≡ Some items
        → GivesOf program when node port items
    gives node port items at =
        let found = given_is parts startup round schedule program all.is.is (flat tree) joins when
        node port items at in
        record {
          channel = found.channel;
          there = found.there;
          node_is = ap (λ (end : End). end.node) found.source;
          port_is = ap (λ (end : End). end.port) found.source;
          after = ap (λ (i : Items). i.after) (sym found.is);
          each = ap (λ (i : Items). i.each) (sym found.is);
          phase_is = ap (λ (i : Items). i.phase) (sym found.is);
        }

    -- where the items of a channel are at its source
    given_there : (node number : ℕ) (channel : Channel)
        → slice_get program.network.channels.now number ≡ Some channel
        → channel.source.node ≡ node
        → (items : Items) × (given_at program.network when node channel.source.port ≡ Some items)
        × (items.channel ≡ number)
    given_there node number channel at same =
        subst (λ n. (items : Items)
        × (given_at program.network when n channel.source.port ≡ Some items)
        × (items.channel ≡ number)) same (
          given_items parts startup round schedule program all.is.is when channel.source.node
              channel.source.port number,
          source_items parts startup round schedule program all.is.is (flat tree) joins when number
              channel at,
          refl,
        )

    -- a port that carries items takes those of a channel
    fed : (node port : ℕ) (code : NodeCode) → code_at program node ≡ Some code
        → carries_in code port ≡ true
        → (items : Items) × (taken_at program.network when node port ≡ Some items)
    fed node port code at carries =
        let found = carrier_fed (flat tree) graph joins all.is.is.circuit all.is.is.is node code
        (code_there node code at) port carries in (
          taken_items parts startup round schedule program all.is.is when node port found.0,
          ap (option_map (taken_items parts startup round schedule program all.is.is when node
              port))
              (channel_is program.network.inputs.now all.is.is.circuit.inputs node port
              all.is.is.inputs ∙ found.4),
        )

  -- arrays have room for a firing more
  room : (when : Phase) (number : ℕ) (channel : Channel) (times : ℕ → ℕ)
      → slice_get program.network.channels.now number ≡ Some channel
      → times channel.source.node ≤ count_in program when channel.source.node
      → items_end program when number channel times ≤ rooms_in program number
  room phase.Startup number channel times at few =
      let most = moved_least
      (pushes_of program.network.nodes.now channel.source.node 0 channel.source.port)
      (pushes_of program.network.nodes.now channel.source.node 1 channel.source.port)
      (times channel.source.node) (slice_index program.network.startup.now channel.source.node)
      few in
      omega (
        arith,
        most,
        room_first parts schedule program all.planned all.is.is number channel at,
      )
  room phase.Round number channel times at few =
      let rate : ℕ =
      pushes_of program.network.nodes.now channel.source.node 1 channel.source.port in
      let most : rate * times channel.source.node
      ≤ rate * slice_index program.network.round.now channel.source.node =
      mul-le-mul_left rate few in
      omega (
        arith,
        most,
        room_later parts schedule program all.planned all.is.is number channel at,
      )

  -- nodes fire no more often than counts may be
  few_firings : (when : Phase) (node times : ℕ) → times < count_in program when node
      → times < 2 ^ 31
  few_firings phase.Startup node times more =
      let same = ap (λ (l : List ℕ). slice_index l node) all.is.is.parts.startup_is in
      omega (arith, more, same, all.planned.startup_within node)
  few_firings phase.Round node times more =
      let same = ap (λ (l : List ℕ). slice_index l node) all.is.is.parts.round_is in
      omega (arith, more, same, all.planned.round_within node)

  wired : (when : Phase) (node : ℕ) (times : ℕ → ℕ) → AreWithin (count_in program when) times
      → times node < count_in program when node → IsWired program when node times
  wired when node times within more = record {
    takes = takes when node;
    gives = gives when node;
    given = given_there when node;
    apart = λ number channel at. joins.apart number (channel_view channel)
        (there number channel at);
    room = λ number channel at. room when number channel (fired_on times node 1) at
        (within_on (count_in program when) times node 1 within (omega (arith, more))
        channel.source.node);
    small = rooms_small parts schedule program all.planned all.is.is all.somewhere all.is.small;
    few = few_firings when node (times node) more;
  }

  -- ---- a node

  module _ (when : Phase) (node : ℕ) (name : Option (List ℕ)) (instance : Instance)
      (at : code_at program node ≡ Some (graphs.Filter name (filter_of instance.code)))
      (has : HasFilter program node instance.code) where
    abbrev filter : Filter
    filter = filter_of instance.code

    abbrev code : NodeCode
    code = graphs.Filter name filter

    own : slice_get graph.nodes node ≡ Some code
    own = code_there node code at

    sides : KeepsSides filter
    sides = all.somewhere.sides filter (node, name, own)

    taken_none : (firing : ℕ) → taken_at program.network when node 0 ≡ None
        → filter_window filter firing ≡ 0
    taken_none firing none = by (carries_in code 0) refl
      where
        by : (t : Bool) → carries_in code 0 ≡ t → filter_window filter firing ≡ 0
        by true e =
            let items = fed when node 0 code at e in
            absurd (none-some items.0 (sym none ∙ items.1))
        by false e = sides.takes firing (omega (arith, ltb-false 0 (ports_of filter.input) e))

    given_none : (firing : ℕ) → given_at program.network when node 0 ≡ None
        → filter_pushes filter firing ≡ 0
    given_none firing none = by (carries_out code 0) refl
      where
        by : (t : Bool) → carries_out code 0 ≡ t → filter_pushes filter firing ≡ 0
        by true e =
            let to = all.somewhere.drained node 0
            (ap (λ (o : Option NodeCode). option_map_or (λ c. carries_out c 0) o false) own ∙ e) in
            let mine = channel_back parts startup round schedule program all.is.is to.0 to.1 to.2 in
            let source : mine.0.source ≡ end_of node 0 =
            ap (λ (c : graphs.Channel). c.source) mine.2 ∙ to.3 in
            let items = given_there when node to.0 mine.0 mine.1
            (ap (λ (end : End). end.node) source) in
            absurd (none-some items.0 (sym none
            ∙ sym (ap (λ (end : End). given_at program.network when node end.port) source)
            ∙ items.1))
        by false e = sides.gives firing (omega (arith, ltb-false 0 (ports_of filter.output) e))

    filter_in : IsFilterIn program when node instance.code
    filter_in = record {
      has = has;
      pushes = filters.pushes graph schedule all.planned filter (node, name, own) all.known;
      started = started_by (filters.started graph schedule all.planned node name filter own);
      no_port = sides.takes;
      taken_none = taken_none;
      given_none = given_none;
      few_read = λ firing. omega (
        arith,
        (filters.limits graph schedule all.planned filter (node, name, own) (body_at firing)).0,
      );
      few_written = λ firing. omega (
        arith,
        (filters.limits graph schedule all.planned filter (node, name, own) (body_at firing)).1,
      );
    }
      where
        started_by : HasNoPrework filter ⊎ (1 ≤ slice_index startup node)
            → HasNoPrework filter ⊎ (1 ≤ slice_index program.network.startup.now node)
        started_by (inl none) = inl none
        started_by (inr first) =
            let same = ap (λ (l : List ℕ). slice_index l node) all.is.is.parts.startup_is in
            inr (omega (arith, first, same))

  passing_in : (when : Phase) (node : ℕ) (code : NodeCode) → code_at program node ≡ Some code
      → ((name : Option (List ℕ)) (filter : Filter) → code ≡ graphs.Filter name filter → ⊥)
      → IsPassingIn program when node code
  passing_in when node code at other = record {
    is = passing code (all.planned.unfissioned node code (code_there node code at)) other;
    inputs = λ port carries. fed when node port code at carries;
  }

  node_in : (when : Phase) (node : ℕ) (code : NodeCode) → code_at program node ≡ Some code
      → IsNodeIn program when node code
  node_in when node (graphs.Filter name filter) at =
      let found = filter_there (slice_get program.network.nodes.now node) name filter at in (
        found.0.code,
        found.2,
        filter_in when node name found.0
            (at ∙ ap (λ f. Some (graphs.Filter name f)) found.2)
            (all.is.functions node found.0 found.1).0,
      )
  node_in when node graphs.Identity at =
      passing_in when node graphs.Identity at (λ name filter e. cc)
  node_in when node (graphs.FileReader text) at =
      passing_in when node (graphs.FileReader text) at (λ name filter e. cc)
  node_in when node (graphs.FileWriter text) at =
      passing_in when node (graphs.FileWriter text) at (λ name filter e. cc)
  node_in when node (graphs.Splitter splitter) at =
      passing_in when node (graphs.Splitter splitter) at (λ name filter e. cc)
  node_in when node (graphs.Joiner weights) at =
      passing_in when node (graphs.Joiner weights) at (λ name filter e. cc)
  node_in when node (graphs.Scatter fission) at =
      passing_in when node (graphs.Scatter fission) at (λ name filter e. cc)
  node_in when node (graphs.Copy copied fission) at =
      passing_in when node (graphs.Copy copied fission) at (λ name filter e. cc)
  node_in when node (graphs.Gather fission) at =
      passing_in when node (graphs.Gather fission) at (λ name filter e. cc)

  -- a first firing in start-up takes few items
  few_taken : (node : ℕ) → 0 < count_in program phase.Startup node → (port : ℕ)
      → pops_of program.network.nodes.now node 0 port < 2 ^ 31
  few_taken node some port = by (takes_at graph.nodes node port) refl
    where
      idle : (found : Option NodeCode) → slice_get graph.nodes node ≡ found
          → option_map_or (λ code. carries_in code port) found false ≡ false
          → option_map_or (λ code. pops_at code 0 port) found 0 < 2 ^ 31
      idle None at e = omega arith
      idle (Some code) at e =
          idle_pops code port (all.planned.unfissioned node code at) (sides_of node code at) e

      by : (t : Bool) → takes_at graph.nodes node port ≡ t
          → pops_of program.network.nodes.now node 0 port < 2 ^ 31
      by false e =
          omega (
            arith,
            pops_are parts startup round schedule program all.is.is node 0 port,
            idle (slice_get graph.nodes node) refl e,
          )
      by true e =
          let to = all.whole.fed node port e in
          let both = both_hold _ _ to.3 in
          let mine = channel_back parts startup round schedule program all.is.is to.0 to.1 to.2 in
          let target : mine.0.target ≡ to.1.target =
          ap (λ (c : graphs.Channel). c.target) mine.2 in
          let node_is : mine.0.target.node ≡ node =
          ap (λ (end : End). end.node) target ∙ eqb-true to.1.target.node node both.0 in
          let port_is : mine.0.target.port ≡ port =
          ap (λ (end : End). end.port) target ∙ eqb-true to.1.target.port port both.1 in
          let same : pops_of program.network.nodes.now mine.0.target.node 0 mine.0.target.port
          ≡ pops_of program.network.nodes.now node 0 port =
          ap₂ (λ n p. pops_of program.network.nodes.now n 0 p) node_is port_is in
          let fires : 0 < slice_index program.network.startup.now mine.0.target.node =
          subst (λ n. 0 < slice_index program.network.startup.now n) (sym node_is) some in
          omega (
            arith,
            same,
            first_taken parts schedule program all.planned all.is.is to.0 mine.0 mine.1 fires,
            rooms_small parts schedule program all.planned all.is.is all.somewhere all.is.small
                to.0,
          )

  few : (when : Phase) (node : ℕ) → 0 < count_in program when node → TakesFew program when node
  few phase.Startup node some = few_taken node some
  few phase.Round node some = tt

  -- ---- the program

  target_in : (number : ℕ) (channel : Channel)
      → slice_get program.network.channels.now number ≡ Some channel
      → channel.target.port < ports_in ((flat tree).code channel.target.node)
  target_in number channel at =
      let found = target_node tree graph program.input all.whole.flat all.planned.unfissioned number
      (channel_view channel) (there number channel at) in
      subst (λ (code : NodeCode). channel.target.port < ports_in code)
      (sym (joins.codes channel.target.node found.0 found.1))
      (port_comes found.0 channel.target.port
      (carrier_is_input found.0 channel.target.port found.2))

  one_reader : (node : ℕ) (text : List ℕ)
      → code_at program node ≡ Some (graphs.FileReader text)
      → reader_from 0 program.network.nodes.now ≡ Some node
  one_reader node text at =
      let same : 0 + node ≡ node = omega arith in
      ap (reader_from 0) all.is.is.parts.nodes
      ∙ first_reader parts.nodes 0 node text all.whole.one_input
      (code_there node (graphs.FileReader text) at)
      ∙ ap Some same

  is_program : (when : Phase) → IsProgramOf (flat tree) program when
  is_program when = record {
    codes = λ node code at. joins.codes node code (code_there node code at);
    nodes = node_in when;
    wired = wired when;
    few = few when;
    origins = λ number channel at. joins.origins number (channel_view channel)
        (there number channel at);
    targets = target_in;
    input_origin = λ reader at.
        let found = readers_read program reader at in
        joins.inputs reader found.0 (code_there reader (graphs.FileReader found.0) found.1);
    one_reader = one_reader;
    fuel = all.is.fuel;
  }

pub plans_make_programs : PlansMakePrograms
plans_make_programs tree parts schedule program when all =
    is_program tree parts schedule program all when
