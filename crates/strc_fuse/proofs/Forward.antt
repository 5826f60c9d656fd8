-- Outside feedback loops the channels of a stream go forward: none leads to a node, or past it to a
-- lower one, from there or from a later node.
use Rattle.std.proofs.Common.{◌≡◌, refl, sym, ap, ◌∙◌, subst, ℕ, zero, suc, ◌+◌, ◌-◌, ◌<◌, ◌≤◌}
use Rattle.std.proofs.Common.{Bool, true, false, List, [], ◌∷◌, ◌++◌}
use Rattle.std.proofs.Common.{length, map, replicate, get_or}
use Rattle.std.proofs.Common.{Option, Some, None, slice_get, All, inl, inr, ◌⊎◌, arith}
use Rattle.std.proofs.Common.{length-append}
use Rattle.std.specs.List.{AllByRecursion}
use Rattle.std.proofs.lemmas.Bool.{cases_lt}
use Rattle.std.proofs.lemmas.List.{length-replicate, get_or-replicate}
use Rattle.std.proofs.lemmas.Option.{none-some, slice_get-get_or, same_Some}
use Rattle.strc_elab_graph.specs.FlatGraphs.{IsProgram}
use Rattle.strc_elab_graph.specs.Graphs as graphs
use Rattle.strc_elab_graph.specs.Graphs.{Channel, Graph, NodeCode, SplitterCode}
use Rattle.strc_elab_graph.specs.Carriers.{splitter_carries}
use Rattle.strc_elab_stream.specs.Instances.{Stream, Streams, Filter, Identity, FileReader}
use Rattle.strc_elab_stream.specs.Instances.{FileWriter}
use Rattle.strc_elab_stream.specs.Instances.{Pipeline, SplitJoin, FeedbackLoop, Done, More}
use Rattle.strc_elab_stream.specs.Types.{IsWellTyped, is_int, splitter_carried}
use Rattle.strc_elab_stream.specs.Flattening.{nodes_of, row_nodes, size_of, splitter_nodes}
use Rattle.strc_elab_stream.specs.Flattening.{joiner_nodes}
use Rattle.strc_elab_stream.specs.Flattening.{outer_loops, row_loops, tree_of}
use Rattle.strc_elab_stream.proofs.OneGraph.{one_graph}
use Rattle.strc_startup.specs.Rates.{rates_of, rates_of_channel}
use Rattle.strc_startup.specs.declared.channel_rates.ChannelRates.{ChannelRates}
use Rattle.strc_sched_orders.specs.Ranges.{IsOuter}
use Rattle.strc_elab_stream.specs.Wires.{Target, wire, wires, row_wires, branch_wires}
use Rattle.strc_elab_stream.specs.Wires.{splitter_wires}
use Rattle.strc_elab_stream.specs.Wires.{joiner_wires, split_wires, to_port, target_after, wired}
use Rattle.strc_elab_stream.proofs.Channels.{each_append, each_follows, each_all}
use Rattle.strc_elab_stream.proofs.Loops.{loops_are_by_node}
use Rattle.strc_elab_stream.proofs.Whole.{wires_are_flat}

-- what a stream gives goes to no node below a bound
abbrev pub TargetFrom : (bound : ℕ) → Option Target → Type 0
TargetFrom bound None = Unit {0}
TargetFrom bound (Some target) = bound ≤ target.port.node

target_less : (low high : ℕ) → low ≤ high → (target : Option Target) → TargetFrom high target
    → TargetFrom low target
target_less low high less None from = tt
target_less low high less (Some target) from = omega (arith, less, from)

-- channels from nodes below one bound to nodes from another on

module _ (low next : ℕ) where
  abbrev Leaves : Channel → Type 0
  Leaves channel = (channel.source.node < next) × (low ≤ channel.target.node)

  abbrev AllLeave : List Channel → Type 0
  AllLeave channels = AllByRecursion Leaves channels

  wire_leaves : (carries : Bool) (node port : ℕ) (target : Option Target) → node < next
      → TargetFrom low target → AllLeave (wire carries node port target)
  wire_leaves false node port target less from = tt
  wire_leaves true node port None less from = tt
  wire_leaves true node port (Some target) less from = ((less, from), tt)

  split_leaves : (splitter port : ℕ) (carried : List Bool) (first : ℕ) (children : Streams)
      → splitter < next → low ≤ first
      → AllLeave (split_wires splitter port carried first children)
  split_leaves splitter port [] first children less from = tt
  split_leaves splitter port (carries ∷ others) first Done less from = tt
  split_leaves splitter port (carries ∷ others) first (More child rest) less from =
      each_append Leaves (wire carries splitter port (to_port first 0))
      (split_wires splitter (port + 1) others (first + size_of child) rest)
      (wire_leaves carries splitter port (to_port first 0) less from)
      (split_leaves splitter (port + 1) others (first + size_of child) rest less
      (omega (arith, from)))

  splitter_leaves : (first : ℕ) (splitter : Option SplitterCode) (children : Streams)
      → low ≤ first → first + length (splitter_nodes splitter) ≤ next
      → AllLeave (splitter_wires first splitter children)
  splitter_leaves first None children from less = tt
  splitter_leaves first (Some splitter) children from less =
      split_leaves first 0 (splitter_carried splitter) (first + 1) children
      (omega (arith, less)) (omega (arith, from))

  joiner_leaves : (joiner : ℕ) (weights : Option (List ℕ)) (target : Option Target)
      → joiner + length (joiner_nodes weights) ≤ next → TargetFrom low target
      → AllLeave (joiner_wires joiner weights target)
  joiner_leaves joiner None target less from = tt
  joiner_leaves joiner (Some weights) target less from =
      wire_leaves true joiner 0 target (omega (arith, less)) from

  after_from : (place : ℕ) (rest : Streams) (target : Option Target) → low ≤ place
      → TargetFrom low target → TargetFrom low (target_after place rest target)
  after_from place Done target from own = own
  after_from place (More first rest) target from own = from

  mutual
    leaves : (stream : Stream) (first : ℕ) (target : Option Target) → low ≤ first
        → first + size_of stream ≤ next → TargetFrom low target
        → AllLeave (wires first stream target)
    leaves (Filter name filter) first target from less own =
        wire_leaves (is_int filter.output) first 0 target (omega (arith, less)) own
    leaves Identity first target from less own =
        wire_leaves true first 0 target (omega (arith, less)) own
    leaves (FileReader text) first target from less own =
        wire_leaves true first 0 target (omega (arith, less)) own
    leaves (FileWriter text) first target from less own = tt
    leaves (Pipeline children) first target from less own =
        row_leaves children first target from less own
    leaves (SplitJoin splitter children joiner) first target from less own =
        let inner = first + length (splitter_nodes splitter) in
        let last = inner + length (row_nodes children) in
        let sizes = length-append (splitter_nodes splitter ++ row_nodes children)
        (joiner_nodes joiner) in
        let more = length-append (splitter_nodes splitter) (row_nodes children) in
        each_append Leaves (splitter_wires first splitter children
        ++ branch_wires inner children last 0) (joiner_wires last joiner target)
        (each_append Leaves (splitter_wires first splitter children)
        (branch_wires inner children last 0)
        (splitter_leaves first splitter children from (omega (arith, less, sizes, more)))
        (branch_leaves children inner last 0 (omega (arith, from))
        (omega (arith, less, sizes, more)) (omega (arith, from))))
        (joiner_leaves last joiner target (omega (arith, less, sizes, more)) own)
    leaves (FeedbackLoop joiner body splitter loop enqueued) first target from less own =
        let sizes = length-append (nodes_of body) (graphs.Splitter splitter ∷ nodes_of loop) in
        let back : Option Target =
        Some (record { port = record { node = first; port = 1 }; enqueued = enqueued }) in
        let place = first + 1 + size_of body in
        let second = first + 2 + size_of body in
        let a = wire true first 0 (to_port (first + 1) 0) in
        let b = wires (first + 1) body (to_port place 0) in
        let c = wire (splitter_carries splitter 0) place 0 target in
        let d = wire true place 1 (to_port second 0) in
        each_append Leaves (((a ++ b) ++ c) ++ d) (wires second loop back)
        (each_append Leaves ((a ++ b) ++ c) d
        (each_append Leaves (a ++ b) c
        (each_append Leaves a b
        (wire_leaves true first 0 (to_port (first + 1) 0) (omega (arith, less, sizes))
        (omega (arith, from)))
        (leaves body (first + 1) (to_port (first + 1 + size_of body) 0) (omega (arith, from))
        (omega (arith, less, sizes)) (omega (arith, from))))
        (wire_leaves (splitter_carries splitter 0) (first + 1 + size_of body) 0 target
        (omega (arith, less, sizes)) own))
        (wire_leaves true (first + 1 + size_of body) 1 (to_port (first + 2 + size_of body) 0)
        (omega (arith, less, sizes)) (omega (arith, from))))
        (leaves loop (first + 2 + size_of body) back (omega (arith, from))
        (omega (arith, less, sizes)) from)

    row_leaves : (children : Streams) (first : ℕ) (target : Option Target) → low ≤ first
        → first + length (row_nodes children) ≤ next → TargetFrom low target
        → AllLeave (row_wires first children target)
    row_leaves Done first target from less own = tt
    row_leaves (More child rest) first target from less own =
        let sizes = length-append (nodes_of child) (row_nodes rest) in
        each_append Leaves
        (wires first child (target_after (first + size_of child) rest target))
        (row_wires (first + size_of child) rest target)
        (leaves child first (target_after (first + size_of child) rest target) from
        (omega (arith, less, sizes))
        (after_from (first + size_of child) rest target (omega (arith, from)) own))
        (row_leaves rest (first + size_of child) target (omega (arith, from))
        (omega (arith, less, sizes)) own)

    branch_leaves : (children : Streams) (first joiner port : ℕ) → low ≤ first
        → first + length (row_nodes children) ≤ next → low ≤ joiner
        → AllLeave (branch_wires first children joiner port)
    branch_leaves Done first joiner port from less own = tt
    branch_leaves (More child rest) first joiner port from less own =
        let sizes = length-append (nodes_of child) (row_nodes rest) in
        each_append Leaves (wires first child (to_port joiner port))
        (branch_wires (first + size_of child) rest joiner (port + 1))
        (leaves child first (to_port joiner port) from (omega (arith, less, sizes)) own)
        (branch_leaves rest (first + size_of child) joiner (port + 1) (omega (arith, from))
        (omega (arith, less, sizes)) own)

abbrev no_loop : NodeCode → Option ℕ
no_loop node = None

abbrev no_loops : List NodeCode → List (Option ℕ)
no_loops nodes = map no_loop nodes

no_loops_many : (nodes : List NodeCode) → length (no_loops nodes) ≡ length nodes
no_loops_many [] = refl
no_loops_many (node ∷ nodes) = ap suc (no_loops_many nodes)

-- channels that go forward, or from a loop's node to one

module _ (loops : List (Option ℕ)) where
  abbrev pub IsLooped : ℕ → Type 0
  IsLooped node = (loop : ℕ) × (slice_get loops node ≡ Some (Some loop))

  abbrev pub Goes : Channel → Type 0
  Goes channel = (channel.source.node < channel.target.node)
      ⊎ ((node : ℕ) → channel.target.node ≤ node → node ≤ channel.source.node → IsLooped node)

  abbrev AllGo : List Channel → Type 0
  AllGo channels = AllByRecursion Goes channels

  -- a part of the nodes' loops is at a place of these
  abbrev Sits : (first : ℕ) → List (Option ℕ) → Type 0
  Sits first part = (place : ℕ) → place < length part
      → slice_get loops (first + place) ≡ slice_get part place

  wire_goes : (carries : Bool) (node port : ℕ) (target : Option Target)
      → TargetFrom (node + 1) target → AllGo (wire carries node port target)
  wire_goes false node port target from = tt
  wire_goes true node port None from = tt
  wire_goes true node port (Some target) from = (inl (omega (arith, from)), tt)

  split_goes : (splitter port : ℕ) (carried : List Bool) (first : ℕ) (children : Streams)
      → splitter < first → AllGo (split_wires splitter port carried first children)
  split_goes splitter port [] first children less = tt
  split_goes splitter port (carries ∷ others) first Done less = tt
  split_goes splitter port (carries ∷ others) first (More child rest) less =
      each_append Goes (wire carries splitter port (to_port first 0))
      (split_wires splitter (port + 1) others (first + size_of child) rest)
      (wire_goes carries splitter port (to_port first 0) (omega (arith, less)))
      (split_goes splitter (port + 1) others (first + size_of child) rest (omega (arith, less)))

  splitter_goes : (first : ℕ) (splitter : Option SplitterCode) (children : Streams)
      → AllGo (splitter_wires first splitter children)
  splitter_goes first None children = tt
  splitter_goes first (Some splitter) children =
      split_goes first 0 (splitter_carried splitter) (first + 1) children (omega arith)

  joiner_goes : (joiner : ℕ) (weights : Option (List ℕ)) (target : Option Target)
      → TargetFrom (joiner + length (joiner_nodes weights)) target
      → AllGo (joiner_wires joiner weights target)
  joiner_goes joiner None target from = tt
  joiner_goes joiner (Some weights) target from = wire_goes true joiner 0 target from

  after_goes : (place : ℕ) (rest : Streams) (target : Option Target)
      → TargetFrom (place + length (row_nodes rest)) target
      → TargetFrom place (target_after place rest target)
  after_goes place Done target from =
      target_less place (place + 0) (omega arith) target from
  after_goes place (More first rest) target from = omega arith

  front_at : (xs ys : List (Option ℕ)) (place : ℕ) → place < length xs
      → slice_get (xs ++ ys) place ≡ slice_get xs place
  front_at [] ys place less = absurd (omega (arith, less))
  front_at (x ∷ xs) ys zero less = refl
  front_at (x ∷ xs) ys (suc place) less = front_at xs ys place (omega (arith, less))

  back_at : (xs ys : List (Option ℕ)) (place : ℕ)
      → slice_get (xs ++ ys) (length xs + place) ≡ slice_get ys place
  back_at [] ys place = ap (slice_get ys) (let e : 0 + place ≡ place = omega arith in e)
  back_at (x ∷ xs) ys place =
      ap (slice_get (x ∷ (xs ++ ys)))
      (let e : suc (length xs) + place ≡ suc (length xs + place) = omega arith in e)
      ∙ back_at xs ys place

  sits_front : (first : ℕ) (xs ys : List (Option ℕ)) → Sits first (xs ++ ys) → Sits first xs
  sits_front first xs ys sits place less =
      sits place (omega (arith, less, length-append xs ys)) ∙ front_at xs ys place less

  sits_back : (first count : ℕ) (xs ys : List (Option ℕ)) → length xs ≡ count
      → Sits first (xs ++ ys) → Sits (first + count) ys
  sits_back first count xs ys many sits place less =
      ap (slice_get loops)
      (let e : first + count + place ≡ first + (length xs + place) = omega (arith, many) in e)
      ∙ sits (length xs + place) (omega (arith, less, length-append xs ys))
      ∙ back_at xs ys place

  -- all channels of a loop
  module _ (first size : ℕ) (sits : Sits first (replicate size (Some first))) where
    looped : (node : ℕ) → first ≤ node → node < first + size → IsLooped node
    looped node from less =
        let place = node - first in
        let e : first + place ≡ node = omega (arith, from) in
        let within : place < length (replicate size (Some first)) =
        omega (arith, from, less, length-replicate size (Some first)) in (
          first,
          ap (slice_get loops) (sym e) ∙ sits place within
              ∙ slice_get-get_or (replicate size (Some first)) place None within
              ∙ ap Some (get_or-replicate size place (Some first) None (omega (arith, from, less))),
        )

    loop_goes : (channel : Channel) → Leaves first (first + size) channel → Goes channel
    loop_goes channel (below, from) = inr (λ node more less. looped node (omega (arith, from, more))
        (omega (arith, below, less)))

  mutual
    goes : (stream : Stream) (first : ℕ) (target : Option Target)
        → Sits first (outer_loops first stream) → TargetFrom (first + size_of stream) target
        → AllGo (wires first stream target)
    goes (Filter name filter) first target sits from =
        wire_goes (is_int filter.output) first 0 target from
    goes Identity first target sits from = wire_goes true first 0 target from
    goes (FileReader text) first target sits from = wire_goes true first 0 target from
    goes (FileWriter text) first target sits from = tt
    goes (Pipeline children) first target sits from = row_goes children first target sits from
    goes (SplitJoin splitter children joiner) first target sits from =
        let inner = first + length (splitter_nodes splitter) in
        let last = inner + length (row_nodes children) in
        let sizes = length-append (splitter_nodes splitter ++ row_nodes children)
        (joiner_nodes joiner) in
        let more = length-append (splitter_nodes splitter) (row_nodes children) in
        each_append Goes (splitter_wires first splitter children
        ++ branch_wires inner children last 0) (joiner_wires last joiner target)
        (each_append Goes (splitter_wires first splitter children)
        (branch_wires inner children last 0) (splitter_goes first splitter children)
        (branch_goes children inner last 0
        (sits_back first (length (splitter_nodes splitter)) (no_loops (splitter_nodes splitter))
        (row_loops inner children) (no_loops_many (splitter_nodes splitter))
        (sits_front first (no_loops (splitter_nodes splitter) ++ row_loops inner children)
        (no_loops (joiner_nodes joiner)) sits))
        (omega arith)))
        (joiner_goes last joiner target (target_less (last + length (joiner_nodes joiner))
        (first + size_of (SplitJoin splitter children joiner)) (omega (arith, sizes, more)) target
        from))
    goes (FeedbackLoop joiner body splitter loop enqueued) first target sits from =
        let whole = FeedbackLoop joiner body splitter loop enqueued in
        each_follows (Leaves first (first + size_of whole)) Goes
        (loop_goes first (size_of whole) sits) (wires first whole target)
        (leaves first (first + size_of whole) whole first target (omega arith) (omega arith)
        (target_less first (first + size_of whole) (omega arith) target from))

    row_goes : (children : Streams) (first : ℕ) (target : Option Target)
        → Sits first (row_loops first children)
        → TargetFrom (first + length (row_nodes children)) target
        → AllGo (row_wires first children target)
    row_goes Done first target sits from = tt
    row_goes (More child rest) first target sits from =
        let sizes = length-append (nodes_of child) (row_nodes rest) in
        let next = first + size_of child in
        each_append Goes (wires first child (target_after next rest target))
        (row_wires next rest target)
        (goes child first (target_after next rest target)
        (sits_front first (outer_loops first child) (row_loops next rest) sits)
        (after_goes next rest target (target_less (next + length (row_nodes rest))
        (first + length (row_nodes (More child rest))) (omega (arith, sizes)) target from)))
        (row_goes rest next target
        (sits_back first (size_of child) (outer_loops first child) (row_loops next rest)
        (loops_are_by_node child first) sits)
        (target_less (next + length (row_nodes rest))
        (first + length (row_nodes (More child rest))) (omega (arith, sizes)) target from))

    branch_goes : (children : Streams) (first joiner port : ℕ)
        → Sits first (row_loops first children) → first + length (row_nodes children) ≤ joiner
        → AllGo (branch_wires first children joiner port)
    branch_goes Done first joiner port sits less = tt
    branch_goes (More child rest) first joiner port sits less =
        let sizes = length-append (nodes_of child) (row_nodes rest) in
        let next = first + size_of child in
        each_append Goes (wires first child (to_port joiner port))
        (branch_wires next rest joiner (port + 1))
        (goes child first (to_port joiner port)
        (sits_front first (outer_loops first child) (row_loops next rest) sits)
        (omega (arith, less, sizes)))
        (branch_goes rest next joiner (port + 1)
        (sits_back first (size_of child) (outer_loops first child) (row_loops next rest)
        (loops_are_by_node child first) sits)
        (omega (arith, less, sizes)))

-- a program's nodes outside feedback loops

module _ (graph : Graph) (stream : Stream) (typed : IsWellTyped stream)
    (program : IsProgram (tree_of stream) graph)
    (loops : graph.outer_loops ≡ outer_loops 0 stream) where
  all_go : AllByRecursion (Goes graph.outer_loops) (wires 0 stream None)
  all_go = goes graph.outer_loops stream 0 None
      (λ place less. ap (slice_get graph.outer_loops) (let e : 0 + place ≡ place = omega arith in e)
      ∙ ap (λ (l : List (Option ℕ)). slice_get l place) loops) tt

  graph_goes : All (Goes graph.outer_loops) graph.channels
  graph_goes = subst (All (Goes graph.outer_loops))
      (sym ((one_graph stream graph (wired stream) program.flat (wires_are_flat stream typed)).1))
      (each_all (Goes graph.outer_loops) (wires 0 stream None) all_go)

  channel_forward : (node : ℕ) → slice_get graph.outer_loops node ≡ Some None
      → (channel : Channel) → Goes graph.outer_loops channel → channel.target.node ≤ node
      → channel.source.node < node
  channel_forward node outside channel (inl forward) less = omega (arith, forward, less)
  channel_forward node outside channel (inr inside) less =
      elim (cases_lt channel.source.node node) [
        | inl lower ↦ lower
        | inr more ↦
            let (loop, is) = inside node less more in
            let e : None ≡ Some loop = same_Some None (Some loop) (sym outside ∙ is) in
            absurd (none-some loop e)
      ]

  outer_from : (node : ℕ) → slice_get graph.outer_loops node ≡ Some None
      → (channels : List Channel) → All (Goes graph.outer_loops) channels
      → IsOuter (map (rates_of_channel graph.nodes) channels) node
  outer_from node outside [] all k d within = absurd (omega (arith, within))
  outer_from node outside (first ∷ rest) all zero d within =
      channel_forward node outside first (all 0 first (omega arith))
  outer_from node outside (first ∷ rest) all (suc k) d within =
      outer_from node outside rest (λ j e less. all (suc j) e (omega (arith, less))) k d
      (omega (arith, within))

  -- what they are fed by is lower
  pub node_is_outer : (node : ℕ) → slice_get graph.outer_loops node ≡ Some None
      → IsOuter (rates_of graph) node
  node_is_outer node outside = outer_from node outside graph.channels graph_goes
