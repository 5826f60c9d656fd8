-- The channels of a whole stream that is in a graph.
use Rattle.std.proofs.Common.{◌≡◌, ℕ, suc, ◌+◌, Bool, true, false, List, [], ◌++◌}
use Rattle.std.proofs.Common.{length, Some, Option, slice_index, slice_index_or, refl}
use Rattle.std.proofs.Common.{nat_lt, ap, ◌∙◌}
use Rattle.std.specs.List.{AllByRecursion}
use Rattle.strc_elab_dataflow.specs.Flat.{Source}
use Rattle.strc_parse_tree.specs.declared.tree.ItemType.TheVariants as item
use Rattle.strc_elab_graph.specs.Graphs as graphs
use Rattle.strc_elab_graph.specs.Graphs.{NodeCode, SplitterCode, ports_of}
use Rattle.strc_elab_graph.specs.Carriers.{splitter_carries}
use Rattle.strc_elab_stream.specs.Instances.{Stream, Streams, Filter, Identity, FileReader}
use Rattle.strc_elab_stream.specs.Instances.{FileWriter}
use Rattle.strc_elab_stream.specs.Instances.{Pipeline, SplitJoin, FeedbackLoop, Done, More}
use Rattle.strc_elab_stream.specs.Types.{IsWellTyped, AreWellTyped, AreEach, ComesBack, side}
use Rattle.strc_elab_stream.specs.Types.{output_of, last_output, is_int}
use Rattle.strc_elab_stream.specs.Types.{splitter_carried, joiner_carried}
use Rattle.strc_elab_stream.specs.Flattening.{row_nodes, size_of, splitter_nodes}
use Rattle.strc_elab_stream.specs.Wires.{Target, wire, wires, row_wires, branch_wires}
use Rattle.strc_elab_stream.specs.Wires.{splitter_wires}
use Rattle.strc_elab_stream.specs.Wires.{joiner_wires, to_port}
use Rattle.strc_elab_stream.proofs.Channels.{each_append}
use Rattle.strc_elab_stream.proofs.Inlets.{inlet, int_is, gives, takes}
use Rattle.strc_elab_stream.proofs.Outlets.{from, outlet, row_outlet}
use Rattle.strc_elab_stream.proofs.Placed.{Placed, PlacedRow, PlacedBranches}
use Rattle.strc_elab_stream.proofs.Carried.{joiner_carries_is, splitter_carries_is}
use Rattle.strc_elab_stream.proofs.Comes.{IsWire, IsReached, reached, wire_comes, splitter_comes}
use Rattle.strc_elab_stream.proofs.Comes.{AreJoined, are_joined, joiner_comes}

second_carries : (splitter : SplitterCode) → ComesBack (splitter_carried splitter)
    → splitter_carries splitter 1 ≡ true
second_carries splitter back = splitter_carries_is splitter 1
    ∙ ap (λ (l : List Bool). slice_index_or l 1 false) back.ports

second_taken : (weights : List ℕ) → ComesBack (joiner_carried weights)
    → nat_lt 0 (slice_index weights 1) ≡ true
second_taken weights back = joiner_carries_is weights 1
    ∙ ap (λ (l : List Bool). slice_index_or l 1 false) back.ports

module _ (nodes : List NodeCode) (source : ℕ → ℕ → Source) where
  mutual
    pub comes : (stream : Stream) → IsWellTyped stream → (first : ℕ) (before : Source)
        → (target : Option Target) → Placed nodes source first before stream
        → (output_of stream ≡ item.Int → IsReached nodes source (outlet first stream) target)
        → AllByRecursion (IsWire nodes source) (wires first stream target)
    comes (Filter name filter) typed first before target at there =
        wire_comes nodes source (is_int filter.output) first 0 target
        (λ e. gives nodes first 0 (graphs.Filter name filter) at.0
        ∙ ap (λ s. nat_lt 0 (ports_of s)) (int_is filter.output e))
        (λ e. there (int_is filter.output e))
    comes Identity typed first before target at there =
        wire_comes nodes source true first 0 target (λ e. gives nodes first 0 graphs.Identity at.0)
        (λ e. there refl)
    comes (FileReader text) typed first before target at there =
        wire_comes nodes source true first 0 target
        (λ e. gives nodes first 0 (graphs.FileReader text) at.0) (λ e. there refl)
    comes (FileWriter text) typed first before target at there = tt
    comes (Pipeline children) typed first before target at there =
        row_comes children typed.1 first before target at there
    comes (SplitJoin splitter children joiner) typed first before target at there =
        let inner = first + length (splitter_nodes splitter) in
        let last = inner + length (row_nodes children) in
        each_append (IsWire nodes source)
        (splitter_wires first splitter children ++ branch_wires inner children last 0)
        (joiner_wires last joiner target)
        (each_append (IsWire nodes source) (splitter_wires first splitter children)
        (branch_wires inner children last 0)
        (splitter_comes nodes source splitter children first before typed.2 at.0 at.1)
        (branches_come children typed.1 inner _ last 0 at.1
        (are_joined nodes source joiner children last inner typed.3 at.2)))
        (joiner_comes nodes source joiner last _ target at.2 there)
    comes (FeedbackLoop joiner body splitter loop enqueued) typed first before target at there =
        let split = first + 1 + size_of body in
        let second = first + 2 + size_of body in
        let back : Option Target = Some (record {
          port = record { node = first; port = 1 };
          enqueued = enqueued;
        }) in
        let outer = wire (splitter_carries splitter 0) split 0 target in
        let inner = wire true split 1 (to_port second 0) in
        let at_joiner = wire true first 0 (to_port (first + 1) 0) in
        let in_body = wires (first + 1) body (to_port split 0) in
        each_append (IsWire nodes source) (at_joiner ++ in_body ++ outer ++ inner)
        (wires second loop back)
        (each_append (IsWire nodes source) (at_joiner ++ in_body ++ outer) inner
        (each_append (IsWire nodes source) (at_joiner ++ in_body) outer
        (each_append (IsWire nodes source) at_joiner in_body
        (wire_comes nodes source true first 0 (to_port (first + 1) 0)
        (λ e. gives nodes first 0 (graphs.Joiner joiner) at.0.0)
        (λ e. reached nodes source (first + 1) 0 (from first 0)
        (inlet nodes source body (first + 1) (from first 0) at.2 typed.2.0)))
        (comes body typed.3 (first + 1) (from first 0) (to_port split 0) at.2
        (λ e. reached nodes source split 0 (outlet (first + 1) body) (record {
          taken = takes nodes split 0 (graphs.Splitter splitter) at.3.0;
          comes = at.3.1;
        }))))
        (wire_comes nodes source (splitter_carries splitter 0) split 0 target
        (λ e. gives nodes split 0 (graphs.Splitter splitter) at.3.0 ∙ e)
        (λ e. there (ap side e))))
        (wire_comes nodes source true split 1 (to_port second 0)
        (λ e. gives nodes split 1 (graphs.Splitter splitter) at.3.0
        ∙ second_carries splitter typed.1)
        (λ e. reached nodes source second 0 (from split 1)
        (inlet nodes source loop second (from split 1) at.4 typed.4.0))))
        (comes loop typed.5 second (from split 1) back at.4 (λ e. record {
          taken = takes nodes first 1 (graphs.Joiner joiner) at.0.0 ∙ second_taken joiner typed.0;
          comes = at.1;
        }))

    row_comes : (children : Streams) → AreWellTyped children → (first : ℕ) (before : Source)
        → (target : Option Target) → PlacedRow nodes source first before children
        → (last_output item.Void children ≡ item.Int
        → IsReached nodes source (row_outlet first children) target)
        → AllByRecursion (IsWire nodes source) (row_wires first children target)
    row_comes Done typed first before target at there = tt
    row_comes (More next Done) typed first before target at there =
        each_append (IsWire nodes source) (wires first next target) []
        (comes next typed.0 first before target at.0 there) tt
    row_comes (More next (More other rest)) typed first before target at there =
        let second = first + size_of next in
        each_append (IsWire nodes source) (wires first next (to_port second 0))
        (row_wires second (More other rest) target)
        (comes next typed.0 first before (to_port second 0) at.0
        (λ e. reached nodes source second 0 (outlet first next)
        (inlet nodes source other second (outlet first next) at.1.0 (typed.1 ∙ e))))
        (row_comes (More other rest) typed.2 second (outlet first next) target at.1 there)

    branches_come : (children : Streams) → AreEach children → (first : ℕ) (before : ℕ → Source)
        → (joiner port : ℕ) → PlacedBranches nodes source first before children
        → AreJoined nodes source joiner port first children
        → AllByRecursion (IsWire nodes source) (branch_wires first children joiner port)
    branches_come Done typed first before joiner port at joined = tt
    branches_come (More next rest) typed first before joiner port at joined =
        let second = first + size_of next in
        each_append (IsWire nodes source) (wires first next (to_port joiner port))
        (branch_wires second rest joiner (port + 1))
        (comes next typed.0 first (before 0) (to_port joiner port) at.0
        (λ e. reached nodes source joiner port (outlet first next) (joined.0 e)))
        (branches_come rest typed.1 second (λ k. before (suc k)) joiner (port + 1) at.1 joined.1)
