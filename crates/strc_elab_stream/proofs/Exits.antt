-- A stream that gives items has a channel that ends where they go.
use Rattle.std.proofs.Common.{◌≡◌, ℕ, ◌+◌, true, List, [], ◌++◌}
use Rattle.std.proofs.Common.{length, Some, None, Option, refl, ap}
use Rattle.strc_parse_tree.specs.declared.tree.ItemType.TheVariants as item
use Rattle.strc_elab_graph.specs.Carriers.{splitter_carries}
use Rattle.strc_elab_stream.specs.Instances.{Stream, Streams, Filter, Identity, FileReader}
use Rattle.strc_elab_stream.specs.Instances.{FileWriter}
use Rattle.strc_elab_stream.specs.Instances.{Pipeline, SplitJoin, FeedbackLoop, Done, More}
use Rattle.strc_elab_stream.specs.Types.{output_of, last_output, is_int, side_at}
use Rattle.strc_elab_stream.specs.Flattening.{row_nodes, size_of, splitter_nodes}
use Rattle.strc_elab_stream.specs.Wires.{Target, wire, wires, row_wires, branch_wires}
use Rattle.strc_elab_stream.specs.Wires.{splitter_wires}
use Rattle.strc_elab_stream.specs.Wires.{joiner_wires, to_port}
use Rattle.strc_elab_stream.proofs.Ends.{Ends, ends_former, ends_latter, wire_ends}
use Rattle.strc_elab_stream.proofs.Inlets.{no_items, side_is_int}

joiner_exit : (joiner : ℕ) (weights : Option (List ℕ)) (target : Target)
    → side_at weights ≡ item.Int
    → Ends (joiner_wires joiner weights (Some target)) target.port.node target.port.port
joiner_exit joiner None target is = absurd (no_items is)
joiner_exit joiner (Some weights) target is = wire_ends true joiner 0 target refl

mutual
  pub exit : (stream : Stream) (first : ℕ) (target : Target) → output_of stream ≡ item.Int
      → Ends (wires first stream (Some target)) target.port.node target.port.port
  exit (Filter name filter) first target is =
      wire_ends (is_int filter.output) first 0 target (ap is_int is)
  exit Identity first target is = wire_ends true first 0 target refl
  exit (FileReader text) first target is = wire_ends true first 0 target refl
  exit (FileWriter text) first target is = absurd (no_items is)
  exit (Pipeline children) first target is = row_exit children first target is
  exit (SplitJoin splitter children joiner) first target is =
      let inner = first + length (splitter_nodes splitter) in
      let last = inner + length (row_nodes children) in
      ends_latter (splitter_wires first splitter children ++ branch_wires inner children last 0)
      (joiner_wires last joiner (Some target)) target.port.node target.port.port
      (joiner_exit last joiner target is)
  exit (FeedbackLoop joiner body splitter loop enqueued) first target is =
      let split = first + 1 + size_of body in
      let second = first + 2 + size_of body in
      let back : Option Target = Some (record {
        port = record { node = first; port = 1 };
        enqueued = enqueued;
      }) in
      let outer = wire (splitter_carries splitter 0) split 0 (Some target) in
      let inner = wire true split 1 (to_port second 0) in
      let before = wire true first 0 (to_port (first + 1) 0)
      ++ wires (first + 1) body (to_port split 0) in
      ends_former (before ++ outer ++ inner) (wires second loop back) target.port.node
      target.port.port
      (ends_former (before ++ outer) inner target.port.node target.port.port
      (ends_latter before outer target.port.node target.port.port
      (wire_ends (splitter_carries splitter 0) split 0 target
      (side_is_int (splitter_carries splitter 0) is))))

  row_exit : (children : Streams) (first : ℕ) (target : Target)
      → last_output item.Void children ≡ item.Int
      → Ends (row_wires first children (Some target)) target.port.node target.port.port
  row_exit Done first target is = absurd (no_items is)
  row_exit (More next Done) first target is =
      ends_former (wires first next (Some target)) [] target.port.node target.port.port
      (exit next first target is)
  row_exit (More next (More other rest)) first target is =
      ends_latter (wires first next (to_port (first + size_of next) 0))
      (row_wires (first + size_of next) (More other rest) (Some target)) target.port.node
      target.port.port (row_exit (More other rest) (first + size_of next) target is)
