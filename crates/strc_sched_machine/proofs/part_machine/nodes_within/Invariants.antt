use Rattle.std.proofs.Common.{◌≡◌, ℕ, ◌<◌, false, length}
use Rattle.std.specs.Prelude.{slice_index_or}
use Rattle.strc_sched_rings.specs.Parts as range
use Rattle.strc_sched_machine.proofs.part_machine.nodes_within.Given as goal

abbrev pub invariant-loop-node : goal.invariant-loop-node
invariant-loop-node l = record {
  each : length l.marks.items ≡ l.node;
  marks : (node : ℕ) → node < l.node
      → slice_index_or l.marks.items node false ≡ range.is_within l.fn.first l.fn.next node;
}
