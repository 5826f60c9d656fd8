use Rattle.std.proofs.Common.{take}
use Rattle.std.specs.List.{All}
use Rattle.strc_work_code.specs.declared.node.Node.{Node}
use Rattle.strc_work_code.specs.Code.{code_of}
use Rattle.strc_emit_filter.specs.Arrays.{OfCode, Raised, Reaches}
use Rattle.strc_emit_filter.proofs.arrays.+nodes.Given as goal

-- the arrays of the nodes that were looked at are among those that end so far on
abbrev pub invariant-end_all-loop-inner : goal.invariant-end_all-loop-inner
invariant-end_all-loop-inner l = record {
  raised : Raised l.initial.ends.items l.ends.items;
  reaches : All (λ (inner : Node). OfCode (Reaches l.ends.items) (code_of inner))
      (take l.inner-index l.nodes);
}
