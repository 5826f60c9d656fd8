use Rattle.std.proofs.Common.{take}
use Rattle.std.specs.List.{All}
use Rattle.strc_emit_filter.specs.Arrays.{OfInst, Raised, Reaches}
use Rattle.strc_emit_filter.proofs.arrays.end_insts.Given as goal

-- the arrays of the instructions that were looked at are among those that end so far on
abbrev pub invariant-loop-inst : goal.invariant-loop-inst
invariant-loop-inst l = record {
  raised : Raised l.fn.ends.items l.ends.items;
  reaches : All (OfInst (Reaches l.ends.items)) (take l.inst-index l.insts);
}
