use Rattle.std.proofs.Common.{take}
use Rattle.std.specs.List.{All}
use Rattle.strc_work_code.specs.declared.helper.HelperCode.{HelperCode}
use Rattle.strc_work_code.specs.Code.{code_of}
use Rattle.strc_emit_filter.specs.Arrays.{OfCode, Raised, Reaches}
use Rattle.strc_emit_filter.proofs.arrays.end_helpers.Given as goal

-- the arrays of the helper functions that were looked at are among those that end so far on
abbrev pub invariant-loop-helper : goal.invariant-loop-helper
invariant-loop-helper l = record {
  raised : Raised l.fn.ends.items l.ends.items;
  reaches : All (λ (helper : HelperCode). OfCode (Reaches l.ends.items) (code_of helper.code))
      (take l.helper-index l.helpers);
}
