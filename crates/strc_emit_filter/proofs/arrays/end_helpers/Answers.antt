use Rattle.std.proofs.Common.{subst}
use Rattle.std.specs.List.{All}
use Rattle.std.proofs.lemmas.List.{take_all}
use Rattle.std.proofs.lemmas.List.Elements.{All-nil}
use Rattle.strc_work_code.specs.declared.helper.HelperCode.{HelperCode}
use Rattle.strc_work_code.specs.Code.{code_of}
use Rattle.strc_emit_filter.specs.Arrays.{OfCode, Reaches}
use Rattle.strc_emit_filter.proofs.Codes.{of_code_on}
use Rattle.strc_emit_filter.proofs.Ends.{each_more, raised_same, raised_then}
use Rattle.strc_emit_filter.proofs.arrays.end_helpers.Goals as goal

pub loop-helper-init : goal.loop-helper-init
loop-helper-init c = record {
  raised = raised_same c.args.ends.now.items;
  reaches = All-nil (λ (helper : HelperCode).
      OfCode (Reaches c.args.ends.now.items) (code_of helper.code));
}

pub loop-helper-preserved : goal.loop-helper-preserved
loop-helper-preserved c =
    let before = c.loop-helper.ends.items in
    let after = c.end_arrays.new.ends.items in
    let was = c.loop-helper.invariant in
    let is = c.end_arrays.ensures in
    record {
      raised = raised_then c.args.ends.now.items before after was.raised is.raised;
      reaches = each_more
          (λ ends (helper : HelperCode). OfCode (Reaches ends) (code_of helper.code))
          (λ one other helper raised. of_code_on one other (code_of helper.code) raised)
          c.args.helpers.now c.loop-helper.helper-index c.helper-item.result before after
          c.loop-helper-test.true c.helper-item.is is.raised was.reaches is.reaches;
    }

pub returns : goal.returns
returns c =
    let ends = c.loop-helper.ends.items in
    record {
      raised = c.loop-helper.invariant.raised;
      reaches = subst
          (All (λ (helper : HelperCode). OfCode (Reaches ends) (code_of helper.code)))
          (take_all c.loop-helper.helper-index c.args.helpers.now c.loop-helper-test.false)
          c.loop-helper.invariant.reaches;
    }
