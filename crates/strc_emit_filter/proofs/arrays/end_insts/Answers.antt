use Rattle.std.proofs.Common.{get_or, pos, subst}
use Rattle.std.specs.List.{All}
use Rattle.std.proofs.lemmas.List.{get_or_default, take_all}
use Rattle.std.proofs.lemmas.List.Elements.{All-nil}
use Rattle.strc_work_code.specs.declared.inst.Inst.TheVariants as act
use Rattle.strc_emit_filter.specs.Arrays.{OfInst, Reaches}
use Rattle.strc_emit_filter.proofs.Codes.{of_inst_on}
use Rattle.strc_emit_filter.proofs.Ends.{each_more, raised_same, raised_then}
use Rattle.strc_emit_filter.proofs.arrays.end_insts.Goals as goal

pub loop-inst-init : goal.loop-inst-init
loop-inst-init c = record {
  raised = raised_same c.args.ends.now.items;
  reaches = All-nil (OfInst (Reaches c.args.ends.now.items));
}

pub loop-inst-preserved : goal.loop-inst-preserved
loop-inst-preserved c =
    let insts = c.args.insts.now in
    let at = c.loop-inst.inst-index in
    let inst = get_or insts at (act.Const 0 (pos 0)) in
    let before = c.loop-inst.ends.items in
    let after = c.end_inst.new.ends.items in
    let was = c.loop-inst.invariant in
    let is = c.end_inst.ensures in
    record {
      raised = raised_then c.args.ends.now.items before after was.raised is.raised;
      reaches = each_more (λ ends. OfInst (Reaches ends)) of_inst_on insts at inst before after
          c.loop-inst-test.true
          (get_or_default insts at (act.Const 0 (pos 0)) inst c.loop-inst-test.true) is.raised
          was.reaches is.reaches;
    }

pub returns : goal.returns
returns c =
    let ends = c.loop-inst.ends.items in
    record {
      raised = c.loop-inst.invariant.raised;
      reaches = subst (All (OfInst (Reaches ends)))
          (take_all c.loop-inst.inst-index c.args.insts.now c.loop-inst-test.false)
          c.loop-inst.invariant.reaches;
    }
