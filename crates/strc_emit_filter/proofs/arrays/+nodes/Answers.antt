use Rattle.std.proofs.Common.{subst}
use Rattle.std.specs.List.{All}
use Rattle.std.proofs.lemmas.List.{take_all}
use Rattle.std.proofs.lemmas.List.Elements.{All-nil}
use Rattle.strc_work_code.specs.declared.node.Node.{Node}
use Rattle.strc_work_code.specs.Code.{code_of}
use Rattle.strc_emit_filter.specs.Arrays.{OfCode, Reaches}
use Rattle.strc_emit_filter.proofs.Codes.{of_block, of_call, of_code_on, of_if, of_seq, of_while}
use Rattle.strc_emit_filter.proofs.Ends.{each_more, raised_same, raised_then}
use Rattle.strc_emit_filter.proofs.arrays.+nodes.Goals as goal

pub end_arrays-returns-in-Seq : goal.end_arrays-returns-in-Seq
end_arrays-returns-in-Seq t c = record {
  raised = c.end_all.ensures.raised;
  reaches = of_seq (Reaches c.end_all.new.ends.items) c.args.node.now c.in-Seq.nodes
      c.deref.result.now c.in-Seq.is c.deref.ensures.value c.end_all.ensures.reaches;
}

pub end_arrays-returns-in-BasicBlock : goal.end_arrays-returns-in-BasicBlock
end_arrays-returns-in-BasicBlock t c = record {
  raised = c.end_insts.ensures.raised;
  reaches = of_block (Reaches c.end_insts.new.ends.items) c.args.node.now c.in-BasicBlock.insts
      c.deref-in-BasicBlock.result.now c.in-BasicBlock.is c.deref-in-BasicBlock.ensures.value
      c.end_insts.ensures.reaches;
}

pub end_arrays-returns-in-If : goal.end_arrays-returns-in-If
end_arrays-returns-in-If t c =
    let one = c.end_arrays.ensures in
    let other = c.end_arrays-in-If.ensures in
    let between = c.end_arrays.new.ends.items in
    let after = c.end_arrays-in-If.new.ends.items in
    let in_code = λ (n : Node). OfCode (Reaches after) (code_of n) in
    record {
      raised = raised_then c.args.ends.now.items between after one.raised other.raised;
      reaches = of_if (Reaches after) c.args.node.now c.in-If.field-0 c.in-If.chosen c.in-If.other
          c.in-If.is (subst in_code c.deref-in-If.ensures
          (of_code_on between after (code_of c.deref-in-If.result.now) other.raised one.reaches))
          (subst in_code c.deref-in-If-2.ensures other.reaches);
    }

pub end_arrays-returns-in-While : goal.end_arrays-returns-in-While
end_arrays-returns-in-While t c =
    let one = c.end_arrays-in-While.ensures in
    let other = c.end_arrays-in-While-2.ensures in
    let between = c.end_arrays-in-While.new.ends.items in
    let after = c.end_arrays-in-While-2.new.ends.items in
    let in_code = λ (n : Node). OfCode (Reaches after) (code_of n) in
    record {
      raised = raised_then c.args.ends.now.items between after one.raised other.raised;
      reaches = of_while (Reaches after) c.args.node.now c.in-While.first c.in-While.field-1
          c.in-While.body c.in-While.field-3 c.in-While.is (subst in_code c.deref-in-While.ensures
          (of_code_on between after (code_of c.deref-in-While.result.now) other.raised
          one.reaches))
          (subst in_code c.deref-in-While-2.ensures other.reaches);
    }

pub end_arrays-returns-in-Call : goal.end_arrays-returns-in-Call
end_arrays-returns-in-Call t c = record {
  raised = raised_same c.args.ends.now.items;
  reaches = of_call (Reaches c.args.ends.now.items) c.args.node.now c.in-Call.field-0 c.in-Call.is;
}

pub end_all-loop-inner-init : goal.end_all-loop-inner-init
end_all-loop-inner-init t c = record {
  raised = raised_same c.args.ends.now.items;
  reaches = All-nil (λ (inner : Node). OfCode (Reaches c.args.ends.now.items) (code_of inner));
}

pub end_all-loop-inner-preserved : goal.end_all-loop-inner-preserved
end_all-loop-inner-preserved t c =
    let before = c.loop-inner.ends.items in
    let after = c.end_arrays.new.ends.items in
    let was = c.loop-inner.invariant in
    let is = c.end_arrays.ensures in
    record {
      raised = raised_then c.args.ends.now.items before after was.raised is.raised;
      reaches = each_more (λ ends (inner : Node). OfCode (Reaches ends) (code_of inner))
          (λ one other inner raised. of_code_on one other (code_of inner) raised)
          c.args.nodes.now c.loop-inner.inner-index c.inner-item.result before after
          c.loop-inner-test.true c.inner-item.is is.raised was.reaches is.reaches;
    }

pub end_all-returns : goal.end_all-returns
end_all-returns t c =
    let ends = c.loop-inner.ends.items in
    record {
      raised = c.loop-inner.invariant.raised;
      reaches = subst (All (λ (inner : Node). OfCode (Reaches ends) (code_of inner)))
          (take_all c.loop-inner.inner-index c.args.nodes.now c.loop-inner-test.false)
          c.loop-inner.invariant.reaches;
    }
