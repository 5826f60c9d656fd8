use Rattle.std.specs.Prelude.{suc, take}
use Rattle.strc_stage_plan.specs.Spans.{IsSpanOf}
use Rattle.strc_stage_plan.proofs.unit_span.span_of.Given as goal

abbrev pub invariant-loop-node : goal.invariant-loop-node
invariant-loop-node l = IsSpanOf (take (suc l.node-index) l.nodes) l.span
