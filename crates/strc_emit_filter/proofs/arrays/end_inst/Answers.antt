use Rattle.std.proofs.Common.{inl, inr, sym, subst}
use Rattle.strc_emit_filter.specs.Arrays.{OfInst, Reaches}
use Rattle.strc_emit_filter.proofs.Codes.{of_others}
use Rattle.strc_emit_filter.proofs.Ends.{raised_same}
use Rattle.strc_emit_filter.proofs.arrays.end_inst.Goals as goal

pub returns-in-Load : goal.returns-in-Load
returns-in-Load c =
    let ends = c.end_array.new.ends.items in
    let is = c.end_array.ensures.reaches in
    record {
      raised = c.end_array.ensures.raised;
      reaches = elim c.in-Load.is [
        | inl load ↦ subst (OfInst (Reaches ends)) (sym load.3) is
        | inr (inl store) ↦ subst (OfInst (Reaches ends)) (sym store.3) is
        | inr (inr clear) ↦ subst (OfInst (Reaches ends)) (sym clear) is
      ];
    }

pub returns-in_default : goal.returns-in_default
returns-in_default c = record {
  raised = raised_same c.args.ends.now.items;
  reaches = of_others (Reaches c.args.ends.now.items) c.args.inst c.in_default.not-Load
      c.in_default.not-Store c.in_default.not-Clear;
}
