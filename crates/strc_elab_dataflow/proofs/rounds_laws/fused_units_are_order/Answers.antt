use Rattle.strc_elab_dataflow.proofs.FusedUnits.{fused_units}
use Rattle.strc_elab_dataflow.proofs.rounds_laws.fused_units_are_order.Goals as goal

pub returns : goal.returns
returns g c =
    λ meaning graph input counts round free limit units fused repeats balanced placed is valid.
    let good = fused_units meaning graph round input counts repeats balanced free limit units fused
    placed is in
    (good.valid valid, good.same)
