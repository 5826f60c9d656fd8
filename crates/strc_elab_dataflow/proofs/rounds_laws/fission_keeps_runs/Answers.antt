use Rattle.strc_elab_dataflow.proofs.RoundsRuns.{fission_runs}
use Rattle.strc_elab_dataflow.proofs.rounds_laws.fission_keeps_runs.Goals as goal

pub returns : goal.returns
returns g c =
    λ meaning graph new input parts blocks startup round rounds k old now keeps within is are
    round_counts valid counted_is agree.
    fission_runs meaning graph new input parts is blocks are startup round k keeps within
    round_counts valid rounds old now counted_is agree
