use Rattle.strc_elab_dataflow.specs.Pipelines.{pipeline_of}
use Rattle.strc_elab_dataflow.proofs.Chain.{pipeline_is_chain}
use Rattle.strc_elab_dataflow.proofs.Theorem.{chain_runs}
use Rattle.strc_elab_dataflow.proofs.pipeline_runs_in_order.Goals as goal

pub returns : goal.returns
returns g c meaning first others input k keeps matched =
    let chain = pipeline_is_chain first others in
    let runs = chain_runs meaning (pipeline_of first others) first others input k chain keeps
    matched in
    (chain, runs.0, runs.1)
