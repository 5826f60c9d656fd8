use Rattle.strc_run.proofs.Located.{in_elaboration, same_refusal}
use Rattle.strc_run.proofs.compile.main_stream.Goals as goal

pub returns-in-Err-clause-known : goal.returns-in-Err-clause-known
returns-in-Err-clause-known c =
    in_elaboration _ _ c.at.result c.in-Err.placed.error c.at.result.site c.in-Err.placed.place
    c.at.ensures c.in-Err.ensures.verdict c.in-Err.ensures.place

pub returns-in-Err-clause-verdict : goal.returns-in-Err-clause-verdict
returns-in-Err-clause-verdict c =
    (c.in-Err.placed.error, c.in-Err.ensures.verdict, same_refusal c.at.ensures)
