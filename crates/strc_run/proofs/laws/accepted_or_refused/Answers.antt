use Rattle.strc_run.proofs.Exclusion.{excluded}
use Rattle.strc_run.proofs.laws.accepted_or_refused.Goals as goal

pub returns : goal.returns
returns c = excluded c.one_program.ensures c.spelled_texts_are_readable.ensures
    c.one_flat_graph.ensures c.one_startup.ensures c.scheduled_or_refused.ensures
    c.transformed_or_refused.ensures
