use Rattle.strc_run.proofs.Exclusion.{only_stream}
use Rattle.strc_run.proofs.laws.one_stream.Goals as goal

pub returns : goal.returns
returns c = only_stream c.one_program.ensures
