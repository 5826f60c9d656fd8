use Rattle.strc_rate.proofs.Started.{fields_fit}
use Rattle.strc_rate.proofs.stateless_laws.started_fields_fit.Goals as goal

pub returns : goal.returns
returns c = fields_fit
