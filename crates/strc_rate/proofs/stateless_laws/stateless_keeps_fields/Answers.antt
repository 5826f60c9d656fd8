use Rattle.strc_rate.proofs.Kept.{keeps_fields}
use Rattle.strc_rate.proofs.stateless_laws.stateless_keeps_fields.Goals as goal

pub returns : goal.returns
returns c = keeps_fields
