use Rattle.std.proofs.Common.{refl}
use Rattle.std.specs.Fmt.{digits}
use Rattle.strc_live_texts.proofs.done_row.Goals as goal

pub returns : goal.returns
unfolding digits
returns c = record { whole = refl; wrong = refl }
