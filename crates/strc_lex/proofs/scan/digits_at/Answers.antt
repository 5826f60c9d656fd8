use Rattle.std.proofs.Common.{rules}
use Rattle.strc_lex.proofs.Runs.{take-run}
use Rattle.strc_lex.proofs.scan.digits_at.Goals as goal

pub returns : goal.returns
returns c = take-run _ _ _ (search rules)
