use Rattle.strc_emit_texts.proofs.Ends.{print_alike}
use Rattle.strc_emit_texts.proofs.same_ends_print_alike.Goals as goal

pub returns : goal.returns
returns c = print_alike
