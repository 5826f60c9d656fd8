use Rattle.strc_emit_texts.proofs.Runs.{run_alike}
use Rattle.strc_emit_texts.proofs.emitted_texts_run_alike.Goals as goal

pub returns : goal.returns
returns c = run_alike c.one_stream.ensures
