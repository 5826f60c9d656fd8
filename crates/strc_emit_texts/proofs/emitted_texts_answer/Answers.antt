use Rattle.strc_emit_texts.proofs.Texts.{emitted_texts_answer}
use Rattle.strc_emit_texts.proofs.emitted_texts_answer.Goals as goal

pub returns : goal.returns
returns c = emitted_texts_answer
