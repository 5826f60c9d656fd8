use Rattle.strc_live_texts.proofs.Texts.{live_writes_the_same}
use Rattle.strc_live_texts.proofs.live_writes_the_same.Goals as goal

pub returns : goal.returns
returns c = live_writes_the_same
