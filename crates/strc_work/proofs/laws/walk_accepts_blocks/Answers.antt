use Rattle.strc_work.proofs.Statements.{walk_accepts_block}
use Rattle.strc_work.proofs.laws.walk_accepts_blocks.Goals as goal

pub returns : goal.returns
returns c = walk_accepts_block
