use Rattle.strc_work.proofs.Filters.{walk_accepts_filter}
use Rattle.strc_work.proofs.laws.walk_accepts_filters.Goals as goal

pub returns : goal.returns
returns c = walk_accepts_filter
