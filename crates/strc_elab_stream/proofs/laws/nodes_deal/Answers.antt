use Rattle.strc_elab_stream.proofs.Dealing.{nodes_deal}
use Rattle.strc_elab_stream.proofs.laws.nodes_deal.Goals as goal

pub returns : goal.returns
returns c = nodes_deal
