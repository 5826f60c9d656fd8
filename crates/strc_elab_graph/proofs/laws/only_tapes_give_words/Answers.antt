use Rattle.strc_elab_graph.proofs.Quiet.{node_quiet}
use Rattle.strc_elab_graph.proofs.laws.only_tapes_give_words.Goals as goal

pub returns : goal.returns
returns c = node_quiet
