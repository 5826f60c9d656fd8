use Rattle.strc_elab_dataflow.proofs.Numbers.{numbers_apart, owner}
use Rattle.strc_elab_dataflow.proofs.rounds_laws.numbers_have_owners.Goals as goal

pub returns : goal.returns
returns c = λ parts base are. (
  λ u k v l k_less l_less e. numbers_apart parts base are u k v l k_less l_less e,
  λ number. owner parts base are number,
)
