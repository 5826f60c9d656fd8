use Rattle.strc_elab_dataflow.proofs.SplitOrder.{split_is_order}
use Rattle.strc_elab_dataflow.proofs.rounds_laws.split_is_order.Goals as goal

pub returns : goal.returns
returns g c =
    λ meaning graph new input parts counts new_counts blocks repeats new_repeats is are valid.
    split_is_order meaning graph new input parts counts new_counts repeats new_repeats is blocks
    are valid
