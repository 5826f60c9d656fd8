use Rattle.strc_elab_dataflow.proofs.Counted.{counted_first, counted_after, order_valid}
use Rattle.strc_elab_dataflow.proofs.rounds_laws.order_is_valid.Goals as goal

pub returns : goal.returns
returns g c = λ meaning graph input keeps within. (
  counted_first meaning graph input keeps within,
  λ counts order now valid is. (
    order_valid meaning graph input keeps within order counts now valid is,
    λ next went. counted_after meaning graph input keeps within order counts now next is valid went,
  ),
)
