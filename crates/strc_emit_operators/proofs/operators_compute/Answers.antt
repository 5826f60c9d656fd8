use Rattle.strc_emit_operators.proofs.Operators.{unary_computes, binary_computes}
use Rattle.strc_emit_operators.proofs.operators_compute.Goals as goal

pub returns : goal.returns
returns c = record { unary = unary_computes; binary = binary_computes }
