use Rattle.std.proofs.Common.{inr}
use Rattle.std.proofs.lemmas.Result.{err_from_is_err_and}
use Rattle.strc_parse_grammar.proofs.sequence.with_node_height.Goals as goal

pub returns-in_err-height : goal.returns-in_err-height
returns-in_err-height g c =
    let p = err_from_is_err_and c.from_residual-in_err-height.result
    c.from_residual-in_err-height.ensures.1 in
    rw (p.1, p.2) (inr (c.in_ok-part.part, c.in_ok-part.was, c.in_err-height.ensures))
