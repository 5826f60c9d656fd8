use Rattle.std.proofs.Common.{sym, subst}
use Rattle.std.proofs.lemmas.Result.{err_from_is_err_and}
use Rattle.strc_elab_graph.specs.Graphs.{Roundrobin}
use Rattle.strc_elab_statements.specs.Answers.{IsRefusal}
use Rattle.strc_elab_statements.specs.Splits.{split_view}
use Rattle.strc_elab_statements.specs.Weights.{weighted, loop_weights, loop_splitter}
use Rattle.strc_elab_statements.proofs.Refusals.{mapped_refused}
use Rattle.strc_elab_statements.proofs.weights.loop_splitter.Goals as goal

pub returns-in_err-weights-in-InTurn : goal.returns-in_err-weights-in-InTurn
returns-in_err-weights-in-InTurn c =
    let p = err_from_is_err_and c.from_residual-in_err-weights-in-InTurn.result
    c.from_residual-in_err-weights-in-InTurn.ensures.1 in
    let e = c.in_err-weights-in-InTurn.field-0.0 in
    let declaration = c.args.declaration in
    let written = c.args.written in
    let no : IsRefusal (weighted declaration
    (loop_weights written c.in-InTurn.weights.items)) e =
    subst (λ ws. IsRefusal (weighted declaration (loop_weights written ws)) e)
    c.deref.ensures.value c.in_err-weights-in-InTurn.ensures in
    rw (p.1, p.2) (subst
    (λ s. IsRefusal (weighted declaration (loop_splitter written (split_view s))) e)
    (sym c.in-InTurn.is)
    (mapped_refused declaration Roundrobin (loop_weights written c.in-InTurn.weights.items) e no))
