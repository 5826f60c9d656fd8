use Rattle.std.proofs.Common.{◌-◌, ◌∙◌, Some, ap, sym, arith}
use Rattle.strc_lex_names.proofs.Scopes.{number_named-below}
use Rattle.strc_emit_code.proofs.Names.{placed, not_placed}
use Rattle.strc_emit_code.proofs.calls.place_in.Goals as goal

pub overflow_sub-result-in-Some : goal.overflow_sub-result-in-Some
overflow_sub-result-in-Some c =
    let at = sym (sym c.in-Some.is ∙ c.number_of.ensures) in
    omega (arith, number_named-below c.args.names.now c.args.name.now c.in-Some.after at)

pub returns-in-Some : goal.returns-in-Some
returns-in-Some c =
    let at = sym (sym c.in-Some.is ∙ c.number_of.ensures) in
    ap (λ n. Some (n - 1 - c.in-Some.after)) c.len.ensures
    ∙ placed c.args.names.now c.args.name.now c.in-Some.after at

pub returns-in-None : goal.returns-in-None
returns-in-None c =
    not_placed c.args.names.now c.args.name.now (sym (sym c.in-None.is ∙ c.number_of.ensures))
