use Rattle.std.proofs.Common.{◌≡◌, ◌-◌, ◌∷◌, ℕ, List, length, drop, ap, ◌∙◌}
use Rattle.strc_work_meaning.specs.Scoping.{Scope, with_parameters, helper_scope, answer_name}
use Rattle.strc_work_lowering.proofs.HelperScopes.{fields_left}
use Rattle.strc_work_lowering.proofs.helper_code.emit_helper.Goals as goal

pub returns-clause-names : goal.returns-clause-names
returns-clause-names c =
    let fields : Scope = c.args.names.now in
    let empty : c.new-answer.result ≡ answer_name = c.new-answer.ensures ∙ c.new.ensures.items in
    let names : c.emit_block.new.names ≡ helper_scope fields c.args.parameters.now =
    c.in_ok-emit_block.ensures.names ∙ c.in_ok-declare_parameters.ensures
    ∙ ap (λ (n : Scope). with_parameters n c.args.parameters.now) c.in_ok-declare.ensures
    ∙ ap (λ (a : List ℕ). with_parameters (record { 0 = a; 1 = 2 } ∷ fields)
    c.args.parameters.now) empty in
    c.leave.ensures
    ∙ ap (λ k. drop (length c.emit_block.new.names - k) c.emit_block.new.names) c.len-start.ensures
    ∙ ap (λ (n : Scope). drop (length n - length fields) n) names
    ∙ fields_left fields c.args.parameters.now
