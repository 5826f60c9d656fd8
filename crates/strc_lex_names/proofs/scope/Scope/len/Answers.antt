use Rattle.std.proofs.Common.{◌≡◌, length, reverse, sym, ap, ◌∙◌, arith}
use Rattle.std.proofs.lemmas.List.{length-reverse}
use Rattle.strc_lex_names.specs.Scopes.{names_of}
use Rattle.strc_lex_names.proofs.Scopes.{length-names_in}
use Rattle.strc_lex_names.proofs.scope.Scope.len.Goals as goal

pub returns : goal.returns
unfolding names_of
returns c =
    let all = c.self.inside.declared.items in
    let count : c.len.result ≡ length all = omega arith in
    count ∙ sym (length-reverse all) ∙ sym (length-names_in (reverse all))
    ∙ ap length c.self.view_is
