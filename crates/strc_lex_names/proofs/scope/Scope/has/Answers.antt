use Rattle.std.proofs.Common.{◌-◌, ◌≤◌, length, ap, ◌∙◌, arith}
use Rattle.std.proofs.lemmas.List.{take_all}
use Rattle.strc_lex_names.specs.Names.{has_name}
use Rattle.strc_lex_names.proofs.scope.Scope.has.Goals as goal

pub returns : goal.returns
returns c =
    let names = c.args.self.now in
    let all : length names ≤ length names - 0 = omega arith in
    c.has_since.ensures ∙ ap (λ l. has_name l c.args.name.now)
    (take_all (length names - 0) names all)
