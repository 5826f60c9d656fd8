use Rattle.std.proofs.Common.{◌≡◌, ◌<◌, ◌-◌, suc, length, reverse, Some, sym, ap, ◌∙◌, arith}
use Rattle.std.specs.Prelude.{slice_get}
use Rattle.std.proofs.lemmas.List.{length-reverse}
use Rattle.strc_lex_names.specs.Scopes.{names_in, names_of}
use Rattle.strc_lex_names.proofs.Scopes.{length-names_in}
use Rattle.strc_lex_names.proofs.Numbered.{numbered, numbered_name}
use Rattle.strc_lex_names.proofs.scope.Scope.name_at.Goals as goal

pub index-requires : goal.index-requires
unfolding names_of
index-requires c =
    let all = c.self.inside.declared.items in
    let count : length c.args.self.now ≡ length all =
    sym (ap length c.self.view_is) ∙ length-names_in (reverse all) ∙ length-reverse all in
    omega (arith, count, c.requires)

pub returns : goal.returns
unfolding names_of
returns c =
    let all = c.self.inside.declared.items in
    let one = c.index.result.now in
    let number = c.args.number in
    let count : length c.args.self.now ≡ length all =
    sym (ap length c.self.view_is) ∙ length-names_in (reverse all) ∙ length-reverse all in
    let below : number < length all = omega (arith, count, c.requires) in
    sym (ap (λ l. slice_get l (length c.args.self.now - suc number)) c.self.view_is)
    ∙ ap (λ n. slice_get (names_in (reverse all)) (n - suc number)) count
    ∙ numbered_name (reverse all) (length all - suc number) one
    (numbered all number one below c.index.ensures)
    ∙ ap Some (sym c.as_slice.ensures.value)
