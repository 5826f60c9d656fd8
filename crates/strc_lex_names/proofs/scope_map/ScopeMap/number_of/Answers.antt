use Rattle.std.proofs.Common.{reverse, sym, ap, ◌∙◌}
use Rattle.std.proofs.lemmas.List.{length-reverse}
use Rattle.strc_lex_names.specs.Names.{number_named, plain_names}
use Rattle.strc_lex_names.proofs.ScopeMaps.{plain-with_values}
use Rattle.strc_lex_names.proofs.scope_map.ScopeMap.number_of.Goals as goal

pub returns : goal.returns
returns g c =
    let inside = c.self.inside in
    let values = inside.values.items in
    let plain = plain-with_values inside.names (reverse values)
    (length-reverse values ∙ c.self.invariant) in
    c.number_of.ensures
    ∙ ap (λ l. number_named l c.args.name.now) (sym plain)
    ∙ ap (λ l. number_named (plain_names l) c.args.name.now) c.self.view_is
