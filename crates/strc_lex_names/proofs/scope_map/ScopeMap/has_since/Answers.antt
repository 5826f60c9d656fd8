use Rattle.std.proofs.Common.{◌≡◌, ◌-◌, length, take, reverse, sym, ap, ◌∙◌}
use Rattle.std.proofs.lemmas.List.{length-reverse}
use Rattle.strc_lex_names.specs.Names.{has_name, plain_names, with_values}
use Rattle.strc_lex_names.proofs.ScopeMaps.{length-with_values, plain-with_values}
use Rattle.strc_lex_names.proofs.scope_map.ScopeMap.has_since.Goals as goal

pub returns : goal.returns
returns g c =
    let inside = c.self.inside in
    let values = reverse inside.values.items in
    let start = c.args.start in
    let name = c.args.name.now in
    let same : length values ≡ length inside.names =
    length-reverse inside.values.items ∙ c.self.invariant in
    c.has_since.ensures
    ∙ ap (λ n. has_name (take (n - start) inside.names) name)
    (sym (length-with_values inside.names values same))
    ∙ ap (λ l. has_name (take (length (with_values inside.names values) - start) l) name)
    (sym (plain-with_values inside.names values same))
    ∙ ap (λ l. has_name (take (length l - start) (plain_names l)) name) c.self.view_is
