use Rattle.std.proofs.Common.{length, sym, ap, ◌∙◌}
use Rattle.strc_lex_names.proofs.ScopeMaps.{count-with_values}
use Rattle.strc_lex_names.proofs.scope_map.ScopeMap.len.Goals as goal

pub returns : goal.returns
returns g c =
    let inside = c.self.inside in
    c.len.ensures ∙ sym (count-with_values inside.names inside.values.items c.self.invariant)
    ∙ ap length c.self.view_is
