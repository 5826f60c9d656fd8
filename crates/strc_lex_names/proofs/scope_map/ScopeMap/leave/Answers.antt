use Rattle.std.proofs.Common.{◌-◌, length, drop, reverse, ap, ◌∙◌}
use Rattle.strc_lex_names.specs.Names.{with_values}
use Rattle.strc_lex_names.proofs.ScopeMaps.{leave-with_values}
use Rattle.strc_lex_names.proofs.scope_map.ScopeMap.leave.Goals as goal

pub returns : goal.returns
returns g c =
    let inside = c.self.inside in
    let start = c.args.start in
    ap (λ l. with_values l (reverse c.truncate.new.self.items)) c.leave.ensures
    ∙ ap (λ l. with_values (drop (length inside.names - start) inside.names) (reverse l))
    c.truncate.ensures.items
    ∙ leave-with_values inside.names inside.values.items start c.self.invariant
    ∙ ap (λ l. drop (length l - start) l) c.self.view_is
