use Rattle.std.proofs.Common.{◌<◌, length, reverse, sym, ap, ◌∙◌, arith}
use Rattle.strc_lex_names.specs.Names.{with_value}
use Rattle.strc_lex_names.proofs.Scopes.{number_named-below}
use Rattle.strc_lex_names.proofs.ScopeMaps.{with_value-number, with_value-none}
use Rattle.strc_lex_names.proofs.scope_map.ScopeMap.set.Goals as goal

pub index_mut-requires : goal.index_mut-requires
index_mut-requires g c =
    let inside = c.self.inside in
    let below : c.in-Some.number < length inside.names =
    number_named-below inside.names c.args.name.now c.in-Some.number (sym c.in-Some.ensures) in
    omega (arith, c.self.invariant)

pub returns-in-Some : goal.returns-in-Some
returns-in-Some g c =
    let inside = c.self.inside in
    with_value-number inside.names inside.values.items c.args.name.now c.in-Some.number c.args.value
    c.self.invariant (sym c.in-Some.ensures)
    ∙ ap (λ l. with_value l c.args.name.now c.args.value) c.self.view_is

pub returns-in-None : goal.returns-in-None
returns-in-None g c =
    let inside = c.self.inside in
    let same = with_value-none inside.names (reverse inside.values.items) c.args.name.now
    c.args.value (sym c.in-None.ensures) in
    sym c.self.view_is ∙ same ∙ ap (λ l. with_value l c.args.name.now c.args.value) c.self.view_is
