use Rattle.std.proofs.Common.{◌<◌, length, reverse, sym, ap, ◌∙◌, arith}
use Rattle.std.proofs.lemmas.List.{length-reverse}
use Rattle.strc_lex_names.specs.Names.{value_named}
use Rattle.strc_lex_names.proofs.Scopes.{number_named-below}
use Rattle.strc_lex_names.proofs.ScopeMaps.{value_named-number, value_named-none}
use Rattle.strc_lex_names.proofs.scope_map.ScopeMap.value_of.Goals as goal

pub index-requires : goal.index-requires
index-requires g c =
    let inside = c.self.inside in
    let below : c.in-Some.number < length inside.names =
    number_named-below inside.names c.args.name.now c.in-Some.number (sym c.in-Some.ensures) in
    omega (arith, c.self.invariant)

pub returns-in-Some : goal.returns-in-Some
returns-in-Some g c =
    let inside = c.self.inside in
    value_named-number inside.names inside.values.items c.args.name.now c.in-Some.number
    c.index.result.now c.self.invariant (sym c.in-Some.ensures) c.index.ensures
    ∙ ap (λ l. value_named l c.args.name.now) c.self.view_is

pub returns-in-None : goal.returns-in-None
returns-in-None g c =
    let inside = c.self.inside in
    let values = inside.values.items in
    value_named-none inside.names (reverse values) c.args.name.now
    (length-reverse values ∙ c.self.invariant) (sym c.in-None.ensures)
    ∙ ap (λ l. value_named l c.args.name.now) c.self.view_is
