use Rattle.std.proofs.Common.{◌≡◌, ◌<◌, ◌-◌, suc, length, reverse, sym, ap, ◌∙◌, arith}
use Rattle.std.specs.Prelude.{slice_get}
use Rattle.strc_lex_names.specs.Names.{with_values}
use Rattle.strc_lex_names.proofs.ScopeMaps.{count-with_values, numbered_value}
use Rattle.strc_lex_names.proofs.Numbered.{numbered}
use Rattle.strc_lex_names.proofs.scope_map.ScopeMap.at.Goals as goal

pub name_at-requires : goal.name_at-requires
name_at-requires g c =
    let inside = c.self.inside in
    let count : length c.args.self.now ≡ length inside.names =
    sym (ap length c.self.view_is)
    ∙ count-with_values inside.names inside.values.items c.self.invariant in
    omega (arith, count, c.requires)

pub index-requires : goal.index-requires
index-requires g c =
    let inside = c.self.inside in
    let count : length c.args.self.now ≡ length inside.names =
    sym (ap length c.self.view_is)
    ∙ count-with_values inside.names inside.values.items c.self.invariant in
    omega (arith, count, c.requires, c.self.invariant)

pub returns : goal.returns
returns g c =
    let inside = c.self.inside in
    let values = inside.values.items in
    let number = c.args.number in
    let count : length c.args.self.now ≡ length inside.names =
    sym (ap length c.self.view_is) ∙ count-with_values inside.names values c.self.invariant in
    let below : number < length values = omega (arith, count, c.requires, c.self.invariant) in
    let place : length inside.names - suc number ≡ length values - suc number =
    ap (λ n. n - suc number) (sym c.self.invariant) in
    sym (ap (λ l. slice_get l (length c.args.self.now - suc number)) c.self.view_is)
    ∙ ap (λ n. slice_get (with_values inside.names (reverse values)) (n - suc number)) count
    ∙ numbered_value inside.names (reverse values) (length inside.names - suc number)
    c.name_at.result.now c.index.result.now c.name_at.ensures
    (ap (λ k. slice_get (reverse values) k) place
    ∙ numbered values number c.index.result.now below c.index.ensures)
