use Rattle.std.proofs.Common.{rules, ◌≡◌, ◌<◌, length, vec_len, sym, ap, ◌∙◌, arith}
use Rattle.strc_work_meaning.specs.Firing.{cells_named}
use Rattle.strc_elab_statements.proofs.Slots.{number_below, cells_at, no_cells, row_read}
use Rattle.strc_elab_statements.proofs.variables.Variables.size_of.Goals as goal

pub index-requires : goal.index-requires
index-requires c =
    let below : c.in-Some.slot < length c.self.inside.names =
    number_below c.self.inside.names c.args.name.now c.in-Some.slot (sym c.in-Some.ensures) in
    omega (arith, c.self.invariant)

pub returns-in-Some : goal.returns-in-Some
returns-in-Some c =
    let inside = c.self.inside in
    let slot = c.in-Some.slot in
    let name = c.args.name.now in
    let below : slot < length inside.cells.items =
    omega (
      arith,
      c.self.invariant,
      number_below inside.names name slot (sym c.in-Some.ensures),
    ) in
    let long : vec_len c.index.result.now ≡ length c.index.result.now.items = search rules in
    c.len.ensures ∙ long
    ∙ ap (λ row. length row.items) c.index.ensures
    ∙ ap length (sym (row_read inside.cells.items slot c.index.result.now below))
    ∙ ap length (sym (cells_at inside.names inside.cells.items name slot (sym c.in-Some.ensures)))
    ∙ ap (λ b. length (cells_named b.variables name)) c.self.view_is

pub returns-in-None : goal.returns-in-None
returns-in-None c =
    let inside = c.self.inside in
    ap length (sym (no_cells inside.names inside.cells.items c.args.name.now
    (sym c.in-None.ensures)))
    ∙ ap (λ b. length (cells_named b.variables c.args.name.now)) c.self.view_is
