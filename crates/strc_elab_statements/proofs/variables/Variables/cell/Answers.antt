use Rattle.std.proofs.Common.{◌≡◌, ◌<◌, length, pos, slice_index_or, sym, ap, ◌∙◌, arith, to_z}
use Rattle.std.proofs.Common.{of_z, w32, to_z-of_z}
use Rattle.strc_work_meaning.specs.Firing.{cells_named}
use Rattle.strc_elab_statements.proofs.Slots.{number_below, cells_at, no_cells, row_read}
use Rattle.strc_elab_statements.proofs.variables.Variables.cell.Goals as goal

pub index-requires : goal.index-requires
index-requires c =
    let below : c.in-Some.slot < length c.self.inside.names =
    number_below c.self.inside.names c.args.name.now c.in-Some.slot (sym c.in-Some.ensures) in
    omega (arith, c.self.invariant)

pub returns-in-Some : goal.returns-in-Some
returns-in-Some c =
    let inside = c.self.inside in
    let slot = c.in-Some.slot in
    let name = c.args.name.now in
    let below : slot < length inside.cells.items =
    omega (
      arith,
      c.self.invariant,
      number_below inside.names name slot (sym c.in-Some.ensures),
    ) in
    let same : to_z w32 (of_z w32 c.cell_in.result) ≡ c.cell_in.result = grind (arith, to_z-of_z) in
    same
    ∙ c.cell_in.ensures
    ∙ ap (λ l. slice_index_or l c.args.place (pos 0)) c.deref.ensures.value
    ∙ ap (λ row. slice_index_or row.items c.args.place (pos 0)) c.index.ensures
    ∙ ap (λ l. slice_index_or l c.args.place (pos 0))
    (sym (row_read inside.cells.items slot c.index.result.now below))
    ∙ ap (λ l. slice_index_or l c.args.place (pos 0))
    (sym (cells_at inside.names inside.cells.items name slot (sym c.in-Some.ensures)))
    ∙ ap (λ b. slice_index_or (cells_named b.variables name) c.args.place (pos 0)) c.self.view_is

pub returns-in-None : goal.returns-in-None
returns-in-None c =
    let inside = c.self.inside in
    ap (λ l. slice_index_or l c.args.place (pos 0))
    (sym (no_cells inside.names inside.cells.items c.args.name.now (sym c.in-None.ensures)))
    ∙ ap (λ b. slice_index_or (cells_named b.variables c.args.name.now) c.args.place (pos 0))
    c.self.view_is
