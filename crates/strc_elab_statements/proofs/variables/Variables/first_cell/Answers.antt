use Rattle.std.proofs.Common.{◌≡◌, ◌<◌, length, pos, slice_index_or, sym, ap, ◌∙◌, arith, to_z}
use Rattle.std.proofs.Common.{of_z, w32, to_z-of_z}
use Rattle.strc_elab_statements.specs.Bindings.{Bindings, cells_of}
use Rattle.strc_elab_statements.proofs.Slots.{row_read}
use Rattle.strc_elab_statements.proofs.Surroundings.{cells_of_row}
use Rattle.strc_elab_statements.proofs.variables.Variables.first_cell.Goals as goal

pub returns : goal.returns
returns c =
    let inside = c.self.inside in
    let number = c.args.number in
    let count : length c.args.self.now.names ≡ length inside.names =
    sym (ap (λ (b : Bindings). length b.names) c.self.view_is) in
    let within : number < length inside.names = omega (arith, count, c.requires) in
    let below : number < length inside.cells.items = omega (arith, c.self.invariant) in
    let same : to_z w32 (of_z w32 c.cell_in.result) ≡ c.cell_in.result = grind (arith, to_z-of_z) in
    same
    ∙ c.cell_in.ensures
    ∙ ap (λ l. slice_index_or l 0 (pos 0)) c.deref.ensures.value
    ∙ ap (λ row. slice_index_or row.items 0 (pos 0)) c.index.ensures
    ∙ ap (λ l. slice_index_or l 0 (pos 0))
    (sym (row_read inside.cells.items number c.index.result.now below))
    ∙ ap (λ l. slice_index_or l 0 (pos 0))
    (sym (cells_of_row inside.names inside.cells.items number within))
    ∙ ap (λ (b : Bindings). slice_index_or (cells_of b.variables number) 0 (pos 0)) c.self.view_is
