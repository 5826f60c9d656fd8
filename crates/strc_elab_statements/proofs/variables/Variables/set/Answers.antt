use Rattle.std.proofs.Common.{◌≡◌, ◌<◌, length, slice_set, sym, ap, ◌∙◌, arith, to_z, of_z, w32}
use Rattle.std.proofs.Common.{to_z-of_z}
use Rattle.strc_work_meaning.specs.Firing.{with_cell}
use Rattle.strc_elab_statements.specs.Bindings.{Bindings, row_at}
use Rattle.strc_elab_statements.proofs.Slots.{bound, number_below, put_at, not_put, row_read}
use Rattle.strc_elab_statements.proofs.variables.Variables.set.Goals as goal

pub index_mut-requires : goal.index_mut-requires
index_mut-requires c =
    let below : c.in-Some.slot < length c.self.inside.names =
    number_below c.self.inside.names c.args.name.now c.in-Some.slot (sym c.in-Some.ensures) in
    omega (arith, c.self.invariant)

pub returns-in-Some : goal.returns-in-Some
returns-in-Some c =
    let inside = c.self.inside in
    let names = inside.names in
    let items = inside.cells.items in
    let slot = c.in-Some.slot in
    let name = c.args.name.now in
    let place = c.args.place in
    let value = c.args.value in
    let row = c.put_in.new.row in
    let below : slot < length items = omega
    (arith, c.self.invariant, number_below names name slot (sym c.in-Some.ensures)) in
    let same : to_z w32 (of_z w32 value) ≡ value = grind (arith, to_z-of_z) in
    let row_is : row.items ≡ slice_set (row_at items slot) place value =
    c.put_in.ensures
    ∙ ap (λ v. slice_set c.index_mut.result.now.items place v) same
    ∙ ap (λ r. slice_set r.items place value) c.index_mut.ensures.value
    ∙ ap (λ l. slice_set l place value) (sym (row_read items slot c.index_mut.result.now below))
    in
    ap (bound names) (sym (put_at names items name slot place value row
    (sym c.in-Some.ensures) below row_is))
    ∙ ap (λ (b : Bindings). bound b.names (with_cell b.variables name place value)) c.self.view_is

pub returns-in-None : goal.returns-in-None
returns-in-None c =
    let inside = c.self.inside in
    sym c.self.view_is
    ∙ ap (bound inside.names) (sym (not_put inside.names inside.cells.items c.args.name.now
    c.args.place c.args.value (sym c.in-None.ensures)))
    ∙ ap (λ (b : Bindings). bound b.names
    (with_cell b.variables c.args.name.now c.args.place c.args.value)) c.self.view_is
