use Rattle.std.proofs.Common.{[], ◌∷◌, ◌++◌, ap, ◌∙◌}
use Rattle.strc_work_meaning.specs.Typing.{TypedNames}
use Rattle.strc_elab_statements.specs.Bindings.{Bindings, with_cells}
use Rattle.strc_elab_statements.proofs.Slots.{bound, one_declared, kept_declared}
use Rattle.strc_elab_statements.proofs.variables.Variables.declare.Goals as goal

pub returns : goal.returns
returns c =
    let names = c.self.inside.names in
    let items = c.self.inside.cells.items in
    let name = c.args.name.now in
    let row = c.args.cells in
    let more : TypedNames = record { 0 = name; 1 = c.args.kind } ∷ names in
    ap (λ n. bound n (with_cells n c.push.new.self.items)) c.in_ok-declare.ensures.ok
    ∙ ap (λ l. bound more (with_cells more l))
    (c.in_ok-push.ensures.items ∙ ap (λ l. l ++ row ∷ []) c.in_ok-reserve.ensures.items)
    ∙ ap (λ r. bound more (record { 0 = name; 1 = r } ∷ with_cells names (items ++ row ∷ [])))
    (one_declared names items row c.self.invariant)
    ∙ ap (λ l. bound more (record { 0 = name; 1 = row.items } ∷ l))
    (kept_declared names items row c.self.invariant)
    ∙ ap (λ (b : Bindings). bound (record { 0 = name; 1 = c.args.kind } ∷ b.names)
    (record { 0 = name; 1 = row.items } ∷ b.variables)) c.self.view_is
