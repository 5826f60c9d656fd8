use Rattle.std.proofs.Common.{◌-◌, length, drop, ap, ◌∙◌}
use Rattle.strc_elab_statements.specs.Bindings.{Bindings, with_cells}
use Rattle.strc_elab_statements.proofs.Slots.{bound, left_with_cells}
use Rattle.strc_elab_statements.proofs.variables.Variables.leave.Goals as goal

pub returns : goal.returns
returns c =
    let names = c.self.inside.names in
    let cells = c.self.inside.cells.items in
    let start = c.args.start in
    let left = drop (length names - start) names in
    ap (λ n. bound n (with_cells n c.truncate.new.self.items)) c.leave.ensures
    ∙ ap (λ l. bound left (with_cells left l)) c.truncate.ensures.items
    ∙ ap (λ v. bound left v) (left_with_cells names cells start)
    ∙ ap (λ (b : Bindings). bound (drop (length b.names - start) b.names)
    (drop (length b.variables - start) b.variables)) c.self.view_is
