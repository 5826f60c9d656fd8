use Rattle.std.proofs.Common.{◌-◌, length, drop, ap, ◌∙◌, subst, sym, List, ℕ}
use Rattle.strc_work_lowering.specs.Layouts.{with_cells, AreLaid}
use Rattle.strc_work_lowering.specs.declared.layout.Place.{Place}
use Rattle.strc_work_lowering.proofs.Layouts.{AreLaid-drop, drop-with_cells, length-with_cells}
use Rattle.strc_work_lowering.proofs.layout.Layout.leave.Goals as goal

pub invariant_of-self : goal.invariant_of-self
invariant_of-self c =
    let variables = c.self.inside.variables in
    subst (λ (l : List (List ℕ × Place)). AreLaid l) (sym c.leave.ensures)
    (AreLaid-drop (length variables - c.args.start) variables c.self.invariant)

pub returns : goal.returns
returns c =
    let variables = c.self.inside.variables in
    ap (λ (l : List (List ℕ × Place)). with_cells l) c.leave.ensures
    ∙ drop-with_cells (length variables - c.args.start) variables
    ∙ ap (λ n. drop (n - c.args.start) (with_cells variables)) (sym (length-with_cells variables))
    ∙ ap (λ l. drop (length l - c.args.start) l) c.self.view_is
