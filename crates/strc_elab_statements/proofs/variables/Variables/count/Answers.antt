use Rattle.std.proofs.Common.{length, sym, ap, ◌∙◌}
use Rattle.strc_elab_statements.proofs.Slots.{length_with_cells}
use Rattle.strc_elab_statements.proofs.variables.Variables.count.Goals as goal

pub returns-clause-variables : goal.returns-clause-variables
returns-clause-variables c =
    c.len.ensures ∙ sym (length_with_cells c.self.inside.names c.self.inside.cells.items)
    ∙ ap (λ b. length b.variables) c.self.view_is
