use Rattle.std.proofs.Common.{length, sym, ap, ◌∙◌}
use Rattle.strc_work_lowering.proofs.Layouts.{length-with_cells}
use Rattle.strc_work_lowering.proofs.layout.Layout.len.Goals as goal

pub returns : goal.returns
returns c = c.len.ensures ∙ sym (length-with_cells c.self.inside.variables)
    ∙ ap length c.self.view_is
