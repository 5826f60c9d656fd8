-- Totals as contracts speak of them.
use Rattle.strc_elab.specs.Elaboration as spec
use Rattle.strc_elab.specs.declared.task.Totals.{Totals}

abbrev pub totals_view : Totals → spec.Totals
totals_view totals = record { turns = totals.turns; filters = totals.filters }
