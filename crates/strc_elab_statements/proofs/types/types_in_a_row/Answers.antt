use Rattle.strc_elab_statements.proofs.TypeRows.{row_types-ends}
use Rattle.strc_elab_statements.proofs.types.types_in_a_row.Goals as goal

pub returns-in-len2-up : goal.returns-in-len2-up
returns-in-len2-up c = row_types-ends c.args.types.now _ c.in-len2-up.len_at_least
