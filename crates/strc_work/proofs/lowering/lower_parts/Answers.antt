use Rattle.strc_work_meaning.specs.Filters.{filter_of, filter_parts}
use Rattle.strc_work_rules.proofs.Resolving.{resolved_closed}
use Rattle.strc_work.proofs.lowering.lower_parts.Goals as goal

pub emit_filter-requires : goal.emit_filter-requires
emit_filter-requires c = resolved_closed c.args.constants.now
    (filter_parts c.args.input c.args.output c.args.members.now)
    (filter_of c.in_ok-tree.tree) c.in_ok-tree.ensures.verdict
