use Rattle.strc_parse_tree.proofs.Views.{child_view_composite}
use Rattle.strc_parse_tree.proofs.node.composite_of.Goals as goal

pub returns-clause-view : goal.returns-clause-view
returns-clause-view c = child_view_composite c.args.types c.args.kind c.args.block
