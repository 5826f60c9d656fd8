use Rattle.strc_parse_tree.proofs.Views.{child_view_filter}
use Rattle.strc_parse_tree.proofs.node.filter_of.Goals as goal

pub returns-clause-view : goal.returns-clause-view
returns-clause-view c = child_view_filter c.args.types c.args.members
