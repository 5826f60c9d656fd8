use Rattle.strc_parse_tree.proofs.Views.{member_view_helper}
use Rattle.strc_parse_tree.proofs.node.helper_of.Goals as goal

-- src/node.rt:207:1
pub returns-clause-view : goal.returns-clause-view
returns-clause-view c = member_view_helper c.args.kind c.args.name c.args.parameters c.args.block
