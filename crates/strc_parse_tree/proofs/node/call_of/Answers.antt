use Rattle.strc_parse_tree.proofs.Calls.{expr_view_call}
use Rattle.strc_parse_tree.proofs.node.call_of.Goals as goal

-- src/node.rt:49:1
pub returns : goal.returns
returns c = expr_view_call c.args.name c.args.arguments
