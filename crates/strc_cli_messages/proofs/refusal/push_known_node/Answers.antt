use Rattle.std.proofs.Common.{◌≡◌, rules}
use Rattle.std.specs.Option.{option_map}
use Rattle.strc_cli_source.specs.NodeWords.{nodes_in}
use Rattle.strc_cli_messages.proofs.Wording.{node_known}
use Rattle.strc_cli_messages.proofs.refusal.push_known_node.Goals as goal

pub returns-in_ok-push_node-in-Some : goal.returns-in_ok-push_node-in-Some
returns-in_ok-push_node-in-Some c =
    let same : c.in-Some.graph.now.nodes
    ≡ nodes_in (option_map (λ g. g.now) c.args.known.graph) = search rules in
    node_known (option_map (λ g. g.now) c.args.known.graph) c.in-Some.graph.now.nodes _ _ _ _ same
    c.in_ok-push_node-in-Some.ensures
