use Rattle.std.proofs.Common.{◌≡◌, rules, Some, ℕ}
use Rattle.std.specs.Option.{option_map}
use Rattle.strc_cli_messages.proofs.Pairing.{nodes_said, nodes_tell}
use Rattle.strc_cli_messages.specs.Told.{IsPair}
use Rattle.strc_cli_messages.proofs.pairs.two_nodes.Goals as goal

pub returns : goal.returns
returns c =
    let known = c.args.known in
    let refused = c.args.refusal.now in
    let order = c.in-Some.order.now in
    let pair : ℕ × ℕ = (c.in-Some-2.first, c.in-Some-2.second) in
    let is : option_map (λ n. n.now) known.nodes ≡ Some order = search rules in
    let is_pair : IsPair refused order (Some pair) = search rules in
    nodes_tell known.source.tokens.now (option_map (λ m. m.now) known.source.main)
    (option_map (λ p. p.now) known.program) (option_map (λ n. n.now) known.nodes) order refused
    pair c.statement_of-place.result c.add-2.new.self _ is is_pair c.statement_of-place.ensures
    (nodes_said known.source.text.now order refused pair _ _ _ _ _ _ _ _ _ _ _ _ _ _
    c.joining_words.ensures c.new-message.ensures c.in_ok-push_name.ensures c.in_ok-add.ensures
    c.in_ok-push_name-2.ensures c.in_ok-push_place.ensures c.in_ok-hint.ensures
    c.in_ok-add-2.ensures c.about.ensures)
    c.about.ensures
