use Rattle.std.proofs.Common.{Some, ap}
use Rattle.std.specs.Option.{option_map}
use Rattle.strc_cli_places.proofs.Large.{end_marked, channel_marked}
use Rattle.strc_cli_places.proofs.places.place_of_large.Goals as goal

pub returns-in-Some-place_of_node : goal.returns-in-Some-place_of_node
returns-in-Some-place_of_node c =
    let known = c.args.known in
    let lookup = c.in-Some-get.ensures.lookup in
    end_marked known.source.text.now known.source.tokens.now
    (option_map (λ m. m.now) known.source.main) (option_map (λ p. p.now) known.program)
    (option_map (λ n. n.now) known.nodes) (option_map (λ g. g.now) known.graph)
    c.in-Some.graph.now (ap (option_map (λ g. g.now)) c.in-Some.is) c.channels.result.now
    c.channels.ensures.channels c.in-Some-2.number c.in-Some-get.channel.now lookup.3.0 lookup.1
    c.heavier.result c.heavier.ensures (Some c.in-Some-place_of_node.place)
    c.in-Some-place_of_node.ensures

pub returns-in-None : goal.returns-in-None
returns-in-None c =
    let known = c.args.known in
    let lookup = c.in-Some-get.ensures.lookup in
    channel_marked known.source.text.now known.source.tokens.now
    (option_map (λ m. m.now) known.source.main) (option_map (λ p. p.now) known.program)
    (option_map (λ n. n.now) known.nodes) (option_map (λ g. g.now) known.graph)
    c.in-Some.graph.now (ap (option_map (λ g. g.now)) c.in-Some.is) c.channels.result.now
    c.channels.ensures.channels c.in-Some-2.number c.in-Some-get.channel.now lookup.3.0 lookup.1
    c.heavier.result c.heavier.ensures c.place_of_channel.result c.in-None.ensures
    c.place_of_channel.ensures
