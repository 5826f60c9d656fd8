use Rattle.std.specs.Option.{option_map}
use Rattle.strc_cli_messages.proofs.Telling.{alone_told}
use Rattle.strc_cli_messages.proofs.refusal.alone_message.Goals as goal

pub returns : goal.returns
returns c =
    let known = c.args.known in
    alone_told known.source.text.now known.source.tokens.now
    (option_map (λ m. m.now) known.source.main) (option_map (λ p. p.now) known.program)
    (option_map (λ g. g.now) known.graph) c.args.site (option_map (λ n. n.now) known.nodes)
    c.args.refusal.now c.in_ok-place.place _ _ _ _ c.push_hint.new.message _ c.in_ok-place.ensures
    c.new-message.ensures c.in_ok-push_sentence.ensures c.can_depend_on_arguments.ensures
    c.in_ok-push_within.ensures c.in_ok-push_hint.ensures c.about.ensures
