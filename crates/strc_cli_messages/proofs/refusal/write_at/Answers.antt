use Rattle.std.specs.Option.{option_map}
use Rattle.strc_cli_messages.proofs.Telling.{two_told}
use Rattle.strc_cli_messages.proofs.refusal.write_at.Goals as goal

pub returns-in-Some : goal.returns-in-Some
returns-in-Some c =
    two_told c.args.known.source.text.now c.args.known.source.tokens.now
    (option_map (λ m. m.now) c.args.known.source.main)
    (option_map (λ p. p.now) c.args.known.program) (option_map (λ g. g.now) c.args.known.graph)
    c.args.site (option_map (λ n. n.now) c.args.known.nodes) c.args.refusal.now
    c.in-Some.message (rw c.in-Some.is at c.in_ok-message.ensures)
