use Rattle.std.proofs.Common.{[], ◌∷◌, ◌++◌, ap, ◌∙◌, arith}
use Rattle.std.specs.Option.{option_map}
use Rattle.strc_cli_places.specs.Streams.{Itself}
use Rattle.strc_cli_places.proofs.Recurring.{reached_more}
use Rattle.strc_cli_places.proofs.recursion.leads_to.Goals as goal

pub loop-number-init : goal.loop-number-init
loop-number-init c =
    reached_more (option_map (λ p. p.now) c.args.known.program) c.args.name.now []
    c.push.new.self.items c.args.name
    (c.in_ok-push.ensures.items ∙ ap (λ l. l ++ (c.args.name ∷ [])) c.new-reached.ensures.items)
    (λ k d within. absurd (omega arith)) Itself
