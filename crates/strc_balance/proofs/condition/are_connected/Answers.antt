use Rattle.std.proofs.Common.{All, ap, ◌∙◌, sym, subst}
use Rattle.strc_balance.specs.Balance.{HasRates, spread}
use Rattle.strc_balance.specs.Conditions.{AreKnown}
use Rattle.strc_balance.specs.Frontiers.{IsBounded}
use Rattle.strc_balance.proofs.Connections.{unit-rates, unit-bounds, known_connected}
use Rattle.strc_balance.proofs.Connections.{connected_known}
use Rattle.strc_balance.proofs.condition.are_connected.Goals as goal

pub spread-requires-clause-rates : goal.spread-requires-clause-rates
spread-requires-clause-rates c =
    subst (All (HasRates c.args.size)) (sym (c.deref.ensures.value ∙ c.in_ok-channels.ensures))
    (unit-rates c.args.size c.args.equations.now c.requires)

pub spread-requires-clause-bounds : goal.spread-requires-clause-bounds
spread-requires-clause-bounds c =
    subst (All IsBounded) (sym (c.deref.ensures.value ∙ c.in_ok-channels.ensures))
    (unit-bounds c.args.equations.now)

pub returns-in-Ok : goal.returns-in-Ok
returns-in-Ok c =
    let fractions = c.deref-in-Ok.ensures.value ∙ c.in-Ok.ensures.found
    ∙ ap (spread c.args.size) (c.deref.ensures.value ∙ c.in_ok-channels.ensures) in (
      λ known. known_connected c.args.size c.args.equations.now
          (subst AreKnown fractions (c.are_known.ensures.0 known)),
      λ connected. c.are_known.ensures.1
          (subst AreKnown (sym fractions)
          (connected_known c.args.size c.args.equations.now c.requires connected)),
    )
