use Rattle.std.proofs.Common.{◌≡◌, rules, Some}
use Rattle.std.specs.Option.{option_map}
use Rattle.strc_cli_places.specs.Parts.{declarations_of}
use Rattle.strc_cli_messages.proofs.Pairing.{mains_said, mains_tell}
use Rattle.strc_cli_messages.specs.Told.{second_main}
use Rattle.strc_cli_messages.proofs.pairs.two_mains.Goals as goal

pub returns : goal.returns
returns c =
    let text = c.args.known.source.text.now in
    let second = c.in-Some.second.now in
    let marked = c.place_of_name-place.result in
    let found : Some second
    ≡ second_main (declarations_of (option_map (λ p. p.now) c.args.known.program)) =
    search rules in
    mains_tell text c.args.known.source.tokens.now _ second marked c.add-2.new.self _ found
    c.place_of_name-place.ensures
    (mains_said text second _ _ _ _ marked _ _ _ _ _ _ _ _ c.as_bytes.ensures
    c.new-message.ensures c.in_ok-quoted.ensures c.in_ok-add.ensures c.in_ok-quoted-2.ensures
    c.in_ok-push_place.ensures c.in_ok-hint.ensures c.in_ok-add-2.ensures c.about.ensures)
    c.about.ensures
