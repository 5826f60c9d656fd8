use Rattle.std.proofs.Common.{◌≡◌, ◌∙◌, ap, rules, Some}
use Rattle.strc_lex_names.specs.declared.place.Span.{Span}
use Rattle.strc_work_rules.specs.declared.site.Mismatch.TheVariants as mismatch
use Rattle.strc_cli_diagnostics.specs.Messages.{about}
use Rattle.strc_cli_diagnostics.specs.declared.message.MessageKind.TheVariants as kind
use Rattle.strc_cli_messages.proofs.Pairing.{again_told}
use Rattle.strc_cli_messages.proofs.pairs.two_of_a_name.Goals as goal

pub returns-in_ok-push_place-in-Some-StreamTwice-Some
    : goal.returns-in_ok-push_place-in-Some-StreamTwice-Some
returns-in_ok-push_place-in-Some-StreamTwice-Some c =
    let site = c.args.site in
    let first = c.in-Some-StreamTwice-Some.first in
    let second = c.in-Some-StreamTwice-Some.second in
    let twice : site.mismatch ≡ Some (mismatch.StreamTwice first) = search rules in
    let again : site.place ≡ Some second = search rules in
    again_told c.args.known.source.text.now c.args.known.source.tokens.now site first second
    _ _ _ _ _ _ twice again c.bytes.ensures c.new-message.ensures
    c.in_ok-quoted-in-Some-StreamTwice-Some.ensures c.in_ok-add-in-Some-StreamTwice-Some.ensures
    c.in_ok-push_place-in-Some-StreamTwice-Some.ensures
    (c.about.ensures
    ∙ ap (λ (place : Span). about kind.Plain (Some place) c.push_place.new.message)
    c.heading.ensures)
