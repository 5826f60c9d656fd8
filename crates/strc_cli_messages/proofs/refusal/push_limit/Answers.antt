use Rattle.std.proofs.Common.{◌≡◌, rules}
use Rattle.strc_lex.specs.KeywordTexts.{keyword_text}
use Rattle.strc_cli_places.specs.Keywords.{rate_keyword}
use Rattle.strc_cli_messages.proofs.Wording.{limit_said}
use Rattle.strc_cli_messages.proofs.refusal.push_limit.Goals as goal
use Rattle.strc_cli_messages.specs.RefusalWords.{limit_words}

pub returns-in_ok-add-in-Some-2 : goal.returns-in_ok-add-in-Some-2
returns-in_ok-add-in-Some-2 c =
    let moved = c.in-Some.moved in
    let same : c.text.result.now ≡ keyword_text (rate_keyword moved.side) = search rules in
    let alike : c.limit_words.result.now ≡ limit_words moved.declared = search rules in
    limit_said moved _ _ _ _ _ _ same alike c.in_ok-add-in-Some.ensures
    c.in_ok-quoted-in-Some.ensures c.in_ok-add-in-Some-2.ensures
