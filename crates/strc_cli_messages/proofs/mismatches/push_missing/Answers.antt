use Rattle.std.proofs.Common.{◌≡◌, rules}
use Rattle.strc_lex.specs.KeywordTexts.{keyword_text}
use Rattle.strc_cli_places.specs.Keywords.{kind_keyword}
use Rattle.strc_cli_messages.proofs.Wording.{unrun_said}
use Rattle.strc_cli_messages.proofs.mismatches.push_missing.Goals as goal

pub returns-in_ok-add-in-Add-3 : goal.returns-in_ok-add-in-Add-3
returns-in_ok-add-in-Add-3 c =
    let same : c.text.result.now ≡ keyword_text (kind_keyword c.args.kind) = search rules in
    unrun_said c.args.kind c.args.part _ _ _ _ _ c.in-Add.is same c.in_ok-add-in-Add.ensures
    c.in_ok-add-in-Add-2.ensures c.in_ok-add-in-Add-3.ensures
