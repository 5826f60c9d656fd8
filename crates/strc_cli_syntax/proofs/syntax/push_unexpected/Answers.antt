use Rattle.std.proofs.Common.{◌∙◌, ap, refl, List, ℕ, ◌++◌}
use Rattle.std.proofs.lemmas.Option.{slice_get_past, slice_get_read}
use Rattle.std.specs.Prelude.{codes}
use Rattle.strc_cli_diagnostics.specs.Messages.{with_more}
use Rattle.strc_cli_syntax.proofs.Words.{found_words, missing_words, quoted_first}
use Rattle.strc_cli_syntax.proofs.syntax.push_unexpected.Goals as goal

pub returns-in_ok-add-in-Some : goal.returns-in_ok-add-in-Some
returns-in_ok-add-in-Some c =
    quoted_first _ _ _ _ _ (c.in_ok-quoted-in-Some.ensures
    ∙ ap (λ (name : List ℕ). with_more c.args.message.now (codes "`" ++ name ++ codes "`"))
    c.bytes.ensures)
    c.in_ok-add-in-Some.ensures
    ∙ ap (with_more c.args.message.now)
    (found_words c.args.source.text.now c.args.source.tokens.now c.args.token c.in-Some.found.now
    (slice_get_read c.args.source.tokens.now _ c.args.token c.in-Some.found.now refl
    c.in-Some.ensures.lookup.3.0 c.in-Some.ensures.lookup.1))

pub returns-in_ok-add-in-None : goal.returns-in_ok-add-in-None
returns-in_ok-add-in-None c =
    c.in_ok-add-in-None.ensures
    ∙ ap (with_more c.args.message.now)
    (missing_words c.args.source.text.now c.args.source.tokens.now c.args.token
    (slice_get_past c.args.source.tokens.now c.args.token c.in-None.ensures.lookup.3))
