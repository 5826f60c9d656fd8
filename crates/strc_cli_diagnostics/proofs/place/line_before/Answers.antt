use Rattle.std.proofs.Common.{◌∙◌, ◌+◌, ap, take, reverse, List, ℕ}
use Rattle.std.proofs.lemmas.List.{take_min, take_rest}
use Rattle.std.specs.List.{take_while}
use Rattle.strc_cli_diagnostics.specs.Places.{is_in_line}
use Rattle.strc_cli_diagnostics.proofs.Lines.{last_line, only_line_before}
use Rattle.strc_cli_diagnostics.proofs.place.line_before.Goals as goal

pub returns-in-Some : goal.returns-in-Some
returns-in-Some c =
    let text = c.args.text.now in
    let before = take c.min.result text in
    take_rest before (c.in-Some.last + 1)
    ∙ last_line before c.in-Some.last c.in-Some.ensures
    ∙ ap (λ (l : List ℕ). reverse (take_while is_in_line (reverse l)))
    (ap (λ n. take n text) c.min.ensures ∙ take_min c.args.at text)

pub returns-in-None : goal.returns-in-None
returns-in-None c =
    let text = c.args.text.now in
    only_line_before (take c.min.result text) c.in-None.ensures
    ∙ ap (λ (l : List ℕ). reverse (take_while is_in_line (reverse l)))
    (ap (λ n. take n text) c.min.ensures ∙ take_min c.args.at text)
