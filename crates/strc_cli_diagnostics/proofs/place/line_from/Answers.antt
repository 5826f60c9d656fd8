use Rattle.std.proofs.Common.{◌≡◌, ◌∙◌, ◌-◌, ap, drop, length, take, List, ℕ}
use Rattle.std.proofs.lemmas.List.{drop_min, take_rest}
use Rattle.std.specs.List.{take_while}
use Rattle.strc_cli_diagnostics.specs.Places.{is_in_line}
use Rattle.strc_cli_diagnostics.proofs.Lines.{first_line, only_line_from}
use Rattle.strc_cli_diagnostics.proofs.place.line_from.Goals as goal

pub returns-in-Some : goal.returns-in-Some
returns-in-Some c =
    let text = c.args.text.now in
    let rest = take (length text - c.min.result) (drop c.min.result text) in
    first_line rest c.in-Some.end c.in-Some.ensures
    ∙ ap (λ (l : List ℕ). take_while is_in_line l)
    (take_rest text c.min.result ∙ ap (λ n. drop n text) c.min.ensures ∙ drop_min c.args.at text)

pub returns-in-None : goal.returns-in-None
returns-in-None c =
    let text = c.args.text.now in
    let rest = take (length text - c.min.result) (drop c.min.result text) in
    only_line_from rest c.in-None.ensures
    ∙ ap (λ (l : List ℕ). take_while is_in_line l)
    (take_rest text c.min.result ∙ ap (λ n. drop n text) c.min.ensures ∙ drop_min c.args.at text)
