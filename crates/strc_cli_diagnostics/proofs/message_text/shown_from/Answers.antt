use Rattle.std.proofs.Common.{◌∙◌, ap, take}
use Rattle.std.proofs.lemmas.List.{take_min}
use Rattle.strc_cli_diagnostics.specs.Excerpts.{shown_limit}
use Rattle.strc_cli_diagnostics.proofs.message_text.shown_from.Goals as goal

pub returns : goal.returns
returns c = let line = c.args.line.now in
    ap (λ n. take n line) c.min.ensures ∙ take_min shown_limit line
