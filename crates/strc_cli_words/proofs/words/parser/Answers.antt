use Rattle.std.proofs.Common.{◌≡◌, rules, refl, true, codes}
use Rattle.clap.specs.Words.{app_of, new_app}
use Rattle.clap.specs.Simple.{on_top}
use Rattle.strc_cli_words.proofs.Parsers.{all_added}
use Rattle.strc_cli_words.proofs.words.parser.Goals as goal

pub returns : goal.returns
returns c =
    let start : app_of c.subcommand_required.result ≡ on_top
    (λ shape. record shape { subcommand_required = true }) (new_app (codes "strc")) =
    search rules in
    all_added _ c.subcommands-2.result _ _ _ c.subcommands-2.ensures
    c.in_ok-subcommands.ensures (refl, (refl, (refl, (refl, (refl, tt))))) start
