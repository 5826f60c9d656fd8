use Rattle.std.proofs.Common.{Option, subst, sym}
use Rattle.clap.specs.Words.{Text, found_of}
use Rattle.clap.proofs.WalkLemmas.{one_text-rows}
use Rattle.strc_cli_words.specs.Lines.{IsFlagOf}
use Rattle.strc_cli_words.proofs.LineWords.{flag_set}
use Rattle.strc_cli_words.proofs.words.is_set.Goals as goal

pub returns : goal.returns
returns c =
    subst (λ (text : Option Text). IsFlagOf text c.unwrap_or.result)
    (one_text-rows (found_of c.args.found.now) c.args.flag.now)
    (subst (IsFlagOf _) (sym c.unwrap_or.ensures)
    (flag_set _ c.get_one.result c.get_one.ensures.none c.get_one.ensures.value))
