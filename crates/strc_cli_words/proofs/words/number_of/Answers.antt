use Rattle.std.proofs.Common.{Option, sym, subst}
use Rattle.clap.specs.Words.{Text, found_of}
use Rattle.clap.proofs.WalkLemmas.{one_text-rows}
use Rattle.strc_cli_words.specs.Lines.{IsNumberOf}
use Rattle.strc_cli_words.proofs.LineWords.{reads, reads_none}
use Rattle.strc_cli_words.proofs.words.number_of.Goals as goal

pub returns-in-Ok-clause-answered : goal.returns-in-Ok-clause-answered
returns-in-Ok-clause-answered c =
    subst (λ (text : Option Text). IsNumberOf text c.in-Ok.number)
    (one_text-rows (found_of c.args.found.now) c.args.option.now)
    (reads _ c.in-Ok.number c.in-Ok.ensures.none c.in-Ok.ensures.value)

pub returns-in-Err-clause-refused : goal.returns-in-Err-clause-refused
returns-in-Err-clause-refused c = λ (number, is).
    reads_none _ c.in-Err.field-0 c.in-Err.ensures.none c.in-Err.ensures.value number
    (subst (λ (text : Option Text). IsNumberOf text number)
    (sym (one_text-rows (found_of c.args.found.now) c.args.option.now)) is)
