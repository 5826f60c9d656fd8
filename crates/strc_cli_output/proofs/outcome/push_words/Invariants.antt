use Rattle.std.proofs.Common.{◌≡◌, ◌++◌, drop}
use Rattle.strc_cli_output.specs.Output.{words_text}
use Rattle.strc_cli_output.proofs.outcome.push_words.Given as goal

-- the text so far and that of the words left are the whole
abbrev pub invariant-loop-word : goal.invariant-loop-word
invariant-loop-word l = l.text.items ++ words_text (drop l.word-index l.words) ≡ l.fn.text.items
    ++ words_text l.words
