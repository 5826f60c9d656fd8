use Rattle.std.proofs.Common.{◌∙◌, sym}
use Rattle.strc_lex.proofs.TriviaRuns.{comment_none}
use Rattle.strc_lex.proofs.trivia.comment_length.Goals as goal

pub returns-then-starts_with-2-clause-none : goal.returns-then-starts_with-2-clause-none
returns-then-starts_with-2-clause-none c =
    comment_none c.args.text.now c.block_length.result
    (sym c.starts_with.ensures.value ∙ c.if-starts_with.false) c.block_length.ensures.none
