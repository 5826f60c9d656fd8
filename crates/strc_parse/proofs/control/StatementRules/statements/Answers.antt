use Rattle.std.proofs.Common.{◌-◌, ◌∙◌, List, length, map, subst, sym}
use Rattle.std.proofs.lemmas.Result.{err_from_is_err_and}
use Rattle.strc_parse_tree.specs.View.{stmt_view}
use Rattle.strc_parse_grammar.specs.Grammar.{kinds}
use Rattle.strc_parse_grammar.specs.Reading.{brace, one_taller}
use Rattle.strc_parse_grammar.specs.Streams.{statement}
use Rattle.strc_parse_grammar.proofs.Repeated.{brace_closes, brace_stays, repeated_on}
use Rattle.strc_parse_grammar.proofs.Repeated.{repeated_ends, repeated_fails, repeated_over}
use Rattle.strc_lex.specs.declared.token.TokenKind.{TokenKind}
use Rattle.strc_lex.specs.declared.token.Punctuation.TheVariants as punctuation
use Rattle.strc_parse_grammar.proofs.Soundness.{punctuation_is}
use Rattle.strc_parse.specs.Placed.{IsBlockPlaced}
use Rattle.strc_parse.proofs.Placed.{block_grown}
use Rattle.strc_parse.proofs.Grown.{grown_turn, grown_fails}
use Rattle.strc_parse.proofs.control.StatementRules.statements.Goals as goal

pub returns-then-is_punctuation-clause-gives : goal.returns-then-is_punctuation-clause-gives
returns-then-is_punctuation-clause-gives g c =
    rw (c.new-then-is_punctuation.ensures, c.tail.ensures) (repeated_ends brace
    (one_taller (statement (c.args.self.now.depth - 1)))
    (length c.args.tokens.now) c.loop-turn._turn
    (map stmt_view c.loop-turn.read.value.items, c.loop-turn.read.height)
    (kinds c.loop-turn.read.rest.now) _ c.loop-turn.invariant.0 _ c.loop-turn-test.true
    (brace_closes _ (sym c.is_punctuation.ensures ∙ c.if-is_punctuation.true)))

pub returns-in_err-read-clause-gives : goal.returns-in_err-read-clause-gives
returns-in_err-read-clause-gives g c =
    let p = err_from_is_err_and c.from_residual.result c.from_residual.ensures.1 in
    rw (p.1, p.2) (repeated_fails brace (one_taller (statement (c.args.self.now.depth - 1)))
    (length c.args.tokens.now) c.loop-turn._turn
    (map stmt_view c.loop-turn.read.value.items, c.loop-turn.read.height)
    (kinds c.loop-turn.read.rest.now) _ c.loop-turn.invariant.0 c.in_err-read.field-0.0
    c.loop-turn-test.true (brace_stays _
    (sym c.is_punctuation.ensures ∙ c.if-is_punctuation.false))
    (grown_fails stmt_view (statement (c.args.self.now.depth - 1)) c.loop-turn.read
    c.below-next.result c.below-next.ensures.gives c.in_err-read.field-0.0 c.in_err-read.ensures))

pub loop-turn-preserved : goal.loop-turn-preserved
loop-turn-preserved g c = (
  repeated_on brace (one_taller (statement (c.args.self.now.depth - 1)))
      (length c.args.tokens.now) c.loop-turn._turn
      (map stmt_view c.loop-turn.read.value.items, c.loop-turn.read.height)
      (kinds c.loop-turn.read.rest.now) _ c.loop-turn.invariant.0
      (map stmt_view c.in_ok-read.read.value.items, c.in_ok-read.read.height)
      (kinds c.in_ok-read.read.rest.now) c.loop-turn-test.true
      (brace_stays _ (sym c.is_punctuation.ensures ∙ c.if-is_punctuation.false))
      (grown_turn stmt_view (statement (c.args.self.now.depth - 1)) c.loop-turn.read
      c.below-next.result c.below-next.ensures.gives c.in_ok-read.read c.in_ok-read.ensures),
  block_grown c.args.self.now.all.now c.loop-turn.read c.below-next.result c.in_ok-read.read
      c.in_ok-read.ensures c.below-next.ensures.placed c.loop-turn.invariant.1,
)

pub returns-then-is_punctuation-clause-placed : goal.returns-then-is_punctuation-clause-placed
returns-then-is_punctuation-clause-placed g c =
    rw (c.new-then-is_punctuation.ensures, c.tail.ensures)
    (subst (λ (rest : List TokenKind). IsBlockPlaced c.args.self.now.all.now
    c.loop-turn.read.value.items rest) (punctuation_is punctuation.CloseBrace _
    (sym c.is_punctuation.ensures ∙ c.if-is_punctuation.true)) c.loop-turn.invariant.1)

pub returns-clause-gives : goal.returns-clause-gives
returns-clause-gives g c =
    rw c.unexpected.ensures (repeated_over brace
    (one_taller (statement (c.args.self.now.depth - 1)))
    (length c.args.tokens.now) c.loop-turn._turn
    (map stmt_view c.loop-turn.read.value.items, c.loop-turn.read.height)
    (kinds c.loop-turn.read.rest.now) _ c.loop-turn.invariant.0 c.loop-turn-test.false)
