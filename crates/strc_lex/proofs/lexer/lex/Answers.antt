use Rattle.std.proofs.Common.{◌≡◌, length, arith, subst}
use Rattle.strc_lex.specs.Text.{LexesBetween, StopsAt}
use Rattle.strc_lex.proofs.TriviaRuns.{trivia_run_ordered}
use Rattle.strc_lex.proofs.Lexing.{lexes_only, stuck_lexes, lexes_push, is_at_start}
use Rattle.strc_lex.proofs.lexer.lex.Goals as goal

pub returns-in_default-clause-only : goal.returns-in_default-clause-only
returns-in_default-clause-only c = λ tokens h short. absurd
    (stuck_lexes c.args.text.now 0 c.loop-at.at c.loop-at.tokens.items tokens
    c.loop-at.invariant.front (record {
      within = c.loop-at-test.true;
      bare = c.loop-at.invariant.bare;
      none = rw c.in_default.is at c.in_ok-kind.ensures.none;
    }) h)

pub returns-in_default-clause-stuck : goal.returns-in_default-clause-stuck
returns-in_default-clause-stuck c = λ at e.
    let same : c.loop-at.at ≡ at = cc e in
    subst (StopsAt c.args.text.now) same (record {
      tokens = c.loop-at.tokens.items;
      front = c.loop-at.invariant.front;
      stuck = record {
        within = c.loop-at-test.true;
        bare = c.loop-at.invariant.bare;
        none = rw c.in_default.is at c.in_ok-kind.ensures.none;
      };
    })

pub loop-at-smaller : goal.loop-at-smaller
loop-at-smaller c =
    let found = rw c.in-Some.is at c.in_ok-kind.ensures.found in
    let on = trivia_run_ordered c.args.text.now _ _ c.trivia_end-at-in-loop-at.ensures.trivia_run in
    omega (arith, found.1, found.2, on)

pub loop-at-preserved : goal.loop-at-preserved
loop-at-preserved c =
    let found = rw c.in-Some.is at c.in_ok-kind.ensures.found in
    let is_at = is_at_start c.args.text.now c.loop-at.at c.in-Some.len c.in-Some.kind found.0
    found.1 in
    record {
      front = rw c.in_ok-push.ensures.items
          (lexes_push c.args.text.now 0 c.loop-at.tokens.items _ c.trivia_end-at-in-loop-at.result
          c.loop-at.invariant.front is_at c.trivia_end-at-in-loop-at.ensures.trivia_run);
      bare = c.trivia_end-at-in-loop-at.ensures.bare;
      within = c.trivia_end-at-in-loop-at.ensures.trivia_run.within;
    }

pub returns-clause-only : goal.returns-clause-only
returns-clause-only c = λ tokens h short.
    let whole : c.loop-at.at ≡ length c.args.text.now = omega arith in
    let ours : LexesBetween c.args.text.now 0 c.loop-at.tokens.items (length c.args.text.now) =
    subst (λ to. LexesBetween c.args.text.now 0 c.loop-at.tokens.items to) whole
    c.loop-at.invariant.front in
    lexes_only c.args.text.now 0 c.loop-at.tokens.items tokens ours h
