use Rattle.std.proofs.Common.{◌∙◌, sym, arith}
use Rattle.strc_cli_source.proofs.Headings.{end_beyond, end_before_block, end_with_statement}
use Rattle.strc_cli_source.proofs.Headings.{end_goes_on, open_more}
use Rattle.strc_cli_source.proofs.source.heading_end.Goals as goal
use Rattle.strc_cli_source.proofs.source.heading_end.Goals.{then-token-place-2-via-then-token-place-2}
use Rattle.strc_cli_source.proofs.source.heading_end.Goals.{then-token-place-2-via-else-token-place-2+then-begins_block}

pub returns-then-token-place-2 : goal.returns-then-token-place-2
returns-then-token-place-2 c =
    let at = c.loop-token in
    elim c.then-token-place-2.branch [
      | then-token-place-2-via-then-token-place-2 w ↦
          sym (end_beyond c.args.place c.args.tokens.now at.token-index c.token-item.result
          c.loop-token-test.true c.token-item.is c.if-token-place.false at.is_first at.end
          at.brackets w.if-token-place-2.true) ∙ at.invariant.same
      | then-token-place-2-via-else-token-place-2+then-begins_block w ↦
          sym (end_before_block c.args.place c.args.tokens.now at.token-index c.token-item.result
          c.loop-token-test.true c.token-item.is c.if-token-place.false w.if-token-place-2.false
          at.is_first at.end at.brackets
          (sym w.begins_block.ensures ∙ w.if-begins_block.true)) ∙ at.invariant.same
    ]

pub returns-then-ends_statement : goal.returns-then-ends_statement
returns-then-ends_statement c =
    let at = c.loop-token in
    sym (end_with_statement c.args.place c.args.tokens.now at.token-index c.token-item.result
    c.loop-token-test.true c.token-item.is c.if-token-place.false c.if-token-place-2.false
    at.is_first at.end at.brackets (sym c.begins_block.ensures ∙ c.if-begins_block.false)
    (sym c.ends_statement.ensures ∙ c.if-ends_statement.true)) ∙ at.invariant.same

pub loop-token-preserved : goal.loop-token-preserved
loop-token-preserved c =
    let at = c.loop-token in
    let x = c.token-item.result in
    record {
      same = rw (c.open_after-brackets.ensures) (
          sym (end_goes_on c.args.place c.args.tokens.now at.token-index x
          c.loop-token-test.true c.token-item.is c.if-token-place.false c.if-token-place-2.false
          at.is_first at.end at.brackets (sym c.begins_block.ensures ∙ c.if-begins_block.false)
          (sym c.ends_statement.ensures ∙ c.if-ends_statement.false)) ∙ at.invariant.same
          );
      brackets = let more = open_more at.brackets x.kind in
          let kept = at.invariant.brackets in
          let is = c.open_after-brackets.ensures in
          omega (arith, more, kept, is);
    }
