use Rattle.std.proofs.Common.{◌+◌, ◌-◌, ◌∙◌, List, length, map, subst, sym, refl, arith}
use Rattle.std.proofs.lemmas.Result.{err_from_is_err_and}
use Rattle.strc_parse_tree.specs.View.{member_view}
use Rattle.strc_parse_grammar.specs.Grammar.{kinds}
use Rattle.strc_parse_grammar.specs.Reading.{brace, one_taller}
use Rattle.strc_parse_grammar.specs.Streams.{member, members, statement}
use Rattle.strc_parse_grammar.proofs.Repeated.{brace_closes, brace_stays}
use Rattle.strc_parse_grammar.proofs.MemberSoundness.{member_shorter}
use Rattle.strc_parse_grammar.proofs.TreeSoundness.{statement_soundness}
use Rattle.strc_parse_grammar.proofs.Loops.{goes_on, goes_to, goes_wrong}
use Rattle.strc_lex.specs.declared.token.TokenKind.{TokenKind}
use Rattle.strc_lex.specs.declared.token.Punctuation.TheVariants as punctuation
use Rattle.strc_parse_grammar.proofs.Soundness.{punctuation_is}
use Rattle.strc_parse.specs.Placed.{ArePartsPlaced}
use Rattle.strc_parse.proofs.Placed.{parts_grown}
use Rattle.strc_parse.proofs.Grown.{grown_read, grown_turn, grown_fails}
use Rattle.strc_parse.proofs.control.StatementRules.members.Goals as goal

pub loop-next-init : goal.loop-next-init
unfolding members
loop-next-init g c =
    rw (c.new-read.ensures, c.new.ensures.items) (
      record {
        turns = length (kinds c.args.tokens.now) + 1;
        enough = omega arith;
        same = refl;
      },
      tt,
    )

pub returns-in_err-read-clause-gives : goal.returns-in_err-read-clause-gives
returns-in_err-read-clause-gives g c =
    let p = err_from_is_err_and c.from_residual.result c.from_residual.ensures.1 in
    let depth = c.args.self.now.depth - 1 in
    rw (p.1, p.2) (goes_wrong brace (one_taller (member depth (statement depth))) _ _
    (kinds c.loop-next.read.rest.now) c.loop-next.invariant.0 c.in_err-read.field-0.0
    (brace_stays _ (sym c.is_punctuation.ensures ∙ c.loop-next-test.true))
    (grown_fails member_view (member depth (statement depth)) c.loop-next.read
    c.member-next.result c.member-next.ensures.gives c.in_err-read.field-0.0 c.in_err-read.ensures))

pub loop-next-preserved : goal.loop-next-preserved
loop-next-preserved g c =
    let depth = c.args.self.now.depth - 1 in
    let read = grown_read member_view (member depth (statement depth)) c.loop-next.read
    c.member-next.result c.member-next.ensures.gives c.in_ok-read.read c.in_ok-read.ensures in
    let less = member_shorter depth (statement depth)
    (λ ts. statement_soundness depth ts) _ _ _ _ read.2 in (
      goes_on brace (one_taller (member depth (statement depth))) _ _
          (kinds c.loop-next.read.rest.now) c.loop-next.invariant.0 _ _ less
          (brace_stays _ (sym c.is_punctuation.ensures ∙ c.loop-next-test.true))
          (grown_turn member_view (member depth (statement depth)) c.loop-next.read
          c.member-next.result c.member-next.ensures.gives c.in_ok-read.read c.in_ok-read.ensures),
      parts_grown depth c.args.self.now.all.now c.loop-next.read c.member-next.result
          c.in_ok-read.read c.in_ok-read.ensures c.member-next.ensures.gives
          c.member-next.ensures.placed c.loop-next.invariant.1,
    )

pub loop-next-smaller : goal.loop-next-smaller
loop-next-smaller g c =
    let depth = c.args.self.now.depth - 1 in
    let read = grown_read member_view (member depth (statement depth)) c.loop-next.read
    c.member-next.result c.member-next.ensures.gives c.in_ok-read.read c.in_ok-read.ensures in
    member_shorter depth (statement depth) (λ ts. statement_soundness depth ts) _ _ _ _ read.2

pub returns-clause-gives : goal.returns-clause-gives
returns-clause-gives g c =
    let depth = c.args.self.now.depth - 1 in
    rw (c.new-2.ensures, c.tail.ensures) (goes_to brace
    (one_taller (member depth (statement depth))) _
    (map member_view c.loop-next.read.value.items, c.loop-next.read.height)
    (kinds c.loop-next.read.rest.now) c.loop-next.invariant.0 _
    (brace_closes _ (sym c.is_punctuation.ensures ∙ c.loop-next-test.false)))

pub returns-clause-placed : goal.returns-clause-placed
returns-clause-placed g c =
    rw (c.new-2.ensures, c.tail.ensures)
    (subst (λ (rest : List TokenKind). ArePartsPlaced c.args.self.now.all.now
    c.loop-next.read.value.items rest) (punctuation_is punctuation.CloseBrace _
    (sym c.is_punctuation.ensures ∙ c.loop-next-test.false)) c.loop-next.invariant.1)
