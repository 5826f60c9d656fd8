use Rattle.std.proofs.Common.{◌≡◌, ◌+◌, true, false, drop, sym, ap, ◌∙◌, arith}
use Rattle.strc_lex_names.specs.Names.{has_name, plain_names}
use Rattle.strc_work_meaning.specs.Typing.{TypedNames}
use Rattle.strc_elab.proofs.Doubles.{doubled_after, doubled_at_first, doubled_here, doubled_further}
use Rattle.strc_elab.proofs.Doubles.{doubled_no_more, all_names}
use Rattle.strc_elab.proofs.child.doubled.Goals as goal

pub loop-name-init : goal.loop-name-init
loop-name-init c = ap (λ (l : TypedNames). doubled_after (plain_names l) c.args.names.now)
    c.new-earlier.ensures ∙ doubled_at_first c.args.names.now

pub returns-then-has_since : goal.returns-then-has_since
returns-then-has_since c =
    let names = c.args.names.now in
    let earlier = c.loop-name.earlier in
    let name = c.name-item.result in
    let there : has_name (plain_names earlier) name ≡ true =
    sym (c.has_since.ensures ∙ ap (λ l. has_name l name) (all_names earlier))
    ∙ c.if-has_since.true in
    sym (sym c.loop-name.invariant ∙ doubled_here
    (plain_names earlier) names c.loop-name.name-index name
    (omega (arith, c.loop-name-test.true)) c.name-item.is there)

pub loop-name-preserved : goal.loop-name-preserved
loop-name-preserved c =
    let names = c.args.names.now in
    let earlier = c.loop-name.earlier in
    let name = c.name-item.result in
    let there : has_name (plain_names earlier) name ≡ false =
    sym (c.has_since.ensures ∙ ap (λ l. has_name l name) (all_names earlier))
    ∙ c.if-has_since.false in
    ap (λ (l : TypedNames). doubled_after (plain_names l) (drop (c.loop-name.name-index + 1) names))
    c.in_ok-declare.ensures.ok
    ∙ sym (doubled_further (plain_names earlier) names c.loop-name.name-index name
    (omega (arith, c.loop-name-test.true)) c.name-item.is there) ∙ c.loop-name.invariant

pub returns : goal.returns
returns c =
    sym (sym c.loop-name.invariant ∙ doubled_no_more
    (plain_names c.loop-name.earlier) c.args.names.now c.loop-name.name-index
    (omega (arith, c.loop-name-test.false)))
