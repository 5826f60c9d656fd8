use Rattle.std.proofs.Common.{◌≡◌, ◌+◌, ◌<◌, ◌∙◌, ◌∷◌, [], ◌++◌, Ok, length, sym, refl, arith}
use Rattle.std.proofs.lemmas.Result.{err_from_is_err_and}
use Rattle.strc_parse_grammar.specs.Grammar.{kinds}
use Rattle.strc_parse_grammar.specs.Reading.{no_comma, one_more, next_parameter, more_parameters}
use Rattle.strc_parse_grammar.proofs.Repeated.{Fails-then, no_comma_ends, no_comma_stays}
use Rattle.strc_parse_grammar.proofs.Loops.{goes_on, goes_to, goes_wrong, parameter_within}
use Rattle.strc_parse_grammar.proofs.Loops.{past_comma}
use Rattle.strc_parse_grammar.proofs.parameter.more_parameters.Goals as goal

pub loop-rest-init : goal.loop-rest-init
unfolding more_parameters
loop-rest-init c = record {
  turns = length (kinds c.args.tokens.now) + 1;
  enough =
      omega arith;
  same = refl;
}

pub returns-in_err-next : goal.returns-in_err-next
unfolding one_more next_parameter
returns-in_err-next c =
    let p = err_from_is_err_and c.from_residual.result c.from_residual.ensures.1 in
    rw (p.1, p.2) (goes_wrong no_comma (one_more next_parameter) _ c.loop-rest.found.items
    (kinds c.loop-rest.rest.now) c.loop-rest.invariant
    c.in_err-next.field-0.0 (no_comma_stays _
    (sym c.is_punctuation.ensures ∙ c.loop-rest-test.true))
    (Fails-then c.in_err-next.field-0.0 _ _ (rw c.tail.ensures at c.in_err-next.ensures)))

pub loop-rest-preserved : goal.loop-rest-preserved
unfolding one_more next_parameter
loop-rest-preserved c =
    let next = c.in_ok-next.next in
    let front = c.loop-rest.found.items in
    let comma = sym c.is_punctuation.ensures ∙ c.loop-rest-test.true in
    let read = rw c.tail.ensures at c.in_ok-next.ensures in
    let less : length (kinds c.in_ok-next.after.now) < length (kinds c.loop-rest.rest.now) =
    omega (arith, past_comma _ comma, parameter_within _ _ _ read) in
    let one : one_more next_parameter front (kinds c.loop-rest.rest.now)
    ≡ Ok (front ++ next ∷ [], kinds c.in_ok-next.after.now) = rw read refl in
    rw c.in_ok-push.ensures.items (goes_on no_comma (one_more next_parameter) _ front
    (kinds c.loop-rest.rest.now) c.loop-rest.invariant _ _ less (no_comma_stays _ comma) one)

pub loop-rest-smaller : goal.loop-rest-smaller
loop-rest-smaller c =
    let comma = sym c.is_punctuation.ensures ∙ c.loop-rest-test.true in
    let read = rw c.tail.ensures at c.in_ok-next.ensures in
    omega (arith, past_comma _ comma, parameter_within _ _ _ read)

pub returns : goal.returns
returns c =
    goes_to no_comma (one_more next_parameter) _ c.loop-rest.found.items
    (kinds c.loop-rest.rest.now)
    c.loop-rest.invariant _ (no_comma_ends _
    (sym c.is_punctuation.ensures ∙ c.loop-rest-test.false))
