use Rattle.std.proofs.Common.{◌≡◌, ◌+◌, ◌<◌, ◌∙◌, ◌∷◌, [], ◌++◌, Ok, length, map, max, sym, refl}
use Rattle.std.proofs.Common.{arith}
use Rattle.std.proofs.lemmas.Result.{err_from_is_err_and}
use Rattle.std.proofs.lemmas.List.{map_push}
use Rattle.strc_parse_tree.specs.View.{expr_view}
use Rattle.strc_parse_grammar.specs.Grammar.{kinds, lowest_precedence}
use Rattle.strc_parse_grammar.specs.Reading.{no_comma, one_taller, next_argument, more_arguments}
use Rattle.strc_parse_grammar.specs.Reading.{expression}
use Rattle.strc_parse_grammar.proofs.Repeated.{Fails-then, no_comma_ends, no_comma_stays}
use Rattle.strc_parse_grammar.proofs.Loops.{goes_on, goes_to, goes_wrong, expression_within}
use Rattle.strc_parse_grammar.proofs.Loops.{past_comma}
use Rattle.strc_parse_grammar.proofs.argument.more_arguments.Goals as goal

pub loop-alloc-init : goal.loop-alloc-init
unfolding more_arguments
loop-alloc-init g c = record {
  turns = length (kinds c.args.tokens.now) + 1;
  enough =
      omega arith;
  same = refl;
}

pub returns-in_err-next : goal.returns-in_err-next
unfolding one_taller next_argument
returns-in_err-next g c =
    let p = err_from_is_err_and c.from_residual.result c.from_residual.ensures.1 in
    let turn = one_taller (next_argument (expression c.args.depth)) in
    rw (p.1, p.2) (goes_wrong no_comma turn _ _ (kinds c.loop-alloc.rest.now) c.loop-alloc.invariant
    c.in_err-next.field-0.0 (no_comma_stays _
    (sym c.is_punctuation.ensures ∙ c.loop-alloc-test.true))
    (Fails-then c.in_err-next.field-0.0 _ _ (rw c.tail.ensures at c.in_err-next.ensures)))

pub loop-alloc-preserved : goal.loop-alloc-preserved
unfolding one_taller next_argument
loop-alloc-preserved g c =
    let next = c.in_ok-next.next.value in
    let front = map expr_view c.loop-alloc.found.items in
    let comma = sym c.is_punctuation.ensures ∙ c.loop-alloc-test.true in
    let read = rw c.tail.ensures at c.in_ok-next.ensures in
    let less : length (kinds c.in_ok-next.next.rest.now) < length (kinds c.loop-alloc.rest.now) =
    omega (
      arith,
      past_comma _ comma,
      expression_within c.args.depth lowest_precedence _ _ _ _
          read,
    ) in
    let e : map expr_view c.push.new.self.items ≡ front ++ expr_view next ∷ [] =
    rw c.in_ok-push.ensures.items (map_push _ c.loop-alloc.found.items next) in
    let one : one_taller (next_argument (expression c.args.depth)) (front, c.loop-alloc.highest)
    (kinds c.loop-alloc.rest.now)
    ≡ Ok (
      (front ++ expr_view next ∷ [], max c.loop-alloc.highest c.in_ok-next.next.height),
      kinds c.in_ok-next.next.rest.now,
    ) = rw read refl in
    rw (e, c.max-highest.ensures) (goes_on no_comma
    (one_taller (next_argument (expression c.args.depth))) _
    (front, c.loop-alloc.highest)
    (kinds c.loop-alloc.rest.now) c.loop-alloc.invariant _ _ less (no_comma_stays _ comma) one)

pub loop-alloc-smaller : goal.loop-alloc-smaller
loop-alloc-smaller g c =
    let comma = sym c.is_punctuation.ensures ∙ c.loop-alloc-test.true in
    let read = rw c.tail.ensures at c.in_ok-next.ensures in
    omega (arith, past_comma _ comma, expression_within c.args.depth lowest_precedence _ _ _ _ read)

pub returns : goal.returns
returns g c =
    rw c.new.ensures (goes_to no_comma (one_taller (next_argument (expression c.args.depth))) _
    (map expr_view c.loop-alloc.found.items, c.loop-alloc.highest)
    (kinds c.loop-alloc.rest.now) c.loop-alloc.invariant _
    (no_comma_ends _ (sym c.is_punctuation.ensures ∙ c.loop-alloc-test.false)))
