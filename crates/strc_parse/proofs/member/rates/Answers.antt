use Rattle.std.proofs.Common.{◌≡◌, ◌+◌, ◌<◌, ◌∙◌, ◌∷◌, [], ◌++◌, length, map, max, Ok, Some, refl}
use Rattle.std.proofs.Common.{sym, arith, rules}
use Rattle.std.proofs.lemmas.Result.{err_from_is_err_and}
use Rattle.std.proofs.lemmas.List.{map_push}
use Rattle.strc_parse_tree.specs.declared.tree.RateTree.{RateTree}
use Rattle.strc_parse_tree.specs.Tree as tree
use Rattle.strc_parse_tree.specs.View.{expr_view, rate_view}
use Rattle.strc_parse_grammar.specs.Grammar.{kinds}
use Rattle.strc_parse_grammar.specs.Streams.{no_rate, rate_turn, rate_kind, rates}
use Rattle.strc_parse_grammar.proofs.Repeated.{no_rate_ends, no_rate_stays, rate_turn_at}
use Rattle.strc_parse_grammar.proofs.Repeated.{rate_turn_fails}
use Rattle.strc_parse_grammar.proofs.Loops.{goes_on, goes_to, goes_wrong}
use Rattle.strc_parse.proofs.Placed.{rates_grown}
use Rattle.strc_parse.proofs.RateViews.{rate_shorter}
use Rattle.strc_parse.proofs.member.rates.Goals as goal

pub loop-kind-init : goal.loop-kind-init
unfolding rates
loop-kind-init c =
    let empty : c.new-found.result.items ≡ [] = search rules in (
      record {
        turns = length (kinds c.args.tokens.now) + 1;
        enough = omega arith;
        same =
            rw empty refl;
      },
      rw empty tt,
    )

pub returns-clause-gives : goal.returns-clause-gives
returns-clause-gives c =
    rw c.new.ensures (goes_to no_rate (rate_turn c.args.limit) _
    (map rate_view c.loop-kind.found.items, c.loop-kind.highest) (kinds c.loop-kind.rest.now)
    c.loop-kind.invariant.0 _ (no_rate_ends _ (sym c.rate_kind.ensures ∙ c.in_default.is)))

pub returns-in_err-rate-clause-gives : goal.returns-in_err-rate-clause-gives
returns-in_err-rate-clause-gives c =
    let p = err_from_is_err_and c.from_residual.result c.from_residual.ensures.1 in
    let kind_is : rate_kind (kinds c.loop-kind.rest.now) ≡ Some c.in-Some.kind =
    sym c.rate_kind.ensures ∙ c.in-Some.is in
    rw (p.1, p.2) (goes_wrong no_rate (rate_turn c.args.limit) _
    (map rate_view c.loop-kind.found.items, c.loop-kind.highest) (kinds c.loop-kind.rest.now)
    c.loop-kind.invariant.0 c.in_err-rate.field-0.0 (no_rate_stays _ _ kind_is)
    (rate_turn_fails c.args.limit c.in_err-rate.field-0.0
    (map rate_view c.loop-kind.found.items) c.loop-kind.highest _ c.in-Some.kind kind_is
    (rw c.deref.ensures.value at c.in_err-rate.ensures)))

pub loop-kind-preserved : goal.loop-kind-preserved
loop-kind-preserved c =
    let front = map rate_view c.loop-kind.found.items in
    let kind_is : rate_kind (kinds c.loop-kind.rest.now) ≡ Some c.in-Some.kind =
    sym c.rate_kind.ensures ∙ c.in-Some.is in
    let read = rw c.deref.ensures.value at c.in_ok-rate.ensures in
    let made : RateTree = record {
      kind = c.in-Some.kind;
      rate = c.in_ok-rate.rate.value;
      place = c.place_between.result;
    } in
    let next : tree.Rate = record {
      kind = c.in-Some.kind;
      rate =
          expr_view c.in_ok-rate.rate.value;
    } in
    let e : map rate_view c.push.new.self.items ≡ front ++ next ∷ [] =
    rw c.in_ok-push.ensures.items (map_push rate_view c.loop-kind.found.items made) in
    let one : rate_turn c.args.limit (front, c.loop-kind.highest) (kinds c.loop-kind.rest.now)
    ≡ Ok (
      (front ++ next ∷ [], max c.loop-kind.highest c.in_ok-rate.rate.height),
      kinds c.in_ok-rate.rate.rest.now,
    ) =
    rate_turn_at c.args.limit front c.loop-kind.highest _ c.in-Some.kind
    (expr_view c.in_ok-rate.rate.value) _ _ kind_is read in
    let less : length (kinds c.in_ok-rate.rate.rest.now) < length (kinds c.loop-kind.rest.now) =
    rate_shorter _ _ _ _ _ _ _ kind_is read in
    let high : c.max-highest.result ≡ max c.loop-kind.highest c.in_ok-rate.rate.height =
    search rules in (
      rw (e, high) (goes_on no_rate (rate_turn c.args.limit) _ (front, c.loop-kind.highest)
          (kinds c.loop-kind.rest.now) c.loop-kind.invariant.0
          (front ++ next ∷ [], max c.loop-kind.highest c.in_ok-rate.rate.height)
          (kinds c.in_ok-rate.rate.rest.now) less (no_rate_stays _ _ kind_is) one),
      rw c.in_ok-push.ensures.items (rates_grown c.args.limit c.args.all.now c.loop-kind.rest.now
          c.in_ok-rate.rate.rest.now c.loop-kind.found.items made c.in_ok-rate.rate.height
          c.place_between.ensures kind_is read c.loop-kind.invariant.1),
    )

pub loop-kind-smaller : goal.loop-kind-smaller
loop-kind-smaller c =
    let kind_is : rate_kind (kinds c.loop-kind.rest.now) ≡ Some c.in-Some.kind =
    sym c.rate_kind.ensures ∙ c.in-Some.is in
    let read = rw c.deref.ensures.value at c.in_ok-rate.ensures in
    rate_shorter _ _ _ _ _ _ _ kind_is read
