use Rattle.std.proofs.Common.{◌<◌, ◌+◌, Ok, map, length, drop, sym, ap, ◌∙◌, Some, arith}
use Rattle.std.proofs.Math.ListN.{drop_of_length-le}
use Rattle.std.proofs.lemmas.List.{append-nil}
use Rattle.std.proofs.lemmas.Result.{err_from_is_err_and}
use Rattle.strc_parse_tree.specs.View.{rate_view}
use Rattle.strc_work_rules.specs.Resolution as judged
use Rattle.strc_lex_names.proofs.Lists.{map-drop}
use Rattle.strc_work_rules.proofs.Resolved.{list_after, list_after_step, list_refused, next_refused}
use Rattle.strc_work_rules.proofs.Resolved.{refusal_same}
use Rattle.strc_work_rules.proofs.RefusedPlaces.{next_place, place_same}
use Rattle.strc_work_rules.proofs.PlacesOfMembers.{rates_place_step, rates_place_refused}
use Rattle.strc_work_rules.proofs.rates.resolve_rates.Goals as goal

pub loop-rate-preserved : goal.loop-rate-preserved
loop-rate-preserved c =
    let constants = c.args.constants.now in
    let fields = c.args.fields.now in
    let input = c.args.input in
    let output = c.args.output in
    let rates = c.args.rates.now in
    let i = c.loop-rate.rate-index in
    let x = c.rate-item.result in
    let y = c.in_ok-push_next.ensures.ok.0 in
    let told = c.in_ok-push_next.ensures.ok.1 in
    let within : i < length rates = omega arith in
    let rest = judged.rates_resolved constants fields input output
    (map rate_view (drop (i + 1) rates)) in
    record {
      left = ap (λ l. list_after rate_view l rest) c.in_ok-push_next.ensures.ok.2
          ∙ list_after_step rate_view c.loop-rate.resolved.items y
          (judged.rate_resolved constants fields input output (rate_view x)) rest
          (rw told at c.resolve_rate-next.ensures.verdict)
          ∙ sym (ap (λ l. list_after rate_view c.loop-rate.resolved.items
          (judged.rates_resolved constants fields input output l))
          (map-drop rate_view rates i x within c.rate-item.is))
          ∙ c.loop-rate.invariant.left;
      here = (rw told at c.resolve_rate-next.ensures.here) ∙ c.loop-rate.invariant.here;
      place = rates_place_step constants fields input output c.args.here.now rates i x
          (rate_view y) within c.rate-item.is (rw told at c.resolve_rate-next.ensures.verdict)
          ∙ c.loop-rate.invariant.place;
    }

pub returns-in_err-push_next-clause-verdict : goal.returns-in_err-push_next-clause-verdict
returns-in_err-push_next-clause-verdict c =
    let constants = c.args.constants.now in
    let fields = c.args.fields.now in
    let input = c.args.input in
    let output = c.args.output in
    let rates = c.args.rates.now in
    let i = c.loop-rate.rate-index in
    let x = c.rate-item.result in
    let within : i < length rates = omega arith in
    let e = c.in_err-push_next.field-0.0 in
    let refusal = next_refused rate_view
    (judged.rate_resolved constants fields input output (rate_view x))
    c.resolve_rate-next.result e c.resolve_rate-next.ensures.verdict c.in_err-push_next.ensures.err in
    let p = err_from_is_err_and c.from_residual.result c.from_residual.ensures.1 in
    let here = list_refused rate_view c.loop-rate.resolved.items
    (judged.rate_resolved constants fields input output (rate_view x))
    (judged.rates_resolved constants fields input output (map rate_view (drop (i + 1) rates))) e
    refusal in
    let left = ap (λ l. list_after rate_view c.loop-rate.resolved.items
    (judged.rates_resolved constants fields input output l))
    (sym (map-drop rate_view rates i x within c.rate-item.is)) ∙ c.loop-rate.invariant.left in
    rw (p.1, p.2) (refusal_same _ _ e left here)

pub returns-clause-verdict : goal.returns-clause-verdict
returns-clause-verdict c =
    sym c.loop-rate.invariant.left
    ∙ ap (λ l. list_after rate_view c.loop-rate.resolved.items
    (judged.rates_resolved c.args.constants.now c.args.fields.now c.args.input c.args.output
    (map rate_view l))) (drop_of_length-le c.args.rates.now c.loop-rate-test.false)
    ∙ ap Ok (append-nil (map rate_view c.loop-rate.resolved.items))

pub returns-in_err-push_next-clause-here : goal.returns-in_err-push_next-clause-here
returns-in_err-push_next-clause-here c =
    let constants = c.args.constants.now in
    let fields = c.args.fields.now in
    let input = c.args.input in
    let output = c.args.output in
    let rates = c.args.rates.now in
    let i = c.loop-rate.rate-index in
    let x = c.rate-item.result in
    let within : i < length rates = omega arith in
    let e = c.in_err-push_next.field-0.0 in
    let after = c.resolve_rate-next.new.here in
    let refusal = next_refused rate_view
    (judged.rate_resolved constants fields input output (rate_view x))
    c.resolve_rate-next.result e c.resolve_rate-next.ensures.verdict
    c.in_err-push_next.ensures.err in
    let stands = next_place c.resolve_rate-next.result e (Some x.place) c.loop-rate.here after
    c.resolve_rate-next.ensures.here c.in_err-push_next.ensures.err in
    let p = err_from_is_err_and c.from_residual.result c.from_residual.ensures.1 in
    let left = rates_place_refused constants fields input output c.args.here.now rates i x e after
    within c.rate-item.is refusal stands in
    rw (p.1, p.2) (place_same e _ _ after c.loop-rate.invariant.place left)

pub returns-clause-here : goal.returns-clause-here
returns-clause-here c = c.loop-rate.invariant.here
