-- The nodes of a planned graph keep their rates, and take no more than they look at.
use Rattle.std.proofs.Common.{◌≡◌, ap, ◌∙◌, subst, ℕ, length, Some}
use Rattle.std.specs.Prelude.{IfOk}
use Rattle.strc_elab_dataflow.specs.Histories.{KeepsRates}
use Rattle.strc_elab_dataflow.specs.Queues.{TakesWithinWindow}
use Rattle.strc_elab_dataflow.specs.Streams.{Stream, flat}
use Rattle.strc_work_meaning.specs.Filters.{Filter, body_rates, push_rate, pop_rate, item_count}
use Rattle.strc_elab_graph.specs.Graphs.{NodeCode, Graph}
use Rattle.strc_elab_graph.specs.FlatGraphs.{IsFlat}
use Rattle.strc_elab_graph.specs.Meaning.{node_meaning}
use Rattle.strc_elab_graph.proofs.Firings.{PushesAtRates, node_keeps_rates, takes_within}
use Rattle.strc_lex_names.proofs.Results.{then_ok}
use Rattle.strc_rate.specs.Kept as kept
use Rattle.strc_rate.proofs.KeptRates.{rates_kept}
use Rattle.strc_sched_orders.specs.Schedules.{ScheduleParts}
use Rattle.strc_sched_laws.specs.Planned.{IsFilterOf, IsPlanned, AreKnown}
use Rattle.strc_sched_laws.proofs.Codes.{code_there}

-- a filter that keeps its rates pushes as many items as they say
pushes : (filter : Filter) → kept.KeepsRates filter → PushesAtRates filter
pushes filter keeps body fields window =
    let rates = body_rates body filter.members in
    then_ok (kept.run_of filter body fields window) _
    (λ store. (store.traffic.popped ≡ item_count (pop_rate rates))
    × (length store.traffic.pushes ≡ item_count (push_rate rates)))
    (λ done. length done.pushes ≡ item_count (push_rate rates))
    (keeps body fields window) (λ store held. held.1)

-- one whose rates are checked does
checked_pushes : (graph : Graph) (schedule : ScheduleParts) → IsPlanned graph schedule
    → AreKnown graph → (filter : Filter) → IsFilterOf graph filter → PushesAtRates filter
checked_pushes graph schedule planned known filter is =
    let (rates, checked) = planned.rates filter is in
    pushes filter (subst (λ result. IfOk result (λ found. kept.KeepsRates filter)) checked
    (rates_kept filter (known filter is)))

module _ (tree : Stream NodeCode) (graph : Graph) (schedule : ScheduleParts)
    (flat_graph : IsFlat tree graph) (planned : IsPlanned graph schedule) where
  pub nodes_keep_rates : AreKnown graph → (node : ℕ)
      → KeepsRates node_meaning ((flat tree).code node)
  nodes_keep_rates known node =
      let (place, there) = code_there tree graph flat_graph node in
      let code = (flat tree).code node in
      node_keeps_rates code (planned.unfissioned place code there)
      (λ name filter is. checked_pushes graph schedule planned known filter
      (place, name, there ∙ ap Some is))

  pub nodes_take_within : TakesWithinWindow node_meaning (flat tree)
  nodes_take_within node firing port less =
      let (place, there) = code_there tree graph flat_graph node in
      let code = (flat tree).code node in
      takes_within code (planned.unfissioned place code there) firing port
