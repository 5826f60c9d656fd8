-- What is known of the filters of a planned graph.
use Rattle.std.proofs.Common.{◌≡◌, ◌⊎◌, inl, inr, refl, ap, ◌∙◌, subst, ℕ, ◌≤◌, Bool, true}
use Rattle.std.proofs.Common.{false, cond, List, [], length, map, Option, Some, None, arith}
use Rattle.std.specs.Prelude.{is_some, slice_get, slice_index, IfOk}
use Rattle.std.specs.Option.{option_map}
use Rattle.std.proofs.lemmas.Bool.{true≢false}
use Rattle.std.proofs.lemmas.Option.{slice_get-map, get_or_from_slice_get}
use Rattle.strc_lex_names.proofs.Results.{then_ok}
use Rattle.strc_parse_tree.specs.Tree as tree
use Rattle.strc_work_meaning.specs.declared.body.Body.{Body}
use Rattle.strc_work_meaning.specs.Filters.{Filter, prework_block, body_block, body_rates}
use Rattle.strc_work_meaning.specs.Filters.{push_rate, pop_rate, peek_rate, item_count, window_size}
use Rattle.strc_elab_graph.specs.Graphs.{NodeCode, Graph}
use Rattle.strc_elab_graph.specs.Graphs as graphs
use Rattle.strc_elab_graph.specs.Rates.{body_at}
use Rattle.strc_elab_graph.proofs.Works.{no_rates}
use Rattle.strc_rate.specs.Counts.{stmts_counts}
use Rattle.strc_rate.specs.Kept.{run_of, KeepsRates}
use Rattle.strc_rate.specs.Peeks.{body_sights}
use Rattle.strc_rate.specs.Rates.{BodyRates, within_limit, are_within_limit}
use Rattle.strc_rate.specs.Safe.{rates_of}
use Rattle.strc_rate.proofs.KeptRates.{limited, accepted_by, OfBodies, of_filters, rates_kept}
use Rattle.strc_rate.proofs.Results.{and_first, and_second}
use Rattle.strc_startup.specs.Rates.{first_count, first_counts}
use Rattle.strc_sched_orders.specs.Schedules.{ScheduleParts}
use Rattle.strc_sched_laws.specs.Nodes.{FilterPushes}
use Rattle.strc_sched_laws.specs.Planned.{IsFilterOf, IsPlanned, AreKnown}
use Rattle.strc_emit_network.specs.Later.{HasNoPrework}

-- a body looks at no more items than a rate may be, and gives no more
abbrev IsLimited : List tree.Rate → tree.Stmts → BodyRates → Type 0
IsLimited rates block accepted =
    (window_size rates ≤ 65536) × (item_count (push_rate rates) ≤ 65536)

bodies_limited : OfBodies (λ block. Unit {0}) IsLimited
bodies_limited lacks rates block any =
    accepted_by (are_within_limit rates) lacks rates (stmts_counts [] block)
    (body_sights (window_size rates) block) (IsLimited rates block)
    (λ c limits counts pushes pops.
    let push = limited (push_rate rates) (and_first (within_limit (push_rate rates)) _ limits) in
    let rest = and_second (within_limit (push_rate rates)) _ limits in
    let pop = limited (pop_rate rates) (and_first (within_limit (pop_rate rates)) _ rest) in
    let peek = limited (peek_rate rates) (and_second (within_limit (pop_rate rates)) _ rest) in
    (omega arith, push))

-- a filter that keeps its rates pushes as many items as they say
pushes_kept : (filter : Filter) → KeepsRates filter → FilterPushes filter
pushes_kept filter keeps firing fields window =
    let rates = body_rates (body_at firing) filter.members in
    then_ok (run_of filter (body_at firing) fields window) _
    (λ store. (store.traffic.popped ≡ item_count (pop_rate rates))
    × (length store.traffic.pushes ≡ item_count (push_rate rates)))
    (λ done. length done.pushes ≡ item_count (push_rate rates))
    (keeps (body_at firing) fields window) (λ store held. held.1)

none_of : {A : Type 0} (found : Option A) → is_some found ≡ false → found ≡ None
none_of None none = refl
none_of (Some x) none = absurd (true≢false none)

module _ (graph : Graph) (schedule : ScheduleParts) (planned : IsPlanned graph schedule)
    (filter : Filter) (is : IsFilterOf graph filter) where
  pub limits : (body : Body)
      → (window_size (body_rates body filter.members) ≤ 65536)
      × (item_count (push_rate (body_rates body filter.members)) ≤ 65536)
  limits body =
      let rated = planned.rates filter is in
      (subst (λ result. IfOk result (λ rates. (body : Body)
      → IsLimited (body_rates body filter.members) (body_block body filter.members)
      (rates_of rates body))) rated.1
      (of_filters (λ block. Unit {0}) IsLimited bodies_limited filter (λ body. tt))) body

  pub pushes : AreKnown graph → FilterPushes filter
  pushes known =
      let rated = planned.rates filter is in
      pushes_kept filter (subst (λ result. IfOk result (λ found. KeepsRates filter)) rated.1
      (rates_kept filter (known filter is)))

-- a node with a prework fires in start-up
pub started : (graph : Graph) (schedule : ScheduleParts) (planned : IsPlanned graph schedule)
    (node : ℕ) (name : Option (List ℕ)) (filter : Filter)
    → slice_get graph.nodes node ≡ Some (graphs.Filter name filter)
    → HasNoPrework filter ⊎ (1 ≤ slice_index planned.startup node)
started graph schedule planned node name filter there =
    by (is_some (prework_block filter.members)) refl
  where
    code : NodeCode
    code = graphs.Filter name filter

    by : (t : Bool) → is_some (prework_block filter.members) ≡ t
        → HasNoPrework filter ⊎ (1 ≤ slice_index planned.startup node)
    by true e =
        let first : slice_index (first_counts graph) node ≡ first_count code =
        get_or_from_slice_get (map first_count graph.nodes) node (first_count code) 0
        (slice_get-map first_count graph.nodes node ∙ ap (option_map first_count) there) in
        let one : first_count code ≡ 1 = ap (λ t. cond t 1 0) e in
        inr (omega (arith, planned.least_startup.primed.past_prework node, first, one))
    by false e = inl (record {
      block = none_of (prework_block filter.members) e;
      rates = no_rates filter.members e;
    })
