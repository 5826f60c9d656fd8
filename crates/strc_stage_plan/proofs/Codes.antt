-- The nodes of a planned graph after fission push at their rates.
use Rattle.std.proofs.Common.{◌≡◌, refl, sym, ap, ◌∙◌, subst, ℕ, zero, suc, ◌+◌, ◌<◌}
use Rattle.std.proofs.Common.{List, [], length, true, false, Option, Some}
use Rattle.std.proofs.Common.{slice_get}
use Rattle.std.specs.Prelude.{IfOk, unwrap_or}
use Rattle.std.proofs.lemmas.Bool.{true≢false, and_parts}
use Rattle.std.proofs.lemmas.Option.{slice_get-get_or}
use Rattle.strc_elab_dataflow.specs.Flat as flat
use Rattle.strc_elab_dataflow.specs.Streams.{Stream, any_code}
use Rattle.strc_elab_dataflow.specs.Streams as trees
use Rattle.strc_work_meaning.specs.Filters as filters
use Rattle.strc_work_meaning.specs.Filters.{work_rates, body_rates}
use Rattle.strc_work_meaning.specs.Filters.{push_rate, pop_rate, item_count}
use Rattle.strc_elab_graph.specs.Graphs.{NodeCode, Graph, IsGraph, Filter, Identity, FileReader}
use Rattle.strc_elab_graph.specs.Graphs.{FileWriter, Splitter, Joiner, Scatter, Copy, Gather}
use Rattle.strc_elab_graph.specs.FlatGraphs.{IsProgram}
use Rattle.strc_elab_graph.specs.Rates.{body_at, filter_pushes, fires_by_rounds}
use Rattle.strc_elab_graph.specs.declared.graph.Fission.{Fission}
use Rattle.strc_elab_graph.proofs.Works.{no_rates}
use Rattle.strc_rate.proofs.Results.{then_ok}
use Rattle.strc_rate.specs.Kept.{run_of, KeepsRates}
use Rattle.strc_rate.proofs.KeptRates.{rates_kept}
use Rattle.strc_work_writes.specs.Stateless.{is_stateless}
use Rattle.strc_rate.proofs.Kept.{no_prework}
use Rattle.strc_balance.specs.Balance.{count_at}
use Rattle.strc_sched_orders.specs.Schedules.{ScheduleParts}
use Rattle.strc_sched_laws.specs.Planned.{IsFilterOf, IsPlanned, AreKnown}
use Rattle.strc_sched_laws.proofs.Codes.{code_there}
use Rattle.strc_sched_laws.specs.Nodes.{FilterPushes, HasItsRates}
use Rattle.strc_fiss.specs.Numbers.{is_dealt, base}
use Rattle.strc_fiss.specs.Splitting.{copied, code_at}
use Rattle.strc_fiss.specs.Ways.{is_alike, passes_items, dealt, fission_of, ways_of, work_push}
use Rattle.strc_stage_plan.specs.Runs.{graph_before, graph_after}
use Rattle.strc_stage_plan.specs.Sources.{EndApart}
use Rattle.strc_stage_plan.proofs.Lawful.{graphs_are_split, inside, possible, code_alike}
use Rattle.strc_stage_plan.proofs.Orders.{ends_apart, codes_same}
use Rattle.strc_stage_plan.proofs.SplitParts.{scatter_is, each_copy_is, the_gather_is}
use Rattle.strc_stage_plan.specs.Codes.{IsRated, SplitNodesAreRated}
use Rattle.strc_stage_plan.proofs.Numbers.{each_number}

-- ---- filters

-- a filter that keeps its rates pushes as many items as they say
pushes : (filter : filters.Filter) → KeepsRates filter → FilterPushes filter
pushes filter keeps firing fields window =
    let rates = body_rates (body_at firing) filter.members in
    then_ok (run_of filter (body_at firing) fields window) _
    (λ store. (store.traffic.popped ≡ item_count (pop_rate rates))
    × (length store.traffic.pushes ≡ item_count (push_rate rates)))
    (λ done. length done.pushes ≡ item_count (push_rate rates))
    (keeps (body_at firing) fields window) (λ store held. held.1)

-- one whose rates are checked does
checked_pushes : (old : Graph) (schedule : ScheduleParts) → IsPlanned old schedule → AreKnown old
    → (filter : filters.Filter) → IsFilterOf old filter → FilterPushes filter
checked_pushes old schedule planned known filter is =
    let (rates, checked) = planned.rates filter is in
    pushes filter (subst (λ result. IfOk result (λ found. KeepsRates filter)) checked
    (rates_kept filter (known filter is)))

work_pushes : (filter : filters.Filter) → is_stateless filter ≡ true → (firing : ℕ)
    → filter_pushes filter firing ≡ work_push filter
work_pushes filter stateless zero =
    ap (λ r. item_count (push_rate (unwrap_or r (work_rates filter.members))))
    (no_rates filter.members (no_prework filter stateless))
work_pushes filter stateless (suc n) = refl

-- ---- nodes

-- what is known of a node's text
abbrev Pushes : NodeCode → Type 0
Pushes code = (name : Option (List ℕ)) (filter : filters.Filter) → code ≡ Filter name filter
    → FilterPushes filter

rated : (code : NodeCode) → fires_by_rounds code ≡ false → Pushes code → IsRated code
rated (Filter name filter) alone pushes = (pushes name filter refl, tt)
rated Identity alone pushes = (tt, tt)
rated (FileReader text) alone pushes = (tt, tt)
rated (FileWriter text) alone pushes = (tt, tt)
rated (Splitter splitter) alone pushes = (tt, tt)
rated (Joiner weights) alone pushes = (tt, tt)
rated (Scatter fission) alone pushes = absurd (cc)
rated (Copy copied fission) alone pushes = absurd (cc)
rated (Gather fission) alone pushes = absurd (cc)

copy_rates : (code : NodeCode) (count ways : ℕ) → is_alike (Some code) ≡ true → Pushes code
    → HasItsRates (Copy (copied code) (dealt (Some code) count ways))
copy_rates (Filter name filter) count ways alike pushes = (
  pushes name filter refl,
  work_pushes filter (and_parts (passes_items filter) (is_stateless filter) alike).1,
)
copy_rates Identity count ways alike pushes = (refl, refl)
copy_rates (FileReader text) count ways alike pushes = absurd (true≢false (sym alike))
copy_rates (FileWriter text) count ways alike pushes = absurd (true≢false (sym alike))
copy_rates (Splitter splitter) count ways alike pushes = absurd (true≢false (sym alike))
copy_rates (Joiner weights) count ways alike pushes = absurd (true≢false (sym alike))
copy_rates (Scatter fission) count ways alike pushes = absurd (true≢false (sym alike))
copy_rates (Copy copy fission) count ways alike pushes = absurd (true≢false (sym alike))
copy_rates (Gather fission) count ways alike pushes = absurd (true≢false (sym alike))

module _ (tree : Stream NodeCode) (old : Graph) (schedule : ScheduleParts) (round : List ℕ)
    (ways : ℕ) (program : IsProgram tree old) (is : IsGraph old) (planned : IsPlanned old schedule)
    (known : AreKnown old) where
  abbrev pub share : ℕ → Fission
  share = fission_of old round ways

  abbrev pub before : flat.Graph NodeCode
  before = graph_before tree old schedule round ways

  abbrev pub after : flat.Graph NodeCode
  after = graph_after tree old schedule round ways

  abbrev none : ℕ → ℕ
  none = λ v. 0

  pub ends : EndApart old
  ends = ends_apart tree old program.flat

  pub there : (v : ℕ) → is_dealt (fission_of old round ways v) ≡ true → v < length old.nodes
  there v dealt = inside (any_code tree) old schedule round ways none is ends planned known v dealt

  -- ---- the parts

  pub kept_code : (u : ℕ) → is_dealt (fission_of old round ways u) ≡ false
      → (graph_after tree old schedule round ways).code (base (fission_of old round ways) u + 0)
      ≡ (graph_before tree old schedule round ways).code u
  kept_code u whole = (graphs_are_split (any_code tree) old schedule round ways none is ends planned
      known).kept u whole

  pub scatter_code : (v : ℕ) → is_dealt (fission_of old round ways v) ≡ true
      → (graph_after tree old schedule round ways).code (base (fission_of old round ways) v + 0)
      ≡ Scatter (fission_of old round ways v)
  scatter_code v dealt = scatter_is (fission_of old round ways) old schedule.greatest schedule.last
      v dealt (there v dealt) (any_code tree)

  pub copy_code : (v i : ℕ) → is_dealt (fission_of old round ways v) ≡ true
      → i < (fission_of old round ways v).ways
      → (graph_after tree old schedule round ways).code
      (base (fission_of old round ways) v + suc i)
      ≡ Copy (copied (code_at old.nodes v)) (fission_of old round ways v)
  copy_code v i dealt less = each_copy_is (fission_of old round ways) old schedule.greatest
      schedule.last v dealt (there v dealt) (any_code tree) i less

  pub gather_code : (v : ℕ) → is_dealt (fission_of old round ways v) ≡ true
      → (graph_after tree old schedule round ways).code
      (base (fission_of old round ways) v + suc (fission_of old round ways v).ways)
      ≡ Gather (fission_of old round ways v)
  gather_code v dealt = the_gather_is (fission_of old round ways) old schedule.greatest
      schedule.last v dealt (there v dealt) (any_code tree)

  -- ---- rates

  -- a node before fission is in the text, and is none of fission
  pub old_alone : (node : ℕ)
      → fires_by_rounds ((graph_before tree old schedule round ways).code node) ≡ false
  old_alone node =
      let (place, found) = code_there tree old program.flat node in
      subst (λ (c : NodeCode). fires_by_rounds c ≡ false) (codes_same tree old program.flat node)
      (planned.unfissioned place ((trees.flat tree).code node) found)

  old_rated : (node : ℕ) → IsRated ((graph_before tree old schedule round ways).code node)
  old_rated node =
      let (place, found) = code_there tree old program.flat node in
      let code : NodeCode = (trees.flat tree).code node in
      subst IsRated (codes_same tree old program.flat node)
      (rated code (planned.unfissioned place code found)
      (λ name filter e. checked_pushes old schedule planned known filter
      (place, name, found ∙ ap Some e)))

  pub copy_rated : (v : ℕ) → is_dealt (fission_of old round ways v) ≡ true
      → IsRated (Copy (copied (code_at old.nodes v)) (fission_of old round ways v))
  copy_rated v is_split =
      let code : NodeCode = code_at old.nodes v in
      let found : slice_get old.nodes v ≡ Some code =
      slice_get-get_or old.nodes v (Joiner []) (there v is_split) in
      let same_share : share v ≡ dealt (Some code) (count_at round v) (ways_of old round ways v) =
      ap (λ (o : Option NodeCode). dealt o (count_at round v) (ways_of old round ways v)) found in
      let can = possible (any_code tree) old schedule round ways none is ends planned known v
      is_split in (
        subst (λ (f : Fission). HasItsRates (Copy (copied code) f)) (sym same_share)
            (copy_rates code (count_at round v) (ways_of old round ways v)
            (subst (λ (o : Option NodeCode). is_alike o ≡ true) found can.0)
            (λ name filter e. checked_pushes old schedule planned known filter
            (v, name, found ∙ ap Some e))),
        (code_alike (any_code tree) old schedule round ways none is ends planned known v
            is_split).narrow,
      )

  pub each_rated : (node : ℕ) → IsRated ((graph_after tree old schedule round ways).code node)
  each_rated = each_number (fission_of old round ways)
      (λ (n : ℕ). IsRated ((graph_after tree old schedule round ways).code n))
      (λ u whole. subst IsRated (sym (kept_code u whole)) (old_rated u))
      (λ v dealt. subst IsRated (sym (scatter_code v dealt)) (tt, tt))
      (λ v i dealt less. subst IsRated (sym (copy_code v i dealt less)) (copy_rated v dealt))
      (λ v dealt. subst IsRated (sym (gather_code v dealt)) (tt, tt))

pub nodes_rated : SplitNodesAreRated
nodes_rated tree old schedule round ways program is planned known =
    each_rated tree old schedule round ways program is planned known
