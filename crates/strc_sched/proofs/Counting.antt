-- How often a node fires, counted unit by unit and place by place.
use Rattle.std.proofs.Common.{◌≡◌, ◌≢◌, refl, sym, ap, ◌∙◌, ℕ, zero, suc, ◌+◌, ◌*◌, ◌<◌, ◌≤◌, List}
use Rattle.std.proofs.Common.{[], ◌∷◌, ◌++◌, length, take, get_or, arith}
use Rattle.std.proofs.lemmas.List.{take_more}
use Rattle.strc_elab_dataflow.specs.Order.{counts_after}
use Rattle.strc_sched_orders.specs.declared.unit as units
use Rattle.strc_sched_orders.specs.Greedy.{firings_of}
use Rattle.strc_sched_orders.specs.Order.{firing_count, repeated}
use Rattle.strc_sched_orders.specs.Schedules.{ScheduleParts}
use Rattle.strc_sched_orders.proofs.Greedily.{firings_push}
use Rattle.strc_sched_orders.proofs.FiringCounts.{firing_count_append, turns_same, turns_other}
use Rattle.strc_sched_orders.proofs.Units.{firing_count_take}
use Rattle.strc_sched_laws.specs.Laws.{counts_at, startup_order, round_order}

-- a list some times
pub firing_count_times : (turns : ℕ) (nodes : List ℕ) (node : ℕ)
    → turns * firing_count nodes node ≡ firing_count (repeated turns nodes) node
firing_count_times zero nodes node = omega arith
firing_count_times (suc turns) nodes node =
    omega (
      arith,
      firing_count_times turns nodes node,
      firing_count_append nodes
          (repeated turns nodes) node,
    )

-- one place more
module _ (nodes : List ℕ) (place : ℕ) (less : place < length nodes) (node : ℕ) where
  firing_count_next : (d : ℕ) → firing_count (take (place + 1) nodes) node
      ≡ firing_count (take place nodes) node + firing_count (get_or nodes place d ∷ []) node
  firing_count_next d = ap (λ l. firing_count l node) (take_more nodes place d less)
      ∙ firing_count_append (take place nodes) (get_or nodes place d ∷ []) node

  pub place_here : (d : ℕ) → get_or nodes place d ≡ node
      → firing_count (take place nodes) node + 1 ≡ firing_count (take (place + 1) nodes) node
  place_here d same =
      let e = firing_count_next d in
      let t = turns_same 1 (get_or nodes place d) node (sym same) in
      omega (arith, e, t)

  pub place_not : (d : ℕ) → get_or nodes place d ≢ node
      → firing_count (take place nodes) node ≡ firing_count (take (place + 1) nodes) node
  place_not d differ =
      let e = firing_count_next d in
      let t = turns_other 1 (get_or nodes place d) node (λ same. differ (sym same)) in
      omega (arith, e, t)

-- one unit more
module _ (all : List units.Unit.Unit) (place : ℕ) (less : place < length all)
    (unit : units.Unit.Unit) (is : unit ≡ get_or all place unit) (node : ℕ) where
  pub unit_next : firing_count (firings_of (take place all)) node
      + firing_count (repeated unit.turns unit.nodes.items) node
      ≡ firing_count (firings_of (take (place + 1) all)) node
  unit_next =
      let own = repeated unit.turns unit.nodes.items in
      sym (ap (λ l. firing_count (firings_of l) node) (take_more all place unit less)
      ∙ ap (λ u. firing_count (firings_of (take place all ++ u ∷ [])) node) (sym is)
      ∙ ap (λ l. firing_count l node) (firings_push (take place all) unit)
      ∙ firing_count_append (firings_of (take place all)) own node)

  -- they are among all firings
  pub unit_within : firing_count (firings_of (take place all)) node
      + firing_count (repeated unit.turns unit.nodes.items) node
      ≤ firing_count (firings_of all) node
  unit_within = omega (arith, unit_next, firing_count_take all (place + 1) node)

-- the counts after rounds, as they are added up
pub counts_are : (schedule : ScheduleParts) (rounds node : ℕ) → counts_at schedule rounds node
    ≡ firing_count (startup_order schedule) node + rounds * firing_count (round_order schedule) node
unfolding counts_after
counts_are schedule rounds node = refl
