-- The work of nodes one firing more, and one unit more.
use Rattle.std.proofs.Common.{◌≡◌, ap, ◌∙◌, ℕ, zero, suc, ◌+◌, ◌*◌, ◌<◌, List, [], ◌∷◌}
use Rattle.std.proofs.Common.{length, replicate, get_or, take, min, inl, inr, arith, sym}
use Rattle.std.proofs.lemmas.Bool.{cases_eq, cases_lt}
use Rattle.std.proofs.lemmas.List.{ext_get_or, get_or_past, get_or-replicate}
use Rattle.std.proofs.lemmas.List.{length-replicate}
use Rattle.std.proofs.lemmas.List.FromFn.{get_or-map-range_with_len, length-map-range_with_len}
use Rattle.std.specs.Prelude.{slice_index}
use Rattle.strc_sched_orders.specs.Firings.{turns_of}
use Rattle.strc_sched_orders.specs.Greedy.{firings_of}
use Rattle.strc_sched_orders.specs.Order.{firing_count, repeated}
use Rattle.strc_sched_orders.specs.declared.unit as units
use Rattle.strc_sched_orders.proofs.FiringCounts.{firing_count_append, turns_same, turns_other}
use Rattle.strc_sched_orders.proofs.Passing.{list_more, units_more}
use Rattle.strc_stage_weights.specs.RoundWork.{round_works, work_in_round}
use Rattle.strc_stage_weights.specs.declared.unit_work.TheConstants.{ROUND_WORK_LIMIT}

turns_times : (turns node other : ℕ) → turns_of turns node other ≡ turns * turns_of 1 node other
turns_times turns node other = elim (cases_eq other node) [
  | inl same ↦ omega (
    arith,
    turns_same turns node other same,
    ap (λ (n : ℕ). turns * n) (turns_same 1 node other same),
  )
  | inr apart ↦ omega (
    arith,
    turns_other turns node other apart,
    ap (λ (n : ℕ). turns * n) (turns_other 1 node other apart),
  )
]

count_repeated : (turns : ℕ) (nodes : List ℕ) (node : ℕ)
    → firing_count (repeated turns nodes) node ≡ turns * firing_count nodes node
count_repeated zero nodes node =
    let none : 0 * firing_count nodes node ≡ 0 = omega arith in
    omega (arith, none)
count_repeated (suc turns) nodes node =
    let e : suc turns * firing_count nodes node
    ≡ firing_count nodes node + turns * firing_count nodes node = omega arith in
    omega (
      arith,
      firing_count_append nodes (repeated turns nodes) node,
      count_repeated turns nodes node,
      e,
    )

-- what is saturated once more
saturated : (old before more : ℕ) (now next : ℕ) → now ≡ min (old + before) ROUND_WORK_LIMIT
    → next ≡ min (now + more) ROUND_WORK_LIMIT
    → next ≡ min (old + (before + more)) ROUND_WORK_LIMIT
saturated old before more now next is then = omega (arith, is, then)

pub node_work_next : (turns : ℕ) (nodes : List ℕ) (i other firing old now next : ℕ)
    → i < length nodes
    → now ≡ min (old + turns * firing_count (take i nodes) other * firing) ROUND_WORK_LIMIT
    → next ≡ min (now + turns_of turns (get_or nodes i 0) other * firing) ROUND_WORK_LIMIT
    → next ≡ min (old + turns * firing_count (take (i + 1) nodes) other * firing) ROUND_WORK_LIMIT
node_work_next turns nodes i other firing old now next less is then =
    let before : ℕ = firing_count (take i nodes) other in
    let one : ℕ = turns_of 1 (get_or nodes i 0) other in
    let more = ap (λ (l : List ℕ). firing_count l other) (list_more nodes i less)
    ∙ firing_count_append (take i nodes) (get_or nodes i 0 ∷ []) other in
    let counted : firing_count (take (i + 1) nodes) other ≡ before + one = omega (arith, more) in
    let times = ap (λ (n : ℕ). turns * n * firing) counted in
    let spread : turns * (before + one) * firing
    ≡ turns * before * firing + turns * one * firing = omega arith in
    let own = ap (λ (n : ℕ). n * firing) (turns_times turns (get_or nodes i 0) other) in
    let all = saturated old (turns * before * firing)
    (turns_of turns (get_or nodes i 0) other * firing) now next is then in
    omega (arith, all, times, spread, own)

pub unit_work_next : (order : List units.Unit.Unit) (i : ℕ) (unit : units.Unit.Unit)
    (other firing old now next : ℕ) → i < length order → unit ≡ get_or order i unit
    → now ≡ min (old + firing_count (firings_of (take i order)) other * firing) ROUND_WORK_LIMIT
    → next ≡ min (now + unit.turns * firing_count unit.nodes.items other * firing)
    ROUND_WORK_LIMIT
    → next ≡ min (old + firing_count (firings_of (take (i + 1) order)) other * firing)
    ROUND_WORK_LIMIT
unit_work_next order i unit other firing old now next less here is then =
    let before : ℕ = firing_count (firings_of (take i order)) other in
    let own : ℕ = unit.turns * firing_count unit.nodes.items other in
    let more = ap (λ (l : List ℕ). firing_count l other) (units_more order i unit less here)
    ∙ firing_count_append (firings_of (take i order)) (repeated unit.turns unit.nodes.items)
    other in
    let counted : firing_count (firings_of (take (i + 1) order)) other ≡ before + own =
    omega (arith, more, count_repeated unit.turns unit.nodes.items other) in
    let times = ap (λ (n : ℕ). n * firing) counted in
    let spread : (before + own) * firing ≡ before * firing + own * firing = omega arith in
    let all = saturated old (before * firing) (own * firing) now next is then in
    omega (arith, all, times, spread)

-- the works of a list that began with none
pub works_are : (firings order works : List ℕ) → length works ≡ length firings
    → ((node : ℕ) → slice_index works node
    ≡ min (0 + firing_count order node * slice_index firings node) ROUND_WORK_LIMIT)
    → works ≡ round_works firings order
works_are firings order works many each =
    let work : ℕ → ℕ =
    λ node. work_in_round (firing_count order node) (slice_index firings node) in
    ext_get_or 0 works (round_works firings order)
    (many ∙ sym (length-map-range_with_len work 0 (length firings)))
    (λ node less. omega (
      arith,
      each node,
      get_or-map-range_with_len work 0 (length firings) node node 0 (omega (arith, less, many))
          (omega arith),
    ))

-- none has any before the first
pub none_worked : (works : List ℕ) (count : ℕ) → works ≡ replicate count 0 → (node : ℕ)
    → slice_index works node ≡ 0
none_worked works count are node =
    ap (λ (l : List ℕ). slice_index l node) are ∙ elim (cases_lt node count) [
      | inl less ↦ get_or-replicate count node 0 0 less
      | inr past ↦ get_or_past (replicate count 0) node 0
          (omega (arith, past, length-replicate {A = ℕ} count 0))
    ]
