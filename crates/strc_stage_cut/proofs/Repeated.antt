-- How often nodes fire in lists that are repeated.
use Rattle.std.proofs.Common.{◌≡◌, refl, ap, ◌∙◌, ℕ, zero, suc, ◌+◌, ◌*◌, ◌<◌, ◌≤◌, List, [], ◌∷◌}
use Rattle.std.proofs.Common.{length, get_or, take, drop, inl, inr, arith}
use Rattle.std.proofs.lemmas.List.{take-append-drop}
use Rattle.std.proofs.Math.Nat.{mul-le-mul_left}
use Rattle.std.proofs.lemmas.Bool.{cases_eq}
use Rattle.strc_sched_orders.specs.Firings.{turns_of}
use Rattle.strc_sched_orders.specs.Greedy.{firings_of}
use Rattle.strc_sched_orders.specs.Order.{firing_count, repeated}
use Rattle.strc_sched_orders.specs.declared.unit as units
use Rattle.strc_sched_orders.proofs.FiringCounts.{firing_count_append, turns_same, turns_other}
use Rattle.strc_sched_orders.proofs.Passing.{list_more, units_more}
use Rattle.strc_sched_orders.proofs.Ranges.{firings_joined}

turns_times : (turns node other : ℕ) → turns_of turns node other ≡ turns * turns_of 1 node other
turns_times turns node other = elim (cases_eq other node) [
  | inl same ↦ omega (
    arith,
    turns_same turns node other same,
    ap (λ (n : ℕ). turns * n) (turns_same 1 node other same),
  )
  | inr apart ↦ omega (
    arith,
    turns_other turns node other apart,
    ap (λ (n : ℕ). turns * n) (turns_other 1 node other apart),
  )
]

count_repeated : (turns : ℕ) (nodes : List ℕ) (node : ℕ)
    → firing_count (repeated turns nodes) node ≡ turns * firing_count nodes node
count_repeated zero nodes node =
    let none : 0 * firing_count nodes node ≡ 0 = omega arith in
    omega (arith, none)
count_repeated (suc turns) nodes node =
    let more = firing_count_append nodes (repeated turns nodes) node in
    let rest = count_repeated turns nodes node in
    let e : suc turns * firing_count nodes node
    ≡ firing_count nodes node + turns * firing_count nodes node = omega arith in
    omega (arith, more, rest, e)

-- one node more
pub list_next : (turns : ℕ) (nodes : List ℕ) (i other : ℕ) → i < length nodes
    → turns * firing_count (take (i + 1) nodes) other
    ≡ turns * firing_count (take i nodes) other + turns_of turns (get_or nodes i 0) other
list_next turns nodes i other less =
    let more = ap (λ (l : List ℕ). firing_count l other) (list_more nodes i less)
    ∙ firing_count_append (take i nodes) (get_or nodes i 0 ∷ []) other in
    let own : turns_of 1 (get_or nodes i 0) other + 0 ≡ turns_of 1 (get_or nodes i 0) other =
    omega arith in
    let all : firing_count (take (i + 1) nodes) other
    ≡ firing_count (take i nodes) other + turns_of 1 (get_or nodes i 0) other =
    omega (arith, more, own) in
    let times = ap (λ (n : ℕ). turns * n) all in
    let spread : turns * (firing_count (take i nodes) other + turns_of 1 (get_or nodes i 0) other)
    ≡ turns * firing_count (take i nodes) other + turns * turns_of 1 (get_or nodes i 0) other =
    omega arith in
    omega (arith, times, spread, turns_times turns (get_or nodes i 0) other)

-- one unit more
pub units_next : (order : List units.Unit.Unit) (i : ℕ) (unit : units.Unit.Unit) (other : ℕ)
    → i < length order → unit ≡ get_or order i unit
    → firing_count (firings_of (take (i + 1) order)) other
    ≡ firing_count (firings_of (take i order)) other
    + unit.turns * firing_count unit.nodes.items other
units_next order i unit other less is =
    let more = ap (λ (l : List ℕ). firing_count l other) (units_more order i unit less is)
    ∙ firing_count_append (firings_of (take i order)) (repeated unit.turns unit.nodes.items)
    other in
    omega (arith, more, count_repeated unit.turns unit.nodes.items other)

-- some of an order's firings are no more than all
firings_first : (order : List units.Unit.Unit) (i other : ℕ)
    → firing_count (firings_of (take i order)) other ≤ firing_count (firings_of order) other
firings_first order i other =
    omega (
      arith,
      ap (λ (l : List units.Unit.Unit). firing_count (firings_of l) other)
          (take-append-drop i order),
      firings_joined (take i order) (drop i order) other,
    )

-- one unit more is no more than all
pub unit_fits : (order : List units.Unit.Unit) (i : ℕ) (unit : units.Unit.Unit) (other : ℕ)
    → i < length order → unit ≡ get_or order i unit
    → firing_count (firings_of (take i order)) other
    + unit.turns * firing_count unit.nodes.items other
    ≤ firing_count (firings_of order) other
unit_fits order i unit other less is =
    omega (arith, units_next order i unit other less is, firings_first order (i + 1) other)

list_first : (nodes : List ℕ) (i other : ℕ)
    → firing_count (take i nodes) other ≤ firing_count nodes other
list_first nodes i other =
    omega (
      arith,
      ap (λ (l : List ℕ). firing_count l other) (take-append-drop i nodes),
      firing_count_append (take i nodes) (drop i nodes) other,
    )

-- and one node more of a list
pub node_fits : (turns : ℕ) (nodes : List ℕ) (i : ℕ) → i < length nodes
    → turns * firing_count (take i nodes) (get_or nodes i 0) + turns
    ≤ turns * firing_count nodes (get_or nodes i 0)
node_fits turns nodes i less =
    let node : ℕ = get_or nodes i 0 in
    omega (
      arith,
      list_next turns nodes i node less,
      turns_same turns node node refl,
      mul-le-mul_left turns (list_first nodes (i + 1) node),
    )
