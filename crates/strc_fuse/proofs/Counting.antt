-- How often nodes fire in lists and units.
use Rattle.std.proofs.Common.{◌≡◌, refl, ap, ◌∙◌, ℕ, zero, suc, ◌+◌, ◌*◌, ◌<◌, List, [], ◌∷◌}
use Rattle.std.proofs.Common.{◌++◌, arith, inl, inr, ◌⊎◌}
use Rattle.std.proofs.lemmas.Bool.{cases_lt}
use Rattle.strc_elab_dataflow.specs.Order as generic
use Rattle.strc_sched_orders.specs.declared.unit as units
use Rattle.strc_sched_orders.specs.Greedy as order
use Rattle.strc_sched_orders.specs.Order as order_lists
use Rattle.strc_sched_orders.specs.Order.{firing_count}
use Rattle.strc_sched_orders.proofs.FiringCounts.{firing_count_append}
use Rattle.strc_elab_dataflow.specs.Fused.{repeated}
use Rattle.strc_elab_dataflow.specs.FusedUnits.{RoundUnit, firings_of, joined_unit}
use Rattle.strc_fuse.specs.Units.{round_units}

pub count_repeated : (turns : ℕ) (nodes : List ℕ) (node : ℕ)
    → firing_count (repeated turns nodes) node ≡ turns * firing_count nodes node
count_repeated zero nodes node = omega arith
count_repeated (suc turns) nodes node = omega (
  arith,
  firing_count_append nodes (repeated turns nodes) node,
  count_repeated turns nodes node,
)

pub count_joined : (h m n : ℕ) (unit next : RoundUnit) (node : ℕ)
    → firing_count (joined_unit h m n unit next).nodes node
    ≡ m * firing_count unit.nodes node + n * firing_count next.nodes node
count_joined h m n unit next node = omega (
  arith,
  firing_count_append (repeated m unit.nodes) (repeated n next.nodes) node,
  count_repeated m unit.nodes node,
  count_repeated n next.nodes node,
)

-- a node that occurs in a list, or doesn't
pub occurs : (nodes : List ℕ) (node : ℕ)
    → (0 < firing_count nodes node) ⊎ (firing_count nodes node ≡ 0)
occurs nodes node = elim (cases_lt 0 (firing_count nodes node)) [
  | inl some ↦ inl some
  | inr none ↦ inr (omega arith)
]

pub times_zero : (k c : ℕ) → c ≡ 0 → k * c ≡ 0
times_zero k c e = omega (arith, ap (λ (n : ℕ). k * n) e)

-- a node in neither list isn't in the joined one
pub in_either : (h m n : ℕ) (unit next : RoundUnit) (node : ℕ)
    → 0 < firing_count (joined_unit h m n unit next).nodes node
    → (0 < firing_count unit.nodes node) ⊎ (0 < firing_count next.nodes node)
in_either h m n unit next node some = elim (occurs unit.nodes node) [
  | inl there ↦ inl there
  | inr none ↦ elim (occurs next.nodes node) [
    | inl there ↦ inr there
    | inr nowhere ↦ absurd (omega (
      arith,
      some,
      count_joined h m n unit next node,
      times_zero m (firing_count unit.nodes node) none,
      times_zero n (firing_count next.nodes node) nowhere,
    ))
  ]
]

-- units as declared and as they are seen fire alike

pub repeated_same : (turns : ℕ) (nodes : List ℕ)
    → order_lists.repeated turns nodes ≡ repeated turns nodes
repeated_same zero nodes = refl
repeated_same (suc turns) nodes = ap (λ (l : List ℕ). nodes ++ l) (repeated_same turns nodes)

pub firings_same : (units : List units.Unit.Unit)
    → order.firings_of units ≡ firings_of (round_units units)
firings_same [] = refl
firings_same (unit ∷ later) =
    ap (λ (l : List ℕ). l ++ order.firings_of later) (repeated_same unit.turns unit.nodes.items)
    ∙ ap (λ (l : List ℕ). repeated unit.turns unit.nodes.items ++ l) (firings_same later)
