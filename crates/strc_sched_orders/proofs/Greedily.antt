-- A greedy order is an order, and it grows by a unit at its end.
use Rattle.std.proofs.Common.{◌≡◌, ◌∙◌, sym, ap, subst, ℕ, zero, suc, ◌+◌, ◌-◌, ◌<◌, List}
use Rattle.std.proofs.Common.{[], ◌∷◌, ◌++◌, append_assoc, append-nil, arith}
use mathlib.Core.Path.{fun_ext}
use Rattle.strc_startup.specs.declared.channel_rates.ChannelRates.{ChannelRates}
use Rattle.strc_sched_orders.specs.declared.unit as units
use Rattle.strc_sched_orders.specs.Firings.{Firings, fired, FindsWindows}
use Rattle.strc_sched_orders.specs.Order.{firing_count, after, repeated, IsOrder}
use Rattle.strc_sched_orders.specs.Greedy.{firings_of, less_turns, IsNext, IsGreedy}
use Rattle.strc_sched_orders.proofs.FiringCounts.{one_more, fired_none, fired_fired}
use Rattle.strc_sched_orders.proofs.FiringCounts.{firing_count_append}
use Rattle.strc_sched_orders.proofs.FiringCounts.{after_append, after_none, after_repeated}
use Rattle.strc_sched_orders.proofs.FiringCounts.{firing_count_repeated}

-- so many firings of a node, and then an order
pub turns_order : (channels : List ChannelRates) (counts : Firings) (turns node : ℕ)
    (order : List ℕ)
    → ((earlier : ℕ) → earlier < turns → FindsWindows channels (fired counts earlier node) node)
    → IsOrder channels (fired counts turns node) order
    → IsOrder channels counts (repeated turns (node ∷ []) ++ order)
turns_order channels counts zero node order finds is =
    subst (λ k. IsOrder channels k order) (fired_none counts node) is
turns_order channels counts (suc turns) node order finds is = (
  subst (λ k. FindsWindows channels k node) (fired_none counts node) (finds 0 (omega arith)),
  turns_order channels (fired counts 1 node) turns node order
      (λ earlier less. subst (λ k. FindsWindows channels k node)
      (sym (fired_fired counts 1 earlier node)) (finds (1 + earlier) (omega (arith, less))))
      (subst (λ k. IsOrder channels k order) (sym (fired_fired counts 1 turns node
      ∙ ap (λ n. fired counts n node) (one_more turns))) is),
)

-- a greedy order is an order
pub greedy_order : (channels : List ChannelRates) (counts left : Firings)
    (order : List units.Unit.Unit) → IsGreedy channels counts left order
    → IsOrder channels counts (firings_of order)
greedy_order channels counts left [] is = is
greedy_order channels counts left (unit ∷ rest) (node, single, next, later) =
    subst (λ nodes. IsOrder channels counts (repeated unit.turns nodes ++ firings_of rest))
    (sym single)
    (turns_order channels counts unit.turns node (firings_of rest) next.finds
    (greedy_order channels (fired counts unit.turns node) (less_turns left unit.turns node) rest
    later))

-- what is left after an order
abbrev pub left_after : Firings → (order : List ℕ) → Firings
left_after left order node = left node - firing_count order node

left_after_unit : (left : Firings) (turns node : ℕ) (nodes rest : List ℕ) → nodes ≡ node ∷ []
    → left_after left (repeated turns nodes ++ rest)
    ≡ left_after (less_turns left turns node) rest
left_after_unit left turns node nodes rest single = fun_ext (λ other.
    let e = firing_count_append (repeated turns nodes) rest other in
    let t = ap (λ l. firing_count (repeated turns l) other) single
    ∙ firing_count_repeated turns node other in
    omega (arith, e, t))

after_unit : (counts : Firings) (turns node : ℕ) (nodes rest : List ℕ) → nodes ≡ node ∷ []
    → after counts (repeated turns nodes ++ rest) ≡ after (fired counts turns node) rest
after_unit counts turns node nodes rest single =
    after_append counts (repeated turns nodes) rest
    ∙ ap (λ k. after k rest) (ap (λ l. after counts (repeated turns l)) single
    ∙ after_repeated counts turns node)

-- one more unit at the end
pub greedy_push : (channels : List ChannelRates) (counts left : Firings)
    (order : List units.Unit.Unit) (unit : units.Unit.Unit) (node : ℕ)
    → IsGreedy channels counts left order → unit.nodes.items ≡ node ∷ []
    → IsNext channels (after counts (firings_of order)) (left_after left (firings_of order))
    unit.turns node
    → IsGreedy channels counts left (order ++ unit ∷ [])
greedy_push channels counts left [] unit node is single next =
    let same = after_none counts in
    let still : left_after left [] ≡ left = fun_ext (λ other. omega arith) in (
      node,
      single,
      subst (λ k. IsNext channels k left unit.turns node) same
          (subst (λ l. IsNext channels (after counts []) l unit.turns node) still next),
      is,
    )
greedy_push channels counts left (first ∷ rest) unit node (own, alone, its, later) single next = (
  own,
  alone,
  its,
  greedy_push channels (fired counts first.turns own) (less_turns left first.turns own) rest unit
      node later single
      (subst (λ l. IsNext channels (after (fired counts first.turns own) (firings_of rest)) l
      unit.turns
      node) (left_after_unit left first.turns own first.nodes.items (firings_of rest) alone)
      (subst (λ k. IsNext channels k (left_after left (firings_of (first ∷ rest))) unit.turns node)
      (after_unit counts first.turns own first.nodes.items (firings_of rest) alone) next)),
)

-- the firings of one more unit
pub firings_push : (order : List units.Unit.Unit) (unit : units.Unit.Unit)
    → firings_of (order ++ unit ∷ []) ≡ firings_of order ++ repeated unit.turns unit.nodes.items
firings_push [] unit = append-nil (repeated unit.turns unit.nodes.items)
firings_push (first ∷ rest) unit =
    ap (λ l. repeated first.turns first.nodes.items ++ l) (firings_push rest unit)
    ∙ sym (append_assoc (repeated first.turns first.nodes.items) (firings_of rest)
    (repeated unit.turns unit.nodes.items))
