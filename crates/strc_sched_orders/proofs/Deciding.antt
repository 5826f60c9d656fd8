-- A greedy order is an order, it is stuck nowhere where one exists, and it is one.
use Rattle.std.proofs.Common.{◌≡◌, ◌∙◌, refl, sym, ap, subst, ℕ, ◌<◌, ◌≤◌, List, [], ◌∷◌}
use Rattle.std.proofs.Common.{◌++◌}
use Rattle.std.proofs.Common.{inl, inr, arith}
use Rattle.std.proofs.lemmas.Bool.{cases_lt}
use Rattle.strc_startup.specs.declared.channel_rates.ChannelRates.{ChannelRates}
use Rattle.strc_sched_orders.specs.declared.unit as units
use Rattle.strc_sched_orders.specs.Firings.{Firings, fired, FindsWindows}
use Rattle.strc_sched_orders.specs.Greedy.{firings_of, less_turns, IsNext, IsGreedy}
use Rattle.strc_sched_orders.specs.Laws.{GreedyIsAnOrder, GreedyFindsAnOrder, OneGreedyOrder}
use Rattle.strc_sched_orders.specs.Order.{firing_count, after, repeated}
use Rattle.strc_sched_orders.proofs.Exchange.{spent}
use Rattle.strc_sched_orders.proofs.Greedily.{greedy_order}
use Rattle.strc_sched_orders.proofs.FiringCounts.{fired_none, firing_count_append}
use Rattle.strc_sched_orders.proofs.FiringCounts.{firing_count_repeated}
use Rattle.strc_sched_orders.proofs.FiringCounts.{turns_same}

pub is_an_order : GreedyIsAnOrder
is_an_order channels counts firings order is =
    greedy_order channels counts firings order is.greedy

pub finds_an_order : GreedyFindsAnOrder
finds_an_order channels counts firings left order is sums stuck some =
    let none = spent channels counts (after counts (firings_of order)) firings left
    (λ node. omega arith) (λ node. omega (arith, sums node)) stuck some in
    record {
      greedy = is;
      all = λ node. omega (arith, sums node, none node);
    }

-- the next unit is one

pub same_node : (channels : List ChannelRates) (counts left : Firings) (m n v w : ℕ)
    → IsNext channels counts left m v → IsNext channels counts left n w → v ≤ w
same_node channels counts left m n v w one two =
    elim (cases_lt w v) [
      | inl less ↦ absurd (one.lowest w less (omega (arith, two.some, two.within))
          (subst (λ k. FindsWindows channels k w) (fired_none counts w) (two.finds 0 two.some)))
      | inr most ↦ omega (arith, most)
    ]

pub same_turns : (channels : List ChannelRates) (counts left : Firings) (m n v : ℕ)
    → IsNext channels counts left m v → IsNext channels counts left n v → m ≤ n
same_turns channels counts left m n v one two =
    elim (cases_lt n m) [
      | inl less ↦ absurd (two.most (omega (arith, less, one.within)) (one.finds n less))
      | inr most ↦ omega (arith, most)
    ]

-- a unit takes firings, so that none are left where there is no unit
pub fires : (channels : List ChannelRates) (counts left : Firings) (unit : units.Unit.Unit)
    (rest : List units.Unit.Unit) (node : ℕ) → unit.nodes.items ≡ node ∷ []
    → IsNext channels counts left unit.turns node
    → 0 < firing_count (firings_of (unit ∷ rest)) node
fires channels counts left unit rest node single next =
    let a = firing_count_append (repeated unit.turns unit.nodes.items) (firings_of rest) node in
    let r = ap (λ l. firing_count (repeated unit.turns l) node) single
    ∙ firing_count_repeated unit.turns node node in
    omega (arith, a, r, turns_same unit.turns node node refl, next.some)

same_firings : (channels : List ChannelRates) (counts left : Firings)
    (order other : List units.Unit.Unit) → IsGreedy channels counts left order
    → IsGreedy channels counts left other
    → ((node : ℕ) → firing_count (firings_of order) node ≡ firing_count (firings_of other) node)
    → firings_of order ≡ firings_of other
same_firings channels counts left [] [] one two same = refl
same_firings channels counts left [] (unit ∷ rest) one (node, single, next, later) same =
    absurd (omega (arith, same node, fires channels counts left unit rest node single next))
same_firings channels counts left (unit ∷ rest) [] (node, single, next, later) two same =
    absurd (omega (arith, same node, fires channels counts left unit rest node single next))
same_firings channels counts left (a ∷ as_rest) (b ∷ bs_rest) (v, v_is, one, as_later)
    (w, w_is, two, bs_later) same =
    let node : v ≡ w = omega (
      arith,
      same_node channels counts left a.turns b.turns v w one two,
      same_node channels counts left b.turns a.turns w v two one,
    ) in
    let two_here = subst (λ n. IsNext channels counts left b.turns n) (sym node) two in
    let turns : a.turns ≡ b.turns = omega (
      arith,
      same_turns channels counts left a.turns b.turns v one two_here,
      same_turns channels counts left b.turns a.turns v two_here one,
    ) in
    let unit_is : repeated a.turns a.nodes.items ≡ repeated b.turns b.nodes.items =
    ap (λ t. repeated t a.nodes.items) turns
    ∙ ap (repeated b.turns) (v_is ∙ ap (λ n. n ∷ []) node ∙ sym w_is) in
    let counts_is = ap (λ t. fired counts t v) turns ∙ ap (fired counts b.turns) node in
    let left_is = ap (λ t. less_turns left t v) turns ∙ ap (less_turns left b.turns) node in
    let later = subst (λ k. IsGreedy channels k (less_turns left b.turns w) as_rest) counts_is
    (subst (λ l. IsGreedy channels (fired counts a.turns v) l as_rest) left_is as_later) in
    let rest = same_firings channels (fired counts b.turns w) (less_turns left b.turns w) as_rest
    bs_rest later bs_later (λ other.
    let s = same other in
    let x = firing_count_append (repeated a.turns a.nodes.items) (firings_of as_rest) other in
    let y = firing_count_append (repeated b.turns b.nodes.items) (firings_of bs_rest) other in
    let u = ap (λ l. firing_count l other) unit_is in
    omega (arith, s, x, y, u)) in
    ap (λ l. l ++ firings_of as_rest) unit_is
    ∙ ap (λ l. repeated b.turns b.nodes.items ++ l) rest

pub one_order : OneGreedyOrder
one_order channels counts firings order other one two =
    same_firings channels counts firings order other one.greedy two.greedy
    (λ node. omega (arith, one.all node, two.all node))
