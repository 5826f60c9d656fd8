-- A greedy order, unit by unit, until no node can fire.
use Rattle.std.proofs.Common.{◌≡◌, ◌∙◌, refl, sym, ap, subst, ℕ, zero, suc, ◌+◌, ◌<◌, ◌≤◌, List, []}
use Rattle.std.proofs.Common.{◌∷◌, ◌++◌, length, sum_by, inl, inr, arith}
use mathlib.Core.Path.{fun_ext}
use Rattle.std.proofs.lemmas.List.Sums.{sum_by-cons}
use Rattle.strc_balance.specs.Balance.{count_at}
use Rattle.strc_sched_orders.specs.declared.unit as units
use Rattle.strc_sched_orders.specs.Firings.{Firings, turns_of, fired}
use Rattle.strc_sched_orders.specs.Greedy.{firings_of, less_turns, IsNext, IsGreedyOrder}
use Rattle.strc_sched_orders.specs.Network.{NetworkView}
use Rattle.strc_sched_orders.specs.Order.{firing_count, after, repeated, HasOrder}
use Rattle.strc_sched_orders.specs.Progress.{ProgressView, IsProgress, IsStuck, Begins, TakesUnit}
use Rattle.strc_sched_orders.specs.Progress.{Orders}
use Rattle.strc_sched_orders.specs.Progress.{OrdersAll}
use Rattle.strc_sched_orders.proofs.FiringCounts.{firing_count_append, firing_count_repeated}
use Rattle.strc_sched_orders.proofs.FiringCounts.{after_append}
use Rattle.strc_sched_orders.proofs.FiringCounts.{after_none, after_repeated}
use Rattle.strc_sched_orders.proofs.FiringCounts.{turns_same, turns_other}
use Rattle.std.proofs.lemmas.Bool.{cases_eq}
use Rattle.strc_sched_orders.proofs.Exchange.{spent}
use Rattle.strc_sched_orders.proofs.Greedily.{left_after, greedy_push, firings_push}

-- before any unit
pub no_units : (network : NetworkView) (progress : ProgressView) → IsProgress network progress
    → Orders network (count_at progress.counts) (count_at progress.left) [] progress
no_units network progress is = record {
  is_so = is;
  greedy = tt;
  done = sym (after_none (count_at progress.counts));
  left = λ node. omega arith;
}

-- numbers that are nowhere greater and once less have a lesser sum
pub sum_less : (before after : List ℕ) → length after ≡ length before
    → ((node : ℕ) → count_at after node ≤ count_at before node) → (node : ℕ)
    → count_at after node < count_at before node
    → sum_by (λ left. left) after < sum_by (λ left. left) before
sum_less [] [] each most node less = absurd (omega (arith, less))
sum_less [] (b ∷ ys) each most node less = absurd (omega (arith, each))
sum_less (a ∷ xs) [] each most node less = absurd (omega (arith, each))
sum_less (a ∷ xs) (b ∷ ys) each most zero less =
    let rest = sum_most xs ys (omega (arith, each)) (λ n. most (suc n)) in
    omega (arith, less, rest, sum_by-cons (λ left. left) a xs, sum_by-cons (λ left. left) b ys)
  where
    sum_most : (before after : List ℕ) → length after ≡ length before
        → ((node : ℕ) → count_at after node ≤ count_at before node)
        → sum_by (λ left. left) after ≤ sum_by (λ left. left) before
    sum_most [] [] each most = omega arith
    sum_most [] (b ∷ ys) each most = absurd (omega (arith, each))
    sum_most (a ∷ xs) [] each most = absurd (omega (arith, each))
    sum_most (a ∷ xs) (b ∷ ys) each most =
        let rest = sum_most xs ys (omega (arith, each)) (λ n. most (suc n)) in
        omega (
          arith,
          most 0,
          rest,
          sum_by-cons (λ left. left) a xs,
          sum_by-cons (λ left. left) b ys,
        )
sum_less (a ∷ xs) (b ∷ ys) each most (suc node) less =
    let rest = sum_less xs ys (omega (arith, each)) (λ n. most (suc n)) node less in
    omega (arith, most 0, rest, sum_by-cons (λ left. left) a xs, sum_by-cons (λ left. left) b ys)

module _ (network : NetworkView) (counts firings : Firings) (order : List units.Unit.Unit)
    (before : ProgressView) (orders : Orders network counts firings order before) where
  done_all : (node : ℕ) → after counts (firings_of order) node + count_at before.left node
      ≡ counts node + firings node
  done_all node = omega (arith, orders.left node)

  -- where no node can fire, and some order exists, no firing is left
  pub all_spent : IsStuck network.channels (count_at before.counts) (count_at before.left)
      → HasOrder network.channels counts firings → (node : ℕ) → count_at before.left node ≡ 0
  all_spent stuck some =
      spent network.channels counts (after counts (firings_of order)) firings
      (count_at before.left) (λ node. omega arith) done_all
      (subst (λ k. IsStuck network.channels k (count_at before.left)) orders.done stuck) some

  -- where none is left, they are the whole order
  pub whole : ((node : ℕ) → count_at before.left node ≡ 0)
      → IsGreedyOrder network.channels counts firings order
  whole none = record {
    greedy = orders.greedy;
    all = λ node. omega (arith, orders.left node, none node);
  }

  module _ (now : ProgressView) (unit : units.Unit.Unit) (node : ℕ)
      (single : unit.nodes.items ≡ node ∷ [])
      (next : IsNext network.channels (count_at before.counts)
      (count_at before.left) unit.turns node)
      (counts_now : count_at now.counts ≡ fired (count_at before.counts) unit.turns node)
      (left_now : count_at now.left ≡ less_turns (count_at before.left) unit.turns node)
      (progress : IsProgress network now) where
    fires : (other : ℕ)
        → firing_count (repeated unit.turns unit.nodes.items) other ≡ turns_of unit.turns node other
    fires other = ap (λ l. firing_count (repeated unit.turns l) other) single
        ∙ firing_count_repeated unit.turns node other

    same_left : count_at before.left ≡ left_after firings (firings_of order)
    same_left = fun_ext (λ other. omega (arith, orders.left other))

    bounded : (other : ℕ) → turns_of unit.turns node other ≤ count_at before.left other
    bounded other =
        elim (cases_eq other node) [
          | inl same ↦ omega (
            arith,
            turns_same unit.turns node other same,
            ap (count_at before.left) same,
            next.within,
          )
          | inr apart ↦ omega (arith, turns_other unit.turns node other apart)
        ]

    pub one_more_unit : Orders network counts firings (order ++ unit ∷ []) now
    one_more_unit = record {
      is_so = progress;
      greedy = greedy_push network.channels counts firings order unit node orders.greedy single
          (subst (λ l. IsNext network.channels (after counts (firings_of order)) l unit.turns node)
          same_left (subst (λ k. IsNext network.channels k (count_at before.left) unit.turns node)
          orders.done next));
      done = counts_now ∙ ap (λ k. fired k unit.turns node) orders.done
          ∙ sym (after_repeated (after counts (firings_of order)) unit.turns node)
          ∙ ap (λ l. after (after counts (firings_of order)) (repeated unit.turns l)) (sym single)
          ∙ sym (after_append counts (firings_of order) (repeated unit.turns unit.nodes.items))
          ∙ ap (after counts) (sym (firings_push order unit));
      left = λ other.
          let l = ap (λ f. f other) left_now in
          let p = ap (λ o. firing_count o other) (firings_push order unit)
          ∙ firing_count_append (firings_of order) (repeated unit.turns unit.nodes.items) other in
          omega (arith, l, p, fires other, orders.left other, bounded other);
    }

  -- one unit more was taken
  pub one_taken : (now : ProgressView) (turns node : ℕ) (unit : units.Unit.Unit)
      → unit.turns ≡ turns → unit.nodes.items ≡ node ∷ []
      → TakesUnit network before now turns node
      → Orders network counts firings (order ++ unit ∷ []) now
  one_taken now turns node unit same single takes =
      let its : TakesUnit network before now unit.turns node =
      subst (λ t. TakesUnit network before now t node) (sym same) takes in
      one_more_unit now unit node single its.next its.counts its.left its.progress

  pub fewer_left : (now : ProgressView) (turns node : ℕ) → TakesUnit network before now turns node
      → sum_by (λ left. left) now.left < sum_by (λ left. left) before.left
  fewer_left now turns node takes =
      sum_less before.left now.left
      (takes.progress.sound.left ∙ sym orders.is_so.sound.left)
      (λ other. let e = ap (λ f. f other) takes.left in omega (arith, e)) node
      (let e = ap (λ f. f node) takes.left in
      omega (arith, e, turns_same turns node node refl, takes.next.some, takes.next.within))

-- where no node can fire, and all is as before
pub all_ordered : (network : NetworkView) (start before now : ProgressView)
    (order : List units.Unit.Unit)
    → Orders network (count_at start.counts) (count_at start.left) order before
    → IsStuck network.channels (count_at before.counts) (count_at before.left) → now ≡ before
    → OrdersAll network start order now
all_ordered network start before now order orders stuck same =
    let all : OrdersAll network start order before = record { orders = orders; stuck = stuck } in
    subst (OrdersAll network start order) (sym same) all

module _ (network : NetworkView) (counts firings : List ℕ) (start now : ProgressView)
    (order : List units.Unit.Unit) (begins : Begins network counts firings start)
    (all : OrdersAll network start order now) where
  -- where no firing is left, the units are the order
  pub whole_order : ((node : ℕ) → count_at now.left node ≡ 0)
      → IsGreedyOrder network.channels (count_at counts) (count_at firings) order
  whole_order none =
      subst (λ k. IsGreedyOrder network.channels k (count_at firings) order) begins.counts
      (subst (λ l. IsGreedyOrder network.channels (count_at start.counts) l order) begins.left
      (whole network (count_at start.counts) (count_at start.left) order now all.orders none))

  -- and where an order exists, none is left
  pub none_left : HasOrder network.channels (count_at counts) (count_at firings)
      → (node : ℕ) → count_at now.left node ≡ 0
  none_left some =
      all_spent network (count_at start.counts) (count_at start.left) order now all.orders all.stuck
      (subst (λ k. HasOrder network.channels k (count_at start.left)) (sym begins.counts)
      (subst (HasOrder network.channels (count_at counts)) (sym begins.left) some))
