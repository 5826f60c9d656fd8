-- Another firing never takes a window away; so where any order of some firings exists, no choice of
-- the next firing is wrong.
use Rattle.std.proofs.Common.{◌≡◌, ◌∙◌, refl, sym, ap, ℕ, ◌+◌, ◌<◌, ◌≤◌, List, [], ◌∷◌, get_or, inl}
use Rattle.std.proofs.Common.{inr}
use Rattle.std.proofs.Common.{arith}
use Rattle.std.proofs.lemmas.Bool.{cases_eq, cases_lt}
use Rattle.strc_startup.proofs.Counting.{supply-le}
use Rattle.strc_startup.specs.declared.channel_rates.ChannelRates.{ChannelRates}
use Rattle.strc_sched_orders.specs.Firings.{Firings, fired, reach, HasWindow, FindsWindows}
use Rattle.strc_sched_orders.specs.Order.{firing_count, IsOrder, HasOrder}
use Rattle.strc_sched_orders.specs.Progress.{IsStuck}
use Rattle.strc_sched_orders.proofs.FiringCounts.{turns_same, turns_other}

-- more firings of others leave a window where it was
pub keeps_window : (rates : ChannelRates) (before now : Firings)
    → before rates.source ≤ now rates.source → before rates.target ≡ now rates.target
    → HasWindow before rates → HasWindow now rates
keeps_window rates before now grown same has =
    let more = supply-le rates (before rates.source) (now rates.source) grown in
    omega (arith, more, ap (reach rates) same, has)

pub finds_later : (channels : List ChannelRates) (before now : Firings) (node : ℕ)
    → ((other : ℕ) → before other ≤ now other) → before node ≡ now node
    → FindsWindows channels before node → FindsWindows channels now node
finds_later channels before now node grown same finds k d within is =
    let rates = get_or channels k d in
    keeps_window rates before now (grown rates.source) (ap before is ∙ same ∙ sym (ap now is))
    (finds k d within is)

-- what one can fire next where another order has gone on
pub record Exchanges (channels : List ChannelRates) (before now : Firings) (order : List ℕ) : Type 0
  where
    pub node : ℕ
    pub left : now node < before node + firing_count order node
    pub finds : FindsWindows channels now node

-- in an order take the first firing that is yet to come: all before it have been, and it finds its
-- windows
pub exchange : (channels : List ChannelRates) (before now : Firings) (order : List ℕ) (some : ℕ)
    → IsOrder channels before order → ((node : ℕ) → before node ≤ now node)
    → now some < before some + firing_count order some → Exchanges channels before now order
exchange channels before now [] some is grown less = absurd (omega (arith, grown some, less))
exchange channels before now (first ∷ order) some is grown less =
    elim (cases_lt (before first) (now first)) [
      | inl done ↦
          let next = fired before 1 first in
          let later : (node : ℕ) → next node ≤ now node = λ node.
          elim (cases_eq node first) [
            | inl same ↦ omega (
              arith,
              turns_same 1 first node same,
              done,
              ap before same,
              ap now same,
            )
            | inr apart ↦ omega (arith, turns_other 1 first node apart, grown node)
          ] in
          let own = exchange channels next now order some is.1 later (omega (arith, less)) in
          record { node = own.node; left = omega (arith, own.left); finds = own.finds }
      | inr still ↦ record {
        node = first;
        left = omega (arith, turns_same 1 first first refl, still);
        finds = finds_later channels before now first grown (omega (arith, still, grown first))
            is.0;
      }
    ]

-- where no node that has firings left finds its windows, and some order exists, none are left
pub spent : (channels : List ChannelRates) (before now firings left : Firings)
    → ((node : ℕ) → before node ≤ now node)
    → ((node : ℕ) → now node + left node ≡ before node + firings node)
    → IsStuck channels now left → HasOrder channels before firings
    → (node : ℕ) → left node ≡ 0
spent channels before now firings left grown sums stuck (order, is, all) node =
    elim (cases_lt 0 (left node)) [
      | inl some ↦
          let own = exchange channels before now order node is grown
          (omega (arith, sums node, all node, some)) in
          absurd (stuck own.node (omega (arith, sums own.node, all own.node, own.left)) own.finds)
      | inr none ↦ omega (arith, none)
    ]
