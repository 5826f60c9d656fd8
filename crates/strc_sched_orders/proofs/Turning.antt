-- How often a node can fire at once, from channel to channel.
use Rattle.std.proofs.Common.{◌≡◌, ◌∙◌, sym, ap, subst, ℕ, ◌+◌, ◌<◌, ◌≤◌, length, get_or}
use Rattle.std.proofs.Common.{slice_get, Some, inl, inr, arith}
use Rattle.std.proofs.lemmas.Bool.{cases_eq, cases_lt}
use Rattle.std.proofs.lemmas.List.Elements.{Contains-get_or}
use Rattle.std.proofs.lemmas.Option.{same_Some, slice_get-get_or, slice_get_within}
use Rattle.strc_startup.specs.Grouping.{places_at}
use Rattle.strc_startup.specs.declared.channel_rates.ChannelRates.{ChannelRates}
use Rattle.strc_sched_orders.specs.Firings.{Firings, fired, HasWindow}
use Rattle.strc_sched_orders.specs.Network.{NetworkView, IsNetwork}
use Rattle.strc_sched_orders.specs.Progress.{HasFirst}
use Rattle.strc_sched_orders.proofs.Networks.{listed_end}

-- what is there is as all are
pub rates_there : (P : ChannelRates → Type 0) (network : NetworkView) (number : ℕ)
    (rates : ChannelRates)
    → ((k : ℕ) (d : ChannelRates) → k < length network.channels
    → P (get_or network.channels k d))
    → slice_get network.channels number ≡ Some rates → P rates
rates_there P network number rates all there =
    let within = slice_get_within network.channels number rates there in
    subst P (same_Some (get_or network.channels number rates) rates
    (sym (slice_get-get_or network.channels number rates within) ∙ there))
    (all number rates within)

module _ (network : NetworkView) (is : IsNetwork network) (node place : ℕ)
    (within : place < length (places_at network.incoming node)) (rates : ChannelRates)
    (there : slice_get network.channels (get_or (places_at network.incoming node) place 0)
    ≡ Some rates) where
  abbrev number : ℕ
  number = get_or (places_at network.incoming node) place 0

  at_place : slice_get (places_at network.incoming node) place ≡ Some number
  at_place = slice_get-get_or (places_at network.incoming node) place 0 within

  pub target_is : rates.target ≡ node
  target_is = listed_end network.incoming network.channels (λ r. r.target) is.incoming node number
      rates (Contains-get_or (places_at network.incoming node) place 0 within) there

  pub first_more : (counts : Firings)
      → HasFirst network (places_at network.incoming node) counts place → HasWindow counts rates
      → HasFirst network (places_at network.incoming node) counts (place + 1)
  first_more counts first has other own its less at here =
      elim (cases_eq other place) [
        | inl same ↦
            let e = same_Some number own (sym at_place
            ∙ ap (slice_get (places_at network.incoming node)) (sym same) ∙ at) in
            subst (HasWindow counts) (same_Some rates its (sym there
            ∙ ap (slice_get network.channels) e ∙ here)) has
        | inr apart ↦ first other own its (omega (arith, less, apart)) at here
      ]

  pub first_fewer : (counts : Firings)
      → HasFirst network (places_at network.incoming node) counts (place + 1)
      → HasFirst network (places_at network.incoming node) counts place
  first_fewer counts first other own its less at here =
      first other own its (omega (arith, less)) at here

  pub next_has : (counts : Firings)
      → HasFirst network (places_at network.incoming node) counts (place + 1)
      → HasWindow counts rates
  next_has counts first = first place number rates (omega arith) at_place there

-- the number of turns, channel by channel
pub record Turns (network : NetworkView) (counts : Firings) (node limit turns place : ℕ) : Type 0
  where
    pub within : turns ≤ limit
    pub finds : (earlier : ℕ) → earlier < turns
        → HasFirst network (places_at network.incoming node) (fired counts earlier node) place
    pub most : turns < limit
        → ¬ HasFirst network (places_at network.incoming node) (fired counts turns node) place

pub turns_more : (network : NetworkView) (is : IsNetwork network) (counts : Firings)
    (node limit turns place fewer : ℕ)
    (within : place < length (places_at network.incoming node)) (rates : ChannelRates)
    (there : slice_get network.channels (get_or (places_at network.incoming node) place 0)
    ≡ Some rates) → Turns network counts node limit turns place → fewer ≤ turns
    → ((earlier : ℕ) → earlier < fewer → HasWindow (fired counts earlier rates.target) rates)
    → (fewer < turns → ¬ HasWindow (fired counts fewer rates.target) rates)
    → Turns network counts node limit fewer (place + 1)
turns_more network is counts node limit turns place fewer within rates there before few finds most =
    let same = target_is network is node place within rates there in
    record {
      within = omega (arith, few, before.within);
      finds = λ earlier less. first_more network is node place within rates there
          (fired counts earlier node) (before.finds earlier (omega (arith, less, few)))
          (subst (λ n. HasWindow (fired counts earlier n) rates) same (finds earlier less));
      most = λ less first. elim (cases_lt fewer turns) [
        | inl short ↦ most short (subst (λ n. HasWindow (fired counts fewer n) rates) (sym same)
            (next_has network is node place within rates there (fired counts fewer node) first))
        | inr same ↦
            let e : fewer ≡ turns = omega (arith, few, same) in
            before.most (omega (arith, less, e))
            (subst (λ n. HasFirst network (places_at network.incoming node) (fired counts n node)
            place) e (first_fewer network is node place within rates there
            (fired counts fewer node) first))
      ];
    }
