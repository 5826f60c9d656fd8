-- The nodes that wait are looked at one after another until none waits.
use Rattle.std.proofs.Common.{◌≡◌, ◌∙◌, sym, subst, ℕ, ◌+◌, ◌*◌, ◌<◌, List, length, All, map, ap}
use Rattle.std.proofs.Common.{true, false, option_map, Contains, Some, slice_get, slice_index_or}
use Rattle.std.proofs.Common.{inl, inr, arith}
use Rattle.std.proofs.lemmas.Bool.{true≢false}
use Rattle.std.proofs.lemmas.List.{length-map}
use Rattle.std.proofs.lemmas.List.Elements.{Contains-get_or}
use Rattle.std.proofs.lemmas.Option.{slice_get-get_or, slice_get-map, slice_get_within}
use Rattle.strc_balance.specs.NumberSets.{has_number, IsWithout, AllNumbers, size_below}
use Rattle.strc_balance.proofs.Membership.{without_cases, without_old, size_without}
use Rattle.strc_balance.specs.Balance.{IsWithinLimit}
use Rattle.strc_startup.specs.Startup.{IsMet, IsLeast}
use Rattle.strc_startup.specs.Grouping.{IsGrouping, places_at}
use Rattle.strc_startup.specs.Raises.{Raises, IsBelow, room}
use Rattle.strc_startup.specs.Waiting.{Waits}
use Rattle.strc_startup.specs.declared.channel_rates.ChannelRates.{ChannelRates}

-- counts on the way to the least ones
pub record Nears (first : List ℕ) (channels : List ChannelRates) (counts waiting : List ℕ) : Type 0
  where
    pub each : length counts ≡ length first
    pub grown : IsBelow first counts
    pub within : IsWithinLimit counts
    pub below : (other : List ℕ) → All (IsMet other) channels → IsBelow first other
        → IsBelow counts other
    pub served : (channel : ℕ) (rates : ChannelRates) → slice_get channels channel ≡ Some rates
        → Waits counts waiting rates
    pub nodes : AllNumbers (λ node. node < length counts) waiting

module _ (first : List ℕ) (channels : List ChannelRates) (counts before after : List ℕ)
    (node : ℕ) (nears : Nears first channels counts before)
    (there : has_number before node ≡ true) (taken : IsWithout node before after) where
  pub node_within : node < length counts
  node_within = nears.nodes node there

  pub nodes_within : AllNumbers (λ n. n < length counts) after
  nodes_within n waits = nears.nodes n (without_old node before after taken n waits)

  module _ (lists : List (List ℕ))
      (incoming : IsGrouping lists (map (λ rates. rates.target) channels)) (raised waiting : List ℕ)
      (raises : Raises channels counts after raised waiting)
      (served : (channel : ℕ) (rates : ChannelRates) → Contains (places_at lists node) channel
      → slice_get channels channel ≡ Some rates → Waits raised waiting rates) where
    all_served : (channel : ℕ) (rates : ChannelRates) → slice_get channels channel ≡ Some rates
        → Waits raised waiting rates
    all_served channel rates is =
        elim (nears.served channel rates is) [
          | inl met ↦ raises.kept rates (inl met)
          | inr waits ↦
              elim (without_cases node before after taken rates.target waits) [
                | inl same ↦ served channel rates
                    (subst (λ n. Contains (places_at lists n) channel) same
                    ((incoming channel rates.target).0 (slice_get-map (λ rates. rates.target)
                    channels channel ∙ ap (option_map (λ rates. rates.target)) is))) is
                | inr later ↦ raises.kept rates (inr later)
              ]
        ]

    pub nearer : Nears first channels raised waiting
    nearer = record {
      each = raises.each ∙ nears.each;
      grown = λ n. omega (arith, nears.grown n, raises.grown n);
      within = raises.within;
      below = λ other met less. raises.below other met (nears.below other met less);
      served = all_served;
      nodes = raises.numbers;
    }

    pub fewer_steps : 2 * room raised + size_below waiting (length raised)
        < 2 * room counts + size_below before (length counts)
    fewer_steps = omega (
      arith,
      raises.steps,
      size_without node before after taken there (length counts) node_within,
    )

-- the channels of a node are channels
pub listed_within : (lists : List (List ℕ)) (channels : List ChannelRates) (node : ℕ)
    → IsGrouping lists (map (λ rates. rates.target) channels)
    → All (λ channel. channel < length channels) (places_at lists node)
listed_within lists channels node groups k d within =
    let targets = map (λ rates. rates.target) channels in
    let there = (groups (slice_index_or (places_at lists node) k d) node).1
    (Contains-get_or (places_at lists node) k d within) in
    let inside = slice_get_within targets (slice_index_or (places_at lists node) k d) node there in
    omega (arith, inside, length-map channels (λ (rates : ChannelRates). rates.target))

-- where none waits, the counts are the least ones
pub arrived : (first : List ℕ) (channels : List ChannelRates) (counts waiting : List ℕ)
    → Nears first channels counts waiting → ((node : ℕ) → has_number waiting node ≡ false)
    → IsLeast first channels counts
arrived first channels counts waiting nears none = record {
  primed = record {
    each = nears.each;
    past_prework = nears.grown;
    met = λ k d within.
        elim (nears.served k (slice_index_or channels k d)
        (slice_get-get_or channels k d within)) [
          | inl met ↦ met
          | inr waits ↦ absurd (true≢false
              (sym waits ∙ none (slice_index_or channels k d).target))
        ];
  };
  least = λ other primed. nears.below other primed.met primed.past_prework;
}
