-- The channels of a network by their numbers.
use Rattle.std.proofs.Common.{◌≡◌, ◌∙◌, sym, ap, subst, ℕ, ◌+◌, ◌<◌, List, [], ◌∷◌, ◌++◌, length}
use Rattle.std.proofs.Common.{take, inl, inr}
use Rattle.std.proofs.lemmas.Bool.{cases_eq}
use Rattle.std.proofs.Common.{map, get_or, slice_get, Some, All, Contains, arith, option_map}
use Rattle.std.proofs.lemmas.List.{length-map, get_or-map, take_more, map-append}
use Rattle.std.proofs.lemmas.List.Elements.{Contains-get_or}
use Rattle.std.proofs.lemmas.Option.{same_Some, slice_get-get_or, slice_get-map, slice_get_within}
use Rattle.strc_startup.specs.Grouping.{IsGrouping, places_at}
use Rattle.strc_startup.specs.declared.channel_rates.ChannelRates.{ChannelRates}
use Rattle.strc_sched_orders.specs.Firings.{Firings, HasWindow, FindsWindows}
use Rattle.strc_sched_orders.specs.Network.{NetworkView, IsNetwork}
use Rattle.strc_sched_orders.specs.Progress.{HasFirst}

abbrev pub nothing : ChannelRates
nothing = record {
  source = 0;
  enqueued = 0;
  first_push = 0;
  push = 0;
  target = 0;
  prework_window = 0;
  first_window = 0;
  first_pop = 0;
  pop = 0;
  window = 0;
}

-- what is at a place is at the place of a map
mapped : (end : ChannelRates → ℕ) (channels : List ChannelRates) (number node : ℕ)
    (rates : ChannelRates) → slice_get (map end channels) number ≡ Some node
    → slice_get channels number ≡ Some rates → end rates ≡ node
mapped end channels number node rates is there =
    same_Some (end rates) node
    (sym (slice_get-map end channels number ∙ ap (option_map end) there) ∙ is)

-- what is at a place is contained
pub contains_at : (numbers : List ℕ) (place number : ℕ) → slice_get numbers place ≡ Some number
    → Contains numbers number
contains_at numbers place number at =
    let less = slice_get_within numbers place number at in (
      place,
      less,
      same_Some (get_or numbers place number) number
          (sym (slice_get-get_or numbers place number less) ∙ at),
    )

-- the channels listed at the nodes of an end are channels with that end
module _ (lists : List (List ℕ)) (channels : List ChannelRates) (end : ChannelRates → ℕ)
    (groups : IsGrouping lists (map end channels)) (node : ℕ) where
  pub listed_within : All (λ number. number < length channels) (places_at lists node)
  listed_within k d within =
      let number = get_or (places_at lists node) k d in
      let there = (groups number node).1 (Contains-get_or (places_at lists node) k d within) in
      let inside = slice_get_within (map end channels) number node there in
      omega (arith, inside, length-map channels end)

  pub listed_end : (number : ℕ) (rates : ChannelRates) → Contains (places_at lists node) number
      → slice_get channels number ≡ Some rates → end rates ≡ node
  listed_end number rates there is =
      mapped end channels number node rates ((groups number node).1 there) is

  pub end_listed : (number : ℕ) (rates : ChannelRates) → slice_get channels number ≡ Some rates
      → end rates ≡ node → Contains (places_at lists node) number
  end_listed number rates is same =
      (groups number node).0 (slice_get-map end channels number ∙ ap (option_map end) is
      ∙ ap Some same)

-- the nodes at one end of all channels
pub all_ends : (end : ChannelRates → ℕ) (channels : List ChannelRates) (size : ℕ)
    → All (λ rates. end rates < size) channels → All (λ node. node < size) (map end channels)
all_ends end channels size all k d within =
    let short : k < length channels = omega (arith, within, length-map channels end) in
    subst (λ n. n < size) (sym (get_or-map end channels k nothing d short)) (all k nothing short)

-- the values of one more channel
pub map_more : (value : ChannelRates → ℕ) (channels : List ChannelRates) (i : ℕ) (d : ChannelRates)
    (items : List ℕ) → i < length channels → items ≡ map value (take i channels)
    → items ++ value (get_or channels i d) ∷ [] ≡ map value (take (i + 1) channels)
map_more value channels i d items within is =
    ap (λ l. l ++ value (get_or channels i d) ∷ []) is
    ∙ sym (ap (map value) (take_more channels i d within)
    ∙ map-append value (take i channels) (get_or channels i d ∷ []))

-- a window found on one more channel of a list
pub has_more : (network : NetworkView) (numbers : List ℕ) (counts : Firings) (found : ℕ)
    (within : found < length numbers) (rates : ChannelRates)
    → slice_get network.channels (get_or numbers found 0) ≡ Some rates
    → HasFirst network numbers counts found → HasWindow counts rates
    → HasFirst network numbers counts (found + 1)
has_more network numbers counts found within rates there first has other own its less at here =
    elim (cases_eq other found) [
      | inl same ↦
          let e = same_Some (get_or numbers found 0) own
          (sym (slice_get-get_or numbers found 0 within) ∙ ap (slice_get numbers) (sym same) ∙ at)
          in
          subst (HasWindow counts) (same_Some rates its (sym there
          ∙ ap (slice_get network.channels) e ∙ here)) has
      | inr apart ↦ first other own its (omega (arith, less, apart)) at here
    ]

-- and not found
pub lacks_next : (network : NetworkView) (numbers : List ℕ) (counts : Firings) (found : ℕ)
    (within : found < length numbers) (rates : ChannelRates)
    → slice_get network.channels (get_or numbers found 0) ≡ Some rates → ¬ HasWindow counts rates
    → (number : ℕ) (own : ChannelRates) → slice_get numbers found ≡ Some number
    → slice_get network.channels number ≡ Some own → ¬ HasWindow counts own
lacks_next network numbers counts found within rates there lacks number own at here has =
    let e = same_Some (get_or numbers found 0) number
    (sym (slice_get-get_or numbers found 0 within) ∙ at) in
    lacks (subst (HasWindow counts) (same_Some own rates (sym here
    ∙ ap (slice_get network.channels) (sym e) ∙ there)) has)

module _ (network : NetworkView) (is : IsNetwork network) where
  -- a node finds its windows where it does on all channels that are listed there
  pub finds_all : (counts : Firings) (node : ℕ)
      → HasFirst network (places_at network.incoming node) counts
      (length (places_at network.incoming node))
      → FindsWindows network.channels counts node
  finds_all counts node first k d within same =
      let numbers = places_at network.incoming node in
      let rates = get_or network.channels k d in
      let here = slice_get-get_or network.channels k d within in
      let (place, less, at) = end_listed network.incoming network.channels (λ r. r.target)
      is.incoming node k rates here same in
      first place k rates less (slice_get-get_or numbers place k less ∙ ap Some at) here

  pub all_find : (counts : Firings) (node : ℕ) → FindsWindows network.channels counts node
      → (found : ℕ) → HasFirst network (places_at network.incoming node) counts found
  all_find counts node finds found place number rates less at here =
      let numbers = places_at network.incoming node in
      let within = slice_get_within network.channels number rates here in
      let is_rates = same_Some (get_or network.channels number rates) rates
      (sym (slice_get-get_or network.channels number rates within) ∙ here) in
      let ends = listed_end network.incoming network.channels (λ r. r.target) is.incoming node
      number rates (contains_at numbers place number at) here in
      subst (HasWindow counts) is_rates (finds number rates within (ap (λ r. r.target) is_rates
      ∙ ends))
