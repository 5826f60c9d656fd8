-- The buffers of two orders, channel by channel.
use Rattle.std.proofs.Common.{◌≡◌, ◌∙◌, refl, sym, ap, subst, ℕ, suc, ◌<◌, ◌≤◌, List, []}
use Rattle.std.proofs.Common.{◌∷◌, length, map, get_or, replicate, slice_get, slice_index, Some}
use Rattle.std.proofs.Common.{All}
use Rattle.std.proofs.Common.{inl, inr, arith}
use mathlib.Core.Path.{fun_ext}
use Rattle.std.proofs.lemmas.Bool.{cases_lt}
use Rattle.std.proofs.lemmas.List.{get_or-replicate, get_or_past, length-replicate, length-map}
use Rattle.std.proofs.lemmas.List.{get_or-map}
use Rattle.std.proofs.lemmas.Option.{same_Some, slice_get-get_or, slice_get_within}
use Rattle.strc_balance.specs.Balance.{count_at}
use Rattle.strc_startup.specs.declared.channel_rates.ChannelRates.{ChannelRates}
use Rattle.strc_sched_orders.specs.declared.unit as units
use Rattle.strc_sched_orders.specs.Buffers.{peak_fill, buffer_size, size_limit}
use Rattle.strc_sched_orders.specs.Firings.{Firings, none_fired, fill}
use Rattle.strc_sched_orders.specs.Greedy.{firings_of}
use Rattle.strc_sched_orders.specs.Order.{after}
use Rattle.strc_sched_orders.specs.Network.{NetworkView, size_of}
use Rattle.strc_sched_orders.specs.Peaks.{AreBelow, AreRaised, Raises}
use Rattle.strc_sched_orders.specs.Schedules.{IsAfterStartup, AreBuffers}
use Rattle.strc_sched_orders.proofs.Fills.{peak_first, peak_last}
use Rattle.strc_sched_orders.proofs.Networks.{nothing}

pub zero_counts : (size : ℕ) → count_at (replicate size 0) ≡ none_fired
zero_counts size = fun_ext (λ node.
    elim (cases_lt node size) [
      | inl within ↦ get_or-replicate size node 0 0 within
      | inr past ↦ get_or_past (replicate size 0) node 0
          (let e = length-replicate {A = ℕ} size 0 in omega (arith, e, past))
    ])

-- what a list has at each channel's number
pub list_is : (value : ChannelRates → ℕ) (channels : List ChannelRates) (items : List ℕ)
    → length items ≡ length channels
    → ((number : ℕ) (rates : ChannelRates) → slice_get channels number ≡ Some rates
    → slice_index items number ≡ value rates)
    → items ≡ map value channels
list_is value [] [] each at = refl
list_is value [] (item ∷ items) each at = absurd (omega (arith, each))
list_is value (rates ∷ channels) [] each at = absurd (omega (arith, each))
list_is value (rates ∷ channels) (item ∷ items) each at =
    ap (λ x. x ∷ items) (at 0 rates refl)
    ∙ ap (λ l. value rates ∷ l) (list_is value channels items (omega (arith, each))
    (λ number own there. at (suc number) own there))

pub at_channel : (value : ChannelRates → ℕ) (channels : List ChannelRates) (number : ℕ)
    (rates : ChannelRates) → slice_get channels number ≡ Some rates
    → slice_index (map value channels) number ≡ value rates
at_channel value channels number rates there =
    let within = slice_get_within channels number rates there in
    get_or-map value channels number rates 0 within
    ∙ ap value (same_Some (get_or channels number rates) rates
    (sym (slice_get-get_or channels number rates within) ∙ there))

-- lesser values keep the limit
pub all_lesser : (value greater : ChannelRates → ℕ) (channels : List ChannelRates)
    → ((rates : ChannelRates) → value rates ≤ greater rates)
    → All (λ size. size ≤ size_limit) (map greater channels)
    → All (λ size. size ≤ size_limit) (map value channels)
all_lesser value greater channels less all k d within =
    let short : k < length channels = omega (arith, within, length-map channels value) in
    let own = get_or channels k nothing in
    let limit = all k 0 (omega (arith, short, length-map channels greater)) in
    let a = get_or-map value channels k nothing d short in
    let b = get_or-map greater channels k nothing 0 short in
    omega (arith, limit, a, b, less own)

module _ (channels : List ChannelRates) (startup round : List units.Unit.Unit) where
  abbrev before : List ℕ
  before = map (λ rates. fill rates none_fired) channels

  -- the items that are enqueued
  pub enqueued_below : AreBelow channels none_fired before
  enqueued_below number rates there =
      let e = at_channel (λ own. fill own none_fired) channels number rates there in
      omega (arith, e)

  abbrev pub peak : ChannelRates → ℕ
  peak rates = peak_fill rates none_fired (firings_of startup)

  abbrev pub now : Firings
  now = after none_fired (firings_of startup)

  pub greatest_is : (greatest : List ℕ) → length greatest ≡ length channels
      → AreRaised channels none_fired (firings_of startup) before greatest
      → greatest ≡ map peak channels
  greatest_is greatest each raised = list_is peak channels greatest each (λ number rates there.
      let r = raised number rates there in
      let e = at_channel (λ own. fill own none_fired) channels number rates there in
      let f = peak_first rates none_fired (firings_of startup) in
      omega (arith, r, e, f))

  pub sizes_are : (greatest sizes : List ℕ) → greatest ≡ map peak channels
      → length sizes ≡ length channels
      → AreRaised channels now (firings_of round) greatest sizes
      → sizes ≡ map (buffer_size now startup round) channels
  sizes_are greatest sizes is each raised =
      list_is (buffer_size now startup round) channels sizes each (λ number rates there.
      let r = raised number rates there in
      let e = ap (λ l. slice_index l number) is
      ∙ at_channel peak channels number rates there in
      omega (arith, r, e))

  pub last_below : (rates : ChannelRates) → fill rates now ≤ buffer_size now startup round rates
  last_below rates = let e = peak_last rates none_fired (firings_of startup) in omega (arith, e)

  pub peak_below : (rates : ChannelRates) → peak rates ≤ buffer_size now startup round rates
  peak_below rates = omega arith

-- the numbers of items before any firing
module _ (network : NetworkView) (startup : List units.Unit.Unit) (counts enqueued : List ℕ)
    (zero : count_at counts ≡ none_fired)
    (there : enqueued ≡ map (λ rates. fill rates (count_at counts)) network.channels) where
  pub enqueued_known : AreBelow network.channels (count_at counts) enqueued
  enqueued_known number rates at =
      let e = ap (λ l. slice_index l number) there
      ∙ at_channel (λ own. fill own (count_at counts)) network.channels number rates at in
      omega (arith, e)

  pub after_startup : length counts ≡ size_of network → (later greatest : List ℕ)
      → Raises network.channels (firings_of startup) counts enqueued later greatest
      → IsAfterStartup network startup later greatest
  after_startup each later greatest raises = record {
    counted = raises.counted ∙ ap (λ k. after k (firings_of startup)) zero;
    nodes = raises.nodes ∙ each;
    greatest = greatest_is network.channels startup [] greatest
        (raises.channel ∙ ap length there
        ∙ length-map network.channels (λ rates. fill rates (count_at counts)))
        (subst (λ l. AreRaised network.channels none_fired (firings_of startup) l greatest)
        (there ∙ ap (λ k. map (λ rates. fill rates k) network.channels) zero)
        (subst (λ k. AreRaised network.channels k (firings_of startup) enqueued greatest) zero
        raises.peak));
  }

-- the numbers of items after start-up
module _ (network : NetworkView) (startup round : List units.Unit.Unit) (counts greatest : List ℕ)
    (is : IsAfterStartup network startup counts greatest) where
  pub greatest_each : length greatest ≡ length network.channels
  greatest_each = ap length is.greatest
      ∙ length-map network.channels (peak network.channels startup round)

  pub greatest_known : AreBelow network.channels (count_at counts) greatest
  greatest_known number rates at =
      let e = ap (λ l. slice_index l number) is.greatest
      ∙ at_channel (peak network.channels startup round) network.channels number rates at in
      let p = peak_last rates none_fired (firings_of startup) in
      let k = ap (fill rates) is.counted in
      omega (arith, e, p, k)

  pub are_buffers : (last copy later sizes : List ℕ)
      → last ≡ map (λ rates. fill rates (count_at counts)) network.channels → copy ≡ greatest
      → Raises network.channels (firings_of round) counts copy later sizes
      → AreBuffers network.channels startup round greatest last sizes
  are_buffers last copy later sizes there copied raises = record {
    greatest = is.greatest;
    last = there ∙ ap (λ k. map (λ rates. fill rates k) network.channels) is.counted;
    sizes = sizes_are network.channels startup round greatest sizes is.greatest
        (raises.channel ∙ ap length copied ∙ greatest_each)
        (subst (λ l. AreRaised network.channels (now network.channels startup round)
        (firings_of round) l sizes) copied
        (subst (λ k. AreRaised network.channels k (firings_of round) copy sizes) is.counted
        raises.peak));
  }

-- buffers of which each is within the limit
module _ (channels : List ChannelRates) (startup round : List units.Unit.Unit)
    (greatest last sizes : List ℕ)
    (are : AreBuffers channels startup round greatest last sizes) where
  pub greatest_within : All (λ size. size ≤ size_limit) sizes
      → All (λ size. size ≤ size_limit) greatest
  greatest_within limit =
      subst (All (λ size. size ≤ size_limit)) (sym are.greatest)
      (all_lesser (peak channels startup round)
      (buffer_size (now channels startup round) startup round) channels
      (peak_below channels startup round)
      (subst (All (λ size. size ≤ size_limit)) are.sizes limit))

  pub last_within : All (λ size. size ≤ size_limit) sizes → All (λ size. size ≤ size_limit) last
  last_within limit =
      subst (All (λ size. size ≤ size_limit)) (sym are.last)
      (all_lesser (λ rates. fill rates (now channels startup round))
      (buffer_size (now channels startup round) startup round) channels
      (last_below channels startup round)
      (subst (All (λ size. size ≤ size_limit)) are.sizes limit))

  pub same_buffers : (peaks ends limits : List ℕ) → peaks ≡ greatest → ends ≡ last
      → limits ≡ sizes → AreBuffers channels startup round peaks ends limits
  same_buffers peaks ends limits one two three = record {
    greatest = one ∙ are.greatest;
    last = two ∙ are.last;
    sizes = three ∙ are.sizes;
  }
