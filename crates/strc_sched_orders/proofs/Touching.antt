-- The greatest numbers of items, raised channel by channel and unit by unit.
use Rattle.std.proofs.Common.{◌≡◌, ◌≢◌, ◌∙◌, refl, sym, ap, subst, ℕ, ◌+◌, ◌<◌, ◌≤◌, max, List}
use Rattle.std.proofs.Common.{length}
use Rattle.std.proofs.Common.{[], ◌∷◌, ◌++◌, set, slice_get, slice_index, Some, Contains, inl, inr}
use Rattle.std.proofs.Common.{arith}
use Rattle.std.proofs.lemmas.Bool.{cases_eq}
use Rattle.std.proofs.lemmas.List.{get_or-set_same, get_or-set_other, length-set}
use Rattle.std.proofs.lemmas.Option.{same_Some, slice_get-get_or}
use Rattle.strc_startup.specs.Grouping.{places_at}
use Rattle.strc_startup.specs.declared.channel_rates.ChannelRates.{ChannelRates}
use Rattle.strc_sched_orders.specs.Firings.{Firings, fired, fill}
use Rattle.strc_sched_orders.specs.Network.{NetworkView, IsNetwork}
use Rattle.strc_sched_orders.specs.Order.{after, repeated}
use Rattle.strc_sched_orders.specs.Peaks.{AreBelow, AreRaised, AreTouched}
use Rattle.strc_sched_orders.proofs.Fills.{fill_other, peak_turns, peak_append, peak_last}
use Rattle.strc_sched_orders.proofs.Networks.{end_listed}

-- the channels at the first so many places have their numbers of items
pub record Touches (channels : List ChannelRates) (numbers : List ℕ) (counts : Firings)
    (before now : List ℕ) (places : ℕ) : Type 0 where
  pub each : length now ≡ length before
  pub touched : AreTouched channels counts before now
  pub served : (place number : ℕ) (rates : ChannelRates) → place < places
      → slice_get numbers place ≡ Some number → slice_get channels number ≡ Some rates
      → fill rates counts ≤ slice_index now number

pub touches_none : (channels : List ChannelRates) (numbers : List ℕ) (counts : Firings)
    (peaks : List ℕ) → Touches channels numbers counts peaks peaks 0
touches_none channels numbers counts peaks = record {
  each = refl;
  touched = record {
    grown = λ number. omega arith;
    within = λ number rates there. omega arith;
  };
  served = λ place number rates less at there. absurd (omega (arith, less));
}

module _ (channels : List ChannelRates) (numbers : List ℕ) (counts : Firings)
    (before now : List ℕ) (places number : ℕ) (rates : ChannelRates)
    (at : slice_get numbers places ≡ Some number)
    (there : slice_get channels number ≡ Some rates) (inside : number < length now)
    (touches : Touches channels numbers counts before now places) where
  abbrev value : ℕ
  value = max (slice_index now number) (fill rates counts)

  abbrev next : List ℕ
  next = set now number value

  at_number : slice_index next number ≡ value
  at_number = get_or-set_same now number value 0 inside

  at_other : (other : ℕ) → other ≢ number → slice_index next other ≡ slice_index now other
  at_other other apart = get_or-set_other now number other value 0 apart

  grows : (other : ℕ) → slice_index now other ≤ slice_index next other
  grows other =
      elim (cases_eq other number) [
        | inl same ↦ subst (λ n. slice_index now n ≤ slice_index next n) (sym same)
            (omega (arith, at_number))
        | inr apart ↦ omega (arith, at_other other apart)
      ]

  stays : (other : ℕ) (own : ChannelRates) → slice_get channels other ≡ Some own
      → slice_index next other ≤ max (slice_index before other) (fill own counts)
  stays other own is =
      elim (cases_eq other number) [
        | inl same ↦
            let e = same_Some own rates (sym is ∙ ap (slice_get channels) same ∙ there) in
            let f = ap (λ r. fill r counts) e in
            let n = ap (slice_index next) same in
            let m = ap (slice_index now) same in
            omega (arith, f, n, m, at_number, touches.touched.within other own is)
        | inr apart ↦ omega (arith, at_other other apart, touches.touched.within other own is)
      ]

  serves : (place other : ℕ) (own : ChannelRates) → place < places + 1
      → slice_get numbers place ≡ Some other → slice_get channels other ≡ Some own
      → fill own counts ≤ slice_index next other
  serves place other own less here is =
      elim (cases_eq place places) [
        | inl same ↦
            let n = same_Some other number (sym here ∙ ap (slice_get numbers) same ∙ at) in
            let e = same_Some own rates (sym is ∙ ap (slice_get channels) n ∙ there) in
            let f = ap (λ r. fill r counts) e in
            let m = ap (slice_index next) n in
            omega (arith, f, m, at_number)
        | inr apart ↦
            let old = touches.served place other own (omega (arith, less, apart)) here is in
            omega (arith, old, grows other)
      ]

  pub touches_more : Touches channels numbers counts before next (places + 1)
  touches_more = record {
    each = length-set now number value ∙ touches.each;
    touched = record {
      grown = λ other. omega (arith, grows other, touches.touched.grown other);
      within = stays;
    };
    served = serves;
  }

-- all channels of the list
pub all_touched : (channels : List ChannelRates) (numbers : List ℕ) (counts : Firings)
    (before now : List ℕ) (places : ℕ) → length numbers ≤ places
    → Touches channels numbers counts before now places
    → (number : ℕ) (rates : ChannelRates) → Contains numbers number
    → slice_get channels number ≡ Some rates → fill rates counts ≤ slice_index now number
all_touched channels numbers counts before now places all touches number rates (place, less, same)
    there =
    touches.served place number rates (omega (arith, less, all))
    (slice_get-get_or numbers place number less ∙ ap Some same) there

-- all channels have their numbers of items that begin at the node that fired
pub raised_turns : (network : NetworkView) (is : IsNetwork network) (counts : Firings)
    (turns node : ℕ) (before first last : List ℕ) → 0 < turns
    → AreBelow network.channels counts before
    → AreTouched network.channels (fired counts 1 node) before first
    → AreTouched network.channels (fired counts turns node) first last
    → ((number : ℕ) (rates : ChannelRates)
    → Contains (places_at network.outgoing node) number
    → slice_get network.channels number ≡ Some rates
    → fill rates (fired counts 1 node) ≤ slice_index first number)
    → ((number : ℕ) (rates : ChannelRates)
    → Contains (places_at network.outgoing node) number
    → slice_get network.channels number ≡ Some rates
    → fill rates (fired counts turns node) ≤ slice_index last number)
    → AreRaised network.channels counts (repeated turns (node ∷ [])) before last
raised_turns network is counts turns node before first last some below one more served_one served
    number rates there =
    let peak = peak_turns rates counts turns node some in
    let known = below number rates there in
    let a = one.grown number in
    let b = one.within number rates there in
    let c = more.grown number in
    let d = more.within number rates there in
    elim (cases_eq rates.source node) [
      | inl same ↦
          let here = end_listed network.outgoing network.channels (λ r. r.source) is.outgoing node
          number rates there same in
          omega (
            arith,
            peak,
            known,
            a,
            b,
            c,
            d,
            served_one number rates here there,
            served number rates here there,
          )
      | inr apart ↦
          omega (
            arith,
            peak,
            known,
            a,
            b,
            c,
            d,
            fill_other rates counts 1 node apart,
            fill_other rates counts turns node apart,
          )
    ]

-- one order after another
pub raised_then : (channels : List ChannelRates) (counts : Firings) (a b : List ℕ)
    (before middle now : List ℕ) → AreRaised channels counts a before middle
    → AreRaised channels (after counts a) b middle now
    → AreRaised channels counts (a ++ b) before now
raised_then channels counts a b before middle now first next number rates there =
    omega (
      arith,
      first number rates there,
      next number rates there,
      peak_append rates counts a b,
    )

-- what was raised along an order is not below what is there after it
pub raised_below : (channels : List ChannelRates) (counts : Firings) (order before now : List ℕ)
    → AreRaised channels counts order before now → AreBelow channels (after counts order) now
raised_below channels counts order before now raised number rates there =
    omega (arith, raised number rates there, peak_last rates counts order)
