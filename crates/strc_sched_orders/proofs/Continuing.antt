-- The items on channels from some counts on, seen as from the beginning on.
use Rattle.std.proofs.Common.{◌≡◌, ◌∙◌, refl, sym, ap, subst, ℕ, zero, suc, ◌+◌, ◌*◌, ◌<◌}
use Rattle.std.proofs.Common.{◌≤◌, max, List, [], ◌∷◌, ◌++◌, length, map, take, get_or, All, arith}
use Rattle.std.proofs.Common.{slice_get, slice_index, Some, inl, inr, Result, Err}
use Rattle.std.specs.Prelude.{IfErr, Bool, ◌^◌}
use mathlib.Core.Path.{Path, fun_ext}
use Rattle.std.proofs.Common.{length-append}
use Rattle.std.proofs.Math.ListN.{get_or-append}
use Rattle.std.proofs.Math.Seq.{get_or-append_seam}
use Rattle.std.proofs.lemmas.Bool.{cases_eq}
use Rattle.std.proofs.lemmas.List.Elements.{All-cons, All-nil}
use Rattle.std.proofs.lemmas.Option.{same_Some, slice_get_within}
use Rattle.strc_startup.specs.Startup.{popped, supply}
use Rattle.strc_startup.specs.Waiting.{HasEnds, IsBounded}
use Rattle.strc_startup.specs.declared.channel_rates.ChannelRates.{ChannelRates}
use Rattle.strc_sched_orders.specs.Buffers.{peak_fill}
use Rattle.strc_sched_orders.specs.Firings.{Firings, none_fired, fired, fill}
use Rattle.strc_sched_orders.specs.Peaks.{AreBelow, AreRaised}
use Rattle.strc_sched_orders.specs.Rounds.{IsPastPrework}
use Rattle.strc_sched_orders.specs.Sizing.{rates_on, all_rates_on, IsCovered, HasFills, PassesOn}
use Rattle.strc_sched_orders.specs.Sizing.{HasNoSizes}
use Rattle.strc_sched_orders.specs.declared.error.ScheduleError.{ScheduleError}
use Rattle.strc_sched_orders.specs.declared.error.ScheduleError.TheVariants as refused
use Rattle.strc_sched_orders.proofs.Fills.{peak_first}
use Rattle.strc_sched_orders.proofs.Repeating.{supply_more, popped_more, pops_alike, rates_there}

-- by work alone all firings push and pop the same

pub supply_by_work : (rates : ChannelRates) (items n : ℕ)
    → supply (rates_on rates items) n ≡ items + rates.push * n
supply_by_work rates items zero = omega arith
supply_by_work rates items (suc n) = omega arith

pub popped_by_work : (rates : ChannelRates) (items n : ℕ)
    → popped (rates_on rates items) n ≡ rates.pop * n
popped_by_work rates items zero = omega arith
popped_by_work rates items (suc n) = omega arith

-- after so many more
abbrev pub more : (counts later : Firings) → Firings
more counts later node = counts node + later node

module _ (rates : ChannelRates) (counts : Firings) (past_prework : IsPastPrework counts rates)
    (covered : IsCovered counts rates) where
  fill_on : (later : Firings)
      → fill (rates_on rates (fill rates counts)) later ≡ fill rates (more counts later)
  fill_on later =
      let s = supply_more rates (counts rates.source) (later rates.source) past_prework.source in
      let p = popped_more rates (counts rates.target) (later rates.target)
      (pops_alike rates (counts rates.target) past_prework.target) in
      let t = supply_by_work rates (fill rates counts) (later rates.source) in
      let q = popped_by_work rates (fill rates counts) (later rates.target) in
      omega (arith, s, p, t, q, covered)

  peak_on : (later : Firings) (order : List ℕ)
      → peak_fill (rates_on rates (fill rates counts)) later order
      ≡ peak_fill rates (more counts later) order
  peak_on later [] = fill_on later
  peak_on later (node ∷ order) =
      let next : more counts (fired later 1 node) ≡ fired (more counts later) 1 node =
      fun_ext (λ other. omega arith) in
      let e = ap (λ k. peak_fill rates k order) next in
      omega (arith, fill_on later, peak_on (fired later 1 node) order, e)

  peak_from : (order : List ℕ)
      → peak_fill (rates_on rates (fill rates counts)) none_fired order
      ≡ peak_fill rates counts order
  peak_from order =
      let none : more counts none_fired ≡ counts = fun_ext (λ node. omega arith) in
      peak_on none_fired order ∙ ap (λ k. peak_fill rates k order) none

-- each channel has its own items

at_on : (items : ChannelRates → ℕ) (channels : List ChannelRates) (number : ℕ)
    (rates : ChannelRates) → slice_get channels number ≡ Some rates
    → slice_get (all_rates_on channels (map items channels)) number
    ≡ Some (rates_on rates (items rates))
at_on items [] number rates there = cc there
at_on items (first ∷ channels) zero rates there =
    let same : first ≡ rates = cc in ap (λ r. Some (rates_on r (items r))) same
at_on items (first ∷ channels) (suc number) rates there = at_on items channels number rates there

pub raised_on : (channels : List ChannelRates) (counts : Firings)
    (fills order before sizes : List ℕ)
    → HasFills channels counts fills
    → AreRaised (all_rates_on channels fills) none_fired order before sizes
    → AreRaised channels counts order before sizes
raised_on channels counts fills order before sizes has raised number rates there =
    let past_prework =
    rates_there (IsPastPrework counts) channels number rates has.past_prework there in
    let covered = rates_there (IsCovered counts) channels number rates has.covered there in
    let own = subst (λ l. slice_get (all_rates_on channels l) number
    ≡ Some (rates_on rates (fill rates counts))) (sym has.items)
    (at_on (λ r. fill r counts) channels number rates there) in
    let now = raised number (rates_on rates (fill rates counts)) own in
    omega (arith, now, peak_from rates counts past_prework covered order)

pub length_on : (channels : List ChannelRates) (fills : List ℕ) → length fills ≡ length channels
    → length (all_rates_on channels fills) ≡ length channels
length_on [] [] each = refl
length_on [] (items ∷ fills) each = refl
length_on (rates ∷ channels) [] each = absurd (omega (arith, each))
length_on (rates ∷ channels) (items ∷ fills) each =
    ap (λ n. suc n) (length_on channels fills (omega (arith, each)))

pub passes_on : (channels : List ChannelRates) (counts : Firings) (fills order before : List ℕ)
    (channel : ℕ) → length fills ≡ length channels → HasFills channels counts fills
    → PassesOn (all_rates_on channels fills) none_fired order before channel
    → PassesOn channels counts order before channel
passes_on channels counts fills order before channel each has passes = record {
  sizes = passes.sizes;
  each = passes.each ∙ length_on channels fills each;
  raised = raised_on channels counts fills order before passes.sizes has passes.raised;
  past = passes.past;
}

-- both ends stay, and rates stay within their bounds

pub ends_on : (size : ℕ) (channels : List ChannelRates) (fills : List ℕ)
    → All (HasEnds size) channels → All (HasEnds size) (all_rates_on channels fills)
ends_on size [] fills all = All-nil (HasEnds size)
ends_on size (rates ∷ channels) [] all = All-nil (HasEnds size)
ends_on size (rates ∷ channels) (items ∷ fills) all =
    let here = all 0 rates (omega arith) in
    All-cons (HasEnds size) (rates_on rates items) (all_rates_on channels fills)
    (record { source = here.source; target = here.target })
    (ends_on size channels fills (λ k d within. all (suc k) d (omega (arith, within))))

pub bounds_on : (channels : List ChannelRates) (fills : List ℕ) → All IsBounded channels
    → ((k : ℕ) → k < length fills → get_or fills k 0 < 2 ^ 32)
    → All IsBounded (all_rates_on channels fills)
bounds_on [] fills all small = All-nil IsBounded
bounds_on (rates ∷ channels) [] all small = All-nil IsBounded
bounds_on (rates ∷ channels) (items ∷ fills) all small =
    let here = all 0 rates (omega arith) in
    let few = small 0 (omega arith) in
    All-cons IsBounded (rates_on rates items) (all_rates_on channels fills)
    (record {
      source = here.source;
      target = here.target;
      first_push = here.push;
      push = here.push;
      enqueued = omega (arith, few);
      prework_window = omega arith;
      first_window = here.window;
      first_pop = here.pop;
      pop = here.pop;
      window = here.window;
    })
    (bounds_on channels fills (λ k d within. all (suc k) d (omega (arith, within)))
    (λ k within. small (suc k) (omega (arith, within))))

-- the rates of one channel more
pub rates_more : (channels : List ChannelRates) (fills : List ℕ) (i : ℕ) (rates : ChannelRates)
    → length fills ≡ length channels → i < length channels
    → take (i + 1) (all_rates_on channels fills)
    ≡ take i (all_rates_on channels fills)
    ++ rates_on (get_or channels i rates) (slice_index fills i) ∷ []
rates_more [] fills i rates each within = absurd (omega (arith, within))
rates_more (first ∷ channels) [] i rates each within = absurd (omega (arith, each))
rates_more (first ∷ channels) (items ∷ fills) zero rates each within = refl
rates_more (first ∷ channels) (items ∷ fills) (suc i) rates each within =
    let e : suc i + 1 ≡ suc (i + 1) = omega arith in
    ap (λ n. take n (all_rates_on (first ∷ channels) (items ∷ fills))) e
    ∙ ap (λ l. rates_on first items ∷ l)
    (rates_more channels fills i rates (omega (arith, each)) (omega (arith, within)))

-- the greater numbers of the first so many channels
pub record RaisedFirst (channels : List ChannelRates) (before peaks : List ℕ) (places : ℕ) : Type 0
  where
    pub each : length peaks ≡ places
    pub raised : (number : ℕ) (rates : ChannelRates) → number < places
        → slice_get channels number ≡ Some rates
        → slice_index peaks number ≡ max (slice_index before number) rates.enqueued

pub raised_first_none : (channels : List ChannelRates) (before peaks : List ℕ) → peaks ≡ []
    → RaisedFirst channels before peaks 0
raised_first_none channels before peaks none = record {
  each = ap length none;
  raised = λ number rates less at. absurd (omega (arith, less));
}

pub raised_first_more : (channels : List ChannelRates) (before peaks : List ℕ) (i : ℕ)
    (rates : ChannelRates) (peak : ℕ) → slice_get channels i ≡ Some rates
    → peak ≡ max (slice_index before i) rates.enqueued
    → RaisedFirst channels before peaks i → RaisedFirst channels before (peaks ++ peak ∷ []) (i + 1)
raised_first_more channels before peaks i rates peak there is first = record {
  each = length-append peaks (peak ∷ []) ∙ ap (λ n. n + 1) first.each;
  raised = λ number own less at. elim (cases_eq number i) [
    | inl same ↦
        let e = same_Some own rates (sym at ∙ ap (slice_get channels) same ∙ there) in
        let f = ap (λ (r : ChannelRates). r.enqueued) e in
        let g = ap (slice_index (peaks ++ peak ∷ [])) (same ∙ sym first.each)
        ∙ get_or-append_seam peaks peak [] 0 in
        let b = ap (slice_index before) same in
        omega (arith, f, g, b, is)
    | inr apart ↦
        let old = first.raised number own (omega (arith, less, apart)) at in
        let g = get_or-append peaks (peak ∷ []) 0 number
        (omega (arith, less, apart, first.each)) in
        omega (arith, old, g)
  ];
}

pub raised_first_all : (channels : List ChannelRates) (before peaks : List ℕ) (i : ℕ)
    → length channels ≤ i → RaisedFirst channels before peaks i
    → AreRaised channels none_fired [] before peaks
raised_first_all channels before peaks i all first number rates there =
    let within = slice_get_within channels number rates there in
    let e = first.raised number rates (omega (arith, within, all)) there in
    omega (arith, e)

-- the numbers that are raised first count for the sizes too
pub raised_from : (channels : List ChannelRates) (order before peaks sizes : List ℕ)
    → AreRaised channels none_fired [] before peaks
    → AreRaised channels none_fired order peaks sizes
    → AreRaised channels none_fired order before sizes
raised_from channels order before peaks sizes first next number rates there =
    let a = first number rates there in
    let b = next number rates there in
    let c = peak_first rates none_fired order in
    omega (arith, a, b, c)

pub raised_known : (channels : List ChannelRates) (before peaks : List ℕ)
    → AreRaised channels none_fired [] before peaks → AreBelow channels none_fired peaks
raised_known channels before peaks first number rates there =
    let a = first number rates there in omega (arith, a)

-- why there are no sizes
module _ {A : Type 0} (result : Result A ScheduleError) (channels : List ChannelRates)
    (counts : Firings) (order before : List ℕ)
    (none : IfErr result (HasNoSizes channels counts order before)) where
  pub why_limit : (channel : ℕ)
      → Path (Result A ScheduleError) result (Err (refused.BufferLimit channel))
      → PassesOn channels counts order before channel
  why_limit channel is = subst (λ r. IfErr r (HasNoSizes channels counts order before)) is none

  pub why_deadlock : (in_startup : Bool)
      → ¬ (Path (Result A ScheduleError) result (Err (refused.Deadlock in_startup)))
  why_deadlock in_startup is =
      subst (λ r. IfErr r (HasNoSizes channels counts order before)) is none
