-- Schedules whose orders are greedy or not, and their buffers.
use Rattle.std.proofs.Common.{◌≡◌, ◌∙◌, refl, ap, ℕ, suc, List, [], ◌∷◌, map, length}
use Rattle.std.proofs.Common.{max, Some, slice_get, slice_index, arith}
use Rattle.strc_startup.specs.declared.channel_rates.ChannelRates.{ChannelRates}
use Rattle.strc_sched_orders.specs.Buffers.{peak_fill}
use Rattle.strc_sched_orders.specs.Firings.{none_fired}
use Rattle.strc_sched_orders.specs.Greedy.{firings_of}
use Rattle.strc_sched_orders.specs.Rounds.{SchedulesAreRunnable, RaisedAreSizes}
use Rattle.strc_sched_orders.proofs.Deciding.{is_an_order}

pub schedules_are_runnable : SchedulesAreRunnable
schedules_are_runnable channels startup round schedule is = record {
  startup_order = record {
    order = is_an_order channels none_fired startup schedule.startup is.startup_order;
    all = is.startup_order.all;
  };
  round_order = record {
    order = is_an_order channels startup round schedule.round is.round_order;
    all = is.round_order.all;
  };
  greatest = is.greatest;
  last = is.last;
  sizes = is.sizes;
}

-- numbers that are each the greater of two
all_greater : (first later : ChannelRates → ℕ) (channels : List ChannelRates) (sizes : List ℕ)
    → length sizes ≡ length channels
    → ((number : ℕ) (rates : ChannelRates) → slice_get channels number ≡ Some rates
    → slice_index sizes number ≡ max (slice_index (map first channels) number) (later rates))
    → sizes ≡ map (λ rates. max (first rates) (later rates)) channels
all_greater first later [] [] each raised = refl
all_greater first later [] (size ∷ sizes) each raised = absurd (omega (arith, each))
all_greater first later (rates ∷ channels) [] each raised = absurd (omega (arith, each))
all_greater first later (rates ∷ channels) (size ∷ sizes) each raised =
    ap (λ n. n ∷ sizes) (raised 0 rates refl)
    ∙ ap (λ l. max (first rates) (later rates) ∷ l)
    (all_greater first later channels sizes (omega (arith, each))
    (λ number own there. raised (suc number) own there))

pub raised_are_sizes : RaisedAreSizes
raised_are_sizes channels startup startup_units round_units greatest sizes is each raised =
    all_greater (λ rates. peak_fill rates none_fired (firings_of startup_units))
    (λ rates. peak_fill rates startup (firings_of round_units)) channels sizes each
    (λ number rates there. raised number rates there
    ∙ ap (λ l. max (slice_index l number) (peak_fill rates startup (firings_of round_units))) is)
