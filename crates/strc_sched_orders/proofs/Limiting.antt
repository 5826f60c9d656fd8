-- Where the buffers of a schedule are within the limit, none passes it.
use Rattle.std.proofs.Common.{◌≡◌, ◌∙◌, ap, ℕ, ◌≤◌, List, length, get_or, arith, All}
use Rattle.std.specs.Prelude.{max}
use Rattle.std.proofs.lemmas.List.{length-map}
use Rattle.std.proofs.lemmas.Option.{slice_get-get_or}
use Rattle.strc_startup.specs.declared.channel_rates.ChannelRates.{ChannelRates}
use Rattle.strc_sched_orders.specs.Buffers.{peak_fill, buffer_size, size_limit}
use Rattle.strc_sched_orders.specs.Firings.{Firings, none_fired}
use Rattle.strc_sched_orders.specs.Greedy.{firings_of}
use Rattle.strc_sched_orders.specs.Schedules.{ScheduleParts, IsSchedule, PassesLimit}
use Rattle.strc_sched_orders.proofs.Buffering.{at_channel}
use Rattle.strc_sched_orders.proofs.Deciding.{one_order}
use Rattle.strc_sched_orders.proofs.Networks.{nothing}

module _ (channels : List ChannelRates) (startup round : Firings) (schedule : ScheduleParts)
    (is : IsSchedule channels startup round schedule) where
  -- the sizes that greedy orders need are those of the schedule
  pub same_size : (channel : ℕ) (past : PassesLimit channels startup round channel)
      (rates : ChannelRates)
      → buffer_size startup schedule.startup schedule.round rates
      ≡ buffer_size startup past.startup_units past.round_units rates
  same_size channel past rates =
      let first = one_order channels none_fired startup schedule.startup past.startup_units
      is.startup_order past.startup_order in
      let later = one_order channels startup round schedule.round past.round_units
      is.round_order past.round_order in
      ap (λ o. max (peak_fill rates none_fired o)
      (peak_fill rates startup (firings_of schedule.round))) first
      ∙ ap (λ o. max (peak_fill rates none_fired (firings_of past.startup_units))
      (peak_fill rates startup o)) later

  pub within_limit : All (λ size. size ≤ size_limit) schedule.sizes → (channel : ℕ)
      → PassesLimit channels startup round channel → ⊥
  within_limit within channel past =
      let rates = get_or channels channel nothing in
      let there = slice_get-get_or channels channel nothing past.there in
      let passes = past.passes rates there in
      let size = ap (λ l. get_or l channel 0) is.sizes
      ∙ at_channel (buffer_size startup schedule.startup schedule.round) channels channel rates
      there in
      let each = ap length is.sizes
      ∙ length-map channels (buffer_size startup schedule.startup schedule.round) in
      let small = within channel 0 (omega (arith, past.there, each)) in
      omega (arith, passes, size, small, same_size channel past rates)
