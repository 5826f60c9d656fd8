-- The round of a planned graph after fission is an order: fission keeps the order of its round.
use Rattle.std.proofs.Common.{◌≡◌, sym, ap, ◌∙◌, subst, List, length, arith}
use Rattle.std.proofs.lemmas.List.{length-map}
use Rattle.strc_elab_graph.specs.Graphs.{Graph}
use Rattle.strc_balance.specs.Balance.{count_at}
use Rattle.strc_startup.specs.Rates.{rates_of, rates_of_channel}
use Rattle.strc_startup.specs.declared.channel_rates.ChannelRates.{ChannelRates}
use Rattle.strc_sched_orders.specs.Firings.{none_fired}
use Rattle.strc_sched_orders.specs.Order.{IsOrder}
use Rattle.strc_sched_orders.specs.Schedules.{ScheduleParts}
use Rattle.strc_sched_orders.specs.Sizing.{HasFills, all_rates_on, round_rates_on}
use Rattle.strc_sched_orders.proofs.GoingOn.{orders_go_on}
use Rattle.strc_sched_orders.proofs.RoundRates.{round_rates_are_rates}
use Rattle.strc_sched_laws.specs.Laws.{round_order}
use Rattle.strc_sched_laws.specs.Planned.{IsPlanned}
use Rattle.strc_sched_laws.proofs.Rounds.{past_prework}
use Rattle.strc_elab_dataflow.specs.FusedUnits.{firings_of}
use Rattle.strc_fuse.specs.Units.{round_units}
use Rattle.strc_fuse.proofs.Counting.{firings_same}
use Rattle.strc_fuse.proofs.Planned.{no_copies}
use Rattle.strc_fiss.specs.Ways.{fission_of}
use Rattle.strc_fiss.proofs.KeptOrders.{keeps_order}
use Rattle.strc_fiss.proofs.SplitNodes.{its, some, apart}
use Rattle.strc_stage_plan.specs.Orders.{SplitRoundsAreOrders}

module _ (old : Graph) (schedule : ScheduleParts) (planned : IsPlanned old schedule) where
  many : length (rates_of old) ≡ length old.channels
  many = length-map old.channels (rates_of_channel old.nodes)

  greatest_many : length schedule.greatest ≡ length old.channels
  greatest_many = ap length planned.schedule.greatest ∙ length-map (rates_of old) _ ∙ many

  last_many : length schedule.last ≡ length old.channels
  last_many = ap length planned.schedule.last ∙ length-map (rates_of old) _ ∙ many

  fills : HasFills (rates_of old) (count_at planned.startup) schedule.last
  fills = record {
    past_prework = past_prework old schedule planned;
    covered = λ k d within.
        let met = planned.least_startup.primed.met k d within in omega (arith, met);
    items = planned.schedule.last;
  }

  -- the round is an order from the items after start-up
  old_round : IsOrder (round_rates_on old schedule.last) none_fired
      (firings_of (round_units schedule.round))
  old_round =
      subst (IsOrder (round_rates_on old schedule.last) none_fired) (firings_same schedule.round)
      (subst (λ (l : List ChannelRates). IsOrder (all_rates_on l schedule.last) none_fired
      (round_order schedule))
      (sym (round_rates_are_rates old (no_copies old schedule planned)))
      (orders_go_on (rates_of old) (count_at planned.startup) schedule.last
      (round_order schedule) fills planned.schedule.round_order.order))

pub split_rounds_are : SplitRoundsAreOrders
split_rounds_are tree old schedule round ways program is planned known own =
    keeps_order (fission_of old round ways) old schedule.greatest schedule.last is
    (greatest_many old schedule planned) (last_many old schedule planned)
    (its old round ways) (some old round ways) (apart old round ways)
    (round_units schedule.round) own (old_round old schedule planned)
