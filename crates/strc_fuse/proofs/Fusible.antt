-- A schedule that can be run can be run after fusion.
use Rattle.std.proofs.Common.{◌≡◌, refl, sym, ap, ◌∙◌, subst, ℕ, ◌≤◌}
use Rattle.std.proofs.Common.{List, All, map, length, get_or}
use Rattle.std.proofs.Common.{Bool, false, Some, arith}
use Rattle.std.proofs.lemmas.List.{length-map}
use Rattle.std.proofs.lemmas.Option.{slice_get-get_or}
use Rattle.strc_elab_graph.specs.Graphs.{NodeCode, Graph}
use Rattle.strc_elab_graph.specs.Graphs as graphs
use Rattle.strc_elab_graph.specs.Rates.{fires_by_rounds}
use Rattle.strc_balance.specs.Balance.{count_at}
use Rattle.strc_startup.specs.Rates.{rates_of, rates_of_channel}
use Rattle.strc_startup.specs.declared.channel_rates.ChannelRates.{ChannelRates}
use Rattle.strc_sched_orders.specs.declared.unit as units
use Rattle.strc_sched_orders.specs.Buffers.{buffer_size, peak_fill}
use Rattle.strc_sched_orders.specs.Firings.{Firings, none_fired, fill}
use Rattle.strc_sched_orders.specs.Greedy as order
use Rattle.strc_sched_orders.specs.Order.{firing_count, IsOrder}
use Rattle.strc_sched_orders.specs.Peaks.{AreRaised}
use Rattle.strc_sched_orders.specs.RoundRates.{is_copy}
use Rattle.strc_sched_orders.specs.Rounds.{IsPastPrework, RoundBalances}
use Rattle.strc_sched_orders.specs.Schedules.{ScheduleParts, IsRunnable, IsOrderOf}
use Rattle.strc_sched_orders.specs.Sizing.{IsCovered, HasFills, round_rates_on, all_rates_on}
use Rattle.strc_sched_orders.proofs.Continuing.{raised_on}
use Rattle.strc_sched_orders.proofs.RoundRates.{round_rates_are_rates}
use Rattle.strc_sched_orders.proofs.Runnable.{raised_are_sizes}
use Rattle.strc_elab_dataflow.specs.FusedUnits.{RoundUnit, AreFused, firings_of}
use Rattle.strc_fuse.specs.Fusion.{IsFusible}
use Rattle.strc_fuse.specs.Units.{is_free, round_units, ArePlaced}
use Rattle.strc_fuse.proofs.Counting.{firings_same}
use Rattle.strc_fuse.proofs.FusedOrders.{fused_counts_are, fused_stays, fused_placed}

-- the units of a round as declared

pub round_counts : (free : ℕ → Bool) (limit : ℕ) (old new : List units.Unit.Unit)
    → AreFused free limit (round_units old) (round_units new) → (node : ℕ)
    → firing_count (order.firings_of new) node ≡ firing_count (order.firings_of old) node
round_counts free limit old new fused node =
    ap (λ (l : List ℕ). firing_count l node) (firings_same new)
    ∙ fused_counts_are free limit (round_units old) (round_units new) node fused
    ∙ sym (ap (λ (l : List ℕ). firing_count l node) (firings_same old))

module _ (channels : List ChannelRates) (counts round : Firings) (free : ℕ → Bool) (limit : ℕ)
    (old new : List units.Unit.Unit) (past : All (IsPastPrework counts) channels)
    (balanced : All (RoundBalances round) channels)
    (placed : ArePlaced channels round free (round_units old))
    (fused : AreFused free limit (round_units old) (round_units new)) where
  pub round_stays : IsOrder channels counts (order.firings_of old)
      → IsOrder channels counts (order.firings_of new)
  round_stays is =
      subst (IsOrder channels counts) (sym (firings_same new))
      (fused_stays channels round counts past balanced free limit (round_units old)
      (round_units new) placed fused (subst (IsOrder channels counts) (firings_same old) is))

  pub round_placed : ArePlaced channels round free (round_units new)
  round_placed = fused_placed channels round free limit (round_units old) (round_units new) placed
      fused

-- a schedule with this round

module _ (graph : Graph) (startup round : Firings) (free : ℕ → Bool) (limit : ℕ)
    (old new : ScheduleParts)
    (whole : All (λ (node : NodeCode). is_copy node ≡ false) graph.nodes)
    (fusible : IsFusible (rates_of graph) free startup round old)
    (fused : AreFused free limit (round_units old.round) (round_units new.round))
    (kept : new ≡ record old { round = new.round; sizes = new.sizes })
    (each : length new.sizes ≡ length graph.channels)
    (raised : AreRaised (round_rates_on graph old.last) none_fired (order.firings_of new.round)
    old.greatest new.sizes) where
  abbrev channels : List ChannelRates
  channels = rates_of graph

  same_startup : new.startup ≡ old.startup
  same_startup = ap (λ (s : ScheduleParts). s.startup) kept

  same_greatest : new.greatest ≡ old.greatest
  same_greatest = ap (λ (s : ScheduleParts). s.greatest) kept

  same_last : new.last ≡ old.last
  same_last = ap (λ (s : ScheduleParts). s.last) kept

  startup_order : IsOrderOf channels none_fired startup new.startup
  startup_order = subst (IsOrderOf channels none_fired startup) (sym same_startup)
      fusible.runnable.startup_order

  round_order : IsOrderOf channels startup round new.round
  round_order = record {
    order = round_stays channels startup round free limit old.round new.round
        fusible.past_prework fusible.balanced fusible.placed fused
        fusible.runnable.round_order.order;
    all = λ node. round_counts free limit old.round new.round fused node
        ∙ fusible.runnable.round_order.all node;
  }

  raised_sizes : AreRaised channels startup (order.firings_of new.round) old.greatest new.sizes
  raised_sizes =
      raised_on channels startup old.last (order.firings_of new.round) old.greatest new.sizes
      (record {
        past_prework = fusible.past_prework;
        covered = fusible.covered;
        items = fusible.runnable.last;
      })
      (subst (λ (l : List ChannelRates). AreRaised (all_rates_on l old.last) none_fired
      (order.firings_of new.round) old.greatest new.sizes) (round_rates_are_rates graph whole)
      raised)

  new_sizes : new.sizes ≡ map (buffer_size startup new.startup new.round) channels
  new_sizes =
      raised_are_sizes channels startup old.startup new.round old.greatest new.sizes
      fusible.runnable.greatest
      (each ∙ sym (length-map graph.channels (rates_of_channel graph.nodes))) raised_sizes
      ∙ ap (λ (l : List units.Unit.Unit). map (buffer_size startup l new.round) channels)
      (sym same_startup)

  pub fused_fusible : IsFusible channels free startup round new
  fused_fusible = record {
    runnable = record {
      startup_order = startup_order;
      round_order = round_order;
      greatest = same_greatest ∙ fusible.runnable.greatest
          ∙ ap (λ (l : List units.Unit.Unit). map (λ rates. peak_fill rates none_fired
          (order.firings_of l)) channels) (sym same_startup);
      last = same_last ∙ fusible.runnable.last;
      sizes = new_sizes;
    };
    past_prework = fusible.past_prework;
    covered = fusible.covered;
    balanced = fusible.balanced;
    placed = round_placed channels startup round free limit old.round new.round
        fusible.past_prework fusible.balanced fusible.placed fused;
  }
