-- A schedule, of two greedy orders and the buffers that they need.
use Rattle.std.proofs.Common.{◌≡◌, ◌∙◌, sym, ap, subst, ℕ, ◌<◌, List, [], ◌∷◌}
use Rattle.std.proofs.Common.{map, slice_get, slice_index, Some, All, arith}
use Rattle.std.proofs.Common.{Result, Ok, Err, length, true, false, ◌≤◌}
use Rattle.std.specs.Prelude.{IfOk, IfErr, IsErr, IsErrAnd}
use mathlib.Core.Path.{Path, fun_ext}
use Rattle.std.proofs.lemmas.Bool.{false≢true, true≢false}
use Rattle.std.proofs.lemmas.List.{length-map}
use Rattle.std.proofs.lemmas.List.Elements.{All-cons, All-nil}
use Rattle.strc_elab_graph.specs.NodeView.{GraphParts, graph_view, channel_view}
use Rattle.strc_startup.specs.Rates.{rates_of, rates_of_channel}
use Rattle.strc_startup.specs.declared.channel_rates.ChannelRates.{ChannelRates}
use Rattle.strc_balance.specs.Balance.{count_at}
use Rattle.strc_sched_orders.specs.declared.error.ScheduleError.{ScheduleError}
use Rattle.strc_sched_orders.specs.declared.error.ScheduleError.TheVariants as refused
use Rattle.strc_sched_orders.specs.declared.unit as units
use Rattle.strc_sched_orders.specs.Buffers.{peak_fill, buffer_size, size_limit}
use Rattle.strc_sched_orders.specs.Firings.{Firings, none_fired, fired, fill}
use Rattle.strc_sched_orders.specs.Greedy.{firings_of, less_turns, IsGreedy, IsGreedyOrder}
use Rattle.strc_sched_orders.specs.Order.{after, HasOrder}
use Rattle.strc_sched_orders.specs.Network.{NetworkView, size_of}
use Rattle.strc_sched_orders.specs.Peaks.{HasNodes, IsFirstPast}
use Rattle.strc_sched_orders.specs.Schedules.{ScheduleParts, IsSchedule, PassesLimit, IsFitted}
use Rattle.strc_sched_orders.specs.Schedules.{HasNoOrder}
use Rattle.strc_sched_orders.specs.Schedules.{HasNoBuffers, HasNoSchedule}
use Rattle.strc_sched_orders.proofs.Buffering.{at_channel}
use Rattle.strc_sched_orders.proofs.Firing.{counted_within}
use Rattle.strc_sched_orders.proofs.Greedily.{greedy_order}

-- each unit of a greedy order fires a node that is there
pub greedy_nodes : (channels : List ChannelRates) (size : ℕ) (counts left : Firings)
    (order : List units.Unit.Unit) → ((node : ℕ) → 0 < left node → node < size)
    → IsGreedy channels counts left order → All (HasNodes size) order
greedy_nodes channels size counts left [] there is = All-nil (HasNodes size)
greedy_nodes channels size counts left (unit ∷ rest) there (node, single, next, later) =
    let inside : node < size = there node (omega (arith, next.some, next.within)) in
    let one : HasNodes size unit = subst (All (λ n. n < size)) (sym single)
    (All-cons (λ n. n < size) node [] inside (All-nil (λ n. n < size))) in
    All-cons (HasNodes size) unit rest one
    (greedy_nodes channels size (fired counts unit.turns node)
    (less_turns left unit.turns node) rest
    (λ other some. there other (omega (arith, some))) later)

-- so does an order of counts of nodes that are there
pub order_nodes : (network : NetworkView) (counts : Firings) (firings : List ℕ)
    (order : List units.Unit.Unit) → length firings ≤ size_of network
    → IsGreedyOrder network.channels counts (count_at firings) order
    → All (HasNodes (size_of network)) order
order_nodes network counts firings order each is =
    greedy_nodes network.channels (size_of network) counts (count_at firings) order
    (λ node some. let inside = counted_within firings node some in omega (arith, inside, each))
    is.greedy

module _ (channels : List ChannelRates) (startup round : Firings)
    (first later : List units.Unit.Unit)
    (one : IsGreedyOrder channels none_fired startup first)
    (two : IsGreedyOrder channels startup round later) where
  done : after none_fired (firings_of first) ≡ startup
  done = fun_ext (λ node. omega (arith, one.all node))

  size_at : (number : ℕ) (rates : ChannelRates) → slice_get channels number ≡ Some rates
      → slice_index (map (buffer_size (after none_fired (firings_of first)) first later) channels)
      number
      ≡ buffer_size startup first later rates
  size_at number rates there =
      at_channel (buffer_size (after none_fired (firings_of first)) first later) channels number
      rates there
      ∙ ap (λ k. buffer_size k first later rates) done

  pub past_limit : (channel : ℕ)
      → IsFirstPast (map (buffer_size (after none_fired (firings_of first)) first later) channels)
      channel
      → PassesLimit channels startup round channel
  past_limit channel past = record {
    startup_units = first;
    round_units = later;
    startup_order = one;
    round_order = two;
    there = omega (
      arith,
      past.there,
      length-map channels
          (buffer_size (after none_fired (firings_of first)) first later),
    );
    passes = λ rates there. omega (arith, past.passes, size_at channel rates there);
    lowest = λ lower rates less there. omega (
      arith,
      past.lowest lower less,
      size_at lower rates there,
    );
  }

  pub is_schedule : (parts : ScheduleParts) → IsFitted channels first later parts
      → IsSchedule channels startup round parts
  is_schedule parts fitted = record {
    startup_order = subst (IsGreedyOrder channels none_fired startup) (sym fitted.startup) one;
    round_order = subst (IsGreedyOrder channels startup round) (sym fitted.round) two;
    greatest = fitted.buffers.greatest
        ∙ ap (λ o. map (λ rates. peak_fill rates none_fired (firings_of o)) channels)
        (sym fitted.startup);
    last = fitted.buffers.last ∙ ap (λ k. map (λ rates. fill rates k) channels) done;
    sizes = fitted.buffers.sizes ∙ ap (λ k. map (buffer_size k first later) channels) done
        ∙ ap (λ o. map (buffer_size startup o later) channels) (sym fitted.startup)
        ∙ ap (λ o. map (buffer_size startup parts.startup o) channels) (sym fitted.round);
  }

  pub none_fitted : (error : ScheduleError) → HasNoBuffers channels first later error
      → HasNoSchedule channels startup round error
  none_fitted (refused.Deadlock in_startup) none = absurd none
  none_fitted (refused.BufferLimit channel) past = past_limit channel past
  none_fitted refused.NoMemory none = tt

  -- what a schedule of these orders is worth, and why there is none
  pub schedule_if_ok : (result : Result ScheduleParts ScheduleError)
      → IfOk result (IsFitted channels first later)
      → IfOk result (IsSchedule channels startup round)
  schedule_if_ok (Ok parts) fitted = is_schedule parts fitted
  schedule_if_ok (Err error) fitted = tt

  pub schedule_if_err : (result : Result ScheduleParts ScheduleError)
      → IfErr result (HasNoBuffers channels first later)
      → IfErr result (HasNoSchedule channels startup round)
  schedule_if_err (Ok parts) none = tt
  schedule_if_err (Err error) none = none_fitted error none

pub within_if_ok : (channels : List ChannelRates) (first later : List units.Unit.Unit)
    (result : Result ScheduleParts ScheduleError)
    → IfOk result (IsFitted channels first later)
    → IfOk result (λ schedule. All (λ size. size ≤ size_limit) schedule.sizes)
within_if_ok channels first later (Ok parts) fitted = fitted.within
within_if_ok channels first later (Err error) fitted = tt

-- the firings of start-up have an order where they have a greedy one
pub some_order : (channels : List ChannelRates) (counts firings : Firings)
    (order : List units.Unit.Unit) → IsGreedyOrder channels counts firings order
    → HasOrder channels counts firings
some_order channels counts firings order is =
    (firings_of order, greedy_order channels counts firings order is.greedy, is.all)

-- an error that is passed on
pub passed_on : {A : Type 0} (P : ScheduleError → Type 0) (result : Result A ScheduleError)
    (error : ScheduleError) → IsErr result × IsErrAnd result (λ e. e ≡ error) → P error
    → IfErr result P
passed_on P (Ok answer) error is holds = tt
passed_on P (Err own) error (there, same) holds = subst P (sym same) holds

-- why there is no schedule where an order is missing
pub no_startup : (channels : List ChannelRates) (startup round : Firings) (error : ScheduleError)
    → HasNoOrder channels none_fired startup true error
    → HasNoSchedule channels startup round error
no_startup channels startup round (refused.Deadlock true) none = none.1
no_startup channels startup round (refused.Deadlock false) none = absurd (false≢true none.0)
no_startup channels startup round (refused.BufferLimit channel) none = absurd none
no_startup channels startup round refused.NoMemory none = tt

pub no_round : (channels : List ChannelRates) (startup round : Firings)
    (order : List units.Unit.Unit) (error : ScheduleError)
    → IsGreedyOrder channels none_fired startup order
    → HasNoOrder channels startup round false error
    → HasNoSchedule channels startup round error
no_round channels startup round order (refused.Deadlock true) is none =
    absurd (true≢false none.0)
no_round channels startup round order (refused.Deadlock false) is none =
    (none.1, some_order channels none_fired startup order is)
no_round channels startup round order (refused.BufferLimit channel) is none = absurd none
no_round channels startup round order refused.NoMemory is none = tt

-- the clauses of the whole, each for its error
module _ (channels : List ChannelRates) (startup round : Firings)
    (result : Result ScheduleParts ScheduleError)
    (none : IfErr result (HasNoSchedule channels startup round)) where
  why : (error : ScheduleError) → Path (Result ScheduleParts ScheduleError) result (Err error)
      → HasNoSchedule channels startup round error
  why error is = subst (λ r. IfErr r (HasNoSchedule channels startup round)) is none

  pub why_startup : Path (Result ScheduleParts ScheduleError) result (Err (refused.Deadlock true))
      → ¬ HasOrder channels none_fired startup
  why_startup is = why (refused.Deadlock true) is

  pub why_round : Path (Result ScheduleParts ScheduleError) result (Err (refused.Deadlock false))
      → ¬ HasOrder channels startup round
  why_round is = (why (refused.Deadlock false) is).0

  pub why_before : Path (Result ScheduleParts ScheduleError) result (Err (refused.Deadlock false))
      → HasOrder channels none_fired startup
  why_before is = (why (refused.Deadlock false) is).1

  pub why_limit : (channel : ℕ)
      → Path (Result ScheduleParts ScheduleError) result (Err (refused.BufferLimit channel))
      → PassesLimit channels startup round channel
  why_limit channel is = why (refused.BufferLimit channel) is

-- a schedule has a size for each channel of its graph
pub all_sized : (graph : GraphParts) (startup round : Firings)
    (result : Result ScheduleParts ScheduleError)
    → IfOk result (IsSchedule (rates_of (graph_view graph)) startup round)
    → IfOk result (λ schedule. length schedule.sizes ≡ length graph.channels)
all_sized graph startup round (Ok schedule) is =
    ap length is.sizes
    ∙ length-map (rates_of (graph_view graph))
    (buffer_size startup schedule.startup schedule.round)
    ∙ length-map (graph_view graph).channels (rates_of_channel (graph_view graph).nodes)
    ∙ length-map graph.channels channel_view
all_sized graph startup round (Err error) is = tt
