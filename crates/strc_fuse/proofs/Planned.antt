-- Planned schedules can be fused, and are planned then.
use Rattle.std.proofs.Common.{◌≡◌, refl, List, All, get_or, false, Some, arith}
use Rattle.std.proofs.lemmas.Option.{slice_get-get_or}
use Rattle.strc_elab_graph.specs.Graphs as graphs
use Rattle.strc_elab_graph.specs.Graphs.{NodeCode, Graph}
use Rattle.strc_elab_graph.specs.Rates.{fires_by_rounds}
use Rattle.strc_balance.specs.Balance.{count_at}
use Rattle.strc_startup.specs.Rates.{rates_of}
use Rattle.strc_sched_orders.specs.RoundRates.{is_copy}
use Rattle.strc_sched_orders.specs.Schedules.{ScheduleParts, IsRunnable}
use Rattle.strc_sched_laws.specs.Planned.{IsPlanned}
use Rattle.strc_sched_laws.proofs.Rounds.{past_prework, balances}
use Rattle.strc_fuse.specs.Fusion.{IsFusible}
use Rattle.strc_fuse.specs.Units.{is_free, round_units, ArePlaced}
use Rattle.strc_fuse.specs.FusedLaws.{PlannedAreFusible, FusedArePlanned}

-- whole graphs have no copies
no_copy : (code : NodeCode) → fires_by_rounds code ≡ false → is_copy code ≡ false
no_copy (graphs.Filter name filter) alone = refl
no_copy graphs.Identity alone = refl
no_copy (graphs.FileReader text) alone = refl
no_copy (graphs.FileWriter text) alone = refl
no_copy (graphs.Splitter splitter) alone = refl
no_copy (graphs.Joiner weights) alone = refl
no_copy (graphs.Scatter fission) alone = refl
no_copy (graphs.Copy copied fission) alone = absurd (cc)
no_copy (graphs.Gather fission) alone = refl

module _ (graph : Graph) (schedule : ScheduleParts) (planned : IsPlanned graph schedule) where
  pub no_copies : All (λ (node : NodeCode). is_copy node ≡ false) graph.nodes
  no_copies k d within =
      no_copy (get_or graph.nodes k d) (planned.unfissioned k (get_or graph.nodes k d)
      (slice_get-get_or graph.nodes k d within))

  pub planned_fusible : ArePlaced (rates_of graph) (count_at planned.round) (is_free graph)
      (round_units schedule.round)
      → IsFusible (rates_of graph) (is_free graph) (count_at planned.startup)
      (count_at planned.round) schedule
  planned_fusible placed = record {
    runnable = planned.schedule;
    past_prework = past_prework graph schedule planned;
    covered = λ k d within.
        let met = planned.least_startup.primed.met k d within in omega (arith, met);
    balanced = balances graph schedule planned;
    placed = placed;
  }

  abbrev pub runnable_planned : (other : ScheduleParts)
      → IsRunnable (rates_of graph) (count_at planned.startup) (count_at planned.round) other
      → IsPlanned graph other
  runnable_planned other runnable = record {
    unfissioned = planned.unfissioned;
    starts = planned.starts;
    rates = planned.rates;
    rated = planned.rated;
    startup = planned.startup;
    round = planned.round;
    least_startup = planned.least_startup;
    least_round = planned.least_round;
    startup_within = planned.startup_within;
    round_within = planned.round_within;
    schedule = runnable;
  }

pub planned_are_fusible : PlannedAreFusible
planned_are_fusible graph schedule planned placed = (
  no_copies graph schedule planned,
  planned_fusible graph schedule planned placed,
)

pub fused_are_planned : FusedArePlanned
fused_are_planned graph schedule other planned fusible =
    (runnable_planned graph schedule planned other fusible.runnable, refl, refl)
