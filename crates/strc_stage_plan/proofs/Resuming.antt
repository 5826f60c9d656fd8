-- A planned graph after fission goes on by stages from the state that start-up left.
use Rattle.std.proofs.Common.{◌≡◌, refl, sym, subst, ℕ, zero, suc, ◌<◌, ◌≤◌, arith}
use Rattle.std.proofs.Common.{true, ℤ, List, [], length}
use Rattle.strc_elab_dataflow.specs.Histories.{KeepsRates}
use Rattle.strc_elab_dataflow.specs.Order as orders
use Rattle.strc_elab_dataflow.specs.Queues.{FifoProgress.FifoWent, fifo_go, fifo_at_first}
use Rattle.strc_elab_dataflow.specs.Staging.{IsStaged}
use Rattle.strc_elab_graph.specs.Meaning.{node_meaning}
use Rattle.strc_sched_laws.specs.Fits.{Queues}
use Rattle.strc_sched_laws.specs.Laws.{startup_order, counts_at}
use Rattle.strc_sched_laws.specs.Planned.{items_read}
use Rattle.strc_elab_dataflow.specs.Chains.{IsResumption}
use Rattle.strc_elab_dataflow.specs.Restart.{restarted_meaning, restarted}
use Rattle.strc_elab_dataflow.specs.RestartRounds.{IsBalancedByRounds}
use Rattle.strc_elab_dataflow.specs.Schedules.{fired_in}
use Rattle.strc_elab_dataflow.proofs.RestartRates.{pushes_rates_keeps_rates}
use Rattle.strc_elab_dataflow.proofs.Schedules.{restarted_rounds_are_schedules}
use Rattle.strc_sched_laws.specs.GoingOn.{resumption}
use Rattle.strc_sched_laws.proofs.Nodes.{nodes_push_rates}
use Rattle.strc_sched_laws.proofs.Repeats.{nodes_take_within}
use Rattle.strc_elab_dataflow.specs.FusedUnits.{firings_of}
use Rattle.strc_fiss.specs.Units.{split_units}
use Rattle.strc_fiss.specs.Ways.{fission_of}
use Rattle.strc_stage_plan.specs.Runs.{graph_before}
use Rattle.strc_stage_plan.proofs.Codes.{each_rated}
use Rattle.strc_stage_plan.proofs.Dealt.{faultless_from}
use Rattle.strc_stage_plan.proofs.NewRounds.{new_order_valid, new_balanced}
use Rattle.strc_stage_plan.proofs.OwnRounds.{OwnRound, after, dealt, after_is}
use Rattle.strc_stage_plan.proofs.OwnRounds.{counted}
use Rattle.strc_stage_plan.proofs.Repeats.{new_counts, repeats}
use Rattle.strc_stage_plan.proofs.Supplies.{rounds_supplied}

module _ (run : OwnRound) (input : List ℤ) (rounds : ℕ)
    (supplied : items_read run.old.nodes (counts_at run.schedule rounds) ≤ length input)
    (started : Queues)
    (went : fifo_go node_meaning
    (graph_before run.tree run.old run.schedule run.round run.ways)
    (startup_order run.schedule)
    (fifo_at_first node_meaning
    (graph_before run.tree run.old run.schedule run.round run.ways) input)
    ≡ FifoWent started) where
  abbrev order : List ℕ
  order = firings_of (split_units (fission_of run.old run.round run.ways) run.units)

  pub balanced : IsBalancedByRounds node_meaning (after run)
      (fired_in node_meaning (after run) (dealt run started)) (new_counts run)
  balanced = subst (λ (l : List ℕ). IsBalancedByRounds node_meaning (after run)
      (fired_in node_meaning (after run) (dealt run started)) (orders.firing_count l))
      (sym (after_is run)) (new_balanced run input rounds supplied started went)

  pub restarted_order : 0 < rounds → orders.IsOrder (restarted_meaning node_meaning)
      (restarted (dealt run started) (after run)) [] (λ node. 0)
      (firings_of (split_units (fission_of run.old run.round run.ways) run.units))
  restarted_order some = subst (orders.IsOrder (restarted_meaning node_meaning)
      (restarted (dealt run started) (after run)) [] (λ node. 0)) (sym (after_is run))
      (new_order_valid run input rounds supplied started went some)

  abbrev Schedules : (k : ℕ) → Type 0
  Schedules k = orders.IsSchedule (restarted_meaning node_meaning)
      (restarted (dealt run started) (after run)) [] (λ node. 0) (new_counts run) [] order k

  -- without rounds there is nothing to be found
  schedule_by : (k : ℕ) → k ≡ rounds → Schedules k
  unfolding orders.firing_count
  schedule_by zero e = record {
    startup_counts = λ node. refl;
    round_counts = λ node. refl;
    startup_finds = tt;
    round_finds = λ q less. absurd (omega (arith, less));
  }
  schedule_by (suc k) e =
      subst Schedules (sym e)
      (restarted_rounds_are_schedules node_meaning (after run) (dealt run started)
      (new_counts run) order rounds (λ node. refl)
      (repeats run input rounds supplied started went) balanced
      (rounds_supplied run input rounds supplied started went)
      (restarted_order (omega (arith, e))))

  keeps_on : (node : ℕ) → KeepsRates (restarted_meaning node_meaning)
      ((restarted (dealt run started) (after run)).code node)
  unfolding restarted
  keeps_on node =
      (pushes_rates_keeps_rates node_meaning ((after run).code node) (λ fields. true)
      (nodes_push_rates ((after run).code node)
      (each_rated run.tree run.old run.schedule run.round run.ways run.program run.is run.planned
      run.known node).0)).1
      ((dealt run started).runs node).fired ((dealt run started).runs node).state refl

  pub resumes : (stage_of : ℕ → ℕ) (segment : ℕ → List ℕ) (stages : ℕ)
      → IsStaged (after run) stage_of segment stages
      (firings_of (split_units (fission_of run.old run.round run.ways) run.units))
      → IsResumption (resumption (after run) (dealt run started) (new_counts run)
      (firings_of (split_units (fission_of run.old run.round run.ways) run.units)) rounds stage_of
      segment stages)
  resumes stage_of segment stages staged = record {
    faultless = faultless_from run started
        (counted run input rounds supplied started went).queued.faultless;
    keeps = keeps_on;
    takes_within = λ node firing port less.
        nodes_take_within ((after run).code node) firing port
        (each_rated run.tree run.old run.schedule run.round run.ways run.program run.is
        run.planned run.known node).1;
    schedule = schedule_by rounds refl;
    staged = staged;
  }
