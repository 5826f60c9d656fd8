-- A planned graph after fission, with its round fused: its laws are those of the fission of fused
-- units before it.
use Rattle.std.proofs.Common.{◌≡◌, sym, ap, ◌∙◌, subst, ℕ, ◌*◌, ◌<◌, List, []}
use Rattle.std.specs.Prelude.{not}
use Rattle.std.proofs.lemmas.Bool.{and_parts}
use Rattle.strc_elab_dataflow.specs.Order as orders
use Rattle.strc_elab_graph.specs.Meaning.{node_meaning}
use Rattle.strc_elab_graph.specs.declared.graph.Fission.{Fission}
use Rattle.strc_balance.specs.Balance.{count_at}
use Rattle.strc_startup.specs.Rates.{rates_of}
use Rattle.strc_sched_laws.proofs.Rounds.{past_prework, balances}
use Rattle.strc_elab_dataflow.specs.Staging.{IsStaged}
use Rattle.strc_elab_dataflow.specs.Chains.{IsResumption}
use Rattle.strc_elab_dataflow.specs.Restart.{restarted_meaning, restarted}
use Rattle.strc_elab_dataflow.specs.RestartRounds.{IsBalancedByRounds}
use Rattle.strc_elab_dataflow.specs.Schedules.{fired_in, IsSuppliedFrom}
use Rattle.strc_sched_laws.specs.GoingOn.{resumption}
use Rattle.strc_elab_dataflow.specs.FusedUnits.{RoundUnit, firings_of}
use Rattle.strc_fuse.specs.Units.{is_free, round_units}
use Rattle.strc_fuse.proofs.Lawful.{fused_units_stay, fused_units_count}
use Rattle.strc_fiss.specs.Numbers.{is_dealt}
use Rattle.strc_fiss.specs.Units.{split_units}
use Rattle.strc_fiss.specs.Ways.{fission_of}
use Rattle.strc_stage_plan.specs.Fusions.{stays_whole, IsFissionOfFused}
use Rattle.strc_stage_plan.proofs.Fusions.{fusion_follows, fewer_placed}
use Rattle.strc_stage_plan.proofs.PlannedRounds.{IsRound}
use Rattle.strc_stage_plan.proofs.Runs.{own_round}
use Rattle.strc_stage_plan.specs.Fused.{FusedRun, IsFusedRun, graph_of, order_of, state_of}
use Rattle.strc_stage_plan.specs.Fused.{resumed, SplitRoundsBalance, SplitRoundIsRestartedOrder}
use Rattle.strc_stage_plan.specs.Fused.{SplitRoundsAreSupplied, SplitGraphsResume}
use Rattle.strc_stage_plan.proofs.OwnRounds.{OwnRound}
use Rattle.strc_stage_plan.proofs.Resuming.{balanced, restarted_order, resumes}
use Rattle.strc_stage_plan.proofs.Supplies.{rounds_supplied}

module _ (run : FusedRun) (limit : ℕ) (is : IsFusedRun run limit) where
  abbrev share : ℕ → Fission
  share = fission_of run.old run.round run.ways

  abbrev units : List RoundUnit
  units = round_units run.schedule.round

  follows : IsFissionOfFused run.old share limit units run.fused
  follows = fusion_follows run.old run.schedule run.round run.ways limit units run.fused is.is
      is.own is.fusion

  round_is : IsRound run.old run.schedule is.planned (firings_of follows.before)
  round_is =
      let planned_round = own_round run.old run.schedule is.planned in
      let fewer = fewer_placed (rates_of run.old) (count_at is.planned.round) (is_free run.old)
      (stays_whole run.old share)
      (λ node e. (and_parts (is_free run.old node) (not (is_dealt (share node))) e).0) units
      is.placed in
      let stays = fused_units_stay (rates_of run.old) (count_at is.planned.startup)
      (count_at is.planned.round) (stays_whole run.old share) limit units follows.before
      (past_prework run.old run.schedule is.planned) (balances run.old run.schedule is.planned)
      fewer follows.is_fused planned_round.valid in
      record {
        valid = stays.0;
        all = λ node. fused_units_count (stays_whole run.old share) limit units follows.before node
            follows.is_fused ∙ planned_round.all node;
      }

  -- the units before fission
  own : OwnRound
  own = record {
    tree = run.tree;
    old = run.old;
    schedule = run.schedule;
    round = run.round;
    ways = run.ways;
    units = follows.before;
    program = is.program;
    is = is.is;
    planned = is.planned;
    known = is.known;
    own = follows.own;
    are = round_is;
  }

  same : firings_of (split_units share follows.before) ≡ order_of run
  same = sym (ap firings_of follows.after)

  fused_balanced : IsBalancedByRounds node_meaning (graph_of run)
      (fired_in node_meaning (graph_of run) (state_of run))
      (orders.firing_count (order_of run))
  unfolding own
  fused_balanced = subst (λ (l : List ℕ). IsBalancedByRounds node_meaning (graph_of run)
      (fired_in node_meaning (graph_of run) (state_of run)) (orders.firing_count l)) same
      (balanced own run.input run.rounds is.supplied run.started is.went)

  fused_order : 0 < run.rounds → orders.IsOrder (restarted_meaning node_meaning)
      (restarted (state_of run) (graph_of run)) [] (λ node. 0) (order_of run)
  unfolding own
  fused_order some = subst (orders.IsOrder (restarted_meaning node_meaning)
      (restarted (state_of run) (graph_of run)) [] (λ node. 0)) same
      (restarted_order own run.input run.rounds is.supplied run.started is.went some)

  fused_supplied : IsSuppliedFrom node_meaning (graph_of run) (state_of run)
      (λ node. run.rounds * orders.firing_count (order_of run) node)
  unfolding own
  fused_supplied = subst (λ (l : List ℕ). IsSuppliedFrom node_meaning (graph_of run)
      (state_of run) (λ node. run.rounds * orders.firing_count l node)) same
      (rounds_supplied own run.input run.rounds is.supplied run.started is.went)

  module _ (stage_of : ℕ → ℕ) (segment : ℕ → List ℕ) (stages : ℕ) where
    fused_resumes : IsStaged (graph_of run) stage_of segment stages (order_of run)
        → IsResumption (resumed run stage_of segment stages)
    unfolding own
    fused_resumes = subst (λ (l : List ℕ). IsStaged (graph_of run) stage_of segment stages l
        → IsResumption (resumption (graph_of run) (state_of run) (orders.firing_count l) l
        run.rounds stage_of segment stages)) same
        (resumes own run.input run.rounds is.supplied run.started is.went stage_of segment stages)

pub rounds_balance : SplitRoundsBalance
rounds_balance run limit is = fused_balanced run limit is

pub round_is_restarted_order : SplitRoundIsRestartedOrder
round_is_restarted_order run limit is some = fused_order run limit is some

pub rounds_are_supplied : SplitRoundsAreSupplied
rounds_are_supplied run limit is = fused_supplied run limit is

pub graphs_resume : SplitGraphsResume
graphs_resume run limit stage_of segment stages is staged =
    fused_resumes run limit is stage_of segment stages staged
