-- Fused rounds after fission come to the answer.
use Rattle.std.proofs.Common.{◌≡◌, sym, ap, ◌∙◌, subst, ℕ, List}
use Rattle.std.proofs.lemmas.Bool.{and_parts}
use Rattle.std.specs.Prelude.{not}
use Rattle.strc_elab_graph.specs.Meaning.{node_meaning}
use Rattle.strc_elab_graph.specs.declared.graph.Fission.{Fission}
use Rattle.strc_elab_dataflow.specs.Answer.{IsAnswer}
use Rattle.strc_elab_dataflow.specs.Order.{IsSchedule}
use Rattle.strc_elab_dataflow.specs.Queues.{fifo_rounds}
use Rattle.strc_elab_dataflow.specs.Streams.{flat}
use Rattle.strc_balance.specs.Balance.{count_at}
use Rattle.strc_startup.specs.Rates.{rates_of}
use Rattle.strc_sched_orders.specs.Order.{firing_count}
use Rattle.strc_sched_laws.specs.Laws.{startup_order, round_order}
use Rattle.strc_sched_laws.proofs.Rounds.{past_prework, balances}
use Rattle.strc_elab_dataflow.specs.FusedUnits.{RoundUnit, firings_of}
use Rattle.strc_elab_dataflow.specs.Runs.{IsSameOutcome}
use Rattle.strc_fuse.specs.Units.{is_free, round_units}
use Rattle.strc_fuse.proofs.Lawful.{fused_units_stay, fused_units_count}
use Rattle.strc_fiss.specs.Numbers.{is_dealt}
use Rattle.strc_fiss.specs.Ways.{fission_of}
use Rattle.strc_stage_plan.specs.Fusions.{stays_whole, FusedFissionKeepsAnswers}
use Rattle.strc_stage_plan.specs.SplitLaws.{new_graph}
use Rattle.strc_stage_plan.specs.Named.{new_origins, old_firings}
use Rattle.strc_stage_plan.specs.Runs.{graph_before, graph_after, parts_of, dealt_from}
use Rattle.strc_stage_plan.proofs.Fusions.{fusion_follows, fewer_placed}
use Rattle.strc_stage_plan.proofs.PlannedRounds.{IsRound, order_finds}
use Rattle.strc_stage_plan.proofs.Runs.{named_is, same_runs, run_answers, own_round}

pub fused_answers_kept : FusedFissionKeepsAnswers
fused_answers_kept tree old schedule round ways input rounds started limit fused program is planned
    known own placed are_fused supplied went =
    let share : ℕ → Fission = fission_of old round ways in
    let units = round_units schedule.round in
    let follows = fusion_follows old schedule round ways limit units fused is own are_fused in
    let round_is = own_round old schedule planned in
    let fewer = fewer_placed (rates_of old) (count_at planned.round) (is_free old)
    (stays_whole old share)
    (λ node e. (and_parts (is_free old node) (not (is_dealt (share node))) e).0) units placed in
    let stays = fused_units_stay (rates_of old) (count_at planned.startup)
    (count_at planned.round) (stays_whole old share) limit units follows.before
    (past_prework old schedule planned) (balances old schedule planned) fewer follows.is_fused
    round_is.valid in
    let counts : (node : ℕ) → firing_count (firings_of follows.before) node
    ≡ count_at planned.round node =
    λ node. fused_units_count (stays_whole old share) limit units follows.before node
    follows.is_fused ∙ round_is.all node in
    let before_is : IsRound old schedule planned (firings_of follows.before) =
    record { valid = stays.0; all = counts } in
    let named : named_order fused ≡ firings_of follows.before =
    ap named_order follows.after
    ∙ named_is tree old schedule round ways input rounds started program is planned known
    follows.before follows.own before_is supplied went in
    let before = graph_before tree old schedule round ways in
    record {
      finds = subst (λ (order : List ℕ). IsSchedule node_meaning (flat tree) input
          (firing_count (startup_order schedule)) (firing_count (round_order schedule))
          (startup_order schedule) order rounds) (sym named)
          (order_finds tree old schedule input rounds program planned supplied
          (firings_of follows.before) before_is);
      answer = fifo_rounds node_meaning before input (firings_of follows.before) rounds 0 started;
      is_answer = subst (λ (order : List ℕ). IsAnswer node_meaning tree input
          (firing_count (startup_order schedule)) (firing_count (round_order schedule))
          (startup_order schedule) order rounds
          (fifo_rounds node_meaning before input (firings_of follows.before) rounds 0 started))
          (sym named)
          (run_answers tree old schedule round ways input rounds started program is planned
          known follows.before follows.own before_is supplied went);
      same = subst (λ (order : List ℕ). IsSameOutcome (parts_of tree old schedule round ways)
          (fifo_rounds node_meaning before input (firings_of follows.before) rounds 0 started)
          (fifo_rounds node_meaning (graph_after tree old schedule round ways) input order rounds
          0 (dealt_from tree old schedule round ways started)))
          (sym (ap firings_of follows.after))
          (same_runs tree old schedule round ways input rounds started program is planned known
          follows.before follows.own before_is supplied went);
    }
  where
    named_order : List RoundUnit → List ℕ
    named_order units =
        old_firings (new_graph old schedule round ways).nodes (new_origins old round ways)
        (firings_of units)
