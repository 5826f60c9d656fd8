-- Each firing of a node after fission has the rates of the one a round before.
use Rattle.std.proofs.Common.{◌≡◌, refl, sym, ap, ◌∙◌, subst, ℕ, suc, ◌+◌, ◌*◌, ◌<◌, ◌≤◌}
use Rattle.std.proofs.Common.{arith, ℤ, List, length, true, false, inl, inr}
use Rattle.std.proofs.lemmas.Bool.{cases_lt}
use Rattle.strc_elab_dataflow.specs.Histories.{Run}
use Rattle.strc_elab_dataflow.specs.Order as orders
use Rattle.strc_elab_dataflow.specs.Queues.{FifoProgress.FifoWent, fifo_go, fifo_at_first}
use Rattle.strc_work_meaning.specs.declared.fault.Cause.{Cause}
use Rattle.strc_work_meaning.specs.declared.word.Word.{Word}
use Rattle.strc_elab_graph.specs.Graphs.{NodeCode, Copy}
use Rattle.strc_elab_graph.specs.Meaning.{node_meaning}
use Rattle.strc_sched_laws.specs.Fits.{Queues}
use Rattle.strc_sched_laws.specs.Laws.{startup_order, counts_at}
use Rattle.strc_sched_laws.specs.Planned.{items_read}
use Rattle.strc_elab_dataflow.specs.RestartRounds.{RepeatsByRounds}
use Rattle.strc_elab_dataflow.specs.Schedules.{fired_in}
use Rattle.strc_sched_laws.specs.Repeats.{HaveSameRates}
use Rattle.strc_elab_dataflow.specs.FusedUnits.{firings_of}
use Rattle.strc_fuse.specs.Units.{round_units}
use Rattle.strc_fiss.specs.Numbers.{is_dealt, base}
use Rattle.strc_fiss.specs.Splitting.{copied, code_at}
use Rattle.strc_fiss.specs.Units.{split_units}
use Rattle.strc_fiss.specs.Ways.{fission_of}
use Rattle.strc_stage_plan.specs.Runs.{graph_before}
use Rattle.strc_stage_plan.proofs.DealtRuns.{whole_run}
use Rattle.strc_stage_plan.proofs.NewChannels.{apart}
use Rattle.strc_stage_plan.proofs.Runs.{own_round}
use Rattle.strc_stage_plan.specs.SplitStagesRounds.{SplitRoundsRepeat}
use Rattle.strc_stage_plan.proofs.Codes.{old_alone, kept_code, scatter_code, copy_code}
use Rattle.strc_stage_plan.proofs.Codes.{gather_code}
use Rattle.strc_fiss.proofs.PartCounts.{alls, kept_count, copy_count}
use Rattle.strc_stage_plan.proofs.Numbers.{each_number}
use Rattle.strc_stage_plan.proofs.OwnRounds.{OwnRound, share, before, after, parts, startup}
use Rattle.strc_stage_plan.proofs.OwnRounds.{in_round, blocks, dealt, round_blocks, after_is}
use Rattle.strc_stage_plan.proofs.OwnRounds.{old_counts, none_past, least, counted}
use Rattle.strc_stage_plan.proofs.Settled.{at_same, by_both, all_settled, copy_repeats}

module _ (run : OwnRound) where
  -- how often each part fires in a round
  abbrev pub new_counts : ℕ → ℕ
  new_counts = orders.firing_count
      (firings_of (split_units (fission_of run.old run.round run.ways) run.units))

  pub kept_fires : (u : ℕ) → is_dealt (share run u) ≡ false
      → new_counts (base (share run) u + 0) ≡ in_round run u
  kept_fires u whole =
      ap (λ (l : List ℕ). orders.firing_count l (base (share run) u + 0)) (after_is run)
      ∙ kept_count (parts run) (apart (share run)) (blocks run) (round_blocks run) u whole
      ∙ old_counts run u

  pub copy_fires : (v i : ℕ) → is_dealt (share run v) ≡ true → i < (share run v).ways
      → new_counts (base (share run) v + suc i) ≡ alls (blocks run) v * (share run v).firings
  copy_fires v i split less =
      ap (λ (l : List ℕ). orders.firing_count l (base (share run) v + suc i)) (after_is run)
      ∙ copy_count (parts run) (apart (share run)) (blocks run) (round_blocks run) v i split less

  -- ---- rates

  module _ (fired : ℕ → ℕ) (began : (u : ℕ) → is_dealt (share run u) ≡ false
      → fired (base (share run) u + 0) ≡ startup run u) where
    abbrev Repeats : ℕ → Type 0
    Repeats number = (firing : ℕ) → fired number ≤ firing
        → HaveSameRates ((after run).code number) (firing + new_counts number) firing

    kept_repeats : (u : ℕ) → is_dealt (share run u) ≡ false → Repeats (base (share run) u + 0)
    kept_repeats u whole firing later =
        let many : ℕ = new_counts (base (share run) u + 0) in
        subst (λ (c : NodeCode). HaveSameRates c (firing + many) firing)
        (sym (kept_code run.tree run.old run.schedule run.round run.ways run.program run.is
        run.planned run.known u whole))
        (elim (cases_lt u (length run.old.nodes)) [
          | inl inside ↦ all_settled ((before run).code u)
              (old_alone run.tree run.old run.schedule run.round run.ways run.program run.is
              run.planned run.known u) (startup run u) many firing (least run u inside)
              (omega (arith, later, began u whole))
          | inr past ↦ at_same ((before run).code u) (firing + many) firing
              (let e : firing + many ≡ firing =
              omega (arith, kept_fires u whole, none_past run u past) in e)
        ])

    copy_part_repeats : (v i : ℕ) → is_dealt (share run v) ≡ true → i < (share run v).ways
        → Repeats (base (share run) v + suc i)
    copy_part_repeats v i split less firing later =
        let code : NodeCode = Copy (copied (code_at run.old.nodes v)) (share run v) in
        let many : ℕ = new_counts (base (share run) v + suc i) in
        let all : ℕ = alls (blocks run) v * (share run v).firings in
        subst (λ (c : NodeCode). HaveSameRates c (firing + many) firing)
        (sym (copy_code run.tree run.old run.schedule run.round run.ways run.program run.is
        run.planned run.known v i split less))
        (by_both code (firing + many) (firing + all) firing
        (at_same code (firing + many) (firing + all)
        (ap (λ (n : ℕ). firing + n) (copy_fires v i split less)))
        (copy_repeats (copied (code_at run.old.nodes v)) (share run v) (alls (blocks run) v)
        firing))

    each_repeats : (number : ℕ) → Repeats number
    each_repeats = each_number (share run) Repeats
        kept_repeats
        (λ v split firing later. subst (λ (c : NodeCode). HaveSameRates c
        (firing + new_counts (base (share run) v + 0)) firing)
        (sym (scatter_code run.tree run.old run.schedule run.round run.ways run.program run.is
        run.planned run.known v split))
        (λ port. (refl, refl, refl)))
        copy_part_repeats
        (λ v split firing later. subst (λ (c : NodeCode). HaveSameRates c
        (firing + new_counts (base (share run) v + suc (share run v).ways)) firing)
        (sym (gather_code run.tree run.old run.schedule run.round run.ways run.program run.is
        run.planned run.known v split))
        (λ port. (refl, refl, refl)))

    pub repeats_from : RepeatsByRounds node_meaning (after run) fired new_counts
    repeats_from = record {
      windows_repeat = λ node firing port later. (each_repeats node firing later port).0;
      pops_repeat = λ node firing port later. (each_repeats node firing later port).1;
      pushes_repeat = λ node firing port later. (each_repeats node firing later port).2;
    }

  module _ (input : List ℤ) (rounds : ℕ)
      (supplied : items_read run.old.nodes (counts_at run.schedule rounds) ≤ length input)
      (started : Queues)
      (went : fifo_go node_meaning
      (graph_before run.tree run.old run.schedule run.round run.ways)
      (startup_order run.schedule)
      (fifo_at_first node_meaning
      (graph_before run.tree run.old run.schedule run.round run.ways) input)
      ≡ FifoWent started) where
    pub fired_kept : (u : ℕ) → is_dealt (share run u) ≡ false
        → fired_in node_meaning (after run) (dealt run started) (base (share run) u + 0)
        ≡ startup run u
    unfolding fired_in
    fired_kept u whole =
        ap (λ (r : Run (List ℤ) Cause Word). r.fired)
        (whole_run run.tree run.old run.schedule run.round run.ways started run.planned u whole)
        ∙ (counted run input rounds supplied started went).fired u

    pub repeats : RepeatsByRounds node_meaning (after run)
        (fired_in node_meaning (after run) (dealt run started)) new_counts
    repeats = repeats_from (fired_in node_meaning (after run) (dealt run started)) fired_kept

pub rounds_repeat : SplitRoundsRepeat
rounds_repeat tree old schedule round ways input rounds started program is planned known own
    supplied went =
    repeats (record {
      tree = tree;
      old = old;
      schedule = schedule;
      round = round;
      ways = ways;
      units = round_units schedule.round;
      program = program;
      is = is;
      planned = planned;
      known = known;
      own = own;
      are = own_round old schedule planned;
    }) input rounds supplied started went
