-- The state dealt out to parts that start as their own codes do agrees with the old one.
use Rattle.std.proofs.Common.{◌≡◌, refl, sym, ap, ◌∙◌, ℕ, suc, ◌+◌, ◌<◌, ◌≤◌, arith}
use Rattle.std.proofs.Common.{List, [], length, Bool, true, false, cond, inl, inr}
use Rattle.std.proofs.Common.{Option, ℤ}
use Rattle.std.proofs.lemmas.Bool.{cases_lt, lt-ltb, true≢false}
use Rattle.std.proofs.lemmas.List.{get_or_default}
use Rattle.std.proofs.lemmas.Option.{slice_get_past}
use Rattle.strc_elab_dataflow.specs.Histories.{Run, initial_run}
use Rattle.strc_elab_dataflow.specs.Streams as trees
use Rattle.strc_elab_dataflow.specs.Streams.{any_code}
use Rattle.strc_work_meaning.specs.declared.fault.Cause.{Cause}
use Rattle.strc_work_meaning.specs.declared.word.Word.{Word}
use Rattle.strc_elab_graph.specs.Graphs.{NodeCode, Graph, Scatter, Copy, Gather, Filter, Identity}
use Rattle.strc_elab_graph.specs.Graphs.{FileReader, FileWriter, Splitter, Joiner}
use Rattle.strc_elab_graph.specs.Meaning.{node_meaning, node_fields}
use Rattle.strc_elab_graph.specs.Rates.{fires_by_rounds}
use Rattle.strc_elab_graph.specs.declared.graph.Fission.{Fission}
use Rattle.strc_balance.specs.Balance.{count_at}
use Rattle.strc_sched_orders.specs.Schedules.{ScheduleParts}
use Rattle.strc_sched_laws.specs.Fits.{Queues}
use Rattle.strc_sched_laws.specs.Planned.{IsPlanned}
use Rattle.strc_elab_dataflow.specs.Split.{Agree}
use Rattle.strc_elab_dataflow.specs.Starting.{state_dealt}
use Rattle.strc_fiss.specs.Numbers.{is_dealt, last_part, base}
use Rattle.strc_fiss.specs.Splitting.{code_at, copied, new_code, part_of}
use Rattle.strc_fiss.specs.Ways.{dealt, fission_of, ways_of}
use Rattle.strc_fiss.proofs.Renaming.{last_dealt}
use Rattle.strc_stage_plan.specs.Owners.{owner}
use Rattle.strc_stage_plan.specs.Runs.{dealt_from, graph_before, parts_of}
use Rattle.strc_stage_plan.proofs.NewNumbers.{IsNumber, old_plain}
use Rattle.strc_stage_plan.proofs.DealtRuns.{part_run, whole_run}

-- a copy starts as what it copies
copy_starts : (code : NodeCode) (fission : Fission) → fires_by_rounds code ≡ false
    → node_fields (Copy (copied code) fission) ≡ node_fields code
copy_starts (Filter name filter) fission e = refl
copy_starts Identity fission e = refl
copy_starts (FileReader text) fission e = refl
copy_starts (FileWriter text) fission e = refl
copy_starts (Splitter splitter) fission e = refl
copy_starts (Joiner weights) fission e = refl
copy_starts (Scatter own) fission e = refl
copy_starts (Copy own other) fission e = absurd (cc)
copy_starts (Gather own) fission e = refl

module _ (tree : trees.Stream NodeCode) (old : Graph) (schedule : ScheduleParts)
    (round : List ℕ) (ways : ℕ) (started : Queues) (planned : IsPlanned old schedule)
    (agree : Agree (parts_of tree old schedule round ways) node_meaning
    (graph_before tree old schedule round ways) (λ v. 0) started
    (state_dealt (parts_of tree old schedule round ways) node_meaning
    (graph_before tree old schedule round ways) started
    (λ number. (owner (fission_of old round ways) number).node)
    (λ number. (owner (fission_of old round ways) number).part))) where
  abbrev share : ℕ → Fission
  share = fission_of old round ways

  abbrev now : Queues
  now = dealt_from tree old schedule round ways started

  -- a node that is split is there
  inside : (v : ℕ) → is_dealt (share v) ≡ true → v < length old.nodes
  inside v e = elim (cases_lt v (length old.nodes)) [
    | inl is ↦ is
    | inr past ↦ absurd (true≢false (sym e
        ∙ ap (λ (code : Option NodeCode). is_dealt (dealt code (count_at round v)
        (ways_of old round ways v))) (slice_get_past old.nodes v past)))
  ]

  module _ (v : ℕ) (e : is_dealt (share v) ≡ true) where
    number : (k : ℕ) → k ≤ last_part share v
        → IsNumber share old.nodes planned.unfissioned (base share v + k) v k
    number k within = record { inside = inside v e; within = within; at = refl }

    run : (k : ℕ) → k ≤ last_part share v
        → now.runs (base share v + k) ≡ initial_run node_meaning (new_code share old.nodes v k)
    run k within = part_run tree old schedule round ways started planned (base share v + k) v k
        (number k within) e

    silent : (k : ℕ) → k ≤ last_part share v → (now.runs (base share v + k)).words ≡ []
    unfolding initial_run
    silent k within = ap (λ (r : Run (List ℤ) Cause Word). r.words) (run k within)

    unfired : (k : ℕ) → k ≤ last_part share v → (now.runs (base share v + k)).fired ≡ 0
    unfolding initial_run
    unfired k within = ap (λ (r : Run (List ℤ) Cause Word). r.fired) (run k within)

    copy_code : (i : ℕ) → i < (share v).ways
        → new_code share old.nodes v (suc i) ≡ Copy (copied (code_at old.nodes v)) (share v)
    copy_code i less =
        ap (λ (t : Bool). cond t (part_of (code_at old.nodes v) (share v) (suc i))
        (code_at old.nodes v)) e
        ∙ ap (λ (t : Bool). cond t (Copy (copied (code_at old.nodes v)) (share v))
        (Gather (share v))) (lt-ltb i (share v).ways less)

    starts : (i : ℕ) → i < (share v).ways → (within : suc i ≤ last_part share v)
        → (now.runs (base share v + suc i)).state
        ≡ node_meaning.start ((graph_before tree old schedule round ways).code v)
    unfolding initial_run
    starts i less within =
        ap (λ (r : Run (List ℤ) Cause Word). r.state) (run (suc i) within)
        ∙ ap node_fields (copy_code i less)
        ∙ copy_starts (code_at old.nodes v) (share v)
        (old_plain share old.nodes planned.unfissioned (base share v + suc i) v (suc i)
        (number (suc i) within))
        ∙ ap node_fields (get_or_default old.nodes v (Joiner []) (any_code tree) (inside v e))

  pub agree_now : Agree (parts_of tree old schedule round ways) node_meaning
      (graph_before tree old schedule round ways) (λ v. 0) started now
  unfolding state_dealt
  agree_now = record {
    queues = agree.queues;
    kept = λ u kept. whole_run tree old schedule round ways started planned u kept;
    idle = λ v split.
        let was = agree.idle v split in
        let last : last_part share v ≡ suc (share v).ways = last_dealt (share v) split in
        record {
          fired = was.fired;
          state = was.state;
          silent = was.silent;
          scatter_silent = silent v split 0 (omega arith);
          gather_silent = silent v split (suc (share v).ways) (omega (arith, last));
          copy = λ i less. record {
            fired =
                let none = unfired v split (suc i) (omega (arith, last, less)) in
                omega (arith, none);
            state = starts v split i less (omega (arith, last, less));
            silent = silent v split (suc i) (omega (arith, last, less));
            empty = (was.copy i less).empty;
            passed_on = (was.copy i less).passed_on;
          };
        };
  }
