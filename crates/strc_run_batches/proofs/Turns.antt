-- An order that is fired many times: how far it went, and that a fault stays one.
use Rattle.std.proofs.Common.{◌≡◌, refl, sym, ap, ◌∙◌, subst, ℕ, zero, suc, ◌+◌, ◌-◌, ◌<◌, List}
use Rattle.std.proofs.Common.{add-one, arith}
use Rattle.strc_elab_dataflow.specs.Staging.{repeated}
use Rattle.strc_sched_laws.specs.Machine.{CircuitView, MachineView, Progress, Went, Stopped}
use Rattle.strc_sched_laws.specs.Machine.{order_run, then_go}
use Rattle.strc_live_laws.proofs.Rounds.{order_append}
use Rattle.strc_work_meaning.specs.declared.fault.Cause.{Cause}
use Rattle.strc_run_batches.specs.Batched.{NeverGoes}

module _ (circuit : CircuitView) (order : List ℕ) (first : MachineView) where
  -- before any turn
  pub went_first : order_run circuit (repeated 0 order) first ≡ Went first
  unfolding repeated
  went_first = refl

  run_more : (turns : ℕ) → order_run circuit (repeated (suc turns) order) first
      ≡ then_go (order_run circuit order) (order_run circuit (repeated turns order) first)
  unfolding repeated
  run_more turns = order_append circuit (repeated turns order) order first

  then_after : (turns : ℕ) (now : MachineView)
      → order_run circuit (repeated turns order) first ≡ Went now
      → order_run circuit (repeated (turns + 1) order) first ≡ order_run circuit order now
  then_after turns now went =
      ap (λ (n : ℕ). order_run circuit (repeated n order) first) (add-one turns)
      ∙ run_more turns ∙ ap (then_go (order_run circuit order)) went

  pub went_more : (turns : ℕ) (now next : MachineView)
      → order_run circuit (repeated turns order) first ≡ Went now
      → order_run circuit order now ≡ Went next
      → order_run circuit (repeated (turns + 1) order) first ≡ Went next
  went_more turns now next went more = then_after turns now went ∙ more

  went_before : (progress : Progress) (later : MachineView)
      → then_go (order_run circuit order) progress ≡ Went later
      → (now : MachineView) × (progress ≡ Went now)
  went_before (Went now) later e = (now, refl)
  went_before (Stopped node firing cause) later e = absurd (cc)

  stays : (turns more : ℕ) → NeverGoes circuit (repeated turns order) first
      → NeverGoes circuit (repeated (more + turns) order) first
  stays turns zero never later e =
      never later (ap (λ (n : ℕ). order_run circuit (repeated n order) first)
      (let same : turns ≡ zero + turns = omega arith in same) ∙ e)
  stays turns (suc more) never later e =
      let more_is : suc (more + turns) ≡ suc more + turns = omega arith in
      let (now, went) = went_before (order_run circuit (repeated (more + turns) order) first) later
      (sym (run_more (more + turns))
      ∙ ap (λ (n : ℕ). order_run circuit (repeated n order) first) more_is ∙ e) in
      stays turns more never now went

  -- where a turn stops, so do all
  pub stopped_in : (turns all : ℕ) (now : MachineView) (node firing : ℕ) (cause : Cause)
      → turns < all → order_run circuit (repeated turns order) first ≡ Went now
      → order_run circuit order now ≡ Stopped node firing cause
      → NeverGoes circuit (repeated all order) first
  stopped_in turns all now node firing cause less went stopped =
      let all_is : (all - (turns + 1)) + (turns + 1) ≡ all = omega arith in
      subst (λ (n : ℕ). NeverGoes circuit (repeated n order) first) all_is
      (stays (turns + 1) (all - (turns + 1)) (λ later e.
      let apart : Stopped node firing cause ≡ Went later =
      sym (then_after turns now went ∙ stopped) ∙ e in absurd (cc)))
