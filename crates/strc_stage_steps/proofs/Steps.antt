-- The parts of a stage's step.
use Rattle.std.proofs.Common.{◌≡◌, ◌⊎◌, refl, sym, ap, ◌∙◌, ℕ, suc, ◌-◌, ◌<◌, Bool, true, false}
use Rattle.std.proofs.Common.{true≢false}
use Rattle.std.proofs.Common.{cond, ◌||◌, eqb, nat_eq, arith, Option, Some, None, is_some, inl, inr}
use Rattle.std.proofs.lemmas.Bool.{eqb-true, eqb-false}
use Rattle.strc_stage_core.specs.Actors.{Stage, MayStop, Step, is_passing, is_marked, stop_of, next}
use Rattle.strc_stage_core.specs.Actors.{made}
use Rattle.strc_stage_core.specs.Actors.{or_else}
use Rattle.strc_sched_outcome.specs.declared.stop.Stop.{Stop}
use Rattle.strc_sched_outcome.specs.declared.stop.Stop.TheVariants.{NoMemory}
use Rattle.strc_stage_core.specs.Parcels.{Load, ParcelView, parcel, emptied}
use Rattle.strc_stage_steps.specs.Steps.{StageState, stage_work, with_machine, due_stop_of}
use Rattle.strc_stage_steps.specs.Steps.{state_of_step, load_of_step}
use Rattle.strc_sched_laws.specs.Machine.{MachineView}
use Rattle.strc_stage_steps.specs.Stepping.{with_stop, RunsTo}

abbrev Own : Type 0
Own = Stage StageState Stop

-- The mark, by the round and by the stage.
round_left : (taken rounds : ℕ) → rounds - taken ≡ 1 → eqb (suc taken) rounds ≡ true
round_left taken rounds one = both (eqb (suc taken) rounds) refl
  where
    both : (last : Bool) → eqb (suc taken) rounds ≡ last → last ≡ true
    both true e = refl
    both false e = absurd (eqb-false (suc taken) rounds e (omega (arith, one)))

rounds_left : (taken rounds : ℕ) → taken < rounds → (rounds - taken ≡ 1 → ⊥)
    → eqb (suc taken) rounds ≡ false
rounds_left taken rounds less more = both (eqb (suc taken) rounds) refl
  where
    both : (last : Bool) → eqb (suc taken) rounds ≡ last → last ≡ false
    both false e = refl
    both true e =
        let same = eqb-true (suc taken) rounds e in absurd (more (omega (arith, same)))

pub last_round : (stage : Own) (own : ParcelView) → stage.first ≡ true
    → stage.rounds - stage.taken ≡ 1 → nat_eq (stage.rounds - stage.taken) 1 ≡ is_marked stage own
unfolding is_marked
last_round stage own first one =
    ap (λ n. nat_eq n 1) one
    ∙ sym (ap (λ b. cond b (eqb (suc stage.taken) stage.rounds || is_some own.stop) own.last) first
    ∙ ap (λ b. b || is_some own.stop) (round_left stage.taken stage.rounds one))

pub other_round : (stage : Own) (own : ParcelView) → stage.first ≡ true → stage.taken < stage.rounds
    → (stage.rounds - stage.taken ≡ 1 → ⊥) → is_some own.stop ≡ is_marked stage own
unfolding is_marked
other_round stage own first less more =
    sym (ap (λ b. cond b (eqb (suc stage.taken) stage.rounds || is_some own.stop) own.last) first
    ∙ ap (λ b. b || is_some own.stop) (rounds_left stage.taken stage.rounds less more))

pub later_stage : (stage : Own) (own : ParcelView) → stage.first ≡ false
    → own.last ≡ is_marked stage own
unfolding is_marked
later_stage stage own first =
    sym (ap (λ b. cond b (eqb (suc stage.taken) stage.rounds || is_some own.stop) own.last) first)

-- A step is its work, and then the count and the mark.
pub step_is : (before after later : Own) (own result : ParcelView) (stop : Option Stop)
    → before.finished ≡ false
    → MayStop stage_work (is_passing before own) (stop_of stage_work before own) stop
    → after.inner ≡ (next stage_work before own stop).inner
    → later.inner ≡ after.inner → later.first ≡ before.first → later.rounds ≡ before.rounds
    → later.taken ≡ suc before.taken → later.stop ≡ stop
    → later.finished ≡ is_marked before own
    → result ≡ parcel (made stage_work before own stop).load stop (is_marked before own)
    → Step stage_work before own later result
unfolding Step next made
step_is before after later own result stop going may inner stays first rounds taken stops finished
    is = (
      stop,
      going,
      may,
      (λ i. record {
        inner = (stays ∙ inner) i;
        first = first i;
        rounds = rounds i;
        taken = taken i;
        stop = stops i;
        finished = finished i;
      }),
      is,
    )

-- ---- a step but for the count and the mark

-- A stage of these parts.
abbrev stage : (inner : StageState) (first : Bool) (rounds taken : ℕ) (stop : Option Stop)
    (finished : Bool) → Own
stage inner first rounds taken stop finished = record {
  inner = inner;
  first = first;
  rounds = rounds;
  taken = taken;
  stop = stop;
  finished = finished;
}

-- A stopped parcel goes through.
pub stopped_runs : (before : Own) (load : Load) (own : Option Stop) (last : Bool)
    → is_some own ≡ true
    → RunsTo before (parcel load own last) own (with_stop before before.inner own)
    (parcel load own last)
unfolding is_passing stop_of next made
stopped_runs before load None last is = absurd (true≢false (sym is))
stopped_runs before load (Some own) last is = record {
  may = inl refl;
  stage_is = refl;
  parcel_is = refl;
}

-- A stage that has made a stopped parcel stops this one.
pub halted_runs : (inner : StageState) (first : Bool) (rounds taken : ℕ) (own_stop : Option Stop)
    (finished : Bool) (stop : Stop) → own_stop ≡ Some stop → (load : Load) (own : Option Stop)
    (last : Bool) → is_some own ≡ false → (result : ParcelView)
    → result ≡ parcel load (or_else own (Some stop)) last
    → RunsTo (stage inner first rounds taken own_stop finished) (parcel load own last)
    (Some stop) (stage inner first rounds taken own_stop finished) result
unfolding is_passing stop_of next made
halted_runs inner first rounds taken None finished stop e load own last is result made_is = cc
halted_runs inner first rounds taken (Some other) finished stop e load (Some own) last is result
    made_is = absurd (true≢false is)
halted_runs inner first rounds taken (Some other) finished stop e load None last is result made_is =
    record {
      may = inl (sym e);
      stage_is = ap (λ s. stage inner first rounds taken s finished) e;
      parcel_is = made_is;
    }

-- The firings of a round are done.
pub working_runs : (inner : StageState) (first : Bool) (rounds taken : ℕ) (own_stop : Option Stop)
    (finished : Bool) → own_stop ≡ None
    → (load : Load) (own : Option Stop) (last : Bool) → is_some own ≡ false
    → due_stop_of inner load inner.machine ≡ None → (after : Own) → (result : ParcelView)
    → after ≡ stage (state_of_step inner load inner.machine None) first rounds taken own_stop
    finished
    → result ≡ parcel (load_of_step inner load inner.machine None) own last
    → RunsTo (stage inner first rounds taken own_stop finished) (parcel load own last) None after
    result
unfolding is_passing stop_of next made
working_runs inner first rounds taken (Some other) finished e load own last is none after result
    same made_is = cc
working_runs inner first rounds taken None finished e load (Some own) last is none after result
    same made_is = absurd (true≢false is)
working_runs inner first rounds taken None finished e load None last is none after result same
    made_is = record {
      may = inl (sym none);
      stage_is = same;
      parcel_is = made_is;
    }

-- They are stopped.
pub stopping_runs : (inner : StageState) (first : Bool) (rounds taken : ℕ) (own_stop : Option Stop)
    (finished : Bool) → own_stop ≡ None
    → (load : Load) (own : Option Stop) (last : Bool) (stop : Stop) → is_some own ≡ false
    → (due_stop_of inner load inner.machine ≡ Some stop) ⊎ (stop ≡ NoMemory)
    → (after : Own) → (result : ParcelView)
    → after ≡ stage (with_machine inner None) first rounds taken (Some stop) finished
    → result ≡ parcel (emptied load) (or_else own (Some stop)) last
    → RunsTo (stage inner first rounds taken own_stop finished) (parcel load own last) (Some stop)
    after result
unfolding is_passing stop_of next made
stopping_runs inner first rounds taken (Some other) finished e load own last stop is due after
    result same made_is = cc
stopping_runs inner first rounds taken None finished e load (Some own) last stop is due after
    result same made_is = absurd (true≢false is)
stopping_runs inner first rounds taken None finished e load None last stop is due after result
    same made_is = record {
      may = which due;
      stage_is = same ∙ ap (λ i. stage i first rounds taken (Some stop) finished)
          (sym (no_state inner.machine));
      parcel_is = made_is ∙ ap (λ l. parcel l (Some stop) last) (sym (no_load inner.machine));
    }
  where
    which : (due_stop_of inner load inner.machine ≡ Some stop) ⊎ (stop ≡ NoMemory)
        → (Some stop ≡ due_stop_of inner load inner.machine)
        ⊎ ((false ≡ false) × (Some stop ≡ Some NoMemory))
    which (inl is) = inl (sym is)
    which (inr is) = inr (refl, ap Some is)

    no_state : (machine : Option MachineView)
        → state_of_step inner load machine (Some stop) ≡ with_machine inner None
    no_state None = refl
    no_state (Some machine) = refl

    no_load : (machine : Option MachineView) → load_of_step inner load machine (Some stop)
        ≡ emptied load
    no_load None = refl
    no_load (Some machine) = refl
