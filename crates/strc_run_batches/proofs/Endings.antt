-- What a machine comes to by batches, by the outcome of these.
use Rattle.std.proofs.Common.{◌≡◌, refl, sym, ap, ◌∙◌, subst, ℕ, ◌/◌, ◌%◌, List, Option, Some}
use Rattle.std.proofs.Common.{None, Vec}
use Rattle.std.specs.Prelude.{IfNone, IfSome}
use Rattle.std.specs.Global.{Global}
use Rattle.strc_work_meaning.specs.declared.word.Word.{Word}
use Rattle.strc_elab_graph.specs.Graphs.{NodeCode}
use Rattle.strc_sched_laws.specs.Machine.{CircuitView, MachineView, Ending, Ended, FaultedAtFirst}
use Rattle.strc_sched_laws.specs.Machine.{FaultedIn, Went, rounds_run}
use Rattle.strc_sched_outcome.specs.declared.outcome.Outcome.{Outcome}
use Rattle.strc_sched_outcome.specs.declared.outcome.Outcome.TheVariants as outcome
use Rattle.strc_sched_outcome.specs.declared.outcome.Round.TheVariants as round
use Rattle.strc_sched_outcome.specs.declared.outcome.Tape.{Tape}
use Rattle.strc_sched.specs.Plain.{IsEnding}
use Rattle.strc_stage_plan.specs.Plans.{PlanParts}
use Rattle.strc_stage.specs.Naming.{IsRenamed}
use Rattle.strc_batch_plans.specs.Plans.{WentThrough}
use Rattle.strc_batch.specs.Batches.{BatchParts}
use Rattle.strc_run_batches.specs.Batched.{ComesByBatches, IsNeverDone}
use Rattle.strc_run_batches.specs.Batched.{batch_firings}

-- the words that an ending has
record HasWords (ending : Ending) : Type 0 where
  words : List (List Word)
  is : ending ≡ Ended words

module _ (plan : PlanParts) (codes : List NodeCode) where
  ends_so : (own : Outcome) (ending : Ending) (tapes : Vec Tape Global) → IsEnding codes own ending
      → IsRenamed plan own (outcome.Done tapes) → HasWords ending
  ends_so (outcome.Done others) (Ended words) tapes ends renamed =
      record { words = words; is = refl }
  ends_so (outcome.Done others) (FaultedAtFirst node firing cause) tapes ends renamed = absurd ends
  ends_so (outcome.Done others) (FaultedIn q node firing cause words) tapes ends renamed =
      absurd ends
  ends_so (outcome.Fault node firing round.Startup cause others) ending tapes ends renamed = cc
  ends_so (outcome.Fault node firing (round.At q) cause others) ending tapes ends renamed =
      absurd renamed

  never_so : (own renamed : Outcome) (words : List (List Word)) → IsEnding codes own (Ended words)
      → IsRenamed plan own renamed → IsNeverDone renamed → ⊥
  never_so (outcome.Done others) (outcome.Done tapes) words ends are never = never tapes refl
  never_so (outcome.Done others) (outcome.Fault node firing round.Startup cause tapes) words ends
      are never = are
  never_so (outcome.Done others) (outcome.Fault node firing (round.At q) cause tapes) words ends are
      never = are
  never_so (outcome.Fault node firing round.Startup cause others) renamed words ends are never =
      ends
  never_so (outcome.Fault node firing (round.At q) cause others) renamed words ends are never = ends

module _ (plan : PlanParts) (batch : BatchParts) (circuit : CircuitView)
    (machine later : MachineView) (rounds : ℕ)
    (went : WentThrough plan (rounds % batch.rounds) circuit machine later)
    (own renamed : Outcome)
    (ending : IsEnding circuit.codes own
    (rounds_run circuit (batch_firings plan batch) (rounds / batch.rounds) 0 later))
    (are : IsRenamed plan own renamed) where
  went_same : (a b : MachineView) → Went a ≡ Went b → a ≡ b
  went_same a b e = cc

  pub comes_so : (found : Option (Vec Tape Global))
      → IfSome found (λ tapes. renamed ≡ outcome.Done tapes)
      → IfNone found (IsNeverDone renamed)
      → ComesByBatches plan batch circuit machine rounds found
  comes_so (Some tapes) done never =
      let named = subst (IsRenamed plan own) done are in
      let has = ends_so plan circuit.codes own
      (rounds_run circuit (batch_firings plan batch) (rounds / batch.rounds) 0 later) tapes ending
      named in
      record {
        later = later;
        went = went;
        words = has.words;
        ends = has.is;
        own = own;
        ending = subst (IsEnding circuit.codes own) has.is ending;
        renamed = named;
      }
  comes_so None done never = λ ends.
      never_so plan circuit.codes own renamed ends.words
      (subst (IsEnding circuit.codes own)
      (ap (rounds_run circuit (batch_firings plan batch) (rounds / batch.rounds) 0)
      (went_same later ends.later (sym went ∙ ends.went)) ∙ ends.ends) ending) are never
