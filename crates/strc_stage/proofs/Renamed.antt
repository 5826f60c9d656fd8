-- An outcome by the nodes before fission is what its own answer is, by those nodes.
use Rattle.std.proofs.Common.{◌≡◌, sym, ap, ◌∙◌, subst, ℕ, ◌<◌, ◌^◌, List, length, map}
use Rattle.strc_elab_dataflow.specs.Answer.{Outcome.Done, Outcome.StartupFault, Outcome.RoundFault}
use Rattle.strc_elab_dataflow.specs.Machine.{Stop}
use Rattle.strc_work_meaning.specs.declared.fault.Cause.{Cause}
use Rattle.strc_work_meaning.specs.declared.word.Word.{Word}
use Rattle.strc_elab_graph.specs.Graphs.{NodeCode}
use Rattle.strc_elab_graph.specs.Tapes.{tape_nodes}
use Rattle.strc_sched_laws.specs.Machine.{Ending, Ended, FaultedAtFirst, FaultedIn, words_at}
use Rattle.strc_sched_laws.specs.RingAnswer.{Tells}
use Rattle.strc_sched_outcome.specs.declared.outcome.Tape.{Tape}
use Rattle.strc_sched_outcome.specs.declared.outcome.Outcome.{Outcome}
use Rattle.strc_sched_outcome.specs.declared.outcome.Outcome.TheVariants as outcome
use Rattle.strc_sched_outcome.specs.declared.outcome.Round.TheVariants as round
use Rattle.strc_sched.specs.Plain.{AreTapesOf, IsEnding}
use Rattle.strc_stage_plan.specs.Named.{old_node}
use Rattle.strc_stage_plan.specs.Plans.{PlanParts, IsPlan, graph_of, transformed_of}
use Rattle.strc_stage_steps.specs.Names.{HaveSameTapes, IsNamedSo, IsOldFault, old_firing}
use Rattle.strc_stage_steps.proofs.PlanRuns.{plans_keep_tapes}
use Rattle.strc_stage.specs.Answers.{Answer, IsTold, stop_at}
use Rattle.strc_stage.specs.Naming.{AreRenamed, IsRenamed, renamed_tape}
use Rattle.strc_stage.proofs.Tapes.{same_tapes, tapes_listed, tapes_renamed}

module _ (plan : PlanParts) (is : IsPlan plan) where
  tapes_so : (words others : ℕ → List Word) (tapes renamed : List Tape)
      → HaveSameTapes plan words others → AreTapesOf (transformed_of plan).nodes others tapes
      → AreRenamed plan.split.origins tapes renamed
      → AreTapesOf (graph_of plan).nodes words renamed
  tapes_so words others tapes renamed same told are =
      are
      ∙ ap (map (renamed_tape plan.split.origins)) (told
      ∙ tapes_listed others (transformed_of plan).nodes)
      ∙ tapes_renamed (old_node plan.split.origins) others words
      (tape_nodes (transformed_of plan).nodes) (tape_nodes (graph_of plan).nodes)
      (plans_keep_tapes plan is) same
      ∙ sym (tapes_listed words (graph_of plan).nodes)

  done_so : (words others : ℕ → List Word) (own renamed : Outcome)
      → HaveSameTapes plan words others → IsTold (transformed_of plan).nodes (Done others) own
      → IsRenamed plan own renamed → IsTold (graph_of plan).nodes (Done words) renamed
  done_so words others (outcome.Done tapes) (outcome.Done renamed) same told are =
      tapes_so words others tapes.items renamed.items same told are
  done_so words others (outcome.Done tapes) (outcome.Fault node firing round.Startup cause more)
      same told are = absurd are
  done_so words others (outcome.Done tapes) (outcome.Fault node firing (round.At q) cause more) same
      told are = absurd are
  done_so words others (outcome.Fault node firing round.Startup cause tapes) renamed same told are =
      absurd told
  done_so words others (outcome.Fault node firing (round.At q) cause tapes) renamed same told are =
      absurd told

  stop_so : (stop other : Stop Cause) (node firing at number : ℕ) (cause why : Cause)
      → IsOldFault plan stop other → other ≡ stop_at node firing cause
      → at ≡ old_node plan.split.origins node
      → (old_firing plan node firing < 2 ^ 64 → number ≡ old_firing plan node firing)
      → why ≡ cause → stop ≡ stop_at at number why
  stop_so stop other node firing at number cause why old same at_is number_is why_is =
      let firing_is : stop.firing ≡ old_firing plan node firing =
      old.firing ∙ ap (λ (s : Stop Cause). old_firing plan s.node s.firing) same in
      let at_same : stop.node ≡ at =
      old.node ∙ ap (λ (s : Stop Cause). old_node plan.split.origins s.node) same
      ∙ sym at_is in
      let number_same : stop.firing ≡ number =
      firing_is ∙ sym (number_is (subst (λ (n : ℕ). n < 2 ^ 64) firing_is old.numbered)) in
      let cause_same : stop.cause ≡ why =
      old.cause ∙ ap (λ (s : Stop Cause). s.cause) same ∙ sym why_is in
      ap (λ (n : ℕ). stop_at n stop.firing stop.cause) at_same
      ∙ ap (λ (n : ℕ). stop_at at n stop.cause) number_same
      ∙ ap (stop_at at number) cause_same

  fault_so : (q r : ℕ) (stop other : Stop Cause) (words others : ℕ → List Word)
      (own renamed : Outcome) → r ≡ q → IsOldFault plan stop other
      → HaveSameTapes plan words others
      → IsTold (transformed_of plan).nodes (RoundFault r other others) own
      → IsRenamed plan own renamed
      → IsTold (graph_of plan).nodes (RoundFault q stop words) renamed
  fault_so q r stop other words others (outcome.Fault node firing (round.At n) cause tapes)
      (outcome.Fault at number (round.At m) why renamed) same_round old same told are = (
        sym same_round ∙ told.0 ∙ sym are.0,
        stop_so stop other node firing at number cause why old told.1 are.1 are.2 are.3,
        tapes_so words others tapes.items renamed.items same told.2 are.4,
      )
  fault_so q r stop other words others (outcome.Fault node firing (round.At n) cause tapes)
      (outcome.Fault at number round.Startup why renamed) same_round old same told are = absurd are
  fault_so q r stop other words others (outcome.Fault node firing (round.At n) cause tapes)
      (outcome.Done renamed) same_round old same told are = absurd are
  fault_so q r stop other words others (outcome.Fault node firing round.Startup cause tapes) renamed
      same_round old same told are = absurd told
  fault_so q r stop other words others (outcome.Done tapes) renamed same_round old same told are =
      absurd told

  pub told_so : (answer other : Answer) (own renamed : Outcome) → IsNamedSo plan answer other
      → IsTold (transformed_of plan).nodes other own → IsRenamed plan own renamed
      → IsTold (graph_of plan).nodes answer renamed
  told_so (Done words) (Done others) own renamed named told are =
      done_so words others own renamed named told are
  told_so (RoundFault q stop words) (RoundFault r other others) own renamed named told are =
      fault_so q r stop other words others own renamed named.0 named.1 named.2 told are
  told_so (Done words) (StartupFault other) own renamed named told are = absurd named
  told_so (Done words) (RoundFault r other others) own renamed named told are = absurd named
  told_so (StartupFault stop) (Done others) own renamed named told are = absurd named
  told_so (StartupFault stop) (StartupFault other) own renamed named told are = absurd named
  told_so (StartupFault stop) (RoundFault r other others) own renamed named told are = absurd named
  told_so (RoundFault q stop words) (Done others) own renamed named told are = absurd named
  told_so (RoundFault q stop words) (StartupFault other) own renamed named told are = absurd named

-- How a machine ends is what its answer is.
module _ (codes : List NodeCode) where
  abbrev stop_to : Cause → (node firing : ℕ) → Stop Cause
  stop_to cause node firing = stop_at node firing cause

  same_stop : (node firing at number : ℕ) (cause why : Cause) → at ≡ node → number ≡ firing
      → why ≡ cause → stop_at node firing cause ≡ stop_at at number why
  same_stop node firing at number cause why at_is number_is why_is =
      ap (λ (n : ℕ). stop_at n firing cause) (sym at_is)
      ∙ ap (λ (n : ℕ). stop_at at n cause) (sym number_is)
      ∙ ap (stop_at at number) (sym why_is)

  pub told_by : (answer : Answer) (ending : Ending) (own : Outcome)
      → Tells (length codes) answer ending → IsEnding codes own ending → IsTold codes answer own
  told_by (Done words) (Ended given) (outcome.Done tapes) tells ends =
      ends ∙ same_tapes (words_at given) words codes tells
  told_by (Done words) (Ended given) (outcome.Fault node firing round.Startup cause tapes) tells
      ends = absurd ends
  told_by (Done words) (Ended given) (outcome.Fault node firing (round.At q) cause tapes) tells
      ends = absurd ends
  told_by (Done words) (FaultedAtFirst node firing cause) own tells ends = absurd tells
  told_by (Done words) (FaultedIn q node firing cause given) own tells ends = absurd tells
  told_by (StartupFault stop) (FaultedAtFirst node firing cause)
      (outcome.Fault at number round.Startup why tapes) tells ends =
      (tells ∙ same_stop node firing at number cause why ends.0 ends.1 ends.2, ends.3)
  told_by (StartupFault stop) (FaultedAtFirst node firing cause)
      (outcome.Fault at number (round.At q) why tapes) tells ends = absurd ends
  told_by (StartupFault stop) (FaultedAtFirst node firing cause) (outcome.Done tapes) tells ends =
      absurd ends
  told_by (StartupFault stop) (Ended given) own tells ends = absurd tells
  told_by (StartupFault stop) (FaultedIn q node firing cause given) own tells ends = absurd tells
  told_by (RoundFault q stop words) (FaultedIn r node firing cause given)
      (outcome.Fault at number (round.At n) why tapes) tells ends = (
        tells.0 ∙ sym ends.0,
        tells.1 ∙ same_stop node firing at number cause why ends.1 ends.2 ends.3,
        ends.4 ∙ same_tapes (words_at given) words codes tells.2,
      )
  told_by (RoundFault q stop words) (FaultedIn r node firing cause given)
      (outcome.Fault at number round.Startup why tapes) tells ends = absurd ends
  told_by (RoundFault q stop words) (FaultedIn r node firing cause given) (outcome.Done tapes) tells
      ends = absurd ends
  told_by (RoundFault q stop words) (Ended given) own tells ends = absurd tells
  told_by (RoundFault q stop words) (FaultedAtFirst node firing cause) own tells ends = absurd tells
