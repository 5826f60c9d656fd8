-- Live runs of plans come to the answers of their programs.
use Rattle.std.proofs.Common.{◌≡◌, refl, sym, ap, ◌∙◌, subst, ℕ, zero, suc, ◌+◌, ◌<◌}
use Rattle.std.proofs.Common.{ℤ, List, [], ◌∷◌, ◌++◌, length, map, Bool, true, false, cond}
use Rattle.std.proofs.Common.{arith, length-append, append_assoc}
use Rattle.std.proofs.lemmas.List.{map-append}
use Rattle.strc_work_meaning.specs.declared.fault.Cause.{Cause}
use Rattle.strc_work_meaning.specs.declared.word.Word.{Word}
use Rattle.strc_elab_dataflow.specs.Answer.{Outcome, Outcome.Done, Outcome.StartupFault}
use Rattle.strc_elab_dataflow.specs.Answer.{Outcome.RoundFault}
use Rattle.strc_elab_dataflow.specs.Machine.{Stop}
use Rattle.strc_elab_dataflow.specs.Streams as trees
use Rattle.strc_elab_graph.specs.FlatGraphs.{IsProgram}
use Rattle.strc_elab_graph.specs.Graphs.{NodeCode}
use Rattle.strc_elab_graph.specs.Tapes.{tape_nodes}
use Rattle.strc_sched_laws.specs.Laws.{round_order}
use Rattle.strc_sched_laws.specs.Machine.{CircuitView, MachineView, Ending, Ended, FaultedIn}
use Rattle.strc_sched_laws.specs.Machine.{FaultedAtFirst, rounds_run}
use Rattle.strc_sched_laws.specs.RingAnswer.{Tells}
use Rattle.strc_stage_plan.specs.Plans.{PlanParts, graph_of, transformed_of}
use Rattle.strc_stage_steps.specs.Names.{IsNamedSo, IsOldFault}
use Rattle.strc_stage_steps.specs.Plans.{RoundsTellAnswer, Suffices}
use Rattle.strc_stage_steps.proofs.PlanRuns.{plan_rounds_answer}
use Rattle.strc_stage_steps.proofs.Tapes.{below, gives, tapes_below}
use Rattle.strc_live_laws.specs.Windows.{window}
use Rattle.strc_live_laws.proofs.Live.{ends_law, faults_law}
use Rattle.strc_live_plans.specs.Startups.{HasBegun}
use Rattle.strc_live_plans.specs.Answers.{LiveFaultsAnswer, LiveRoundsAnswer}
use Rattle.strc_live_plans.proofs.Startups.{startups_law}

-- ---- words of tapes

abbrev AreSame : (count : ℕ) → (words others : ℕ → List Word) → Type 0
AreSame count words others = (node : ℕ) → node < count → words node ≡ others node

abbrev kept : Bool → (node : ℕ) → List ℕ
kept test node = cond test (node ∷ []) []

same_kept : (words others : ℕ → List Word) (test : Bool) (node : ℕ) → words node ≡ others node
    → map words (kept test node) ≡ map others (kept test node)
same_kept words others true node same = ap (λ (l : List Word). l ∷ []) same
same_kept words others false node same = refl

same_below : (words others : ℕ → List Word) (passes : ℕ → Bool) (count : ℕ)
    → AreSame count words others
    → map words (below passes count) ≡ map others (below passes count)
same_below words others passes zero same = refl
same_below words others passes (suc count) same =
    map-append words (below passes count) (kept (passes count) count)
    ∙ ap (λ (l : List (List Word)). l ++ map words (kept (passes count) count))
    (same_below words others passes count (λ node less. same node (omega (arith, less))))
    ∙ ap (λ (l : List (List Word)). map others (below passes count) ++ l)
    (same_kept words others (passes count) count (same count (omega arith)))
    ∙ sym (map-append others (below passes count) (kept (passes count) count))

same_tapes : (codes : List NodeCode) (words others : ℕ → List Word)
    → AreSame (length codes) words others
    → map words (tape_nodes codes) ≡ map others (tape_nodes codes)
same_tapes codes words others same =
    ap (map words) (tapes_below codes)
    ∙ same_below words others (gives codes) (length codes) same
    ∙ ap (map others) (sym (tapes_below codes))

-- ---- outcomes that one ending tells

module _ (plan : PlanParts) (past : ℕ → List Word) where
  abbrev count : ℕ
  count = length (transformed_of plan).nodes

  done_named : (answer outcome : Outcome Cause Word) (ending : Ending)
      → Tells count (Done past) ending → Tells count outcome ending
      → IsNamedSo plan answer outcome → IsNamedSo plan answer (Done past)
  done_named (Done words) (Done others) (Ended given) live tells named =
      same_tapes (transformed_of plan).nodes past others
      (λ node less. sym (live node less) ∙ tells node less) ∙ named
  done_named (StartupFault stop) (Done others) (Ended given) live tells named = absurd named
  done_named (RoundFault q stop words) (Done others) (Ended given) live tells named = absurd named
  done_named answer (StartupFault stop) (Ended given) live tells named = absurd tells
  done_named answer (RoundFault q stop words) (Ended given) live tells named = absurd tells
  done_named answer outcome (FaultedAtFirst node firing cause) live tells named = absurd live
  done_named answer outcome (FaultedIn q node firing cause given) live tells named = absurd live

  fault_named : (q : ℕ) (stop : Stop Cause) (answer outcome : Outcome Cause Word)
      (ending : Ending) → Tells count (RoundFault q stop past) ending → Tells count outcome ending
      → IsNamedSo plan answer outcome → IsNamedSo plan answer (RoundFault q stop past)
  fault_named q stop (RoundFault own first words) (RoundFault r other others)
      (FaultedIn round node firing cause given) live tells named = (
        live.0 ∙ sym tells.0 ∙ named.0,
        subst (λ (s : Stop Cause). IsOldFault plan first s) (tells.1 ∙ sym live.1) named.1,
        same_tapes (transformed_of plan).nodes past others
            (λ node less. sym (live.2 node less) ∙ tells.2 node less) ∙ named.2,
      )
  fault_named q stop (Done words) (RoundFault r other others)
      (FaultedIn round node firing cause given) live tells named = absurd named
  fault_named q stop (StartupFault first) (RoundFault r other others)
      (FaultedIn round node firing cause given) live tells named = absurd named
  fault_named q stop answer (Done others) (FaultedIn round node firing cause given) live tells
      named = absurd tells
  fault_named q stop answer (StartupFault first) (FaultedIn round node firing cause given) live
      tells named = absurd tells
  fault_named q stop answer outcome (Ended given) live tells named = absurd live
  fault_named q stop answer outcome (FaultedAtFirst node firing cause) live tells named =
      absurd live

-- ---- the answers

-- what the rounds of a longer input come to
told_over : (tree : trees.Stream NodeCode) (plan : PlanParts) (begin more : List ℤ)
    (old circuit : CircuitView) (started : MachineView) (rounds : ℕ)
    → IsProgram tree (graph_of plan) → HasBegun plan begin old circuit started
    → Suffices plan (begin ++ more) rounds
    → RoundsTellAnswer tree plan (begin ++ more) rounds (window (begin ++ more) circuit) started
told_over tree plan begin more old circuit started rounds program begun enough =
    let over = startups_law plan begin more old circuit started begun in
    plan_rounds_answer tree plan (begin ++ more) rounds (window (begin ++ more) old)
    (window (begin ++ more) circuit) started program over.0 enough over.1

pub rounds_law : LiveRoundsAnswer
rounds_law tree plan begin later more old circuit started reader done past own program begun live
    enough =
    let order = round_order plan.split.schedule in
    let input = (begin ++ later) ++ more in
    let suffices : Suffices plan input done = record {
      few = enough.few;
      supplied = omega (arith, enough.supplied, length-append (begin ++ later) more);
    } in
    let told : RoundsTellAnswer tree plan input done (window input circuit) started =
    subst (λ (l : List ℤ). Suffices plan l done
    → RoundsTellAnswer tree plan l done (window l circuit) started)
    (sym (append_assoc begin later more))
    (told_over tree plan begin (later ++ more) old circuit started done program begun) suffices in
    record {
      answer = told.comes.answer;
      is_answer = told.comes.is_answer;
      named = done_named plan past told.comes.answer told.outcome
          (rounds_run (window input circuit) order done 0 started)
          (ends_law circuit order reader started done (begin ++ later) more past own
          (length (transformed_of plan).nodes) live)
          told.tells told.comes.named;
    }

pub faults_answer_law : LiveFaultsAnswer
faults_answer_law tree plan begin later items more old circuit started reader done left past own
    node firing cause program begun is few just live stopped enough =
    let order = round_order plan.split.schedule in
    let input = (begin ++ later) ++ (items ++ more) in
    let told : RoundsTellAnswer tree plan input (done + suc left) (window input circuit) started =
    subst (λ (l : List ℤ). Suffices plan l (done + suc left)
    → RoundsTellAnswer tree plan l (done + suc left) (window l circuit) started)
    (sym (append_assoc begin later (items ++ more)))
    (told_over tree plan begin (later ++ (items ++ more)) old circuit started (done + suc left)
    program begun) enough in
    record {
      answer = told.comes.answer;
      is_answer = told.comes.is_answer;
      named = fault_named plan past done
          (record { node = node; firing = firing; cause = cause }) told.comes.answer told.outcome
          (rounds_run (window input circuit) order (done + suc left) 0 started)
          (faults_law circuit order reader started done left (begin ++ later) items more past own
          (length (transformed_of plan).nodes) node firing cause is few just live stopped)
          told.tells told.comes.named;
    }
