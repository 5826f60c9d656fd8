-- The words of a program's one tape, by its nodes before fission.
use Rattle.std.proofs.Common.{◌≡◌, ◌≢◌, ◌∙◌, ℕ, ◌≤◌, ℤ, List, [], ◌∷◌, length, map, refl, sym, ap}
use Rattle.std.proofs.Common.{arith}
use Rattle.strc_elab_dataflow.specs.Answer.{Outcome, Outcome.Done, Outcome.StartupFault}
use Rattle.strc_elab_dataflow.specs.Answer.{Outcome.RoundFault}
use Rattle.strc_elab_dataflow.specs.Streams as trees
use Rattle.strc_work_meaning.specs.declared.fault.Cause.{Cause}
use Rattle.strc_work_meaning.specs.declared.word.Word.{Word}
use Rattle.strc_elab_graph.specs.Graphs.{NodeCode}
use Rattle.strc_elab_graph.specs.Tapes.{tape_nodes}
use Rattle.strc_stage_plan.specs.Plans.{PlanParts, graph_of, transformed_of}
use Rattle.strc_stage_steps.specs.Names.{HaveSameTapes, IsNamedSo}
use Rattle.strc_stage_steps.specs.Plans.{ComesToAnswer, IsPlanAnswer}
use Rattle.strc_live_runs.specs.Starts.{IsOneTape}
use Rattle.strc_live_texts.specs.Live.{tape_words, words_from}
use Rattle.strc_live_answers.specs.Written.{AreWords}

-- where one node gives words, or none does
words_by : (tape count : ℕ) (words others : ℕ → List Word) → (count ≤ tape → others tape ≡ [])
    → (after before : List ℕ) → length before ≤ 1 → map others after ≡ map words before
    → (length after ≡ 1 → after ≡ tape ∷ []) → (length after ≢ 1 → count ≤ tape)
    → others tape ≡ words_from before words
words_by tape count words others nothing [] [] few same one none =
    nothing (none (λ e. absurd (omega (arith, e))))
words_by tape count words others nothing [] (node ∷ more) few same one none = absurd (cc)
words_by tape count words others nothing (own ∷ others_after) [] few same one none = absurd (cc)
words_by tape count words others nothing (own ∷ []) (node ∷ []) few same one none =
    ap others (sym (first (one refl))) ∙ words_first same
  where
    first : own ∷ [] ≡ tape ∷ [] → own ≡ tape
    first e = cc

    words_first : others own ∷ [] ≡ words node ∷ [] → others own ≡ words node
    words_first e = cc
words_by tape count words others nothing (own ∷ next ∷ more) (node ∷ []) few same one none =
    absurd (cc)
words_by tape count words others nothing (own ∷ more) (node ∷ next ∷ later) few same one none =
    absurd (omega (arith, few))

module _ (tree : trees.Stream NodeCode) (plan : PlanParts)
    (few : length (tape_nodes (graph_of plan).nodes) ≤ 1) (tape : ℕ)
    (is_tape : IsOneTape (transformed_of plan).nodes tape) (past : ℕ → List Word)
    (nothing : length (transformed_of plan).nodes ≤ tape → past tape ≡ []) where
  pub same_words : (words : ℕ → List Word) → HaveSameTapes plan words past
      → past tape ≡ tape_words (graph_of plan).nodes words
  same_words words same =
      words_by tape (length (transformed_of plan).nodes) words past nothing
      (tape_nodes (transformed_of plan).nodes) (tape_nodes (graph_of plan).nodes) few same
      is_tape.0 is_tape.1

  -- what comes to an answer is its words
  pub answer_words : (numbers : List ℤ) (rounds : ℕ)
      → ComesToAnswer tree plan numbers rounds (Done past)
      → AreWords tree plan numbers rounds (past tape)
  answer_words numbers rounds comes = by_answer comes.answer comes.is_answer comes.named
    where
      by_answer : (answer : Outcome Cause Word) → IsPlanAnswer tree plan numbers rounds answer
          → IsNamedSo plan answer (Done past) → AreWords tree plan numbers rounds (past tape)
      by_answer (Done words) is named = record {
        all = words;
        is_answer = is;
        own = same_words words named;
      }
      by_answer (StartupFault stop) is named = absurd named
      by_answer (RoundFault q stop words) is named = absurd named
