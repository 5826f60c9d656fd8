-- What is written live is what a run over the whole input writes.
use Rattle.std.proofs.Common.{◌≡◌, ◌≤◌, ℕ, suc, Bool, true, false, List, [], ◌∷◌, ◌++◌, length}
use Rattle.std.proofs.Common.{map, None, Option, refl, sym, ap, ◌∙◌, subst, cond, arith, nat_eq}
use Rattle.strc_elab_dataflow.specs.Machine as flow
use Rattle.strc_elab_dataflow.specs.Answer.{Outcome.Done, Outcome.StartupFault}
use Rattle.strc_elab_dataflow.specs.Answer.{Outcome.RoundFault}
use Rattle.strc_work_meaning.specs.declared.fault.Cause.{Cause}
use Rattle.strc_work_meaning.specs.declared.word.Word.{Word}
use Rattle.strc_elab_graph.specs.Graphs.{NodeCode, gives_words}
use Rattle.strc_elab_graph.specs.Tapes.{tape_nodes, tape_nodes_from}
use Rattle.strc_sched_outcome.specs.Tapes.{TapeView, tape, tape_view}
use Rattle.strc_sched_outcome.specs.declared.outcome.Outcome.{Outcome}
use Rattle.strc_sched_outcome.specs.declared.outcome.Outcome.TheVariants as outcome
use Rattle.strc_sched_outcome.specs.declared.outcome.Round.TheVariants as round
use Rattle.strc_sched_outcome.specs.declared.outcome.Tape.{Tape}
use Rattle.strc_sched.specs.Serving.{Serves, round_limit}
use Rattle.strc_sched.specs.Tapes.{tapes_from}
use Rattle.strc_stage.specs.Answers.{Answer, IsTold}
use Rattle.strc_stage_plan.specs.Plans.{graph_of}
use Rattle.strc_stage_steps.specs.Plans.{IsPlanAnswer, need_of}
use Rattle.strc_cli_input.specs.Numbers.{error_of}
use Rattle.strc_cli_input.proofs.Given.{given_is_so}
use Rattle.strc_cli_output.specs.Output.{closed_tapes, closed_text, fault_line, outcome_text}
use Rattle.strc_cli_output.specs.Output.{tapes_text, words_text}
use Rattle.strc_live_texts.specs.Live.{LiveWritesTheSame, last_word, live_text, tape_words}
use Rattle.strc_live_texts.specs.Live.{words_from}

-- ---- tapes

-- the tapes of these nodes
abbrev tapes_at : List ℕ → (words : ℕ → List Word) → List TapeView
tapes_at nodes words = map (λ node. tape node (words node)) nodes

tapes_by_node : (node : ℕ) (codes : List NodeCode) (words : ℕ → List Word)
    → tapes_from node codes words ≡ tapes_at (tape_nodes_from node codes) words
tapes_by_node node [] words = refl
tapes_by_node node (code ∷ codes) words =
    one_more (gives_words code) (tapes_by_node (suc node) codes words)
  where
    one_more : (gives : Bool)
        → tapes_from (suc node) codes words ≡ tapes_at (tape_nodes_from (suc node) codes) words
        → cond gives (tape node (words node) ∷ tapes_from (suc node) codes words)
        (tapes_from (suc node) codes words)
        ≡ tapes_at (cond gives (node ∷ tape_nodes_from (suc node) codes)
        (tape_nodes_from (suc node) codes)) words
    one_more true later = ap (λ l. tape node (words node) ∷ l) later
    one_more false later = later

-- one tape or none
abbrev AreFew : List ℕ → Type 0
AreFew nodes = length nodes ≤ 1

one_text : (names : List (List ℕ)) (own : Tape) (others : List Tape) (view : TapeView)
    → tape_view own ∷ map tape_view others ≡ view ∷ []
    → tapes_text names (own ∷ others) ≡ words_text view.words
one_text names own [] view is =
    ap (λ (v : TapeView). words_text v.words) (first_is is)
  where
    first_is : tape_view own ∷ [] ≡ view ∷ [] → tape_view own ≡ view
    first_is e = cc
one_text names own (other ∷ others) view is = absurd (cc)

one_closed : (names : List (List ℕ)) (own : Tape) (others : List Tape) (view : TapeView)
    → tape_view own ∷ map tape_view others ≡ view ∷ []
    → closed_tapes names (own ∷ others) ≡ closed_text view.words
one_closed names own [] view is =
    ap (λ (v : TapeView). closed_text v.words) (first_is is)
  where
    first_is : tape_view own ∷ [] ≡ view ∷ [] → tape_view own ≡ view
    first_is e = cc
one_closed names own (other ∷ others) view is = absurd (cc)

text_at : (names : List (List ℕ)) (nodes : List ℕ) (words : ℕ → List Word) (tapes : List Tape)
    → AreFew nodes → map tape_view tapes ≡ tapes_at nodes words
    → tapes_text names tapes ≡ words_text (words_from nodes words)
text_at names [] words [] few is = refl
text_at names [] words (own ∷ others) few is = absurd (cc)
text_at names (node ∷ []) words [] few is = absurd (cc)
text_at names (node ∷ []) words (own ∷ others) few is =
    one_text names own others (tape node (words node)) is
text_at names (node ∷ other ∷ more) words tapes few is = absurd (omega (arith, few))

closed_at : (names : List (List ℕ)) (nodes : List ℕ) (words : ℕ → List Word) (tapes : List Tape)
    → AreFew nodes → map tape_view tapes ≡ tapes_at nodes words
    → closed_tapes names tapes ≡ closed_text (words_from nodes words)
closed_at names [] words [] few is = refl
closed_at names [] words (own ∷ others) few is = absurd (cc)
closed_at names (node ∷ []) words [] few is = absurd (cc)
closed_at names (node ∷ []) words (own ∷ others) few is =
    one_closed names own others (tape node (words node)) is
closed_at names (node ∷ other ∷ more) words tapes few is = absurd (omega (arith, few))

none_from : (nodes : List ℕ) → closed_text (words_from nodes (λ _. [])) ≡ []
none_from [] = refl
none_from (node ∷ others) = refl

-- ---- outcomes

told_text : (names : List (List ℕ)) (codes : List NodeCode) (answer : Answer) (ended : Outcome)
    → AreFew (tape_nodes codes) → IsTold codes answer ended
    → outcome_text names ended ≡ live_text codes answer None
told_text names codes (Done words) (outcome.Done tapes) few told =
    text_at names (tape_nodes codes) words tapes.items few
    (told ∙ tapes_by_node 0 codes words)
told_text names codes (StartupFault stopped)
    (outcome.Fault node firing round.Startup cause tapes) few told =
    ap (λ l. l ++ fault_line node firing round.Startup cause)
    (closed_at names (tape_nodes codes) (λ _. []) tapes.items few
    (told.1 ∙ tapes_by_node 0 codes (λ _. [])) ∙ none_from (tape_nodes codes))
    ∙ ap (λ (s : flow.Stop Cause). fault_line s.node s.firing round.Startup s.cause)
    (sym told.0)
told_text names codes (RoundFault q stopped words)
    (outcome.Fault node firing (round.At number) cause tapes) few told =
    ap (λ l. l ++ fault_line node firing (round.At number) cause)
    (closed_at names (tape_nodes codes) words tapes.items few
    (told.2 ∙ tapes_by_node 0 codes words))
    ∙ ap (λ n. closed_text (tape_words codes words)
    ++ fault_line node firing (round.At n) cause) (sym told.0)
    ∙ ap (λ (s : flow.Stop Cause). closed_text (tape_words codes words)
    ++ fault_line s.node s.firing (round.At q) s.cause) (sym told.1)
told_text names codes (Done words) (outcome.Fault node firing when cause tapes) few told =
    absurd told
told_text names codes (StartupFault stopped) (outcome.Done tapes) few told = absurd told
told_text names codes (StartupFault stopped)
    (outcome.Fault node firing (round.At number) cause tapes) few told = absurd told
told_text names codes (RoundFault q stopped words) (outcome.Done tapes) few told = absurd told
told_text names codes (RoundFault q stopped words)
    (outcome.Fault node firing round.Startup cause tapes) few told = absurd told

-- where no word is wrong, none ends the rounds
pub no_last_word : (rounds : ℕ) → last_word rounds None ≡ None
no_last_word rounds = either (nat_eq rounds round_limit)
  where
    none : Option ℕ
    none = None

    either : (b : Bool) → cond b none none ≡ none
    either true = refl
    either false = refl

pub live_writes_the_same : LiveWritesTheSame
live_writes_the_same tree plan bytes numbers rounds names ended whole serves is few =
    let same = (given_is_so bytes).0 numbers whole in record {
      rounds = rounds;
      serves = subst (λ l. Serves (need_of plan) (length l) rounds) (sym same) serves;
      answer = is.answer;
      is_answer = subst (λ l. IsPlanAnswer tree plan l rounds is.answer) (sym same) is.is_answer;
      written = told_text names (graph_of plan).nodes is.answer ended few is.told
          ∙ ap (live_text (graph_of plan).nodes is.answer) (sym (no_last_word rounds)
          ∙ ap (last_word rounds) (sym (ap error_of whole)));
    }
