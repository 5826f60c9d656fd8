-- What a live run writes: the words of the program's one tape, and then, where the input didn't
-- just end, one line.
use Rattle.std.specs.Prelude.{◌≡◌, ◌≤◌, ℕ, ℤ, List, [], ◌∷◌, ◌++◌, length}
use Rattle.std.specs.Prelude.{Option, Some, None, Ok, codes, pos, true, false, nat_eq}
use Rattle.std.specs.Prelude.{if◌then◌else◌}
use Rattle.strc_elab_dataflow.specs.Answer as flow
use Rattle.strc_elab_dataflow.specs.Answer.{Outcome.Done, Outcome.StartupFault}
use Rattle.strc_elab_dataflow.specs.Answer.{Outcome.RoundFault}
use Rattle.strc_elab_dataflow.specs.Streams as trees
use Rattle.strc_work_meaning.specs.declared.fault.Cause.{Cause}
use Rattle.strc_work_meaning.specs.declared.word.Word.{Word}
use Rattle.strc_elab_graph.specs.Graphs.{NodeCode}
use Rattle.strc_elab_graph.specs.Tapes.{tape_nodes}
use Rattle.strc_sched_outcome.specs.declared.outcome.Outcome.{Outcome}
use Rattle.strc_sched_outcome.specs.declared.outcome.Round.TheVariants as round
use Rattle.strc_sched.specs.Serving.{Serves, round_limit}
use Rattle.strc_stage.specs.Answers.{IsOutcomeOf}
use Rattle.strc_stage_plan.specs.Plans.{PlanParts, graph_of}
use Rattle.strc_stage_steps.specs.Plans.{IsPlanAnswer, need_of}
use Rattle.strc_cli_input.specs.Numbers.{given, ints, wrong_word}
use Rattle.strc_cli_output.specs.Output.{closed_text, fault_line, line_end, outcome_text}
use Rattle.strc_cli_output.specs.Output.{stop_line, words_text}
use Rattle.strc_cli_output.specs.declared.stop.Stop.TheVariants as stop

-- the words of the first of a graph's tapes
abbrev pub words_from : List ℕ → (words : ℕ → List Word) → List Word
words_from [] words = []
words_from (node ∷ others) words = words node

abbrev pub tape_words : List NodeCode → (words : ℕ → List Word) → List Word
tape_words codes words = words_from (tape_nodes codes) words

-- the words of all rounds; after a word of the input that writes no number, the line that says so
abbrev pub done_text : List Word → (wrong : Option ℕ) → List ℕ
done_text words None = words_text words
done_text words (Some word) = closed_text words ++ stop_line (stop.BadInput word)

-- what is written of an answer: the words, and the line of a fault, which comes before a wrong word
abbrev pub live_text : List NodeCode → flow.Outcome Cause Word → (wrong : Option ℕ) → List ℕ
live_text codes (Done words) wrong = done_text (tape_words codes words) wrong
live_text codes (StartupFault stopped) wrong =
    fault_line stopped.node stopped.firing round.Startup stopped.cause
live_text codes (RoundFault q stopped words) wrong =
    closed_text (tape_words codes words)
    ++ fault_line stopped.node stopped.firing (round.At q) stopped.cause

-- the word that ends the rounds: the first one that writes no number, but none where as many rounds
-- are done as there may be, after which nothing is read
abbrev pub last_word : (rounds : ℕ) → (wrong : Option ℕ) → Option ℕ
last_word rounds wrong = if nat_eq rounds round_limit then None else wrong

-- the status of a run whose rounds are done: 2 where a wrong word ends them, else 0
abbrev pub done_status : (wrong : Option ℕ) → ℕ
done_status None = 0
done_status (Some word) = 2

-- that of an answer: 3 where a firing faulted
abbrev pub live_status : flow.Outcome Cause Word → (wrong : Option ℕ) → ℕ
live_status (Done words) wrong = done_status wrong
live_status (StartupFault stopped) wrong = 3
live_status (RoundFault q stopped words) wrong = 3

-- a text is what is written of a tree's answer over these numbers, which come before this word that
-- writes none, for as many rounds as they serve
pub record RunsOver (tree : trees.Stream NodeCode) (plan : PlanParts) (numbers : List ℤ)
    (wrong : Option ℕ) (text : List ℕ) : Type 0 where
  pub rounds : ℕ
  pub serves : Serves (need_of plan) (length numbers) rounds
  pub answer : flow.Outcome Cause Word
  pub is_answer : IsPlanAnswer tree plan numbers rounds answer
  pub written : text ≡ live_text (graph_of plan).nodes answer (last_word rounds wrong)

-- over the numbers of the input before its first wrong word
abbrev pub RunsLive : trees.Stream NodeCode → PlanParts → (bytes text : List ℕ) → Type 0
RunsLive tree plan bytes = RunsOver tree plan (given bytes) (wrong_word bytes)

-- Where all words of the input write numbers, and there is one tape or none, what a run over the
-- whole input writes of the rounds that it serves is what is written live.
abbrev pub LiveWritesTheSame : Type 0
LiveWritesTheSame =
    (tree : trees.Stream NodeCode) (plan : PlanParts) (bytes : List ℕ) (numbers : List ℤ)
    (rounds : ℕ) (names : List (List ℕ)) (ended : Outcome)
    → ints bytes ≡ Ok numbers → Serves (need_of plan) (length numbers) rounds
    → IsOutcomeOf tree plan numbers rounds ended
    → length (tape_nodes (graph_of plan).nodes) ≤ 1
    → RunsLive tree plan bytes (outcome_text names ended)

-- a word 5 that ends its line, and a word 6 that leaves it open
abbrev pub five_six : List Word
five_six = record { value = pos 5; ends_line = true } ∷ record { value = pos 6; ends_line = false }
    ∷ []

-- They are written so; and where word 2 of the input writes no number, their line is closed.
pub record DoneRow : Type 0 where
  pub whole : done_text five_six None ≡ codes "5" ++ line_end ++ codes "6"
  pub wrong : done_text five_six (Some 2) ≡ codes "5" ++ line_end ++ codes "6" ++ line_end
      ++ codes "refused S6 BadInput word 2" ++ line_end
