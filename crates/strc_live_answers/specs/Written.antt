-- What live runs have written, as answers of a program's stream equations.
use Rattle.std.specs.Prelude.{◌≡◌, ℕ, ◌≤◌, ℤ, List, length, Option}
use Rattle.strc_elab_dataflow.specs.Answer.{Outcome.Done}
use Rattle.strc_elab_dataflow.specs.Streams as trees
use Rattle.strc_work_meaning.specs.declared.word.Word.{Word}
use Rattle.strc_elab_graph.specs.Graphs.{NodeCode}
use Rattle.strc_sched.specs.Serving.{Serves}
use Rattle.strc_stage_plan.specs.Plans.{PlanParts, graph_of}
use Rattle.strc_stage_steps.specs.Plans.{IsPlanAnswer, need_of}
use Rattle.strc_cli_input.specs.NumberReading.{HasPulledAll, WritesUpTo}
use Rattle.strc_cli_input.specs.declared.number_reader.NumberReader.{NumberReader}
use Rattle.strc_live_texts.specs.Live.{RunsOver, last_word, live_status, tape_words}

-- these words of a tree's one tape are the answer of so many rounds over these numbers
pub record AreWords (tree : trees.Stream NodeCode) (plan : PlanParts) (numbers : List ℤ)
    (rounds : ℕ) (words : List Word) : Type 0 where
  pub all : ℕ → List Word
  pub is_answer : IsPlanAnswer tree plan numbers rounds (Done all)
  pub own : words ≡ tape_words (graph_of plan).nodes all

-- they are those of some rounds, which the numbers of the input up to its first wrong word serve
pub record HasWritten (tree : trees.Stream NodeCode) (plan : PlanParts)
    (first : Option (List ℕ)) (words : List Word) : Type 0 where
  pub numbers : List ℤ
  pub wrong : Option ℕ
  pub input : WritesUpTo first numbers wrong
  pub rounds : ℕ
  pub enough : need_of plan rounds ≤ length numbers
  pub are : AreWords tree plan numbers rounds words

-- they are those of as many rounds as the numbers serve that end in the bytes which the input gave
pub record HasReadSo (tree : trees.Stream NodeCode) (plan : PlanParts)
    (first left : Option (List ℕ)) (words : List Word) : Type 0 where
  pub numbers : List ℤ
  pub reader : NumberReader
  pub pulled : HasPulledAll first left numbers reader
  pub rounds : ℕ
  pub serves : Serves (need_of plan) (length numbers) rounds
  pub are : AreWords tree plan numbers rounds words

-- a text, and its status, are those of as many rounds as the numbers of the input serve, up to its
-- first wrong word
pub record RunsInput (tree : trees.Stream NodeCode) (plan : PlanParts) (first : Option (List ℕ))
    (text : List ℕ) (status : ℕ) : Type 0 where
  pub numbers : List ℤ
  pub wrong : Option ℕ
  pub input : WritesUpTo first numbers wrong
  pub runs : RunsOver tree plan numbers wrong text
  pub status_is : status ≡ live_status runs.answer (last_word runs.rounds wrong)
