-- What the rounds of a text come to: the answer of the stream equations of its main stream.
use Rattle.std.specs.Prelude.{◌≡◌, ℕ, ◌<◌, ◌≤◌, ℤ, Bool, true, false, List, length, Option}
use Rattle.std.specs.Prelude.{unwrap_or, Result, Ok, Err}
use Rattle.std.specs.List.{list_any}
use Rattle.strc_elab_graph.specs.Graphs.{reads_input}
use Rattle.strc_elab_stream.specs.Flattening.{tree_of, nodes_of}
use Rattle.strc_elab_stream.specs.Instances.{Stream}
use Rattle.strc_stage.specs.Answers.{IsOutcomeOf}
use Rattle.strc_sched_outcome.specs.declared.outcome.Outcome.{Outcome}
use Rattle.strc_sched_outcome.specs.declared.run_refusal.RunRefusal.{RunRefusal}
use Rattle.strc_sched_outcome.specs.declared.run_refusal.RunRefusal.TheVariants as refused
use Rattle.strc_stage_plan.specs.Plans.{PlanParts}
use Rattle.strc_stage_steps.specs.Plans.{need_of}
use Rattle.strc_run.specs.Accepts.{Accepts}
use Rattle.strc_run.specs.Choices.{Choice}
use Rattle.strc_run.specs.Rounds.{AreWorkers, IsCount, StartsWorkers, is_bounded}

-- whether a stream has a reader of the program's input
abbrev pub has_reader : Stream → Bool
has_reader stream = list_any reads_input (nodes_of stream)

-- the text is accepted, and the outcome is the answer of its stream's equations, at the counts and
-- in the orders of its schedule, for so many rounds as are asked for or as the input serves
pub record RunsText (text : List ℕ) (choice : Choice) (plan : PlanParts) (input : List ℤ)
    (asked : Option ℕ) (outcome : Outcome) : Type 0 where
  pub accepted : Accepts text choice plan
  pub bounded : is_bounded asked (nodes_of accepted.stream) ≡ true
  pub rounds : ℕ
  pub count : IsCount (need_of plan) (length input) asked rounds
  pub enough : need_of plan rounds ≤ length input
  pub answer : IsOutcomeOf (tree_of accepted.stream) plan input rounds outcome

-- the text is accepted, and its rounds read so many items, where there are fewer
pub record LacksInput (text : List ℕ) (choice : Choice) (plan : PlanParts) (input : List ℤ)
    (asked : Option ℕ) (need got : ℕ) : Type 0 where
  pub accepted : Accepts text choice plan
  pub bounded : is_bounded asked (nodes_of accepted.stream) ≡ true
  pub needed : need ≡ need_of plan (unwrap_or asked 0)
  pub had : got ≡ length input
  pub short : got < need

-- the text is accepted, and nobody says how many rounds are run, where a number is needed
pub record NeedsRounds (text : List ℕ) (choice : Choice) (plan : PlanParts)
    (asked : Option ℕ) : Type 0 where
  pub accepted : Accepts text choice plan
  pub unbounded : is_bounded asked (nodes_of accepted.stream) ≡ false

-- the text is accepted, and its rounds could be run over the input
pub record HasInput (text : List ℕ) (choice : Choice) (plan : PlanParts) (input : List ℤ)
    (asked : Option ℕ) : Type 0 where
  pub accepted : Accepts text choice plan
  pub bounded : is_bounded asked (nodes_of accepted.stream) ≡ true
  pub enough : need_of plan (unwrap_or asked 0) ≤ length input

-- the text is accepted, and a worker of several is started
pub record StartsTextWorkers (text : List ℕ) (choice : Choice) (plan : PlanParts) (input : List ℤ)
    (asked : Option ℕ) (workers : ℕ) : Type 0 where
  pub accepted : Accepts text choice plan
  pub bounded : is_bounded asked (nodes_of accepted.stream) ≡ true
  pub starts : StartsWorkers plan input asked workers

-- why the rounds of an accepted text aren't run by so many workers, which can run rounds: the input
-- is too short, nobody says how many there are, or they could be run, and memory runs out or a
-- worker of several can't be started
abbrev pub IsTextUnrun : List ℕ → Choice → PlanParts → List ℤ → (asked : Option ℕ)
    → (workers : ℕ) → RunRefusal → Type 0
IsTextUnrun text choice plan input asked workers (refused.InputShort need got) =
    LacksInput text choice plan input asked need got
IsTextUnrun text choice plan input asked workers refused.RoundsNeeded =
    NeedsRounds text choice plan asked
IsTextUnrun text choice plan input asked workers refused.NoMemory =
    HasInput text choice plan input asked
IsTextUnrun text choice plan input asked workers refused.NoWorker =
    StartsTextWorkers text choice plan input asked workers
IsTextUnrun text choice plan input asked workers refused.BadWorkers = ⊥

-- how the rounds of an accepted text are answered by so many workers: with their outcome, which is
-- the same for each number of them, or with why they aren't run
abbrev pub IsTextRun : List ℕ → Choice → PlanParts → List ℤ → (asked : Option ℕ)
    → (workers : ℕ) → Result Outcome RunRefusal → Type 0
IsTextRun text choice plan input asked workers (Ok outcome) =
    AreWorkers workers × RunsText text choice plan input asked outcome
IsTextRun text choice plan input asked workers (Err refused.BadWorkers) =
    Accepts text choice plan × (¬ AreWorkers workers)
IsTextRun text choice plan input asked workers (Err refusal) =
    AreWorkers workers × IsTextUnrun text choice plan input asked workers refusal
