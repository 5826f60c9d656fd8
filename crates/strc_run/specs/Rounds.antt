-- How a plan's rounds are run: so many as are asked for, or as many as the input serves, by so many
-- workers.
use Rattle.std.specs.Prelude.{◌≡◌, ℕ, ◌<◌, ◌≤◌, ℤ, Bool, true, false, ◌||◌, List, length, Option}
use Rattle.std.specs.Prelude.{Some, None, unwrap_or, Result, Ok, Err}
use Rattle.std.specs.List.{list_any}
use Rattle.strc_elab_graph.specs.Graphs.{NodeCode, reads_input}
use Rattle.strc_stage.specs.Answers.{AnswersPlan}
use Rattle.strc_stage.specs.Running.{StartsUp}
use Rattle.strc_sched.specs.Serving.{Serves}
use Rattle.strc_sched_outcome.specs.declared.outcome.Outcome.{Outcome}
use Rattle.strc_sched_outcome.specs.declared.run_refusal.RunRefusal.{RunRefusal}
use Rattle.strc_sched_outcome.specs.declared.run_refusal.RunRefusal.TheVariants as refused
use Rattle.strc_stage_plan.specs.Plans.{PlanParts, graph_of}
use Rattle.strc_stage_steps.specs.Plans.{need_of}

-- rounds can be run by so many workers
abbrev pub AreWorkers : ℕ → Type 0
AreWorkers workers = (1 ≤ workers) × (workers ≤ 64)

-- whether a node of a plan's graph reads the program's input
abbrev pub plan_reads : PlanParts → Bool
plan_reads plan = list_any reads_input (graph_of plan).nodes

-- how many rounds are run: so many as are asked for, or as many as so many items serve
abbrev pub IsCount : (need : ℕ → ℕ) → (got : ℕ) → (asked : Option ℕ) → (rounds : ℕ) → Type 0
IsCount need got None rounds = Serves need got rounds
IsCount need got (Some count) rounds = rounds ≡ count

-- a number of rounds is given, or a node reads the input and so bounds it
abbrev pub is_given : Option ℕ → Bool
is_given None = false
is_given (Some count) = true

abbrev pub is_bounded : (asked : Option ℕ) → List NodeCode → Bool
is_bounded asked nodes = is_given asked || list_any reads_input nodes

-- the rounds that are asked for, or those that the input serves, end so
pub record RunsRounds (plan : PlanParts) (input : List ℤ) (asked : Option ℕ) (outcome : Outcome)
    : Type 0 where
  pub bounded : is_bounded asked (graph_of plan).nodes ≡ true
  pub rounds : ℕ
  pub count : IsCount (need_of plan) (length input) asked rounds
  pub enough : need_of plan rounds ≤ length input
  pub answer : AnswersPlan plan input rounds outcome

-- a worker of several is started only where there is some round to run, after start-up
pub record StartsWorkers (plan : PlanParts) (input : List ℤ) (asked : Option ℕ) (workers : ℕ)
    : Type 0 where
  pub several : 1 < workers
  pub rounds : ℕ
  pub count : IsCount (need_of plan) (length input) asked rounds
  pub some_round : 0 < rounds
  pub enough : need_of plan rounds ≤ length input
  pub started : StartsUp plan input

-- so many rounds aren't run over an input by so many workers: it is shorter than what they read,
-- and only then; or memory runs out, or a worker of several can't be started
abbrev pub IsWorkedRefusal : PlanParts → List ℤ → (rounds workers : ℕ) → RunRefusal → Type 0
IsWorkedRefusal plan input rounds workers (refused.InputShort need got) =
    (need ≡ need_of plan rounds) × (got ≡ length input) × (length input < need_of plan rounds)
IsWorkedRefusal plan input rounds workers refused.NoMemory = need_of plan rounds ≤ length input
IsWorkedRefusal plan input rounds workers refused.NoWorker =
    StartsWorkers plan input (Some rounds) workers
IsWorkedRefusal plan input rounds workers _ = ⊥

-- or they aren't run: there are too few or too many workers; else nobody says how many rounds where
-- a number is needed; else the input is shorter than what they read, or than what start-up reads,
-- where it is to say how many; or memory runs out, or a worker of several can't be started
abbrev pub IsUnrun : PlanParts → List ℤ → (asked : Option ℕ) → (workers : ℕ) → RunRefusal
    → Type 0
IsUnrun plan input asked workers refused.BadWorkers = ¬ AreWorkers workers
IsUnrun plan input asked workers refused.RoundsNeeded =
    AreWorkers workers × (is_bounded asked (graph_of plan).nodes ≡ false)
IsUnrun plan input asked workers refused.NoWorker =
    AreWorkers workers × (is_bounded asked (graph_of plan).nodes ≡ true)
    × StartsWorkers plan input asked workers
IsUnrun plan input asked workers refusal =
    AreWorkers workers × (is_bounded asked (graph_of plan).nodes ≡ true)
    × IsWorkedRefusal plan input (unwrap_or asked 0) workers refusal

-- how the rounds of a plan are answered: the outcome is the same for each number of workers
abbrev pub IsRunOf : PlanParts → List ℤ → (asked : Option ℕ) → (workers : ℕ)
    → Result Outcome RunRefusal → Type 0
IsRunOf plan input asked workers (Ok outcome) =
    AreWorkers workers × RunsRounds plan input asked outcome
IsRunOf plan input asked workers (Err refusal) =
    IsUnrun plan input asked workers refusal
