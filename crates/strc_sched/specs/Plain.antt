-- What a run on one thread answers.
use Rattle.std.specs.Prelude.{◌≡◌, ℕ, ◌<◌, ◌≤◌, ℤ, List, [], length, map}
use Rattle.std.specs.declared.vec.Vec.{Vec}
use Rattle.std.specs.declared.alloc.Global.{Global}
use Rattle.strc_elab_dataflow.specs.Streams as trees
use Rattle.strc_work_meaning.specs.declared.word.Word.{Word}
use Rattle.strc_elab_graph.specs.Graphs.{NodeCode, Graph}
use Rattle.strc_elab_graph.specs.FlatGraphs.{IsProgram}
use Rattle.strc_sched_orders.specs.Schedules.{ScheduleParts}
use Rattle.strc_sched_laws.specs.Circuits.{IsFirst}
use Rattle.strc_sched_laws.specs.Laws.{counts_at, startup_order, round_order}
use Rattle.strc_sched_laws.specs.Machine.{CircuitView, MachineView, whole_run}
use Rattle.strc_sched_laws.specs.Machine.{Ending, Ended, FaultedAtFirst, FaultedIn, words_at}
use Rattle.strc_sched_laws.specs.Planned.{items_read}
use Rattle.strc_sched_laws.specs.RingAnswer.{IsAnswered}
use Rattle.strc_sched_outcome.specs.Tapes.{TapeView, tape_view}
use Rattle.strc_sched_outcome.specs.declared.outcome.Tape.{Tape}
use Rattle.strc_sched_outcome.specs.declared.outcome.Outcome.{Outcome}
use Rattle.strc_sched_outcome.specs.declared.outcome.Outcome.TheVariants as outcome
use Rattle.strc_sched_outcome.specs.declared.outcome.Round.{Round}
use Rattle.strc_sched_outcome.specs.declared.outcome.Round.TheVariants as round
use Rattle.strc_sched_machine.specs.Actors.{AreClosed}
use Rattle.strc_sched.specs.Tapes.{tapes_of}
use Rattle.strc_sched_outcome.specs.declared.stop.Stop.{Stop}
use Rattle.strc_sched_outcome.specs.declared.stop.Stop.TheVariants as stop
use Rattle.strc_sched_outcome.specs.declared.run_refusal.RunRefusal.{RunRefusal}
use Rattle.strc_sched_outcome.specs.declared.run_refusal.RunRefusal.TheVariants as refused

-- tapes are those of nodes with these words
abbrev pub AreTapesOf : List NodeCode → (words : ℕ → List Word) → List Tape → Type 0
AreTapesOf codes words tapes = map tape_view tapes ≡ tapes_of codes words

-- an outcome is how a run of these nodes ends; a fault in start-up leaves no words
abbrev pub IsEnding : List NodeCode → Outcome → Ending → Type 0
IsEnding codes (outcome.Done tapes) (Ended words) = AreTapesOf codes (words_at words) tapes.items
IsEnding codes (outcome.Fault node firing round.Startup cause tapes)
    (FaultedAtFirst at number why) =
    (node ≡ at) × (firing ≡ number) × (cause ≡ why) × AreTapesOf codes (λ _. []) tapes.items
IsEnding codes (outcome.Fault node firing (round.At q) cause tapes)
    (FaultedIn round at number why words) =
    (q ≡ round) × (node ≡ at) × (firing ≡ number) × (cause ≡ why)
    × AreTapesOf codes (words_at words) tapes.items
IsEnding codes _ _ = ⊥

-- it is the answer of a tree's stream equations, at the counts and in the orders of a schedule
pub record IsAnswer (tree : trees.Stream NodeCode) (schedule : ScheduleParts) (input : List ℤ)
    (rounds : ℕ) (codes : List NodeCode) (outcome : Outcome) : Type 0 where
  pub ending : Ending
  pub answered : IsAnswered tree schedule input rounds (length codes) ending
  pub reported : IsEnding codes outcome ending

-- of whatever program the graph is
abbrev pub AnswersGraph : Graph → ScheduleParts → (input : List ℤ) → (rounds : ℕ) → Outcome → Type 0
AnswersGraph graph schedule input rounds outcome =
    (tree : trees.Stream NodeCode) → IsProgram tree graph
    → IsAnswer tree schedule input rounds graph.nodes outcome

-- how many items start-up and so many rounds read
abbrev pub need_of : Graph → ScheduleParts → (rounds : ℕ) → ℕ
need_of graph schedule rounds = items_read graph.nodes (counts_at schedule rounds)

-- a run is refused for an input that is shorter than what it reads, and only then; or where memory
-- runs out
abbrev pub IsPlainRefusal : (need got : ℕ) → RunRefusal → Type 0
IsPlainRefusal need got (refused.InputShort needed had) =
    (needed ≡ need) × (had ≡ got) × (got < need)
IsPlainRefusal need got refused.NoMemory = need ≤ got
IsPlainRefusal need got _ = ⊥

-- an outcome tells of a run that was stopped, with these tapes
abbrev pub IsStopped : Stop → Round → (tapes : List TapeView) → Outcome → Type 0
IsStopped (stop.Fault node firing cause) when tapes result =
    (all : Vec Tape Global) × (result ≡ outcome.Fault node firing when cause all)
    × (map tape_view all.items ≡ tapes)
IsStopped stop.NoMemory when tapes result = ⊥

-- an outcome tells of start-up and so many rounds of a circuit from its first machine on
pub record ReportsRun (graph : Graph) (circuit : CircuitView) (schedule : ScheduleParts)
    (rounds : ℕ) (outcome : Outcome) : Type 0 where
  pub machine : MachineView
  pub first : IsFirst graph schedule.sizes machine
  pub known : AreClosed graph.nodes
  pub reported : IsEnding graph.nodes outcome (whole_run circuit (startup_order schedule)
      (round_order schedule) rounds machine)
