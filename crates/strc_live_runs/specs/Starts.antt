-- The start-up of live runs in code.
use Rattle.std.specs.Prelude.{◌≡◌, ◌≢◌, ◌≤◌, ℕ, ℤ, List, [], ◌∷◌, true, length, Some, slice_get}
use Rattle.std.specs.List.{list_any}
use Rattle.strc_work_meaning.specs.declared.word.Word.{Word}
use Rattle.strc_elab_graph.specs.Graphs.{NodeCode, FileReader, reads_input}
use Rattle.strc_elab_graph.specs.Tapes.{tape_nodes}
use Rattle.strc_stage_plan.specs.Plans.{PlanParts, graph_of, transformed_of}
use Rattle.strc_stage_steps.specs.Plans.{need_of}
use Rattle.strc_stage_cut.specs.Startups.{HasFaulted}
use Rattle.strc_live_runs.specs.Runs.{IsLiveRun, IsWired}
use Rattle.strc_live_runs.specs.declared.live_run.LiveRun.{LiveRun}
use Rattle.strc_live_runs.specs.declared.start.Started.{Started}
use Rattle.strc_live_runs.specs.declared.start.Started.TheVariants as started

-- a plan reads the program's input, and start-up just these items
pub record CanBeginWith (plan : PlanParts) (items : List ℤ) : Type 0 where
  pub reads : list_any reads_input (graph_of plan).nodes ≡ true
  pub just : length items ≡ need_of plan 0

-- no other node reads the program's input
abbrev pub IsFirstReader : List NodeCode → (node : ℕ) → Type 0
IsFirstReader codes node =
    (other : ℕ) (text : List ℕ) → slice_get codes other ≡ Some (FileReader text)
    → ((one : ℕ) (own : List ℕ) → slice_get codes one ≡ Some (FileReader own) → one ≡ other)
    → node ≡ other

-- it gives all words, where just one node gives some; else it is past all nodes
abbrev pub IsOneTape : List NodeCode → (node : ℕ) → Type 0
IsOneTape codes node = (length (tape_nodes codes) ≡ 1 → tape_nodes codes ≡ node ∷ [])
    × (length (tape_nodes codes) ≢ 1 → length codes ≤ node)

-- start-up of a plan left a run that has written these words, and has done no round
pub record HasStartedLive (plan : PlanParts) (items : List ℤ) (words : List Word) (run : LiveRun)
    : Type 0 where
  pub past : ℕ → List Word
  pub written : past run.tape ≡ words
  pub is : IsLiveRun plan items past run
  pub wired : IsWired run
  pub none_done : run.done ≡ 0
  pub tape : IsOneTape (transformed_of plan).nodes run.tape

-- it went to its end, or faulted
abbrev pub IsStartedLive : PlanParts → (items : List ℤ) → (words : List Word) → Started → Type 0
IsStartedLive plan items words (started.Goes run) = HasStartedLive plan items words run
IsStartedLive plan items words (started.Faulted node firing cause) =
    HasFaulted plan items node firing cause
