-- What live runs come to.
use Rattle.std.specs.Prelude.{◌≡◌, ℕ, suc, ◌+◌, ◌<◌, ◌≤◌, ◌^◌, ℤ, List, [], ◌++◌, length}
use Rattle.strc_elab_dataflow.specs.Answer.{Outcome.Done, Outcome.StartupFault}
use Rattle.strc_elab_dataflow.specs.Streams as trees
use Rattle.strc_work_meaning.specs.declared.fault.Cause.{Cause}
use Rattle.strc_work_meaning.specs.declared.word.Word.{Word}
use Rattle.strc_elab_graph.specs.FlatGraphs.{IsProgram}
use Rattle.strc_elab_graph.specs.Graphs.{NodeCode}
use Rattle.strc_sched.specs.Serving.{Serves, round_limit}
use Rattle.strc_stage_plan.specs.Plans.{PlanParts, graph_of, transformed_of}
use Rattle.strc_stage_steps.specs.Plans.{ComesToAnswer, IsPlanAnswer, Suffices, need_of}
use Rattle.strc_stage_cut.specs.Startups.{HasFaulted}
use Rattle.strc_live_plans.specs.Readers.{each_of}
use Rattle.strc_live_runs.specs.Runs.{IsLiveRun, IsWired}
use Rattle.strc_live_runs.specs.Starts.{CanBeginWith}
use Rattle.strc_live_runs.specs.declared.live_run.LiveRun.{LiveRun}

-- What has been written is the answer of the rounds that are done, whatever items come next.
abbrev pub LiveRunsAnswer : Type 0
LiveRunsAnswer =
    (tree : trees.Stream NodeCode) (plan : PlanParts) (read more : List ℤ)
    (past : ℕ → List Word) (run : LiveRun)
    → IsProgram tree (graph_of plan) → run.done < 2 ^ 32 → IsLiveRun plan read past run
    → ComesToAnswer tree plan (read ++ more) run.done (Done past)

-- Where fewer items wait than a round reads, no more rounds are served.
abbrev pub LiveRunsServe : Type 0
LiveRunsServe =
    (plan : PlanParts) (read waiting : List ℤ) (past : ℕ → List Word) (run : LiveRun)
    → run.done ≤ round_limit → length waiting < each_of plan → IsLiveRun plan read past run
    → Serves (need_of plan) (length (read ++ waiting)) run.done

-- after these items another round reads some
pub record ReadsOn (plan : PlanParts) (read : List ℤ) : Type 0 where
  pub some : 0 < each_of plan
  pub each : need_of plan 1 ≡ need_of plan 0 + each_of plan
  pub fits : length read + each_of plan < 2 ^ 64

-- as many as each round, and their numbers have 64 bits.
abbrev pub LiveRunsReadOn : Type 0
LiveRunsReadOn =
    (plan : PlanParts) (read : List ℤ) (past : ℕ → List Word) (run : LiveRun)
    → suc run.done < 2 ^ 32 → IsLiveRun plan read past run → ReadsOn plan read

-- What no node of the graph after fission writes is nothing.
abbrev pub LiveRunsWriteByNodes : Type 0
LiveRunsWriteByNodes =
    (plan : PlanParts) (read : List ℤ) (past : ℕ → List Word) (run : LiveRun) (node : ℕ)
    → IsWired run → IsLiveRun plan read past run → length (transformed_of plan).nodes ≤ node
    → past node ≡ []

-- A fault of start-up over just the items that it reads is the answer for any longer input.
abbrev pub LiveStartsFault : Type 0
LiveStartsFault =
    (tree : trees.Stream NodeCode) (plan : PlanParts) (items more : List ℤ) (rounds : ℕ)
    (node firing : ℕ) (cause : Cause)
    → IsProgram tree (graph_of plan) → CanBeginWith plan items
    → Suffices plan (items ++ more) rounds → HasFaulted plan items node firing cause
    → IsPlanAnswer tree plan (items ++ more) rounds
    (StartupFault (record { node = node; firing = firing; cause = cause }))
