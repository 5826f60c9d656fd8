-- Live runs of plans, by what they have read and written.
use Rattle.std.specs.Prelude.{◌≡◌, ℕ, suc, ◌+◌, ◌<◌, ◌≤◌, ◌^◌, ℤ, List, [], ◌++◌, length}
use Rattle.strc_elab_dataflow.specs.Answer.{Outcome.Done, Outcome.RoundFault}
use Rattle.strc_elab_dataflow.specs.Streams as trees
use Rattle.strc_work_meaning.specs.declared.fault.Cause.{Cause}
use Rattle.strc_work_meaning.specs.declared.word.Word.{Word}
use Rattle.strc_elab_graph.specs.FlatGraphs.{IsProgram}
use Rattle.strc_elab_graph.specs.Graphs.{NodeCode}
use Rattle.strc_sched_laws.specs.Laws.{round_order}
use Rattle.strc_sched_laws.specs.Machine.{CircuitView, MachineView, Went, Stopped, order_run}
use Rattle.strc_sched_laws.specs.Machine.{words_at}
use Rattle.strc_sched.specs.Serving.{round_limit, Serves}
use Rattle.strc_stage_plan.specs.Plans.{PlanParts, graph_of}
use Rattle.strc_stage_steps.specs.Plans.{ComesToAnswer, Suffices, need_of}
use Rattle.strc_live_laws.specs.Live.{IsLive, more_past, renewed}
use Rattle.strc_live_laws.specs.Windows.{window}
use Rattle.strc_live_plans.specs.Readers.{each_of, IsPlanReader}
use Rattle.strc_live_plans.specs.Startups.{HasBegun}

-- A live run of a plan after so many rounds: start-up has read the first items, these rounds have
-- read the later ones, and no others.
pub record HasGoneOn (plan : PlanParts) (begin later : List ℤ) (old circuit : CircuitView)
    (started : MachineView) (reader done : ℕ) (past : ℕ → List Word) (own : MachineView) : Type 0
  where
    pub begun : HasBegun plan begin old circuit started
    pub reader_is : IsPlanReader plan circuit started reader
    pub live : IsLive circuit (round_order plan.split.schedule) reader started done
        (begin ++ later) past own
    pub read : length (begin ++ later) ≡ need_of plan done

-- After start-up over just the items that it reads, with its words written.
abbrev pub LivePlansBegin : Type 0
LivePlansBegin =
    (tree : trees.Stream NodeCode) (plan : PlanParts) (begin : List ℤ)
    (old circuit : CircuitView) (started : MachineView)
    → IsProgram tree (graph_of plan) → HasBegun plan begin old circuit started
    → (reader : ℕ) × HasGoneOn plan begin [] old circuit started reader 0
    (words_at started.words) (renewed reader started)

-- After a round over as many items as a round reads, with its words written.
abbrev pub LivePlansGoOn : Type 0
LivePlansGoOn =
    (plan : PlanParts) (begin later items : List ℤ) (old circuit : CircuitView)
    (started : MachineView) (reader done : ℕ) (past : ℕ → List Word) (own next : MachineView)
    → suc done < 2 ^ 32 → length items ≡ each_of plan
    → HasGoneOn plan begin later old circuit started reader done past own
    → order_run (window items circuit) (round_order plan.split.schedule) own ≡ Went next
    → HasGoneOn plan begin (later ++ items) old circuit started reader (suc done)
    (more_past past next) (renewed reader next)

-- Where fewer items wait than a round reads, the rounds that are done are all that the input
-- serves.
abbrev pub LivePlansServe : Type 0
LivePlansServe =
    (plan : PlanParts) (begin later waiting : List ℤ) (old circuit : CircuitView)
    (started : MachineView) (reader done : ℕ) (past : ℕ → List Word) (own : MachineView)
    → done ≤ round_limit → length waiting < each_of plan
    → HasGoneOn plan begin later old circuit started reader done past own
    → Serves (need_of plan) (length ((begin ++ later) ++ waiting)) done

-- What has been written is the answer of the rounds that are done, whatever items come next.
abbrev pub LivePlansAnswer : Type 0
LivePlansAnswer =
    (tree : trees.Stream NodeCode) (plan : PlanParts) (begin later more : List ℤ)
    (old circuit : CircuitView) (started : MachineView) (reader done : ℕ)
    (past : ℕ → List Word) (own : MachineView)
    → IsProgram tree (graph_of plan) → done < 2 ^ 32
    → HasGoneOn plan begin later old circuit started reader done past own
    → ComesToAnswer tree plan ((begin ++ later) ++ more) done (Done past)

-- A fault of the next round over as many items as it reads is that of the answer of each longer
-- run, whatever items come next, with the words before it.
abbrev pub LivePlansFault : Type 0
LivePlansFault =
    (tree : trees.Stream NodeCode) (plan : PlanParts) (begin later items more : List ℤ)
    (old circuit : CircuitView) (started : MachineView) (reader done left : ℕ)
    (past : ℕ → List Word) (own : MachineView) (node firing : ℕ) (cause : Cause)
    → IsProgram tree (graph_of plan)
    → Suffices plan ((begin ++ later) ++ (items ++ more)) (done + suc left)
    → length items ≡ each_of plan
    → HasGoneOn plan begin later old circuit started reader done past own
    → order_run (window items circuit) (round_order plan.split.schedule) own
    ≡ Stopped node firing cause
    → ComesToAnswer tree plan ((begin ++ later) ++ (items ++ more)) (done + suc left)
    (RoundFault done (record { node = node; firing = firing; cause = cause }) past)
