-- The theorems of this crate, each the contract of a function of the root file. They hold at all
-- types of codes, states, causes and words.
use Rattle.std.specs.Prelude.{◌≡◌, ℕ, suc, ◌+◌, ◌*◌, ◌<◌, ◌≤◌, Bool, true, cond, List, [], ◌++◌}
use Rattle.std.specs.Prelude.{length}
use Rattle.std.specs.Prelude.{Some}
use Rattle.strc_elab_dataflow.specs.Node.{ByPort, Meaning}
use Rattle.strc_elab_dataflow.specs.Histories.{Run, initial_run}
use Rattle.strc_elab_dataflow.specs.Flat.{Origin.Port, Source, Graph}
use Rattle.strc_elab_dataflow.specs.Streams.{Stream, flat}
use Rattle.strc_elab_dataflow.specs.Order.{counted, supply_of, fill}
use Rattle.strc_elab_dataflow.specs.Rounds.{RepeatsRates}
use Rattle.strc_elab_dataflow.specs.Machine.{Stop, Progress, Progress.Went, Progress.Stopped, go}
use Rattle.strc_elab_dataflow.specs.Machine.{at_first, first_fault}
use Rattle.strc_elab_dataflow.specs.Queues.{Fifo, FifoProgress.FifoWent, fifo_go, fifo_at_first}
use Rattle.strc_elab_dataflow.specs.Queues.{FifoProgress.FifoStopped}
use Rattle.strc_elab_dataflow.specs.Answer.{Outcome, Outcome.StartupFault, words_of, IsAnswerOf}
use Rattle.strc_elab_dataflow.specs.Answer.{IsAnswer, stream_runs, whole_run}
use Rattle.strc_elab_dataflow.specs.Cut.{kept, AllIn, HasFaultIn, IsFaultlessIn}
use Rattle.strc_elab_dataflow.specs.Staging.{Staging, joined, before, in_stage, counts, after}
use Rattle.strc_elab_dataflow.specs.Staging.{IsStaged}
use Rattle.strc_elab_dataflow.specs.Staging.{repeated, IsSolved, IsStaging}
use Rattle.strc_elab_dataflow.specs.Stages.{Parcel, Stage, Stage.Works, entered, step, staged_run}
use Rattle.strc_elab_dataflow.specs.Parcels.{begun_at, items_in, HasMoved, IsParcel, IsWorking}
use Rattle.strc_elab_dataflow.specs.Parcels.{IsStage}
use Rattle.strc_elab_dataflow.specs.Parcels.{IsDue, IsRound}
use Rattle.strc_elab_dataflow.specs.Groups.{groups, group_bound}
use Rattle.strc_elab_dataflow.specs.Ranges.{stage_within, AllWithin, IsBelow, IsRanged}
use Rattle.strc_elab_dataflow.specs.Rewired.{rewired, IsRewiring, IsLocal, AreLocal, StagedStream}
use Rattle.strc_elab_dataflow.specs.Rewired.{rewired_plan, flat_plan, staging_of, IsStagedStream}
use Rattle.strc_elab_dataflow.specs.Workers.{StaysHalted, AreParcels, collects, IsChain}

module _ {Code State Cause Word : Type 0} (plan : Staging Code State Cause Word) (a t : ℕ) where
  -- The stages up to a are at the end of round t; or this is the first fault in them.
  abbrev pub Ends : Progress State Cause Word → Type 0
  Ends (Went next) = IsFaultlessIn (before plan.stage_of (suc a)) (after plan (suc t))
      × ((node : ℕ) → before plan.stage_of (suc a) node ≡ true
      → next node ≡ after plan (suc t) node)
  Ends (Stopped stop) = first_fault (after plan (suc t)) (counts plan t)
      (joined plan.segment (suc a)) ≡ Some stop

module _ {Code State Cause Word : Type 0} (plan : Staging Code State Cause Word) (b t : ℕ) where
  -- Start-up and t rounds of the stages before b alone.
  abbrev pub alone_order : List ℕ
  alone_order = kept (before plan.stage_of b) plan.startup_order
      ++ repeated t (joined plan.segment b)

  -- Their nodes have the runs that the equations give, without a fault; or one of them has a fault.
  abbrev pub RunsAlone : Progress State Cause Word → Type 0
  RunsAlone (Went now) = IsFaultlessIn (before plan.stage_of b) (after plan t)
      × ((node : ℕ) → before plan.stage_of b node ≡ true → now node ≡ after plan t node)
  RunsAlone (Stopped stop) = HasFaultIn (before plan.stage_of b) (after plan t)

-- The nodes of the stages before b, run alone for t rounds, whatever later stages do or don't, have
-- the runs that the equations of the whole graph give at the counts after t rounds.
abbrev pub StagesRunAlone : (Code State Cause Word : Type 0) → Type 0
StagesRunAlone Code State Cause Word =
    (plan : Staging Code State Cause Word) (b t : ℕ)
    → IsStaging plan
    → b ≤ plan.stages
    → t ≤ plan.rounds
    → RunsAlone plan b t (go plan.meaning plan.graph plan.input (alone_order plan b t)
    (at_first plan.meaning plan.graph))

-- The segment of a stage in round t, from any state in which the earlier stages have done theirs,
-- and whatever later stages did: the nodes up to this stage have the runs that the equations give
-- after the round; or it stops at the fault that comes first in the order up to here.
abbrev pub StageGoes : (Code State Cause Word : Type 0) → Type 0
StageGoes Code State Cause Word =
    (plan : Staging Code State Cause Word) (a t : ℕ) (now : ℕ → Run State Cause Word)
    → IsStaging plan
    → IsDue plan a t
    → ((node : ℕ) → before plan.stage_of (suc a) node ≡ true → now node ≡ begun_at plan a t node)
    → Ends plan a t (go plan.meaning plan.graph plan.input (plan.segment a) now)

-- Start-up on one thread: each stage begins with its part of the state after it; or its fault is
-- the answer.
abbrev pub StartupGivesStages : (Code State Cause Word : Type 0) → Type 0
StartupGivesStages Code State Cause Word =
    (plan : Staging Code State Cause Word)
    → IsStaging plan
    → ((now : Fifo State Cause Word)
    → fifo_go plan.meaning plan.graph plan.startup_order
    (fifo_at_first plan.meaning plan.graph plan.input) ≡ FifoWent now
    → IsRound plan 0 (λ a. Works now))
    × ((stop : Stop Cause)
    → fifo_go plan.meaning plan.graph plan.startup_order
    (fifo_at_first plan.meaning plan.graph plan.input) ≡ FifoStopped stop
    → IsAnswerOf (after plan) plan.startup plan.round plan.startup_order plan.round_order
    plan.rounds (StartupFault stop))

-- A stage's step, over its own nodes, queues and blocks alone, takes the equations' state at the
-- counts before round t and the parcel of round t to the state at the counts after it and the
-- parcel for the next stage; or stops at the first fault.
abbrev pub StepKeeps : (Code State Cause Word : Type 0) → Type 0
StepKeeps Code State Cause Word =
    (plan : Staging Code State Cause Word) (a t : ℕ) (stage : Stage State Cause Word)
    (parcel : Parcel Cause Word)
    → IsStaging plan
    → a < plan.stages
    → t < plan.rounds
    → IsStage plan a t stage
    → IsParcel plan a t parcel
    → IsStage plan a (suc t) (step plan a stage parcel).stage
    × IsParcel plan (suc a) t (step plan a stage parcel).parcel

module _ {Code State Cause Word : Type 0} (plan : Staging Code State Cause Word) where
  -- The counts in round t when the stages before b have done their segments.
  unfoldable pub counts_begun : (b t : ℕ) → ℕ → ℕ
  counts_begun b t node = cond (before plan.stage_of b node) (counts plan (suc t) node)
      (counts plan t node)

-- Each block of a parcel is the items that its origin gives in round t, as many as the counts say.
abbrev pub BlocksAreItems : (Code State Cause Word : Type 0) → Type 0
BlocksAreItems Code State Cause Word =
    (plan : Staging Code State Cause Word) (b t : ℕ) (blocks : ℕ → ByPort)
    (words : ℕ → List Word)
    → IsStaging plan
    → t < plan.rounds
    → HasMoved plan b t blocks words
    → (node port : ℕ)
    → b ≤ plan.stage_of node
    → port < plan.meaning.ports (plan.graph.code node)
    → (blocks node port ≡ items_in plan b t (plan.graph.source node port).origin)
    × (length (blocks node port) + supply_of plan.meaning plan.graph plan.input (counts plan t)
    (plan.graph.source node port).origin
    ≡ supply_of plan.meaning plan.graph plan.input (counts_begun plan b t)
    (plan.graph.source node port).origin)

-- After each front of a stage's segment, its nodes' numbers of firings and the lengths of its own
-- queues and of the blocks that it fills are what the counts say, whatever the items.
abbrev pub StepFits : (Code State Cause Word : Type 0) → Type 0
StepFits Code State Cause Word =
    (plan : Staging Code State Cause Word) (a t : ℕ) (now next : Fifo State Cause Word)
    (blocks : ℕ → ByPort) (words : ℕ → List Word) (done rest : List ℕ)
    → IsStaging plan
    → a < plan.stages
    → t < plan.rounds
    → IsWorking plan a t now
    → HasMoved plan a t blocks words
    → plan.segment a ≡ done ++ rest
    → fifo_go plan.meaning plan.graph done (entered plan a now blocks) ≡ FifoWent next
    → ((node : ℕ) → in_stage plan.stage_of a node ≡ true → (next.runs node).fired
    ≡ counted (counts plan t) (joined plan.segment a ++ done) node)
    × ((node port : ℕ) → in_stage plan.stage_of a node ≡ true
    → port < plan.meaning.ports (plan.graph.code node)
    → length (next.queues node port) ≡ fill plan.meaning plan.graph plan.input
    (counted (counts plan t) (joined plan.segment a ++ done)) node port)
    × ((node port : ℕ) → a < plan.stage_of node
    → port < plan.meaning.ports (plan.graph.code node)
    → length (next.queues node port) + supply_of plan.meaning plan.graph plan.input
    (counted (counts plan t) (joined plan.segment a)) (plan.graph.source node port).origin
    ≡ supply_of plan.meaning plan.graph plan.input
    (counted (counts plan t) (joined plan.segment a ++ done)) (plan.graph.source node port).origin)

-- Start-up on one thread and then each round stage by stage, each stage over its own queues and the
-- blocks that come, is the run of the whole graph, and the answer that the equations give.
abbrev pub StagesGiveAnswer : (Code State Cause Word : Type 0) → Type 0
StagesGiveAnswer Code State Cause Word =
    (plan : Staging Code State Cause Word)
    → IsStaging plan
    → (staged_run plan ≡ Some (whole_run plan.meaning plan.graph plan.input plan.round_order
    plan.startup_order plan.rounds))
    × IsAnswerOf (after plan) plan.startup plan.round plan.startup_order plan.round_order
    plan.rounds (whole_run plan.meaning plan.graph plan.input plan.round_order plan.startup_order
    plan.rounds)

-- Workers in a chain, whatever they have given and taken so far: the parcels between them are those
-- of the equations up to the first stop, after which none moves; and what the collector makes of
-- all rounds, or of those up to a stop that names its fault, is the answer that the equations give.
abbrev pub ChainGivesAnswer : (Code State Cause Word : Type 0) → Type 0
ChainGivesAnswer Code State Cause Word =
    (plan : Staging Code State Cause Word) (now : Fifo State Cause Word)
    (given taken left : ℕ → List (Parcel Cause Word))
    → IsStaging plan
    → fifo_go plan.meaning plan.graph plan.startup_order
    (fifo_at_first plan.meaning plan.graph plan.input) ≡ FifoWent now
    → IsChain plan now given taken left
    → ((b : ℕ) → b ≤ plan.stages → AreParcels plan (taken plan.stages) b 0 (given b))
    × ((a : ℕ) → a < plan.stages → StaysHalted (given (suc a)))
    × ((outcome : Outcome Cause Word)
    → collects plan plan.rounds 0 (words_of now.runs) (taken plan.stages) ≡ Some outcome
    → IsAnswerOf (after plan) plan.startup plan.round plan.startup_order plan.round_order
    plan.rounds outcome)

-- A machine over all nodes, over its own nodes' queues and with anything at the others, does what
-- the stage does over its own queues alone, also over a graph that differs at idle ports: own nodes
-- have the same runs and queues, the others' runs stay, and what came to their queues stands behind
-- what was there. So a stage may keep one machine for its whole life, and any order may run on the
-- graph of a stream.
abbrev pub StageIsLocal : (Code State Cause Word : Type 0) → Type 0
StageIsLocal Code State Cause Word =
    (meaning : Meaning Code State Cause Word) (graph : Graph Code) (source : ℕ → ℕ → Source)
    (carries : ℕ → ℕ → Bool) (own : ℕ → Bool) (others : ℕ → Run State Cause Word)
    (front : ℕ → ByPort) (order : List ℕ) (all here : Fifo State Cause Word)
    → IsRewiring meaning graph source carries
    → AllIn own order
    → IsLocal own carries others front all here
    → AreLocal own carries others front (fifo_go meaning graph order all)
    (fifo_go meaning (rewired graph source) order here)

-- A schedule of a graph, and a solution of its equations, are so over other sources at ports
-- without items, with the same runs; and start-up over both stops at the same fault, or gives the
-- same runs, and the same queues where ports carry items.
abbrev pub RewiringKeeps : (Code State Cause Word : Type 0) → Type 0
RewiringKeeps Code State Cause Word =
    (plan : Staging Code State Cause Word) (source : ℕ → ℕ → Source) (carries : ℕ → ℕ → Bool)
    → IsSolved plan
    → IsRewiring plan.meaning plan.graph source carries
    → IsSolved (rewired_plan plan source)
    × ((t : ℕ) → t ≤ plan.rounds → after (rewired_plan plan source) t ≡ after plan t)
    × AreLocal (λ node. true) carries
    (λ node. initial_run plan.meaning (plan.graph.code node)) (λ node port. [])
    (fifo_go plan.meaning plan.graph plan.startup_order
    (fifo_at_first plan.meaning plan.graph plan.input))
    (fifo_go plan.meaning (rewired plan.graph source) plan.startup_order
    (fifo_at_first plan.meaning (rewired plan.graph source) plan.input))

-- A stream cut into stages meets what the laws on stages ask; the runs of which they speak are
-- those of the stream equations.
abbrev pub StreamIsStaging : (Code State Cause Word : Type 0) → Type 0
StreamIsStaging Code State Cause Word =
    (staged : StagedStream Code State Cause Word)
    → IsStagedStream staged
    → IsSolved (flat_plan staged)
    × IsStaging (staging_of staged)
    × ((t : ℕ) → t ≤ staged.rounds → after (staging_of staged) t
    ≡ stream_runs staged.meaning staged.stream staged.input staged.startup staged.round t)

-- And what the collector of a chain of workers makes is the answer of the stream equations.
abbrev pub ChainGivesStreamAnswer : (Code State Cause Word : Type 0) → Type 0
ChainGivesStreamAnswer Code State Cause Word =
    (staged : StagedStream Code State Cause Word) (now : Fifo State Cause Word)
    (given taken left : ℕ → List (Parcel Cause Word)) (outcome : Outcome Cause Word)
    → IsStagedStream staged
    → fifo_go staged.meaning (staging_of staged).graph staged.startup_order
    (fifo_at_first staged.meaning (staging_of staged).graph staged.input) ≡ FifoWent now
    → IsChain (staging_of staged) now given taken left
    → collects (staging_of staged) staged.rounds 0 (words_of now.runs) (taken staged.stages)
    ≡ Some outcome
    → IsAnswer staged.meaning staged.stream staged.input staged.startup staged.round
    staged.startup_order staged.round_order staged.rounds outcome

-- Where rates repeat after start-up, a block has as many items as a round of its origin gives.
abbrev pub BlocksHaveRates : (Code State Cause Word : Type 0) → Type 0
BlocksHaveRates Code State Cause Word =
    (plan : Staging Code State Cause Word) (b t : ℕ) (blocks : ℕ → ByPort)
    (words : ℕ → List Word) (node port source source_port : ℕ)
    → IsStaging plan
    → RepeatsRates plan.meaning plan.graph plan.startup
    → t < plan.rounds
    → HasMoved plan b t blocks words
    → b ≤ plan.stage_of node
    → port < plan.meaning.ports (plan.graph.code node)
    → (plan.graph.source node port).origin ≡ Port source source_port
    → plan.stage_of source < b
    → length (blocks node port) ≡ plan.round source
    * plan.meaning.pushed (plan.graph.code source) (plan.startup source) source_port

-- Ranges of node numbers whose channels go forward are stages.
abbrev pub RangesAreStages : (Code : Type 0) → Type 0
RangesAreStages Code =
    (graph : Graph Code) (bound : ℕ → ℕ) (segment : ℕ → List ℕ) (last : ℕ) (round_order : List ℕ)
    → IsRanged graph bound segment last round_order
    → IsStaged graph (stage_within bound last) segment (suc last) round_order

-- The groups of a stream have all its nodes, and no channel goes from a group to one before it. So
-- ranges of whole groups are stages.
abbrev pub GroupsGoForward : (Code : Type 0) → Type 0
GroupsGoForward Code =
    (stream : Stream Code)
    → (group_bound (groups stream) (length (groups stream)) ≡ (flat stream).size)
    × ((i node port : ℕ) → node < group_bound (groups stream) i
    → IsBelow (group_bound (groups stream) i) ((flat stream).source node port).origin)

-- A cut between groups gives stages: stage a has the groups from number cut a on, up to those of
-- the next stage.
abbrev pub GroupsAreStages : (Code : Type 0) → Type 0
GroupsAreStages Code =
    (stream : Stream Code) (cut : ℕ → ℕ) (segment : ℕ → List ℕ) (last : ℕ) (round_order : List ℕ)
    → ((a : ℕ) → a < last → cut a ≤ cut (suc a))
    → ((a : ℕ) → a ≤ last → AllWithin (group_bound (groups stream) (cut a))
    (λ node. a < last → node < group_bound (groups stream) (cut (suc a))) (segment a))
    → round_order ≡ joined segment (suc last)
    → IsStaged (flat stream) (stage_within (λ a. group_bound (groups stream) (cut a)) last) segment
    (suc last) round_order
