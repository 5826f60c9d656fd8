-- Live runs that are fed come to the answers of their programs.
use Rattle.std.specs.Prelude.{◌≡◌, ℕ, ◌<◌, ◌≤◌, ◌^◌, ℤ, List, ◌++◌, length, Option, None}
use Rattle.strc_elab_dataflow.specs.Streams as trees
use Rattle.strc_work_meaning.specs.declared.fault.Cause.{Cause}
use Rattle.strc_work_meaning.specs.declared.word.Word.{Word}
use Rattle.strc_elab_graph.specs.FlatGraphs.{IsProgram}
use Rattle.strc_elab_graph.specs.Graphs.{NodeCode}
use Rattle.strc_elab_graph.specs.Tapes.{tape_nodes}
use Rattle.strc_sched.specs.Serving.{round_limit}
use Rattle.strc_sched_outcome.specs.declared.stop.Stop.TheVariants as stop
use Rattle.strc_sched_outcome.specs.declared.outcome.Round.TheVariants as round
use Rattle.strc_stage_plan.specs.Named.{old_node}
use Rattle.strc_stage_plan.specs.Plans.{PlanParts, graph_of, transformed_of}
use Rattle.strc_stage_steps.specs.Names.{old_firing}
use Rattle.strc_cli_output.specs.Output.{closed_text, fault_line}
use Rattle.strc_live_runs.specs.Starts.{IsOneTape}
use Rattle.strc_live_feeds.specs.Beginning.{FaultsSo}
use Rattle.strc_live_feeds.specs.Feeding.{HasFed, IsFault, IsOver, IsUnread}
use Rattle.strc_live_feeds.specs.declared.live_feed.LiveFeed.{LiveFeed}
use Rattle.strc_live_texts.specs.Live.{done_status, done_text}
use Rattle.strc_live_answers.specs.Written.{HasReadSo, HasWritten, RunsInput}

-- a program of one tape, or none, has a plan
pub record IsOneTapeOf (tree : trees.Stream NodeCode) (plan : PlanParts) : Type 0 where
  pub program : IsProgram tree (graph_of plan)
  pub few : length (tape_nodes (graph_of plan).nodes) ≤ 1

-- a live run of it has done its rounds, and these are the words of each node
pub record HasDone (plan : PlanParts) (first left : Option (List ℕ)) (read : List ℤ)
    (past : ℕ → List Word) (feed : LiveFeed) : Type 0 where
  pub fed : HasFed plan first left read past feed
  pub tape : IsOneTape (transformed_of plan).nodes feed.run.tape
  pub within : feed.run.done ≤ round_limit

-- What it has written is the answer of its rounds.
abbrev pub LiveFeedsWrite : Type 0
LiveFeedsWrite =
    (tree : trees.Stream NodeCode) (plan : PlanParts) (first left : Option (List ℕ))
    (read : List ℤ) (past : ℕ → List Word) (feed : LiveFeed)
    → IsOneTapeOf tree plan → HasDone plan first left read past feed
    → HasWritten tree plan first (past feed.run.tape)

-- Where the input is over, these are all its rounds.
abbrev pub LiveFeedsEnd : Type 0
LiveFeedsEnd =
    (tree : trees.Stream NodeCode) (plan : PlanParts) (first left : Option (List ℕ))
    (read : List ℤ) (past : ℕ → List Word) (before after : LiveFeed) (wrong : Option ℕ)
    → IsOneTapeOf tree plan → HasDone plan first left read past before
    → before.run.done < round_limit → IsOver plan first read wrong before after
    → RunsInput tree plan first (done_text (past before.run.tape) wrong) (done_status wrong)

-- So they are where there may be no more.
abbrev pub LiveFeedsReachTheLimit : Type 0
LiveFeedsReachTheLimit =
    (tree : trees.Stream NodeCode) (plan : PlanParts) (first left : Option (List ℕ))
    (read : List ℤ) (past : ℕ → List Word) (feed : LiveFeed)
    → IsOneTapeOf tree plan → HasDone plan first left read past feed
    → feed.run.done ≡ round_limit
    → RunsInput tree plan first (done_text (past feed.run.tape) None) (done_status None)

-- Where a read fails, they are all that the numbers so far serve.
abbrev pub LiveFeedsAreCutOff : Type 0
LiveFeedsAreCutOff =
    (tree : trees.Stream NodeCode) (plan : PlanParts) (first left later : Option (List ℕ))
    (read : List ℤ) (past : ℕ → List Word) (before after : LiveFeed)
    → IsOneTapeOf tree plan → HasDone plan first left read past before
    → IsUnread plan first later read before after
    → HasReadSo tree plan first later (past before.run.tape)

-- A fault of the next round, by the nodes before fission, is that of the input.
abbrev pub LiveFeedsFault : Type 0
LiveFeedsFault =
    (tree : trees.Stream NodeCode) (plan : PlanParts) (first left later : Option (List ℕ))
    (read : List ℤ) (past : ℕ → List Word) (before after : LiveFeed) (node firing : ℕ)
    (cause : Cause) (number : ℕ)
    → IsOneTapeOf tree plan → HasDone plan first left read past before
    → before.run.done < round_limit
    → IsFault plan first later read past before after (stop.Fault node firing cause)
    → (old_firing plan node firing < 2 ^ 64 → number ≡ old_firing plan node firing)
    → RunsInput tree plan first (closed_text (past before.run.tape)
    ++ fault_line (old_node plan.split.origins node) number (round.At before.run.done) cause) 3

-- So is one of start-up.
abbrev pub LiveFeedsFaultAtFirst : Type 0
LiveFeedsFaultAtFirst =
    (tree : trees.Stream NodeCode) (plan : PlanParts) (first left : Option (List ℕ))
    (node firing : ℕ) (cause : Cause)
    → IsOneTapeOf tree plan → FaultsSo plan first left node firing cause
    → RunsInput tree plan first (fault_line node firing round.Startup cause) 3
