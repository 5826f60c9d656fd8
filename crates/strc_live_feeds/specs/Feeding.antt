-- Live runs that are fed from the input.
use Rattle.std.specs.Prelude.{◌≡◌, ℕ, ◌+◌, ◌<◌, ℤ, List, ◌++◌, length, Option, Some, None}
use Rattle.strc_work_meaning.specs.declared.word.Word.{Word}
use Rattle.strc_sched_outcome.specs.declared.stop.Stop.{Stop}
use Rattle.strc_sched_outcome.specs.declared.stop.Stop.TheVariants as stop
use Rattle.strc_stage_plan.specs.Plans.{PlanParts}
use Rattle.strc_cli_input.specs.NumberReading.{HasPulled, HasPulledAll, IsWithin, WritesUpTo}
use Rattle.strc_live_plans.specs.Readers.{each_of}
use Rattle.strc_live_runs.specs.Runs.{HasDoneRound, IsLiveRun, IsRoundStop, IsWired}
use Rattle.strc_live_feeds.specs.declared.live_feed.Fed.{Fed}
use Rattle.strc_live_feeds.specs.declared.live_feed.Fed.TheVariants as fed
use Rattle.strc_live_feeds.specs.declared.live_feed.LiveFeed.{LiveFeed}

-- its run is a plan's that has read these numbers, and of which these words of each node are
-- written; the input gave just them, of what it had at first, and what is at hand
pub record HasFed (plan : PlanParts) (first left : Option (List ℕ)) (read : List ℤ)
    (past : ℕ → List Word) (feed : LiveFeed) : Type 0 where
  pub pulled : HasPulled first left read feed.numbers
  pub live : IsLiveRun plan read past feed.run
  pub wired : IsWired feed.run
  pub within : IsWithin feed.numbers
  pub each : feed.each ≡ each_of plan

-- it is so for some plan
pub record IsFeeding (left : Option (List ℕ)) (feed : LiveFeed) : Type 0 where
  pub plan : PlanParts
  pub first : Option (List ℕ)
  pub read : List ℤ
  pub past : ℕ → List Word
  pub is : HasFed plan first left read past feed

-- after a round
abbrev pub KeepsFeeding : (left : Option (List ℕ)) → Fed → LiveFeed → Type 0
KeepsFeeding left fed.Round after = IsFeeding left after
KeepsFeeding left result after = Unit {0}

-- ---- what comes next

-- a round over further numbers, whose words come after those before
pub record IsRound (plan : PlanParts) (first left : Option (List ℕ)) (read : List ℤ)
    (past : ℕ → List Word) (before after : LiveFeed) : Type 0 where
  pub items : List ℤ
  pub now : ℕ → List Word
  pub fed : HasFed plan first left (read ++ items) now after
  pub more : now after.run.tape ≡ past before.run.tape ++ after.words.items
  pub tape : after.run.tape ≡ before.run.tape
  pub done : after.run.done ≡ before.run.done + 1

-- the input writes fewer numbers after those that were read than a round reads, up to this word
-- that writes none, or these alone
pub record IsOver (plan : PlanParts) (first : Option (List ℕ)) (read : List ℤ)
    (wrong : Option ℕ) (before after : LiveFeed) : Type 0 where
  pub waiting : List ℤ
  pub few : length waiting < each_of plan
  pub writes : WritesUpTo first (read ++ waiting) wrong
  pub run : after.run ≡ before.run

-- fewer end in the bytes that it gave
pub record IsUnread (plan : PlanParts) (first left : Option (List ℕ)) (read : List ℤ)
    (before after : LiveFeed) : Type 0 where
  pub waiting : List ℤ
  pub few : length waiting < each_of plan
  pub pulled : HasPulledAll first left (read ++ waiting) after.numbers
  pub run : after.run ≡ before.run

-- a fault of a round over as many further numbers as a round reads
pub record IsFault (plan : PlanParts) (first left : Option (List ℕ)) (read : List ℤ)
    (past : ℕ → List Word) (before after : LiveFeed) (why : Stop) : Type 0 where
  pub items : List ℤ
  pub pulled : HasPulled first left (read ++ items) after.numbers
  pub many : length items ≡ each_of plan
  pub stops : IsRoundStop plan read items past before.run.done why

abbrev pub IsFedBy : PlanParts → (first left : Option (List ℕ)) → (read : List ℤ)
    → (past : ℕ → List Word) → (before : LiveFeed) → Fed → (after : LiveFeed) → Type 0
IsFedBy plan first left read past before fed.Round after =
    IsRound plan first left read past before after
IsFedBy plan first left read past before fed.Ended after =
    IsOver plan first read None before after
IsFedBy plan first left read past before (fed.Wrong word) after =
    IsOver plan first read (Some word) before after
IsFedBy plan first left read past before fed.ReadFailed after =
    IsUnread plan first left read before after
IsFedBy plan first left read past before (fed.Faulted node firing cause) after =
    IsFault plan first left read past before after (stop.Fault node firing cause)
IsFedBy plan first left read past before fed.NoMemory after = Unit {0}
IsFedBy plan first left read past before fed.Limit after =
    (before.run.done ≡ 4294967295) × (after ≡ before)

-- a round over the numbers in the window, or its fault
abbrev pub IsRoundOf : PlanParts → (read : List ℤ) → (past : ℕ → List Word)
    → (before : LiveFeed) → Fed → (after : LiveFeed) → Type 0
IsRoundOf plan read past before fed.Round after =
    HasDoneRound plan read before.window.items past after.words.items after.run
    × (after.run.tape ≡ before.run.tape) × (after.run.done ≡ before.run.done + 1)
IsRoundOf plan read past before (fed.Faulted node firing cause) after =
    IsRoundStop plan read before.window.items past before.run.done (stop.Fault node firing cause)
IsRoundOf plan read past before fed.NoMemory after = Unit {0}
IsRoundOf plan read past before _ after = ⊥
