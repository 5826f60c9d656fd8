-- The start of live runs over the input.
use Rattle.std.specs.Prelude.{◌≡◌, ℕ, ◌<◌, ℤ, List, length, Option, Some, None}
use Rattle.strc_work_meaning.specs.declared.fault.Cause.{Cause}
use Rattle.strc_work_meaning.specs.declared.word.Word.{Word}
use Rattle.strc_stage_plan.specs.Plans.{PlanParts, transformed_of}
use Rattle.strc_stage_steps.specs.Plans.{need_of}
use Rattle.strc_stage_cut.specs.Startups.{HasFaulted}
use Rattle.strc_cli_input.specs.NumberReading.{HasPulled, HasPulledAll, WritesUpTo}
use Rattle.strc_cli_input.specs.declared.number_reader.NumberReader.{NumberReader}
use Rattle.strc_live_runs.specs.Starts.{CanBeginWith, IsOneTape}
use Rattle.strc_live_feeds.specs.Feeding.{HasFed}
use Rattle.strc_live_feeds.specs.declared.begin.Begun.{Begun}
use Rattle.strc_live_feeds.specs.declared.begin.Begun.TheVariants as begun
use Rattle.strc_live_feeds.specs.declared.live_feed.LiveFeed.{LiveFeed}

-- a run has done start-up over just the numbers that it reads, with these words, and no round
pub record HasBegunSo (plan : PlanParts) (first left : Option (List ℕ)) (feed : LiveFeed)
    : Type 0 where
  pub items : List ℤ
  pub past : ℕ → List Word
  pub fed : HasFed plan first left items past feed
  pub words : past feed.run.tape ≡ feed.words.items
  pub done : feed.run.done ≡ 0
  pub tape : IsOneTape (transformed_of plan).nodes feed.run.tape

-- a firing of start-up faulted over just the numbers that it reads
pub record FaultsSo (plan : PlanParts) (first left : Option (List ℕ)) (node firing : ℕ)
    (cause : Cause) : Type 0 where
  pub items : List ℤ
  pub numbers : NumberReader
  pub pulled : HasPulled first left items numbers
  pub can : CanBeginWith plan items
  pub faulted : HasFaulted plan items node firing cause

-- the input writes fewer numbers than start-up reads, up to this word that writes none, or these
-- alone
pub record LacksNumbers (plan : PlanParts) (first : Option (List ℕ)) (wrong : Option ℕ)
    (got : ℕ) : Type 0 where
  pub items : List ℤ
  pub writes : WritesUpTo first items wrong
  pub many : got ≡ length items
  pub few : got < need_of plan 0

-- fewer end in the bytes that it gave
pub record IsUnbegun (plan : PlanParts) (first left : Option (List ℕ)) : Type 0 where
  pub items : List ℤ
  pub numbers : NumberReader
  pub few : length items < need_of plan 0
  pub pulled : HasPulledAll first left items numbers

-- what comes of the start: of a wrong word its number is how many numbers were before it
abbrev pub IsBegun : PlanParts → (first left : Option (List ℕ)) → Begun → Type 0
IsBegun plan first left (begun.Goes feed) = HasBegunSo plan first left feed
IsBegun plan first left (begun.Faulted node firing cause) =
    FaultsSo plan first left node firing cause
IsBegun plan first left (begun.Short need got) =
    (need ≡ need_of plan 0) × LacksNumbers plan first None got
IsBegun plan first left (begun.Wrong word) = LacksNumbers plan first (Some word) word
IsBegun plan first left begun.ReadFailed = IsUnbegun plan first left
IsBegun plan first left begun.NoMemory = Unit {0}
