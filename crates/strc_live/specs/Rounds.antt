-- Live runs of plans, by what they have read and written.
use Rattle.std.specs.Prelude.{◌≡◌, ◌⊎◌, ℕ, ◌+◌, ◌<◌, ◌^◌, ℤ, Bool, true, false, List, [], ◌++◌}
use Rattle.std.specs.Prelude.{Option, Some, None, Result, Ok, Err}
use Rattle.strc_elab_dataflow.specs.Streams as trees
use Rattle.strc_work_meaning.specs.declared.fault.Cause.{Cause}
use Rattle.strc_work_meaning.specs.declared.word.Word.{Word}
use Rattle.strc_elab_graph.specs.Graphs.{NodeCode}
use Rattle.strc_sched_outcome.specs.declared.outcome.Round.TheVariants as round
use Rattle.strc_sched_outcome.specs.declared.run_refusal.RunRefusal.TheVariants as unrun
use Rattle.strc_stage_plan.specs.Named.{old_node}
use Rattle.strc_stage_plan.specs.Plans.{PlanParts}
use Rattle.strc_stage_steps.specs.Names.{old_firing}
use Rattle.strc_stage_steps.specs.Plans.{need_of}
use Rattle.strc_cli_output.specs.Output.{leaves_open, words_text}
use Rattle.strc_cli_output.specs.declared.stop.Stop.TheVariants as stop
use Rattle.strc_cli.specs.Executes.{Device, FailedIn, Wrote}
use Rattle.strc_cli.specs.declared.execute.CliError.{CliError}
use Rattle.strc_cli.specs.declared.execute.CliError.TheVariants as error
use Rattle.strc_live_feeds.specs.Beginning.{IsUnbegun, LacksNumbers}
use Rattle.strc_live_feeds.specs.declared.live_feed.LiveFeed.{LiveFeed}
use Rattle.strc_live_answers.specs.Laws.{HasDone}
use Rattle.strc_live_answers.specs.Written.{HasReadSo, HasWritten, RunsInput}
use Rattle.strc_live.specs.Ends.{end_text}
use Rattle.strc_live.specs.declared.ends.LiveEnd.{LiveEnd}
use Rattle.strc_live.specs.declared.ends.LiveEnd.TheVariants as end

-- ---- writing

-- words are written whole, after which the line is open as they leave it; or there was no memory
-- for their text, and nothing is; or the device failed in it
abbrev pub WritesWords : (words : List Word) → Result Bool CliError → (opens now : Bool)
    → Device → Device → Type 0
WritesWords words (Ok true) opens now before after =
    Wrote (words_text words) before after
    × ((past : List Word) → opens ≡ leaves_open past → now ≡ leaves_open (past ++ words))
WritesWords words (Ok false) opens now before after = (now ≡ opens) × (after ≡ before)
WritesWords words (Err error.Write) opens now before after =
    FailedIn (words_text words) before after
WritesWords words (Err error.Read) opens now before after = ⊥
WritesWords words (Err error.Memory) opens now before after = ⊥

-- ---- ends

-- nothing is written, since start-up waits for more numbers than the input has up to this word,
-- which writes none, or to its end
abbrev pub EndsBefore : PlanParts → (first : Option (List ℕ)) → (words : List Word)
    → (wrong : Option ℕ) → (got : ℕ) → Type 0
EndsBefore plan first words wrong got = (words ≡ []) × LacksNumbers plan first wrong got

-- words are those of some rounds, or none
abbrev pub AreSomeWords : trees.Stream NodeCode → PlanParts → (first : Option (List ℕ))
    → (words : List Word) → Type 0
AreSomeWords tree plan first words = (words ≡ []) ⊎ HasWritten tree plan first words

-- a live run ends so, after these words
abbrev pub IsEnd : trees.Stream NodeCode → PlanParts → (first : Option (List ℕ))
    → (words : List Word) → LiveEnd → Type 0
IsEnd tree plan first words end.Done = RunsInput tree plan first (end_text words end.Done) 0
IsEnd tree plan first words (end.Faulted site) =
    RunsInput tree plan first (end_text words (end.Faulted site)) 3
IsEnd tree plan first words (end.Stopped (stop.BadInput word)) =
    EndsBefore plan first words (Some word) word
    ⊎ RunsInput tree plan first (end_text words (end.Stopped (stop.BadInput word))) 2
IsEnd tree plan first words (end.Stopped (stop.NotRun (unrun.InputShort need got))) =
    (need ≡ need_of plan 0) × EndsBefore plan first words None got
IsEnd tree plan first words (end.Stopped (stop.NotRun unrun.NoMemory)) =
    AreSomeWords tree plan first words
IsEnd tree plan first words _ = ⊥

-- a read failed after these words: of no round, since start-up waits for more numbers than the
-- bytes end which the input gave; or of as many as these serve
abbrev pub IsCutOff : trees.Stream NodeCode → PlanParts → (first left : Option (List ℕ))
    → (words : List Word) → Type 0
IsCutOff tree plan first left words =
    ((words ≡ []) × IsUnbegun plan first left) ⊎ HasReadSo tree plan first left words

-- how a live run went: its words are written, and it ends so, or a read failed; or the device
-- failed in words of some rounds
abbrev pub GoesLive : trees.Stream NodeCode → PlanParts → (first left : Option (List ℕ))
    → Result LiveEnd CliError → (opens : Bool) → Device → Device → Type 0
GoesLive tree plan first left (Ok end) opens before after =
    (words : List Word) × IsEnd tree plan first words end × AreSomeWords tree plan first words
    × (opens ≡ leaves_open words)
    × Wrote (words_text words) before after
GoesLive tree plan first left (Err error.Write) opens before after =
    (words : List Word) × HasWritten tree plan first words
    × FailedIn (words_text words) before after
GoesLive tree plan first left (Err error.Read) opens before after =
    (words : List Word) × IsCutOff tree plan first left words
    × Wrote (words_text words) before after
GoesLive tree plan first left (Err error.Memory) opens before after = ⊥

-- a firing of a node after fission faulted in a round, by the nodes before fission
abbrev pub IsFaultOf : PlanParts → (node firing done : ℕ) → Cause → LiveEnd → Type 0
IsFaultOf plan node firing done cause (end.Faulted site) =
    (site.node ≡ old_node plan.split.origins node)
    × (old_firing plan node firing < 2 ^ 64 → site.firing ≡ old_firing plan node firing)
    × (site.round ≡ round.At done) × (site.cause ≡ cause)
IsFaultOf plan node firing done cause _ = ⊥

-- ---- on the way

-- so many rounds are done, and their words are written
pub record IsGoing (plan : PlanParts) (first left : Option (List ℕ)) (rounds : ℕ)
    (feed : LiveFeed) (opens : Bool) (before after : Device) : Type 0 where
  pub read : List ℤ
  pub past : ℕ → List Word
  pub done : HasDone plan first left read past feed
  pub rounds_are : feed.run.done ≡ rounds
  pub opens_is : opens ≡ leaves_open (past feed.run.tape)
  pub written : Wrote (words_text (past feed.run.tape)) before after

-- another one is, or the run has ended
abbrev pub StepsTo : trees.Stream NodeCode → PlanParts → (first left : Option (List ℕ))
    → (rounds : ℕ) → Result (Option LiveEnd) CliError → LiveFeed → (opens : Bool)
    → Device → Device → Type 0
StepsTo tree plan first left rounds (Ok None) feed opens before after =
    IsGoing plan first left (rounds + 1) feed opens before after
StepsTo tree plan first left rounds (Ok (Some end)) feed opens before after =
    GoesLive tree plan first left (Ok end) opens before after
StepsTo tree plan first left rounds (Err failure) feed opens before after =
    GoesLive tree plan first left (Err failure) opens before after
