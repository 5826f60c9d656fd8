-- The text that is written: the words of a run and its fault line, the lines of a check or a plan,
-- or the line of a refusal.
use Rattle.std.specs.Prelude.{ℕ, ◌+◌, ◌-◌, Bool, true, false, not, Option, Some, None, length}
use Rattle.std.specs.Prelude.{List, [], ◌∷◌, ◌++◌, slice_get, slice_index_or, codes, decimal}
use Rattle.std.specs.Prelude.{if◌then◌else◌}
use Rattle.std.specs.Fmt.{signed_decimal}
use Rattle.strc_work_meaning.specs.declared.word.Word.{Word}
use Rattle.strc_work_meaning.specs.declared.fault.Cause.{Cause}
use Rattle.strc_work_meaning.specs.declared.fault.Cause.TheVariants as cause
use Rattle.strc_elab_graph.specs.NodeView.{node_names}
use Rattle.strc_elab_graph.specs.declared.graph.Channel.{Channel}
use Rattle.strc_stage_plan.specs.Plans.{PlanParts}
use Rattle.strc_sched_outcome.specs.declared.outcome.Tape.{Tape}
use Rattle.strc_sched_outcome.specs.declared.outcome.Outcome.{Outcome}
use Rattle.strc_sched_outcome.specs.declared.outcome.Outcome.TheVariants as outcome
use Rattle.strc_sched_outcome.specs.declared.outcome.Round.{Round}
use Rattle.strc_sched_outcome.specs.declared.outcome.Round.TheVariants as round
use Rattle.strc_sched_outcome.specs.declared.run_refusal.RunRefusal.{RunRefusal}
use Rattle.strc_sched_outcome.specs.declared.run_refusal.RunRefusal.TheVariants as unrun
use Rattle.strc_run_refusal.specs.declared.refusal.Refusal.{Refusal}
use Rattle.strc_run_refusal.specs.declared.refusal.Refusal.TheVariants as refusal
use Rattle.strc_cli_output.specs.declared.stop.Stop.{Stop}
use Rattle.strc_cli_output.specs.declared.stop.Stop.TheVariants as stop

-- a line feed
abbrev pub line_end : List ℕ
line_end = 10 ∷ []

-- a word in decimal, with its line feed where it ends a line
abbrev pub word_text : Word → List ℕ
word_text word = signed_decimal word.value ++ (if word.ends_line then line_end else [])

-- words one after another
abbrev pub words_text : List Word → List ℕ
words_text [] = []
words_text (word ∷ words) = word_text word ++ words_text words

-- whether the last word leaves its line open
abbrev pub is_open : Option Word → Bool
is_open None = false
is_open (Some word) = not word.ends_line

-- whether words leave their last line open
abbrev pub leaves_open : List Word → Bool
leaves_open words = is_open (slice_get words (length words - 1))

-- the line feed that is before a line where the words leave theirs open
abbrev pub closing : List Word → List ℕ
closing words = if leaves_open words then line_end else []

-- why a firing faults, by its name
abbrev pub cause_name : Cause → List ℕ
cause_name cause.DivZero = codes "DivZero"
cause_name cause.Index = codes "Index"
cause_name cause.PeekRange = codes "PeekRange"
cause_name cause.Turns = codes "Turns"
cause_name cause.Calls = codes "Calls"

-- when a firing faults: before the first round, or in a round
abbrev pub round_words : Round → List ℕ
round_words round.Startup = codes " startup"
round_words (round.At q) = codes " round " ++ decimal q

-- `fault DivZero node 1 firing 1 round 1`, or `fault DivZero node 1 firing 0 startup`
abbrev pub fault_line : (node firing : ℕ) → Round → Cause → List ℕ
fault_line node firing round cause =
    codes "fault " ++ cause_name cause ++ codes " node " ++ decimal node
    ++ codes " firing " ++ decimal firing ++ round_words round ++ line_end

-- words whose last line is closed
abbrev pub closed_text : List Word → List ℕ
closed_text words = words_text words ++ closing words

-- `tape 0 node 1 Echo`
abbrev pub tape_line : (number node : ℕ) → (name : List ℕ) → List ℕ
tape_line number node name =
    codes "tape " ++ decimal number ++ codes " node " ++ decimal node ++ codes " " ++ name
    ++ line_end

-- a tape after its line
abbrev pub tape_text : (names : List (List ℕ)) → (number : ℕ) → Tape → List ℕ
tape_text names number tape =
    tape_line number tape.node (slice_index_or names tape.node []) ++ closed_text tape.words.items

-- tapes, the first of which has this number
abbrev pub tape_texts : (names : List (List ℕ)) → (number : ℕ) → List Tape → List ℕ
tape_texts names number [] = []
tape_texts names number (tape ∷ tapes) =
    tape_text names number tape ++ tape_texts names (number + 1) tapes

-- the tapes of nodes with these names: one alone is its words
abbrev pub tapes_text : (names : List (List ℕ)) → List Tape → List ℕ
tapes_text names (tape ∷ []) = words_text tape.words.items
tapes_text names tapes = tape_texts names 0 tapes

-- the text of the tapes with its last line closed, before a line that follows
abbrev pub closed_tapes : (names : List (List ℕ)) → List Tape → List ℕ
closed_tapes names (tape ∷ []) = closed_text tape.words.items
closed_tapes names tapes = tape_texts names 0 tapes

-- all that a run of nodes with these names writes
abbrev pub outcome_text : (names : List (List ℕ)) → Outcome → List ℕ
outcome_text names (outcome.Done tapes) = tapes_text names tapes.items
outcome_text names (outcome.Fault node firing round cause tapes) =
    closed_tapes names tapes.items ++ fault_line node firing round cause

-- `ok nodes 6 channels 6`
abbrev pub check_line : ℕ → ℕ → List ℕ
check_line nodes channels =
    codes "ok nodes " ++ decimal nodes ++ codes " channels " ++ decimal channels ++ line_end

-- `node 2 Sum round 2`
abbrev pub node_line : ℕ → List ℕ → ℕ → List ℕ
node_line node name count =
    codes "node " ++ decimal node ++ codes " " ++ name ++ codes " round " ++ decimal count
    ++ line_end

-- the lines of nodes with these names and counts, the first of which has this number
abbrev pub node_lines : ℕ → List (List ℕ) → List ℕ → List ℕ
node_lines node (name ∷ names) (count ∷ counts) =
    node_line node name count ++ node_lines (node + 1) names counts
node_lines node names counts = []

-- `start 0 2`
abbrev pub start_line : (node count : ℕ) → List ℕ
start_line node count =
    codes "start " ++ decimal node ++ codes " " ++ decimal count ++ line_end

-- the lines of nodes with these start-up counts, the first of which has this number
abbrev pub start_lines : (node : ℕ) → (counts : List ℕ) → List ℕ
start_lines node [] = []
start_lines node (count ∷ counts) = start_line node count ++ start_lines (node + 1) counts

-- `channel 0 from 0 to 1 size 3`
abbrev pub channel_line : (number source target size : ℕ) → List ℕ
channel_line number source target size =
    codes "channel " ++ decimal number ++ codes " from " ++ decimal source ++ codes " to "
    ++ decimal target ++ codes " size " ++ decimal size ++ line_end

-- the lines of channels with buffers of these sizes, the first of which has this number
abbrev pub channel_lines : (number : ℕ) → List Channel → (sizes : List ℕ) → List ℕ
channel_lines number (channel ∷ channels) (size ∷ sizes) =
    channel_line number channel.source.node channel.target.node size
    ++ channel_lines (number + 1) channels sizes
channel_lines number channels sizes = []

-- all that is written of a plan: for each node how often it fires in a round, for each node how
-- often it fires before the first round, and for each channel the size of its buffer
abbrev pub plan_text : PlanParts → List ℕ
plan_text plan =
    node_lines 0 (node_names plan.graph) plan.round_counts ++ start_lines 0 plan.startup_counts
    ++ channel_lines 0 plan.graph.channels plan.schedule.sizes

-- a declared rate that isn't the counted one
abbrev pub mismatch_words : (node declared counted : ℕ) → List ℕ
mismatch_words node declared counted =
    codes "E14 RateMismatch node " ++ decimal node ++ codes " declared " ++ decimal declared
    ++ codes " counted " ++ decimal counted

-- the number and the name of a refusal, with its fields, each after its name
abbrev pub refusal_words : Refusal → List ℕ
refusal_words (refusal.Lex at) = codes "E1 Lex" ++ codes " at " ++ decimal at
refusal_words (refusal.Parse token) = codes "E2 Parse" ++ codes " token " ++ decimal token
refusal_words refusal.TextTooLong = codes "E3 TextTooLong"
refusal_words (refusal.UnknownName name) = codes "E4 UnknownName" ++ codes " name " ++ name
refusal_words (refusal.TypeMismatch stream) =
    codes "E5 TypeMismatch" ++ codes " stream " ++ decimal stream
refusal_words refusal.NoMain = codes "E6 NoMain"
refusal_words refusal.ManyMains = codes "E7 ManyMains"
refusal_words refusal.DepthLimit = codes "E8 DepthLimit"
refusal_words refusal.NodeLimit = codes "E9 NodeLimit"
refusal_words (refusal.BadArguments stream) =
    codes "E10 BadArguments" ++ codes " stream " ++ decimal stream
refusal_words (refusal.BadWeights stream) =
    codes "E11 BadWeights" ++ codes " stream " ++ decimal stream
refusal_words (refusal.ConstFault cause) =
    codes "E12 ConstFault" ++ codes " cause " ++ cause_name cause
refusal_words (refusal.RateUnknown node) = codes "E13 RateUnknown" ++ codes " node " ++ decimal node
refusal_words (refusal.RateMismatch node declared counted) = mismatch_words node declared counted
refusal_words (refusal.PeekOutside node) = codes "E15 PeekOutside" ++ codes " node " ++ decimal node
refusal_words (refusal.RateLimit node) = codes "E16 RateLimit" ++ codes " node " ++ decimal node
refusal_words refusal.TwoInputs = codes "E17 TwoInputs"
refusal_words (refusal.TapeTwice node) = codes "E27 TapeTwice" ++ codes " node " ++ decimal node
refusal_words refusal.Disconnected = codes "E19 Disconnected"
refusal_words refusal.CountsTooLarge = codes "E20 CountsTooLarge"
refusal_words (refusal.Inconsistent channel) =
    codes "E21 Inconsistent" ++ codes " channel " ++ decimal channel
refusal_words refusal.StartupUnbounded = codes "E22 StartupUnbounded"
refusal_words (refusal.Deadlock true) = codes "E23 Deadlock startup"
refusal_words (refusal.Deadlock false) = codes "E23 Deadlock round"
refusal_words (refusal.BufferLimit channel) =
    codes "E24 BufferLimit" ++ codes " channel " ++ decimal channel
refusal_words refusal.NoMemory = codes "E25 NoMemory"
refusal_words refusal.Nesting = codes "E26 Nesting"

-- an input that is shorter than what the rounds read
abbrev pub short_words : (need got : ℕ) → List ℕ
short_words need got =
    codes "S1 InputShort need " ++ decimal need ++ codes " got " ++ decimal got

-- the number and the name of a refusal of a run, with its fields
abbrev pub run_refusal_words : RunRefusal → List ℕ
run_refusal_words (unrun.InputShort need got) = short_words need got
run_refusal_words unrun.BadWorkers = codes "S2 BadWorkers"
run_refusal_words unrun.NoMemory = codes "S3 NoMemory"
run_refusal_words unrun.NoWorker = codes "S4 NoWorker"
run_refusal_words unrun.RoundsNeeded = codes "S5 RoundsNeeded"

-- why there is no answer: a refusal of the text, of a word of its input, or of its run
abbrev pub stop_words : Stop → List ℕ
stop_words (stop.Refused placed) = refusal_words placed.refusal
stop_words (stop.BadInput word) = codes "S6 BadInput" ++ codes " word " ++ decimal word
stop_words (stop.NotRun refused) = run_refusal_words refused
stop_words (stop.ArrayLimit items) = codes "S7 ArrayLimit" ++ codes " items " ++ decimal items

-- `refused E1 Lex at 12`, `refused S1 InputShort need 6 got 5`
abbrev pub stop_line : Stop → List ℕ
stop_line stop = codes "refused " ++ stop_words stop ++ line_end
