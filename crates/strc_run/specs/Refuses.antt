-- Which texts are refused, and with which refusal: that of the first rule that is broken, of those
-- on the text's tokens, its tree, its elaboration, its flat graph, its nodes' rates, their balance,
-- their start-up, their schedule, fission, fusion.
use Rattle.std.specs.Prelude.{◌≡◌, ℕ, ◌⊎◌, List, Ok, Err}
use Rattle.strc_parse_tree.specs.Tree.{Declaration}
use Rattle.strc_parse_grammar.specs.declared.error.ParseError.TheVariants as parsing
use Rattle.strc_parse.specs.Texts.{HasNoToken, IsNoProgram, IsTooLong, Spells}
use Rattle.strc_elab_statements.specs.declared.error.ElabError.{ElabError}
use Rattle.strc_elab_statements.specs.declared.error.ElabErrorKind.TheVariants as error
use Rattle.strc_elab.specs.Elaboration.{elaborated}
use Rattle.strc_elab_stream.specs.Connections.{IsConnected}
use Rattle.strc_elab_stream.specs.Flattening.{nodes_of, codes_of, meaning_of, outer_loops, IsFlat}
use Rattle.strc_elab_stream.specs.Instances.{Stream}
use Rattle.strc_elab_flattening.specs.Verdicts.{IsRefused}
use Rattle.strc_elab_graph.specs.Graphs.{Graph}
use Rattle.strc_balance.specs.Balance.{Balances}
use Rattle.strc_balance.specs.Rates.{equations_of, size_of}
use Rattle.strc_balance.specs.declared.error.BalanceError.TheVariants as unbalanced
use Rattle.strc_sched_orders.specs.Schedules.{ScheduleParts}
use Rattle.strc_stage_plan.specs.Plans.{HasSchedule, HasStartup, HasTooManyParts, IsDeadlocked}
use Rattle.strc_stage_plan.specs.Plans.{IsUnbounded, Overflows, OverflowsFused, OverflowsSplit}
use Rattle.strc_run_refusal.specs.declared.refusal.Refusal.{Refusal}
use Rattle.strc_run_refusal.specs.declared.refusal.Refusal.TheVariants as refusal
use Rattle.strc_run.specs.Accepts.{CanRun, round_counts}
use Rattle.strc_run.specs.Choices.{Choice}
use Rattle.strc_run.specs.Rates.{rates_checked}
use Rattle.strc_run_refusal.specs.Reports.{refusal_of}

-- the text spells no program, for this reason
abbrev pub IsUnreadable : List ℕ → Refusal → Type 0
IsUnreadable text refusal.TextTooLong = IsTooLong text
IsUnreadable text (refusal.Lex at) = HasNoToken text at
IsUnreadable text (refusal.Parse token) = IsNoProgram text (parsing.Parse token)
IsUnreadable text refusal.Nesting = IsNoProgram text parsing.Nesting
IsUnreadable text refused = ⊥

-- the flat graph of a stream can't be run, for this reason
abbrev pub CannotRun : Stream → Refusal → Type 0
CannotRun stream refusal.NodeLimit = IsRefused (codes_of stream)
    (IsConnected (meaning_of stream)) error.NodeLimit
CannotRun stream refusal.TwoInputs = IsRefused (codes_of stream)
    (IsConnected (meaning_of stream)) error.TwoInputs
CannotRun stream (refusal.TapeTwice node) = IsRefused (codes_of stream)
    (IsConnected (meaning_of stream)) (error.TapeTwice node)
CannotRun stream refusal.Disconnected = IsRefused (codes_of stream)
    (IsConnected (meaning_of stream)) error.Disconnected
CannotRun stream refused = ⊥

-- a graph has no counts of a round, for this reason
abbrev pub CannotBalance : Graph → Refusal → Type 0
CannotBalance graph refusal.CountsTooLarge = round_counts graph ≡ Err unbalanced.CountsTooLarge
CannotBalance graph (refusal.Inconsistent channel) =
    round_counts graph ≡ Err (unbalanced.Inconsistent channel)
CannotBalance graph refused = ⊥

-- a graph has no start-up counts, for this reason
abbrev pub CannotStart : Graph → Refusal → Type 0
CannotStart graph refusal.StartupUnbounded = IsUnbounded graph
CannotStart graph refused = ⊥

-- a graph whose nodes are to fire so often has no schedule, for this reason
abbrev pub CannotSchedule : Graph → (startup round : List ℕ) → Refusal → Type 0
CannotSchedule graph startup round (refusal.Deadlock in_startup) =
    IsDeadlocked graph startup round in_startup
CannotSchedule graph startup round (refusal.BufferLimit channel) =
    Overflows graph startup round channel
CannotSchedule graph startup round refused = ⊥

-- a graph and its schedule can't be split among so many copies of a node, for this reason
abbrev pub CannotSplit : Graph → (round : List ℕ) → ScheduleParts → (ways : ℕ) → Refusal → Type 0
CannotSplit graph round schedule ways refusal.NodeLimit = HasTooManyParts graph round ways
CannotSplit graph round schedule ways (refusal.BufferLimit channel) =
    OverflowsSplit graph round schedule ways channel
CannotSplit graph round schedule ways refused = ⊥

-- and then they can't be fused into lists of at most so many entries, for this reason
abbrev pub CannotFuse : Graph → (round : List ℕ) → ScheduleParts → (ways threshold : ℕ) → Refusal
    → Type 0
CannotFuse graph round schedule ways threshold (refusal.BufferLimit channel) =
    OverflowsFused graph round schedule ways threshold channel
CannotFuse graph round schedule ways threshold refused = ⊥

-- one of the two, where a refusal is answered; out of memory says nothing of the graph
abbrev pub IsUntransformed : Graph → (round : List ℕ) → ScheduleParts → (ways threshold : ℕ)
    → Refusal → Type 0
IsUntransformed graph round schedule ways threshold refusal.NoMemory = Unit {0}
IsUntransformed graph round schedule ways threshold refused =
    CannotSplit graph round schedule ways refused
    ⊎ CannotFuse graph round schedule ways threshold refused

-- the first rule that a program breaks
pub data Breaks (program : List Declaration) (choice : Choice) (refused : Refusal) : Type 0
  where
    InElaboration : (broken : ElabError) → elaborated program choice.main ≡ Err broken
        → refused ≡ refusal_of broken → Breaks program choice refused
    InGraph : (stream : Stream) → elaborated program choice.main ≡ Ok stream
        → CannotRun stream refused → Breaks program choice refused
    InRates : (stream : Stream) → elaborated program choice.main ≡ Ok stream → CanRun stream
        → rates_checked 0 (nodes_of stream) ≡ Err refused → Breaks program choice refused
    InBalance : (stream : Stream) (graph : Graph) → elaborated program choice.main ≡ Ok stream
        → CanRun stream
        → rates_checked 0 (nodes_of stream) ≡ Ok tt → IsFlat stream graph
        → CannotBalance graph refused
        → Breaks program choice refused
    InStartup : (stream : Stream) (graph : Graph) (counts : List ℕ)
        → elaborated program choice.main ≡ Ok stream
        → CanRun stream
        → rates_checked 0 (nodes_of stream) ≡ Ok tt → IsFlat stream graph
        → round_counts graph ≡ Ok counts
        → CannotStart graph refused
        → Breaks program choice refused
    InSchedule : (stream : Stream) (graph : Graph) (counts startup : List ℕ)
        → elaborated program choice.main ≡ Ok stream
        → CanRun stream
        → rates_checked 0 (nodes_of stream) ≡ Ok tt → IsFlat stream graph
        → round_counts graph ≡ Ok counts → HasStartup graph startup
        → CannotSchedule graph startup counts refused
        → Breaks program choice refused
    InFission : (stream : Stream) (graph : Graph) (counts startup : List ℕ)
        (schedule : ScheduleParts) → elaborated program choice.main ≡ Ok stream
        → CanRun stream
        → rates_checked 0 (nodes_of stream) ≡ Ok tt → IsFlat stream graph
        → round_counts graph ≡ Ok counts → HasStartup graph startup
        → HasSchedule graph startup counts schedule
        → graph.outer_loops ≡ outer_loops 0 stream
        → CannotSplit graph counts schedule choice.ways refused
        → Breaks program choice refused
    InFusion : (stream : Stream) (graph : Graph) (counts startup : List ℕ)
        (schedule : ScheduleParts) → elaborated program choice.main ≡ Ok stream
        → CanRun stream
        → rates_checked 0 (nodes_of stream) ≡ Ok tt → IsFlat stream graph
        → round_counts graph ≡ Ok counts → HasStartup graph startup
        → HasSchedule graph startup counts schedule
        → graph.outer_loops ≡ outer_loops 0 stream
        → CannotFuse graph counts schedule choice.ways choice.fuse refused
        → Breaks program choice refused

-- the text spells a program that breaks this rule
abbrev pub BreaksRule : List ℕ → Choice → Refusal → Type 0
BreaksRule text choice refused = (program : List Declaration) × Spells text program
    × Breaks program choice refused

-- the text is refused so: it can't be read, or it breaks a rule
abbrev pub Refuses : List ℕ → Choice → Refusal → Type 0
Refuses text choice refused = IsUnreadable text refused ⊎ BreaksRule text choice refused

-- no positive counts balance the flat graph of the text's main stream (Lee and Messerschmitt 1987)
pub record HasNoBalance (text : List ℕ) (choice : Choice) : Type 0 where
  pub program : List Declaration
  pub spells : Spells text program
  pub stream : Stream
  pub elaborates : elaborated program choice.main ≡ Ok stream
  pub graph : Graph
  pub flat : IsFlat stream graph
  pub none : (counts : List ℕ) → ¬ Balances (size_of graph) (equations_of graph) counts

-- a refusal that was answered is the text's, and an inconsistent graph has no rounds at all; out of
-- memory says nothing of the text
abbrev pub IsTrueOf : List ℕ → Choice → Refusal → Type 0
IsTrueOf text choice refusal.NoMemory = Unit {0}
IsTrueOf text choice (refusal.Inconsistent channel) =
    Refuses text choice (refusal.Inconsistent channel) × HasNoBalance text choice
IsTrueOf text choice refused = Refuses text choice refused

-- a refusal that was answered before there is a program is the text's
abbrev pub IsReadRefusal : List ℕ → Refusal → Type 0
IsReadRefusal text refusal.NoMemory = Unit {0}
IsReadRefusal text refused = IsUnreadable text refused
