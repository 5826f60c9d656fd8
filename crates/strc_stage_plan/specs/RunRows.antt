-- Worked rows: two rounds before fission and after it, of a reader, a filter that is split in two
-- ways with two firings each, and a writer.
use Rattle.std.specs.Prelude.{◌≡◌, ℕ, ℤ, pos, negsuc, List, [], ◌∷◌, Option, Some, None}
use Rattle.strc_elab_dataflow.specs.Answer.{Outcome, Outcome.Done, Outcome.StartupFault}
use Rattle.strc_elab_dataflow.specs.Answer.{Outcome.RoundFault}
use Rattle.strc_elab_dataflow.specs.Flat as flat
use Rattle.strc_elab_dataflow.specs.Machine.{Stop}
use Rattle.strc_elab_dataflow.specs.Queues.{FifoProgress, FifoProgress.FifoWent}
use Rattle.strc_elab_dataflow.specs.Queues.{FifoProgress.FifoStopped, fifo_go, fifo_at_first}
use Rattle.strc_elab_dataflow.specs.Queues.{fifo_rounds, fifo_run}
use Rattle.strc_parse_tree.specs.Tree as tree
use Rattle.strc_parse_tree.specs.declared.tree.BinaryOperator.TheVariants as binary
use Rattle.strc_parse_tree.specs.declared.tree.ItemType.TheVariants as item
use Rattle.strc_parse_tree.specs.declared.tree.RateKind.{RateKind}
use Rattle.strc_parse_tree.specs.declared.tree.RateKind.TheVariants as kind
use Rattle.strc_work_meaning.specs.Filters as filters
use Rattle.strc_work_meaning.specs.declared.fault.Cause.{Cause}
use Rattle.strc_work_meaning.specs.declared.fault.Cause.TheVariants.{DivZero}
use Rattle.strc_work_meaning.specs.declared.word.Word.{Word}
use Rattle.strc_elab_graph.specs.Graphs.{NodeCode, Graph, Filter, FileReader, FileWriter}
use Rattle.strc_elab_graph.specs.Meaning.{node_meaning, line_of}
use Rattle.strc_elab_graph.specs.declared.graph.Fission.{Fission}
use Rattle.strc_sched_laws.specs.DealingRow as dealing
use Rattle.strc_elab_dataflow.specs.FusedUnits.{RoundUnit, firings_of}
use Rattle.strc_elab_dataflow.specs.Pieces.{unit_of}
use Rattle.strc_elab_dataflow.specs.Starting.{state_dealt}
use Rattle.strc_fiss.specs.Numbers.{parts_after}
use Rattle.strc_fiss.specs.Rows as fission
use Rattle.strc_fiss.specs.Splitting.{split_graph}
use Rattle.strc_fiss.specs.Units.{split_units}
use Rattle.strc_fiss.specs.Ways.{fission_of}
use Rattle.strc_stage_plan.specs.Owners.{owner}
use Rattle.strc_stage_plan.specs.Sources.{flat_graph}

abbrev rate_of : RateKind → ℤ → tree.Rate
rate_of kind rate = record { kind = kind; rate = tree.Number rate }

-- `int->int filter { work push 1 pop 1 peek 3 { push(10 / (pop() + peek(1))); } }`
abbrev pub dividing : filters.Filter
dividing = record {
  input = item.Int;
  output = item.Int;
  members = tree.Work
      (rate_of kind.Push (pos 1) ∷ rate_of kind.Pop (pos 1)
      ∷ rate_of kind.Peek (pos 3) ∷ [])
      (tree.row (tree.Push (tree.Binary binary.Divide (tree.Number (pos 10))
      (tree.Binary binary.Add tree.Pop (tree.Peek (tree.Number (pos 1))))) ∷ []))
      ∷ [];
}

module _ (filter : filters.Filter) where
  -- a reader, the filter and a writer
  abbrev pub graph : Graph
  graph = record {
    nodes = FileReader [] ∷ Filter None filter ∷ FileWriter [] ∷ [];
    channels = fission.plain.channels;
    outer_loops = fission.plain.outer_loops;
  }

  abbrev pub share : ℕ → Fission
  share = fission_of graph fission.round 2

  abbrev pub before : flat.Graph NodeCode
  before = flat_graph (FileWriter []) graph

  abbrev pub after : flat.Graph NodeCode
  after = flat_graph (FileWriter []) (split_graph share graph fission.greatest fission.greatest)

  -- two items are read ahead, and then each node fires four times in a round
  abbrev pub startup : List ℕ
  startup = 0 ∷ 0 ∷ []

  abbrev pub units : List RoundUnit
  units = unit_of 4 0 ∷ unit_of 4 1 ∷ unit_of 4 2 ∷ []

  module _ (input : List ℤ) where
    -- start-up and two rounds before fission
    unfoldable pub run_before : Outcome Cause Word
    run_before = fifo_run node_meaning before input (firings_of units) startup 2

    -- two rounds after it, from the state that start-up came to
    unfoldable pub rounds_after : FifoProgress (List ℤ) Cause Word → Outcome Cause Word
    rounds_after (FifoWent started) = fifo_rounds node_meaning after input
        (firings_of (split_units share units)) 2 0
        (state_dealt (parts_after share (λ v. 0)) node_meaning before started
        (λ number. (owner share number).node) (λ number. (owner share number).part))
    rounds_after (FifoStopped stop) = StartupFault stop

    unfoldable pub run_after : Outcome Cause Word
    run_after = rounds_after (fifo_go node_meaning before startup
        (fifo_at_first node_meaning before input))

-- the fault of a round
pub record Fault : Type 0 where
  pub round : ℕ
  pub stop : Stop Cause

unfoldable pub fault_of : Outcome Cause Word → Option Fault
fault_of (Done words) = None
fault_of (StartupFault stop) = None
fault_of (RoundFault round stop words) = Some (record { round = round; stop = stop })

abbrev pub divided_by_zero : (round node firing : ℕ) → Fault
divided_by_zero round node firing = record {
  round = round;
  stop = record { node = node; firing = firing; cause = DivZero };
}

-- the eighth item and the tenth are 0 together
abbrev pub faulty : List ℤ
faulty = pos 1 ∷ pos 2 ∷ pos 3 ∷ pos 4 ∷ pos 5 ∷ pos 6 ∷ pos 7 ∷ pos 8 ∷ pos 9 ∷ negsuc 7 ∷ []

abbrev pub quotients : List Word
quotients = line_of (pos 2) ∷ line_of (pos 1) ∷ line_of (pos 1) ∷ line_of (pos 1) ∷ []

-- The words are the same, and the filter's firing 7 is the last one of its second copy in round 1.
pub record RunRow : Type 0 where
  pub words_before : dealing.written 2 (run_before dealing.peeking dealing.input) ≡ dealing.sums
  pub words_after : dealing.written 5 (run_after dealing.peeking dealing.input) ≡ dealing.sums
  pub fault_before : fault_of (run_before dividing faulty) ≡ Some (divided_by_zero 1 1 7)
  pub fault_after : fault_of (run_after dividing faulty) ≡ Some (divided_by_zero 1 3 3)
  pub earlier_before : dealing.written 2 (run_before dividing faulty) ≡ quotients
  pub earlier_after : dealing.written 5 (run_after dividing faulty) ≡ quotients
