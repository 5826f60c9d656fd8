-- Runs over queues in which no channel ever holds more items than its buffer.
use Rattle.std.specs.Prelude.{◌≡◌, ℕ, ◌<◌, ◌≤◌, ◌^◌, ℤ, List, [], ◌∷◌, length, Some, slice_get}
use Rattle.std.specs.Prelude.{slice_index}
use Rattle.strc_elab_dataflow.specs.Flat as flat
use Rattle.strc_elab_dataflow.specs.Queues.{Fifo, FifoProgress, FifoProgress.FifoWent}
use Rattle.strc_elab_dataflow.specs.Queues.{FifoProgress.FifoStopped, fifo_fire}
use Rattle.strc_work_meaning.specs.declared.fault.Cause.{Cause}
use Rattle.strc_work_meaning.specs.declared.word.Word.{Word}
use Rattle.strc_elab_graph.specs.Graphs.{NodeCode, Channel}
use Rattle.strc_elab_graph.specs.Meaning.{node_meaning}

-- the queues of a graph's nodes
abbrev pub Queues : Type 0
Queues = Fifo (List ℤ) Cause Word

-- no channel holds more items than its buffer, and firings are numbered within 64 bits
pub record FitNow (channels : List Channel) (sizes : List ℕ) (now : Queues) : Type 0 where
  pub items : (number : ℕ) (channel : Channel) → slice_get channels number ≡ Some channel
      → length (now.queues channel.target.node channel.target.port) ≤ slice_index sizes number
  pub firings : (node : ℕ) → (now.runs node).fired < 2 ^ 64

-- so it is after a firing, where that doesn't fault, and then something else holds
abbrev pub FitThen : (Queues → Type 0) → FifoProgress (List ℤ) Cause Word → Type 0
FitThen Later (FifoWent next) = Later next
FitThen Later (FifoStopped stop) = Unit {0}

-- before, between and after the firings of an order
abbrev pub Fit : flat.Graph NodeCode → List Channel → (sizes order : List ℕ) → Queues → Type 0
Fit graph channels sizes [] now = FitNow channels sizes now
Fit graph channels sizes (node ∷ order) now = FitNow channels sizes now
    × FitThen (Fit graph channels sizes order) (fifo_fire node_meaning graph now node)
