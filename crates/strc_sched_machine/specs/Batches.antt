-- What is known once about the units of an order.
use Rattle.std.specs.Prelude.{◌≡◌, ◌≢◌, ℕ, ◌<◌, nat_lt, List, [], ◌∷◌, ◌++◌, All, filter, length}
use Rattle.std.specs.Prelude.{Option, Some, slice_get}
use Rattle.strc_elab_graph.specs.Graphs.{NodeCode}
use Rattle.strc_sched_orders.specs.declared.unit as units
use Rattle.strc_sched_orders.specs.Greedy.{firings_of}
use Rattle.strc_sched_orders.specs.Order.{repeated}
use Rattle.strc_sched_laws.specs.Machine.{CircuitView}
use Rattle.strc_sched_laws.specs.Rings.{at_port}
use Rattle.strc_sched_laws.specs.Wiring.{ports_at}
use Rattle.strc_sched_rings.specs.Apart.{AreApart}
use Rattle.strc_sched_filters.specs.Identities.{PassesItems}
use Rattle.strc_sched_machine.specs.declared.batches.Kind.{Kind}
use Rattle.strc_sched_machine.specs.declared.batches.Kind.TheVariants as kind
use Rattle.strc_sched_machine.specs.declared.batches.Batch.{Batch}
use Rattle.strc_sched_machine.specs.declared.batches.BatchList.{BatchList}
use Rattle.strc_sched_machine.specs.declared.batches.Order.{Order}

-- a node is of a kind, by the rings at its ports
abbrev pub FitsKind : NodeCode → (inputs outputs : List (Option ℕ)) → Kind → Type 0
FitsKind code inputs outputs (kind.Identity from to) =
    PassesItems code × (at_port inputs 0 ≡ Some from) × (at_port outputs 0 ≡ Some to)
    × (from ≢ to)
FitsKind code inputs outputs kind.Dealer = AreApart inputs outputs
FitsKind code inputs outputs kind.Other = Unit {0}

-- an identity's is one between two rings, or nothing is known of it
abbrev pub IsKindBetween : (input output : Option ℕ) → Kind → Type 0
IsKindBetween input output (kind.Identity from to) =
    (input ≡ Some from) × (output ≡ Some to) × (from ≢ to)
IsKindBetween input output kind.Dealer = ⊥
IsKindBetween input output kind.Other = Unit {0}

-- a batch's node is there, and what it says of it is so
pub record IsBatch (circuit : CircuitView) (batch : Batch) : Type 0 where
  pub node : batch.node < length circuit.codes
  pub input : batch.input ≡ at_port (ports_at circuit.inputs batch.node) 0
  pub output : batch.output ≡ at_port (ports_at circuit.outputs batch.node) 0
  pub kind : (code : NodeCode) → slice_get circuit.codes batch.node ≡ Some code
      → FitsKind code (ports_at circuit.inputs batch.node) (ports_at circuit.outputs batch.node)
      batch.kind

-- the nodes of a list that a circuit has
abbrev pub in_circuit : CircuitView → List ℕ → List ℕ
in_circuit circuit nodes = filter (λ node. nat_lt node (length circuit.codes)) nodes

-- the firings of batches, one batch after another
abbrev pub batch_firings : List Batch → List ℕ
batch_firings [] = []
batch_firings (batch ∷ batches) = repeated batch.turns (batch.node ∷ []) ++ batch_firings batches

-- the firings of a list of them, all of them as often as it has turns
abbrev pub list_firings : BatchList → List ℕ
list_firings list = repeated list.turns (batch_firings list.batches.items)

-- the firings of lists, one list after another
abbrev pub all_firings : List BatchList → List ℕ
all_firings [] = []
all_firings (list ∷ later) = list_firings list ++ all_firings later

-- a list's are batches of a circuit
abbrev pub AreBatches : CircuitView → BatchList → Type 0
AreBatches circuit list = All (IsBatch circuit) list.batches.items

-- the units of an order
abbrev pub units_of : Order → List units.Unit.Unit
units_of order = order.units.items

-- it is one for this circuit: its batches are the firings of its units, but for those of nodes that
-- the circuit lacks
pub record IsOrderOf (circuit : CircuitView) (order : Order) : Type 0 where
  pub batches : All (AreBatches circuit) order.lists.items
  pub firings : all_firings order.lists.items ≡ in_circuit circuit (firings_of (units_of order))
