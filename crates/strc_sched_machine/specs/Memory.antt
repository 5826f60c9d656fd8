-- Where a run over rings wants memory: only at a word.
use Rattle.std.specs.Prelude.{◌≡◌, ◌≢◌, ℕ, List, ◌∷◌, ◌++◌, All, Bool, true, false}
use Rattle.std.specs.Prelude.{Option, Some, None, Result, Ok, Err, map, slice_get, slice_index}
use Rattle.std.specs.Vec.{vec_capacity}
use Rattle.strc_work_meaning.specs.Filters.{body_prints}
use Rattle.strc_elab_graph.specs.Graphs as graphs
use Rattle.strc_elab_graph.specs.Graphs.{NodeCode, CopiedCode}
use Rattle.strc_elab_graph.specs.Rates.{body_at}
use Rattle.strc_sched_laws.specs.Machine.{CircuitView, MachineView, Went, next_step, order_run}
use Rattle.strc_sched_rings.specs.Words.{HasNextWord}
use Rattle.strc_sched_machine.specs.declared.machine.Machine.{Machine}
use Rattle.strc_sched_outcome.specs.declared.stop.Stop.{Stop}
use Rattle.strc_sched_outcome.specs.declared.stop.Stop.TheVariants as stop

-- whether a firing of a copy may give words: where the body of what is copied prints
abbrev pub copy_prints : CopiedCode → (firing : ℕ) → Bool
copy_prints (graphs.OfFilter name filter) firing = body_prints (body_at firing) filter
copy_prints graphs.OfIdentity firing = false

-- whether a node's firing, by its number, may give words: a writer's may, and a filter's whose body
-- prints
abbrev pub node_prints : NodeCode → (firing : ℕ) → Bool
node_prints (graphs.Filter name filter) firing = body_prints (body_at firing) filter
node_prints (graphs.Copy copied fission) firing = copy_prints copied firing
node_prints (graphs.FileWriter text) firing = true
node_prints code firing = false

-- the same where there may be no such node
abbrev pub maybe_prints : Option NodeCode → (firing : ℕ) → Bool
maybe_prints None firing = false
maybe_prints (Some code) firing = node_prints code firing

-- the same by the node's number
abbrev pub prints_at : CircuitView → (node firing : ℕ) → Bool
prints_at circuit node firing = maybe_prints (slice_get circuit.codes node) firing

-- the nodes of an order have fired up to one whose next firing has a word to give
pub record ComesToWord (circuit : CircuitView) (order : List ℕ) (before : MachineView) : Type 0
  where
    pub done : List ℕ
    pub node : ℕ
    pub rest : List ℕ
    pub now : MachineView
    pub is : done ++ node ∷ rest ≡ order
    pub went : order_run circuit done before ≡ Went now
    pub next : HasNextWord (prints_at circuit node (slice_index now.fired node))
        (next_step circuit now node)

-- only at such a node can an order want memory
abbrev pub WantsWordOfOrder : CircuitView → (order : List ℕ) → MachineView
    → Result (Unit {0}) Stop → Type 0
WantsWordOfOrder circuit order before (Ok done) = Unit {0}
WantsWordOfOrder circuit order before (Err (stop.Fault node firing cause)) = Unit {0}
WantsWordOfOrder circuit order before (Err stop.NoMemory) = ComesToWord circuit order before

-- no firing of an order's nodes may give words
abbrev pub AreQuiet : CircuitView → (order : List ℕ) → Type 0
AreQuiet circuit order = All (λ node. (firing : ℕ) → prints_at circuit node firing ≡ false) order

-- such an order never wants memory
abbrev pub QuietOrdersWantNoMemory : Type 0
QuietOrdersWantNoMemory = (circuit : CircuitView) (order : List ℕ) (before : MachineView)
    (result : Result (Unit {0}) Stop) → AreQuiet circuit order
    → WantsWordOfOrder circuit order before result → result ≢ Err stop.NoMemory

-- how many words of each node a machine has memory for
abbrev pub word_rooms : Machine → List ℕ
word_rooms machine = map vec_capacity machine.words.items
