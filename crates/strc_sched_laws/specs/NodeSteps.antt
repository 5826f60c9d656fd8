-- What a firing of a node over the rings at its ports comes to, against its firing over queues.
use Rattle.std.specs.Prelude.{◌≡◌, ℕ, ◌<◌, Bool, true, false, cond, leb, ltb, ℤ, List, [], length}
use Rattle.std.specs.Prelude.{take, drop, Option, Some, None}
use Rattle.strc_elab_dataflow.specs.Histories.{all_below}
use Rattle.strc_elab_dataflow.specs.Node.{ByPort}
use Rattle.strc_elab_dataflow.specs.Node as generic
use Rattle.strc_work_meaning.specs.declared.fault.Cause.{Cause}
use Rattle.strc_work_meaning.specs.declared.word.Word.{Word}
use Rattle.strc_elab_graph.specs.Carriers.{carries_in}
use Rattle.strc_elab_graph.specs.Graphs.{NodeCode, Copy, original, reads_input}
use Rattle.strc_elab_graph.specs.Meaning.{node_fired, ports_in}
use Rattle.strc_elab_graph.specs.Rates.{window_at, pops_at}
use Rattle.strc_sched_laws.specs.Rings.{Ring, ring_at, at_port, items_at, shortened, extended}
use Rattle.strc_sched_laws.specs.Steps as steps
use Rattle.strc_sched_laws.specs.Steps.{Step, node_step}

-- whether queues hold a firing's windows, and what it sees of them
abbrev pub finds_in : NodeCode → (firing : ℕ) → (queue : ByPort) → Bool
finds_in code firing queue =
    all_below (ports_in code) (λ port. leb (window_at code firing port) (length (queue port)))

abbrev pub sees_of : NodeCode → (firing : ℕ) → (queue : ByPort) → ByPort
sees_of code firing queue port = cond (ltb port (ports_in code))
    (take (window_at code firing port) (queue port)) []

module _ (inputs outputs : List (Option ℕ)) where
  -- each ring at a port is one of so many, and is at no other port
  pub record ArePlaced (count : ℕ) : Type 0 where
    pub inner : (port number : ℕ) → at_port inputs port ≡ Some number → number < count
    pub outer : (port number : ℕ) → at_port outputs port ≡ Some number → number < count
    pub one_input : (port other number : ℕ) → at_port inputs port ≡ Some number
        → at_port inputs other ≡ Some number → port ≡ other
    pub one_output : (port other number : ℕ) → at_port outputs port ≡ Some number
        → at_port outputs other ≡ Some number → port ≡ other
    pub apart : (port other number : ℕ) → at_port inputs port ≡ Some number
        → at_port outputs other ≡ Some number → ⊥

  -- so many items have left the ring at each input port, these have joined the ring at each output
  -- port, and no other ring has changed
  pub record Moves (pops : ℕ → ℕ) (pushes : ByPort) (rings after : List Ring) : Type 0 where
    pub each : length after ≡ length rings
    pub takes : (port number : ℕ) → at_port inputs port ≡ Some number
        → ring_at after number ≡ shortened (pops port) (ring_at rings number)
    pub gives : (port number : ℕ) → at_port outputs port ≡ Some number
        → ring_at after number ≡ extended (pushes port) (ring_at rings number)
    pub stays : (number : ℕ) → ((port : ℕ) → at_port inputs port ≡ Some number → ⊥)
        → ((port : ℕ) → at_port outputs port ≡ Some number → ⊥)
        → ring_at after number ≡ ring_at rings number

  -- a firing over queues, where it finds its windows, is a step over rings; else the step stays
  abbrev pub Matches : (pops : ℕ → ℕ) → (rings : List Ring) → (found : Bool)
      → generic.Fired (List ℤ) Cause Word → Step → Type 0
  Matches pops rings false fired steps.Stays = Unit {0}
  Matches pops rings true (generic.Fired.Fires state pushes words)
      (steps.Goes fields after printed) =
      (fields ≡ state) × (printed ≡ words) × Moves pops pushes rings after
  Matches pops rings true (generic.Fired.Faults cause) (steps.Faults own) = own ≡ cause
  Matches _ _ _ _ _ = ⊥

-- the ring at each port that carries items holds its queue, and none is at another port
pub record Shows (inputs : List (Option ℕ)) (rings : List Ring) (queue : ByPort)
    (code : NodeCode) : Type 0 where
  pub holds : (port : ℕ) → carries_in code port ≡ true
      → items_at rings (at_port inputs port) ≡ queue port
  pub empty : (port : ℕ) → carries_in code port ≡ false → at_port inputs port ≡ None

-- what a reader reads is what is left of the program's input
abbrev pub Reads : (queue : ByPort) → NodeCode → (firing : ℕ) → (input : List ℤ) → Type 0
Reads queue code firing input = reads_input code ≡ true → queue 0 ≡ drop firing input

-- a copy's window is that of what it copies
abbrev pub HasOwnWindow : NodeCode → (firing : ℕ) → Type 0
HasOwnWindow (Copy copied fission) firing = fission.window ≡ window_at (original copied) firing 0
HasOwnWindow code firing = Unit {0}

-- A step of any node over rings that hold its queues is its firing over them: it finds its windows
-- where they hold them; it leaves the fields, gives the words, takes the items and joins those
-- pushed, as the firing does; or it faults as that does.
abbrev pub NodesStepAlike : Type 0
NodesStepAlike =
    (code : NodeCode) (firing : ℕ) (fields input : List ℤ) (inputs outputs : List (Option ℕ))
    (rings : List Ring) (queue : ByPort)
    → ArePlaced inputs outputs (length rings) → Shows inputs rings queue code
    → Reads queue code firing input → HasOwnWindow code firing
    → Matches inputs outputs (pops_at code firing) rings (finds_in code firing queue)
    (node_fired code firing fields (sees_of code firing queue))
    (node_step code firing fields inputs outputs input rings)
