-- A firing of a node that only passes items on does in C what the node means.
use Rattle.std.specs.Prelude.{◌≡◌, ℕ, ◌+◌, ◌<◌, ◌≤◌, ◌^◌, ℤ, pos, true, List, [], ◌∷◌, ◌++◌, length}
use Rattle.std.specs.Prelude.{Some, Ok, slice_index_or}
use Rattle.strc_work_meaning.specs.declared.fault.Cause.{Cause}
use Rattle.strc_work_meaning.specs.declared.word.Word.{Word}
use Rattle.strc_elab_dataflow.specs.Node.{ByPort, Fired, Fired.Fires, Fired.Faults}
use Rattle.strc_elab_graph.specs.Carriers.{carries_in}
use Rattle.strc_elab_graph.specs.Graphs.{NodeCode}
use Rattle.strc_elab_graph.specs.Graphs as graphs
use Rattle.strc_elab_graph.specs.Meaning.{node_fired, ports_in}
use Rattle.strc_elab_graph.specs.Rates.{window_at}
use Rattle.strc_emit_c.specs.Meaning.{Cell, Item, Memory}
use Rattle.strc_emit_moves.specs.declared.places.Network.{Network}
use Rattle.strc_emit_moves.specs.declared.places.Items.{Items}
use Rattle.strc_emit_moves.specs.declared.places.Phase.{Phase}
use Rattle.strc_emit_moves.specs.Places.{taken_at, given_at}
use Rattle.strc_emit_passes.specs.Moves.{node_moves}
use Rattle.strc_emit_passes.specs.Meaning.{Passing, Surroundings, place_value, moves_done}

-- nodes that only pass items on
abbrev pub IsPassing : NodeCode → Type 0
IsPassing graphs.Identity = Unit {0}
IsPassing (graphs.FileReader text) = Unit {0}
IsPassing (graphs.FileWriter text) = Unit {0}
IsPassing (graphs.Splitter splitter) = Unit {0}
IsPassing (graphs.Joiner weights) = Unit {0}
IsPassing _ = ⊥

-- in firing i a node finds the items that it sees from these places on, and has room for what it
-- gives from these on, in other arrays; each port has a channel of its own
pub record FindsItems (network : Network) (phase : Phase) (node : ℕ) (around : Surroundings)
    (i : ℕ) (seen pushes : ByPort) (from to : ℕ → ℕ) (memory : Memory) : Type 0 where
  pub taken_place : (port : ℕ) (items : Items) → taken_at network phase node port ≡ Some items
      → place_value items (pos i) ≡ Ok (pos (from port))
  pub given_place : (port : ℕ) (items : Items) → given_at network phase node port ≡ Some items
      → place_value items (pos i) ≡ Ok (pos (to port))
  pub taken_room : (port : ℕ) (items : Items) → taken_at network phase node port ≡ Some items
      → from port + length (seen port) ≤ around.rooms items.channel
  pub given_room : (port : ℕ) (items : Items) → given_at network phase node port ≡ Some items
      → to port + length (pushes port) ≤ around.rooms items.channel
  pub small : (channel : ℕ) → around.rooms channel < 2 ^ 31
  pub apart : (port other : ℕ) (items others : Items)
      → taken_at network phase node port ≡ Some items
      → given_at network phase node other ≡ Some others → others.channel ≡ items.channel → ⊥
  pub own : (port other : ℕ) (items others : Items)
      → given_at network phase node port ≡ Some items
      → given_at network phase node other ≡ Some others → (port ≡ other → ⊥)
      → items.channel ≡ others.channel → ⊥
  pub finds : (port : ℕ) (items : Items) → taken_at network phase node port ≡ Some items
      → (place : ℕ) → place < length (seen port)
      → memory.cells (Item items.channel (from port + place))
      ≡ slice_index_or (seen port) place (pos 0)

-- a cell is none of the places of what is given
abbrev pub IsNotGiven : Network → Phase → (node : ℕ) → (pushes : ByPort) → (to : ℕ → ℕ) → Cell
    → Type 0
IsNotGiven network phase node pushes to cell =
    (port : ℕ) (items : Items) (place : ℕ) → given_at network phase node port ≡ Some items
    → place < length (pushes port) → cell ≡ Item items.channel (to port + place) → ⊥

-- what is given stands at its places, other cells are as they were, and the words come after those
-- before
pub record HasPassed (network : Network) (phase : Phase) (node : ℕ) (pushes : ByPort)
    (to : ℕ → ℕ) (printed : List Word) (before after : Memory) : Type 0 where
  pub items : (port : ℕ) (items : Items) → given_at network phase node port ≡ Some items
      → (place : ℕ) → place < length (pushes port)
      → after.cells (Item items.channel (to port + place))
      ≡ slice_index_or (pushes port) place (pos 0)
  pub kept : (cell : Cell) → IsNotGiven network phase node pushes to cell
      → after.cells cell ≡ before.cells cell
  pub words : after.words ≡ before.words ++ printed

-- each input port sees as many items as the node looks at; a reader's the next one of the input
abbrev pub SeesWindows : NodeCode → (seen : ByPort) → Type 0
SeesWindows code seen = (port : ℕ) → port < ports_in code
    → length (seen port) ≡ window_at code 0 port

abbrev pub ReadsNext : NodeCode → (seen : ByPort) → (input : List ℤ) → (taken : ℕ) → Type 0
ReadsNext (graphs.FileReader text) seen input taken = (taken < length input)
    × (seen 0 ≡ slice_index_or input taken (pos 0) ∷ [])
ReadsNext _ seen input taken = Unit {0}

-- each input port that carries items has a channel
abbrev pub HasInputs : Network → Phase → (node : ℕ) → NodeCode → Type 0
HasInputs network phase node code = (port : ℕ) → carries_in code port ≡ true
    → (items : Items) × (taken_at network phase node port ≡ Some items)

-- how many numbers of the input a firing takes
abbrev pub numbers_taken : NodeCode → ℕ
numbers_taken (graphs.FileReader text) = 1
numbers_taken _ = 0

-- a firing gives these items and words
abbrev pub GivesBy : Fired (List ℤ) Cause Word → (ByPort → List Word → Type 0) → Type 0
GivesBy (Fires state pushes printed) Says = Says pushes printed
GivesBy (Faults cause) Says = ⊥

-- the moves of a firing do in C what the node means: the items that it gives come to their places,
-- its words are printed, and nothing else is changed
abbrev pub PassingNodesFire : Type 0
PassingNodesFire =
    (network : Network) (phase : Phase) (node : ℕ) (code : NodeCode) (around : Surroundings)
    (i : ℕ) (fields : List ℤ) (seen : ByPort) (from to : ℕ → ℕ) (passing : Passing)
    → IsPassing code → SeesWindows code seen → HasInputs network phase node code
    → ReadsNext code seen around.input passing.taken
    → GivesBy (node_fired code 0 fields seen) (λ pushes printed.
    FindsItems network phase node around i seen pushes from to passing.memory
    → (after : Passing)
    × (moves_done around (pos i) (node_moves network phase node code) passing ≡ Ok after)
    × HasPassed network phase node pushes to printed passing.memory after.memory
    × (after.taken ≡ passing.taken + numbers_taken code))
