-- A piece of the program's input in place of all of it.
use Rattle.std.specs.Prelude.{◌≡◌, ◌≢◌, ℕ, ◌+◌, ◌<◌, ◌≤◌, ◌^◌, ℤ, List, ◌++◌, length, Some}
use Rattle.std.specs.Prelude.{slice_get, slice_index}
use Rattle.strc_work_meaning.specs.declared.word.Word.{Word}
use Rattle.strc_elab_graph.specs.Graphs.{NodeCode, FileReader}
use Rattle.strc_sched_orders.specs.Order.{firing_count}
use Rattle.strc_sched_laws.specs.Machine.{CircuitView, MachineView, Progress, Went, Stopped}
use Rattle.strc_sched_laws.specs.Machine.{order_run, words_at}

-- a circuit with just these items as the program's input
abbrev pub window : (items : List ℤ) → CircuitView → CircuitView
window items circuit = record {
  codes = circuit.codes;
  inputs = circuit.inputs;
  outputs = circuit.outputs;
  input = items;
}

-- a node is the only one that reads the program's input
pub record IsReader (nodes : List NodeCode) (reader : ℕ) : Type 0 where
  pub text : List ℕ
  pub there : slice_get nodes reader ≡ Some (FileReader text)
  pub only : (node : ℕ) (other : List ℕ) → slice_get nodes node ≡ Some (FileReader other)
      → node ≡ reader

-- A machine over what comes after so many items of an input is at the same place as one over the
-- whole input: they have the same fields and rings, the reader's firings are numbered from there
-- on, other nodes' firings have the same numbers, and each node's words are those after the past
-- ones.
pub record IsShifted (reader shift : ℕ) (past : ℕ → List Word) (own whole : MachineView) : Type 0
  where
    pub fields : own.fields ≡ whole.fields
    pub rings : own.rings ≡ whole.rings
    pub each_fired : length own.fired ≡ length whole.fired
    pub reader_there : reader < length own.fired
    pub reads : slice_index whole.fired reader ≡ shift + slice_index own.fired reader
    pub fired : (node : ℕ) → node ≢ reader
        → slice_index whole.fired node ≡ slice_index own.fired node
    pub each_words : length own.words ≡ length whole.words
    pub words : (node : ℕ) → words_at whole.words node ≡ past node ++ words_at own.words node

-- both went on to such machines, the reader of the window having fired so often; or both stopped at
-- the same fault
abbrev pub GoAlike : (reader shift : ℕ) → (past : ℕ → List Word) → (fired : ℕ)
    → (own whole : Progress) → Type 0
GoAlike reader shift past fired (Went own) (Went whole) =
    IsShifted reader shift past own whole × (slice_index own.fired reader ≡ fired)
GoAlike reader shift past fired (Stopped node firing cause) (Stopped other number why) =
    (other ≡ node) × (number ≡ firing) × (why ≡ cause)
GoAlike _ _ _ _ _ _ = ⊥

-- An order goes over a window that holds what its reader reads as over the whole input.
abbrev pub WindowsGoAlike : Type 0
WindowsGoAlike =
    (circuit : CircuitView) (order : List ℕ) (reader : ℕ) (before items after : List ℤ)
    (past : ℕ → List Word) (own whole : MachineView)
    → IsReader circuit.codes reader
    → length before + length items < 2 ^ 64
    → IsShifted reader (length before) past own whole
    → slice_index own.fired reader + firing_count order reader ≤ length items
    → GoAlike reader (length before) past
    (slice_index own.fired reader + firing_count order reader)
    (order_run (window items circuit) order own)
    (order_run (window (before ++ (items ++ after)) circuit) order whole)
