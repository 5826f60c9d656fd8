-- How the machine over rings answers.
use Rattle.std.specs.Prelude.{◌≡◌, ℕ, ℤ, List, [], Bool, true, false, length, map}
use Rattle.std.specs.Prelude.{slice_set, Result, Ok, Err}
use Rattle.std.specs.declared.vec.Vec.{Vec}
use Rattle.std.specs.declared.alloc.Global.{Global}
use Rattle.strc_work_meaning.specs.declared.fault.Halt.{Halt}
use Rattle.strc_work_meaning.specs.declared.fault.Halt.TheVariants as halt
use Rattle.strc_work_meaning.specs.declared.word.Word.{Word}
use Rattle.strc_work_instructions.specs.Running.{MoreWords}
use Rattle.strc_sched_machine.specs.Actors.{AreActors, fields_of}
use Rattle.strc_sched_laws.specs.Machine.{CircuitView, MachineView, Progress, Went, Stopped}
use Rattle.strc_sched_laws.specs.Machine.{words_at, more_words}
use Rattle.strc_sched_laws.specs.Steps.{Step, Stays, Goes, Faults}
use Rattle.strc_sched_rings.specs.Answers.{AreRings}
use Rattle.strc_sched_laws.specs.Rings.{Ring}
use Rattle.strc_sched_laws.specs.Wiring.{PortRings, ports_at}
use Rattle.strc_sched_machine.specs.declared.machine.Machine.{Machine}
use Rattle.strc_sched_outcome.specs.declared.stop.Stop.{Stop}
use Rattle.strc_sched_outcome.specs.declared.stop.Stop.TheVariants as stop

-- the words of each node
abbrev pub words_of : List (Vec Word Global) → List (List Word)
words_of all = map (λ words. words.items) all

-- none of any node
abbrev pub without_words : List (List Word) → List (List Word)
without_words all = map (λ (words : List Word). []) all

abbrev pub machine_view : Machine → MachineView
machine_view machine = record {
  fields = map fields_of machine.actors.items;
  fired = machine.fired.items;
  rings = machine.rings.items;
  words = words_of machine.words.items;
}

-- the same with other rings, with other numbers of firings, or with other words
abbrev pub with_rings : List Ring → MachineView → MachineView
with_rings rings machine = record {
  fields = machine.fields;
  fired = machine.fired;
  rings = rings;
  words = machine.words;
}

abbrev pub with_fired : List ℕ → MachineView → MachineView
with_fired fired machine = record {
  fields = machine.fields;
  fired = fired;
  rings = machine.rings;
  words = machine.words;
}

abbrev pub with_words : List (List Word) → MachineView → MachineView
with_words words machine = record {
  fields = machine.fields;
  fired = machine.fired;
  rings = machine.rings;
  words = words;
}

-- the rings at all ports are some of so many
abbrev pub HoldRings : (count : ℕ) → PortRings → Type 0
HoldRings count rings = (node : ℕ) → AreRings count (ports_at rings node)

-- a machine has a place for each node, and a ring for each port that has one
pub record IsMachine (circuit : CircuitView) (machine : Machine) : Type 0 where
  pub actors : AreActors circuit.codes machine.actors.items
  pub fired : length machine.fired.items ≡ length circuit.codes
  pub words : length machine.words.items ≡ length circuit.codes
  pub input_nodes : length circuit.inputs ≡ length circuit.codes
  pub output_nodes : length circuit.outputs ≡ length circuit.codes
  pub inputs : HoldRings (length machine.rings.items) circuit.inputs
  pub outputs : HoldRings (length machine.rings.items) circuit.outputs

-- the words of each node begin with those before
abbrev pub HaveMoreWords : (before after : List (List Word)) → Type 0
HaveMoreWords before after = (node : ℕ) → MoreWords (words_at before node) (words_at after node)

-- an answer tells what a step of a node left, or its fault; out of memory tells nothing
abbrev pub HasDone : Step → (node : ℕ) → Result Bool Halt → (before after : MachineView) → Type 0
HasDone step node (Ok true) before after =
    (fields : List ℤ) × (more : List Word) × (step ≡ Goes fields after.rings more)
    × (after.fields ≡ slice_set before.fields node fields)
    × (after.words ≡ more_words before.words node more)
HasDone step node (Ok false) before after = (step ≡ Stays) × (after ≡ before)
HasDone step node (Err (halt.Fault cause)) before after =
    (step ≡ Faults cause) × HaveMoreWords before.words after.words
HasDone step node (Err halt.NoMemory) before after = HaveMoreWords before.words after.words

-- an answer tells what firing nodes came to; out of memory tells nothing
abbrev pub HasGone : Progress → Result (Unit {0}) Stop → (before : List (List Word))
    → MachineView → Type 0
HasGone progress (Ok done) before machine =
    (progress ≡ Went machine) × HaveMoreWords before machine.words
HasGone progress (Err (stop.Fault node firing cause)) before machine =
    (progress ≡ Stopped node firing cause) × HaveMoreWords before machine.words
HasGone progress (Err stop.NoMemory) before machine = Unit {0}
