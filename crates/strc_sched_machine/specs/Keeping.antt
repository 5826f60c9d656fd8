-- What a machine has of one node.
use Rattle.std.specs.Prelude.{◌≡◌, ℕ, ◌<◌, ℤ, List, [], length, slice_set, slice_index, slice_index_or}
use Rattle.strc_work_meaning.specs.declared.word.Word.{Word}
use Rattle.strc_elab_graph.specs.Graphs.{NodeCode}
use Rattle.strc_sched_laws.specs.Machine.{MachineView, words_at}
use Rattle.strc_sched_machine.specs.Actors.{IsActorOf, fields_of}
use Rattle.strc_sched_machine.specs.declared.actor.Actor.{Actor}
use Rattle.strc_sched_machine.specs.declared.filter.FilterActor.{FilterActor}

-- the values of its fields, how often it has fired, and its words
pub record Kept : Type 0 where
  pub fields : List ℤ
  pub fired : ℕ
  pub words : List Word

abbrev pub kept_at : MachineView → (node : ℕ) → Kept
kept_at machine node = record {
  fields = slice_index_or machine.fields node [];
  fired = slice_index machine.fired node;
  words = words_at machine.words node;
}

-- a machine where a node has something else
abbrev pub with_kept : (node : ℕ) → Kept → MachineView → MachineView
with_kept node kept machine = record {
  fields = slice_set machine.fields node kept.fields;
  fired = slice_set machine.fired node kept.fired;
  rings = machine.rings;
  words = slice_set machine.words node kept.words;
}

-- it has a place for a node
pub record HasPlace (machine : MachineView) (node : ℕ) : Type 0 where
  pub fields : node < length machine.fields
  pub fired : node < length machine.fired
  pub words : node < length machine.words

-- a filter keeps what it kept, but for what it has for firings in lanes
pub record KeepsButLanes (before after : FilterActor) : Type 0 where
  pub state : after.state ≡ before.state
  pub frame : after.frame ≡ before.frame
  pub first : after.first ≡ before.first
  pub later : after.later ≡ before.later

-- a node keeps the values of its fields, and what any code keeps
pub record KeepsActor (before after : Actor) : Type 0 where
  pub fields : fields_of after ≡ fields_of before
  pub kept : (code : NodeCode) → IsActorOf code before → IsActorOf code after
