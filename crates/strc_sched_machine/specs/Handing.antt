-- Items in hand: pushed by a firing, and not yet on the ring that they are to join.
use Rattle.std.specs.Prelude.{◌≡◌, ℕ, ◌<◌, ◌≤◌, ℤ, List, [], length, take, Bool, IfSome}
use Rattle.std.specs.Prelude.{Option, Some, None, Result, Ok, Err}
use Rattle.strc_work_meaning.specs.declared.fault.Halt.{Halt}
use Rattle.strc_work_meaning.specs.declared.word.Word.{Word}
use Rattle.strc_sched_laws.specs.Machine.{MachineView}
use Rattle.strc_sched_laws.specs.Rings.{Ring, given, ring_at}
use Rattle.strc_sched_laws.specs.Steps.{Step}
use Rattle.strc_sched_rings.specs.Answers.{HasStepped}
use Rattle.strc_sched_machine.specs.Running.{HasDone, machine_view, with_rings}
use Rattle.strc_sched_machine.specs.declared.forwarded_items.Held.{Held}
use Rattle.strc_sched_machine.specs.declared.machine.Machine.{Machine}

-- the rings as they are once what is in hand has joined its own
abbrev pub with_held : Held → (items : List ℤ) → List Ring → List Ring
with_held held items rings = given held.port (take held.count items) rings

-- a machine as if it had
abbrev pub held_view : Held → Machine → MachineView
held_view held machine =
    with_rings (with_held held machine.items.items machine.rings.items) (machine_view machine)

-- what is in hand is there, and so is the ring that it is to join
pub record IsHeld (items : List ℤ) (rings : List Ring) (held : Held) : Type 0 where
  pub port : IfSome held.port (λ number. number < length rings)
  pub count : held.count ≤ length items

-- it is all that is to be found at a port: the ring there is empty, and has room for it
pub record IsAllAt (port : Option ℕ) (rings : List Ring) (held : Held) : Type 0 where
  pub ring : ℕ
  pub here : port ≡ Some ring
  pub own : held.port ≡ Some ring
  pub empty : (ring_at rings ring).items ≡ []
  pub room : held.count ≤ (ring_at rings ring).capacity

-- an answer tells what a filter's step that could be done by hand left, or that it couldn't be, and
-- all stayed
abbrev pub HasSteppedByHand : Step → Result (Option Bool) Halt → (fields_before fields : List ℤ)
    → (rings_before rings : List Ring) → (words_before words : List Word) → Type 0
HasSteppedByHand step (Ok None) fields_before fields rings_before rings words_before words =
    (fields ≡ fields_before) × (rings ≡ rings_before) × (words ≡ words_before)
HasSteppedByHand step (Ok (Some found)) fields_before fields rings_before rings words_before words =
    HasStepped step (Ok found) fields_before fields rings_before rings words_before words
HasSteppedByHand step (Err halt) fields_before fields rings_before rings words_before words =
    HasStepped step (Err halt) fields_before fields rings_before rings words_before words

-- the same of a node's step, of the machine
abbrev pub HasDoneByHand : Step → (node : ℕ) → Result (Option Bool) Halt
    → (before after : MachineView) → Type 0
HasDoneByHand step node (Ok None) before after = after ≡ before
HasDoneByHand step node (Ok (Some found)) before after = HasDone step node (Ok found) before after
HasDoneByHand step node (Err halt) before after = HasDone step node (Err halt) before after
