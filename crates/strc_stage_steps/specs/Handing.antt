-- What nodes keep, handed on one after another to the nodes after fission.
use Rattle.std.specs.Prelude.{◌≡◌, ◌⊎◌, ℕ, ◌<◌, ◌≤◌, false, ℤ, List, [], length, Some}
use Rattle.std.specs.Prelude.{slice_get, slice_set, Bool, Option, None, if◌then◌else◌}
use Rattle.circular_buffer.specs.Buffer.{buffer}
use Rattle.strc_elab_graph.specs.Graphs.{NodeCode, Channel}
use Rattle.strc_sched_laws.specs.Machine.{CircuitView, MachineView}
use Rattle.strc_sched_laws.specs.Rings.{at_port, extended, items_at, ring_at}
use Rattle.strc_sched_laws.specs.Wiring.{ports_at}
use Rattle.strc_sched_machine.specs.Keeping.{HasPlace, kept_at}
use Rattle.strc_sched_machine.specs.Running.{with_rings}
use Rattle.strc_fiss.specs.declared.split.Origin.{Origin}
use Rattle.strc_stage_plan.specs.Named.{old_node}
use Rattle.strc_stage_steps.specs.Origins.{IsWhole, is_inside}

-- as many nodes
pub record AsMany (one other : MachineView) : Type 0 where
  pub fields : length one.fields ≡ length other.fields
  pub fired : length one.fired ≡ length other.fired
  pub words : length one.words ≡ length other.words

-- of these nodes the first so many that aren't split have what their origins had
pub record HasHanded (nodes : List NodeCode) (origins : List Origin) (count : ℕ)
    (before after : MachineView) (left given : MachineView) : Type 0 where
  pub handed : (number : ℕ) → number < count → IsWhole nodes number
      → kept_at given number ≡ kept_at before (old_node origins number)
  pub others : (number : ℕ) → (count ≤ number) ⊎ (¬ IsWhole nodes number)
      → kept_at given number ≡ kept_at after number
  pub kept : (number : ℕ) → count ≤ number → IsWhole nodes number
      → kept_at left (old_node origins number) ≡ kept_at before (old_node origins number)
  pub rings : given.rings ≡ after.rings
  pub left_rings : left.rings ≡ before.rings
  pub many : AsMany given after
  pub left_many : AsMany left before

-- a machine has places for so many nodes, and another one for their origins
pub record HavePlaces (count : ℕ) (origins : List Origin) (before after : MachineView) : Type 0
  where
    pub new : (number : ℕ) → number < count → HasPlace after number
    pub old : (number : ℕ) → number < count → HasPlace before (old_node origins number)

-- a ring has these items, as many as it has room for, in place of its own
abbrev pub with_items : (number : ℕ) → List ℤ → MachineView → MachineView
with_items number items machine = with_rings (slice_set machine.rings number
    (extended items (buffer [] (ring_at machine.rings number).capacity))) machine

-- whether a node, where there is one, is one at which only channels between parts end
abbrev pub maybe_inside : Option NodeCode → Bool
maybe_inside (Some code) = is_inside code
maybe_inside None = false

module _ (circuit : CircuitView) (nodes : List NodeCode) (origins : List Origin) where
  -- the ring before fission of a channel after it; one between parts has none
  abbrev pub ring_before : Channel → Option ℕ
  ring_before channel = if maybe_inside (slice_get nodes channel.target.node) then None
      else at_port (ports_at circuit.inputs (old_node origins channel.target.node))
      channel.target.port

  -- the items that go there
  abbrev pub items_before : MachineView → Channel → List ℤ
  items_before machine channel = items_at machine.rings (ring_before channel)

-- the rings of the first so many channels have these items, as many as they have room for
pub record HasFilled (items : Channel → List ℤ) (channels : List Channel) (count : ℕ)
    (before after : MachineView) : Type 0 where
  pub filled : (number : ℕ) (channel : Channel) → number < count
      → slice_get channels number ≡ Some channel
      → ring_at after.rings number
      ≡ extended (items channel) (buffer [] (ring_at before.rings number).capacity)
  pub others : (number : ℕ) → count ≤ number
      → ring_at after.rings number ≡ ring_at before.rings number
  pub each : length after.rings ≡ length before.rings
  pub fields : after.fields ≡ before.fields
  pub fired : after.fired ≡ before.fired
  pub words : after.words ≡ before.words
