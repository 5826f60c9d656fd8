-- The rings of a graph's channels: a queue of bounded size each.
use Rattle.std.specs.Prelude.{◌≡◌, ℕ, zero, suc, ◌-◌, Bool, if◌then◌else◌, ℤ, List, [], ◌∷◌, ◌++◌}
use Rattle.std.specs.Prelude.{length, take, drop, Option, Some, None, slice_get, slice_set}
use Rattle.std.specs.Prelude.{slice_index, slice_index_or}
use Rattle.circular_buffer.specs.Buffer.{Buffer, buffer}
use Rattle.strc_elab_graph.specs.declared.graph.Fission.{Fission}
use Rattle.strc_elab_graph.specs.Graphs.{Channel}
use Rattle.strc_elab_graph.specs.Meaning.{scattered}

-- a ring of each channel, by the channel's number
abbrev pub Ring : Type 0
Ring = Buffer ℤ

abbrev pub ring_at : List Ring → ℕ → Ring
ring_at rings number = slice_index_or rings number (buffer [] 0)

-- the ring at a port, by the rings of a node's ports
abbrev pub at_port : List (Option ℕ) → (port : ℕ) → Option ℕ
at_port ports port = slice_index_or ports port None

-- the items at a port; none where there is no ring
abbrev pub items_at : List Ring → Option ℕ → List ℤ
items_at rings None = []
items_at rings (Some number) = (ring_at rings number).items

-- a ring without its first items
abbrev pub shortened : ℕ → Ring → Ring
shortened count ring = buffer (drop count ring.items) ring.capacity

-- a ring with more items at its end, as many as there is room for
abbrev pub extended : List ℤ → Ring → Ring
extended more ring =
    buffer (ring.items ++ take (ring.capacity - length ring.items) more)
    ring.capacity

-- so many items leave the ring at a port
abbrev pub taken : Option ℕ → (count : ℕ) → List Ring → List Ring
taken None count rings = rings
taken (Some number) count rings = slice_set rings number (shortened count (ring_at rings number))

-- items join the ring at a port
abbrev pub given : Option ℕ → List ℤ → List Ring → List Ring
given None more rings = rings
given (Some number) more rings = slice_set rings number (extended more (ring_at rings number))

-- so many items go from the ring at one port to that at another
abbrev pub moved : (from to : Option ℕ) → (count : ℕ) → List Ring → List Ring
moved from to count rings = given to (take count (items_at rings from)) (taken from count rings)

-- of the items at a port as many go to each other port, in order, as its weight; ports are numbered
-- from one on
abbrev pub dealt_out : (weights : List ℕ) → (from : Option ℕ) → (outputs : List (Option ℕ))
    → (port : ℕ) → List Ring → List Ring
dealt_out [] from outputs port rings = rings
dealt_out (weight ∷ weights) from outputs port rings =
    dealt_out weights from outputs (suc port) (moved from (at_port outputs port) weight rings)

-- items go to each port that carries items
abbrev pub copied_out : (carried : List Bool) → (outputs : List (Option ℕ)) → List ℤ → (port : ℕ)
    → List Ring → List Ring
copied_out [] outputs items port rings = rings
copied_out (carries ∷ carried) outputs items port rings =
    copied_out carried outputs items (suc port)
    (if carries then given (at_port outputs port) items rings else rings)

-- from each port as many items go to another one as its weight
abbrev pub gathered_in : (weights : List ℕ) → (inputs : List (Option ℕ)) → (to : Option ℕ)
    → (port : ℕ) → List Ring → List Ring
gathered_in [] inputs to port rings = rings
gathered_in (weight ∷ weights) inputs to port rings =
    gathered_in weights inputs to (suc port) (moved (at_port inputs port) to weight rings)

-- a scatter's port is given its part of the items at a port, where they all stay
abbrev pub part_given : Fission → (from : Option ℕ) → (outputs : List (Option ℕ)) → (port : ℕ)
    → List Ring → List Ring
part_given fission from outputs port rings =
    given (at_port outputs port) (scattered fission (items_at rings from) port) rings

-- so is each of the first so many ports, one after another
abbrev pub scattered_out : Fission → (from : Option ℕ) → (outputs : List (Option ℕ))
    → (ports : ℕ) → List Ring → List Ring
scattered_out fission from outputs zero rings = rings
scattered_out fission from outputs (suc port) rings =
    part_given fission from outputs port (scattered_out fission from outputs port rings)

-- the ring of a channel before any firing holds its enqueued items
abbrev pub first_ring : Channel → (size : ℕ) → Ring
first_ring channel size = extended channel.enqueued (buffer [] size)

-- one for each channel
pub record AreFirst (channels : List Channel) (sizes : List ℕ) (rings : List Ring) : Type 0 where
  pub each : length rings ≡ length channels
  pub first : (number : ℕ) (channel : Channel) → slice_get channels number ≡ Some channel
      → ring_at rings number ≡ first_ring channel (slice_index sizes number)
