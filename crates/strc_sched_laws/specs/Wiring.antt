-- Which ring is at each port of a graph's nodes.
use Rattle.std.specs.Prelude.{◌≡◌, ℕ, ◌<◌, List, [], Option, Some, None, length, map, slice_get}
use Rattle.std.specs.Prelude.{slice_index_or, replicate}
use Rattle.strc_elab_graph.specs.declared.graph.Port.{Port}
use Rattle.strc_sched_laws.specs.Rings.{at_port}

-- for each port of each node the number of the ring that is there
abbrev pub PortRings : Type 0
PortRings = List (List (Option ℕ))

-- the rings at a node's ports
abbrev pub ports_at : PortRings → (node : ℕ) → List (Option ℕ)
ports_at rings node = slice_index_or rings node []

-- no ring is at any of so many ports of each node
abbrev pub unwired : (counts : List ℕ) → PortRings
unwired counts = map (λ count. replicate count None) counts

-- nodes have a port
pub record HasPort (counts : List ℕ) (end : Port) : Type 0 where
  pub node : end.node < length counts
  pub port : end.port < slice_index_or counts end.node 0

-- the ring of each channel is where the channel has its end, where no other one does, and no
-- other ring is anywhere
pub record IsWired (ends : List Port) (rings : PortRings) : Type 0 where
  pub sound : (node port number : ℕ) → at_port (ports_at rings node) port ≡ Some number
      → slice_get ends number ≡ Some (record { node = node; port = port })
  pub complete : (number : ℕ) (end : Port) → slice_get ends number ≡ Some end
      → (other : ℕ) × (at_port (ports_at rings end.node) end.port ≡ Some other)
