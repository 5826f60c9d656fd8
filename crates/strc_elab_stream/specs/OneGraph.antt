-- A stream has one flat graph.
use Rattle.std.specs.Prelude.{◌≡◌}
use Rattle.strc_elab_graph.specs.Graphs.{Graph}
use Rattle.strc_elab_stream.specs.Flattening.{IsFlat}
use Rattle.strc_elab_stream.specs.Instances.{Stream}

abbrev pub HasOneGraph : Type 0
HasOneGraph =
    (stream : Stream) (one other : Graph)
    → IsFlat stream one → IsFlat stream other
    → (one.nodes ≡ other.nodes) × (one.channels ≡ other.channels)
