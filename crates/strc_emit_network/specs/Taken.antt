-- How many items a round takes of a channel.
use Rattle.std.specs.Prelude.{◌≡◌, ℕ, ◌*◌, Some, slice_get, slice_index}
use Rattle.strc_elab_dataflow.specs.Flat as flat
use Rattle.strc_elab_graph.specs.declared.graph.Channel.{Channel}
use Rattle.strc_elab_graph.specs.Graphs.{NodeCode}
use Rattle.strc_emit_moves.specs.declared.places.Phase.TheVariants as phase
use Rattle.strc_emit_moves.specs.Places.{pops_of}
use Rattle.strc_emit_moves.specs.Rooms.{taken_later}
use Rattle.strc_emit_runs.specs.Running.{Program}
use Rattle.strc_emit_network.specs.Programs.{IsProgramOf}

-- as many in each firing as a node's later ones take
abbrev pub RoundsTake : Type 0
RoundsTake =
    (graph : flat.Graph NodeCode) (program : Program) (number : ℕ) (channel : Channel)
    → IsProgramOf graph program phase.Round
    → slice_get program.network.channels.now number ≡ Some channel
    → taken_later program.network number
    ≡ pops_of program.network.nodes.now channel.target.node 1 channel.target.port
    * slice_index program.network.round.now channel.target.node
