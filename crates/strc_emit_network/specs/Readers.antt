-- The program's reader is a node that takes the program's input.
use Rattle.std.specs.Prelude.{◌≡◌, ℕ, List, Some}
use Rattle.strc_elab_graph.specs.Graphs as graphs
use Rattle.strc_emit_runs.specs.Running.{Program, code_at}
use Rattle.strc_emit_runs.specs.Orders.{reader_from}

abbrev pub ReadersRead : Type 0
ReadersRead =
    (program : Program) (reader : ℕ) → reader_from 0 program.network.nodes.now ≡ Some reader
    → (text : List ℕ) × (code_at program reader ≡ Some (graphs.FileReader text))
