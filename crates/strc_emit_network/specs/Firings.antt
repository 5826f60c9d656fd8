-- Each firing of a graph's program goes in C as over queues.
use Rattle.std.specs.Prelude.{◌≡◌, ℕ, true, Some}
use Rattle.strc_elab_dataflow.specs.Flat as flat
use Rattle.strc_elab_dataflow.specs.Queues.{holds}
use Rattle.strc_elab_graph.specs.Graphs.{NodeCode}
use Rattle.strc_elab_graph.specs.Meaning.{node_meaning}
use Rattle.strc_emit_moves.specs.declared.places.Phase.{Phase}
use Rattle.strc_emit_passes.specs.Passing.{ReadsNext}
use Rattle.strc_emit_runs.specs.Running.{Program, Running, code_at}
use Rattle.strc_emit_runs.specs.Orders.{Queues, RunShows, FiringsGo}
use Rattle.strc_emit_runs.specs.Steps.{TakesThere}
use Rattle.strc_emit_runs.specs.Firings.{seen_at}
use Rattle.strc_emit_network.specs.Programs.{count_in, IsProgramOf}

-- what a node's firing takes is there
abbrev pub TakesAreThere : Type 0
TakesAreThere =
    (graph : flat.Graph NodeCode) (program : Program) (when : Phase) (round : ℕ) (times : ℕ → ℕ)
    (now : Queues) (running : Running) (node : ℕ) (code : NodeCode)
    → IsProgramOf graph program when → code_at program node ≡ Some code
    → holds node_meaning graph node (now.runs node).fired (now.queues node) ≡ true
    → RunShows program when round times now running
    → TakesThere graph program when times now node

-- and the program's reader sees the next number of the input
abbrev pub ReadersReadNext : Type 0
ReadersReadNext =
    (graph : flat.Graph NodeCode) (program : Program) (when : Phase) (round : ℕ) (times : ℕ → ℕ)
    (now : Queues) (running : Running) (node : ℕ) (code : NodeCode)
    → IsProgramOf graph program when → code_at program node ≡ Some code
    → holds node_meaning graph node (now.runs node).fired (now.queues node) ≡ true
    → RunShows program when round times now running
    → ReadsNext code (seen_at graph now node) program.input running.taken

-- no node fires more often in a phase than it does there, and each firing goes as over queues
abbrev pub NetworkFirings : Type 0
NetworkFirings =
    (graph : flat.Graph NodeCode) (program : Program) (when : Phase)
    → IsProgramOf graph program when → FiringsGo graph program when (count_in program when)
