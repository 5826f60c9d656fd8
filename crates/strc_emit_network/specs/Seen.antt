-- What a firing sees of its node's queues: its windows, at their fronts.
use Rattle.std.specs.Prelude.{◌≡◌, ℕ, ◌<◌, true, length}
use Rattle.strc_elab_dataflow.specs.Flat as flat
use Rattle.strc_elab_dataflow.specs.Queues.{holds}
use Rattle.strc_elab_graph.specs.Graphs.{NodeCode}
use Rattle.strc_elab_graph.specs.Meaning.{node_meaning, ports_in}
use Rattle.strc_elab_graph.specs.Rates.{window_at}
use Rattle.strc_emit_runs.specs.Orders.{Queues}
use Rattle.strc_emit_runs.specs.PassingSteps.{SeesFronts}
use Rattle.strc_emit_runs.specs.Firings.{seen_at}

-- what is seen is at the fronts of the queues
abbrev pub FrontsAreSeen : Type 0
FrontsAreSeen = (graph : flat.Graph NodeCode) (now : Queues) (node : ℕ)
    → SeesFronts now node (seen_at graph now node)

-- where the queues hold the windows, whole windows are seen
abbrev pub WindowsAreSeen : Type 0
WindowsAreSeen = (graph : flat.Graph NodeCode) (now : Queues) (node : ℕ)
    → holds node_meaning graph node (now.runs node).fired (now.queues node) ≡ true
    → (port : ℕ) → port < ports_in (graph.code node)
    → length (seen_at graph now node port)
    ≡ window_at (graph.code node) (now.runs node).fired port
