-- The nodes of a graph that is planned can start.
use Rattle.std.proofs.Common.{◌≡◌, get_or}
use Rattle.std.specs.Prelude.{Some, slice_get}
use Rattle.std.proofs.lemmas.Option.{slice_get-get_or}
use Rattle.strc_elab_graph.specs.Graphs as graphs
use Rattle.strc_elab_graph.specs.Graphs.{Graph, NodeCode}
use Rattle.strc_sched_orders.specs.Schedules.{ScheduleParts}
use Rattle.strc_sched_laws.specs.Planned.{IsPlanned}
use Rattle.strc_sched_machine.specs.Actors.{AreStartable, CanStartNode}

pub all_start : (graph : Graph) (schedule : ScheduleParts) → IsPlanned graph schedule
    → AreStartable graph.nodes
all_start graph schedule planned number code less =
    by_code (get_or graph.nodes number code) (slice_get-get_or graph.nodes number code less)
  where
    by_code : (own : NodeCode) → slice_get graph.nodes number ≡ Some own → CanStartNode own
    by_code (graphs.Filter name filter) there = planned.starts filter (number, name, there)
    by_code graphs.Identity there = tt
    by_code (graphs.FileReader text) there = tt
    by_code (graphs.FileWriter text) there = tt
    by_code (graphs.Splitter splitter) there = tt
    by_code (graphs.Joiner weights) there = tt
    by_code (graphs.Scatter fission) there = tt
    by_code (graphs.Copy copied fission) there =
        let alone = planned.unfissioned number (graphs.Copy copied fission) there in absurd (cc)
    by_code (graphs.Gather fission) there = tt
