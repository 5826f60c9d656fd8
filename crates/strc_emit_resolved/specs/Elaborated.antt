-- The filters of a plan of an elaborated stream are resolved.
use Rattle.std.specs.List.{AllByRecursion}
use Rattle.strc_elab.specs.Sound.{IsInstance}
use Rattle.strc_elab_graph.specs.Graphs.{Graph}
use Rattle.strc_elab_stream.specs.Flattening.{nodes_of}
use Rattle.strc_stage_plan.specs.Plans.{IsWhole}
use Rattle.strc_emit_resolved.specs.Programs.{AreResolved}

-- a whole program's filters are resolved where the nodes of its stream are instances, as those of
-- each elaborated stream are
abbrev pub InstancesAreResolved : Type 0
InstancesAreResolved =
    (graph : Graph) (whole : IsWhole graph)
    → AllByRecursion IsInstance (nodes_of whole.stream)
    → AreResolved graph
