-- Nodes that only pass items on.
use Rattle.strc_elab_graph.specs.Graphs as graphs
use Rattle.strc_elab_graph.specs.Graphs.{NodeCode}

-- a node is no filter, and none of a filter's fission
abbrev pub PassesOn : NodeCode → Type 0
PassesOn graphs.Identity = Unit {0}
PassesOn (graphs.FileReader text) = Unit {0}
PassesOn (graphs.FileWriter text) = Unit {0}
PassesOn (graphs.Splitter splitter) = Unit {0}
PassesOn (graphs.Joiner weights) = Unit {0}
PassesOn code = ⊥
