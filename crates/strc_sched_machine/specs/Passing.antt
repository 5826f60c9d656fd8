-- Nodes that keep nothing between firings.
use Rattle.strc_elab_graph.specs.Graphs as graphs
use Rattle.strc_elab_graph.specs.Graphs.{NodeCode}

-- a node that is no filter and no copy
abbrev pub IsPassive : NodeCode → Type 0
IsPassive (graphs.Filter name filter) = ⊥
IsPassive (graphs.Copy copied fission) = ⊥
IsPassive code = Unit {0}

-- nor a writer
abbrev pub IsMover : NodeCode → Type 0
IsMover (graphs.FileWriter text) = ⊥
IsMover code = IsPassive code
