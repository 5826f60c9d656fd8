use Rattle.std.proofs.Common.{◌≡◌, ◌++◌, drop}
use Rattle.strc_cli_pictures.specs.Boxes.{beginning, shown_nodes}
use Rattle.strc_cli_pictures.proofs.boxes.shown_nodes.Given as goal

-- what is shown of the nodes so far, and of those of the parts left
abbrev pub invariant-loop-part : goal.invariant-loop-part
invariant-loop-part l =
    l.shown.items ++ shown_nodes l.depth l.position l.first (drop l.part-index l.parts)
    ≡ shown_nodes l.depth beginning 0 l.parts
