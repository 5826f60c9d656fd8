use Rattle.std.proofs.Common.{◌≡◌, ◌++◌, length}
use Rattle.strc_cli_pictures.specs.Boxes.{beginning, part_lines}
use Rattle.strc_cli_pictures.specs.Lists.{nodes_of}
use Rattle.strc_cli_pictures.proofs.boxes.push_parts.Given as goal

-- the text so far and the lines of the parts left are the whole
abbrev pub invariant-loop-part : goal.invariant-loop-part
invariant-loop-part l =
    l.text.items ++ part_lines (nodes_of l.counted) l.depth l.position l.rest
    ≡ l.fn.text.items ++ part_lines (nodes_of l.counted) l.depth beginning l.parts

abbrev pub decreases-loop-part : goal.decreases-loop-part
decreases-loop-part l = length l.rest
