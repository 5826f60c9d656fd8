use Rattle.std.proofs.Common.{◌≡◌, ◌++◌, drop}
use Rattle.strc_cli_pictures.specs.Stages.{stage_boxes}
use Rattle.strc_cli_pictures.specs.Lists.{nodes_of}
use Rattle.strc_cli_pictures.proofs.stages.push_stages.Given as goal

-- the text so far and the boxes of the stages left are the whole
abbrev pub invariant-loop-stage : goal.invariant-loop-stage
invariant-loop-stage l =
    l.text.items
    ++ stage_boxes (nodes_of l.counted) l.stage l.first l.units (drop l.stage l.ends)
    ≡ l.fn.text.items ++ stage_boxes (nodes_of l.counted) 0 l.fn.first l.round l.ends
