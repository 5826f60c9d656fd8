use Rattle.std.proofs.Common.{◌≡◌, ◌++◌, drop}
use Rattle.strc_cli_pictures.specs.Stages.{unit_boxes}
use Rattle.strc_cli_pictures.proofs.units.push_units.Given as goal

-- the text so far and the boxes of the units left are the whole
abbrev pub invariant-loop-unit : goal.invariant-loop-unit
invariant-loop-unit l =
    l.text.items ++ unit_boxes (drop l.unit-index l.units)
    ≡ l.fn.text.items ++ unit_boxes l.units
