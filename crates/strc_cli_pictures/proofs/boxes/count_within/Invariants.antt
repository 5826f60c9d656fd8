use Rattle.std.proofs.Common.{◌≡◌, ◌≤◌, ◌+◌, drop, min}
use Rattle.strc_cli_pictures.specs.Boxes.{count_within, most}
use Rattle.strc_cli_pictures.proofs.boxes.count_within.Given as goal

-- the nodes so far, and those among the parts left
abbrev pub invariant-loop-part : goal.invariant-loop-part
invariant-loop-part l = record {
  few : l.level ≤ l.part-index;
  held : l.count ≤ most;
  counts : min (l.count + count_within l.level (drop l.part-index l.parts)) most
      ≡ count_within 0 l.parts;
}
