use Rattle.std.proofs.Common.{◌≡◌, ◌≤◌, ◌++◌, drop}
use Rattle.strc_stage_cut.specs.Links.{crossings_in}
use Rattle.strc_stage_cut.proofs.links.crossings.Given as goal

abbrev pub invariant-loop-ring : goal.invariant-loop-ring
invariant-loop-ring l = record {
  block : l.block ≤ l.ring;
  crossings : l.crossings.items
      ++ crossings_in l.fn.side l.fn.stage l.block l.ring (drop l.ring l.links)
      ≡ crossings_in l.fn.side l.fn.stage 0 0 l.links;
}
