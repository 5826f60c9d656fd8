use Rattle.std.proofs.Common.{◌≡◌, ◌++◌, drop}
use Rattle.strc_stage_cut.specs.Links.{blocks_in}
use Rattle.strc_stage_cut.proofs.links.blocks.Given as goal

abbrev pub invariant-loop-number : goal.invariant-loop-number
invariant-loop-number l =
    l.blocks.items ++ blocks_in l.stage (drop l.number l.links) ≡ blocks_in l.stage l.links
