use Rattle.std.proofs.Common.{◌≡◌, drop}
use Rattle.strc_cli_places.specs.Streams.{child_in_block}
use Rattle.strc_cli_places.proofs.composites.+child.Given as goal

abbrev pub invariant-child_in_block-loop-statement : goal.invariant-child_in_block-loop-statement
invariant-child_in_block-loop-statement l = child_in_block l.at (drop l.statement-index l.block)
    ≡ child_in_block l.at l.block
