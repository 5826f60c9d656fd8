use Rattle.std.proofs.Common.{◌≡◌, drop}
use Rattle.strc_cli_places.specs.Streams.{part_in_block}
use Rattle.strc_cli_places.proofs.composites.+part.Given as goal

abbrev pub invariant-part_in_block-loop-statement : goal.invariant-part_in_block-loop-statement
invariant-part_in_block-loop-statement l = part_in_block l.part (drop l.statement-index l.block)
    ≡ part_in_block l.part l.block
