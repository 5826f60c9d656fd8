use Rattle.std.proofs.Common.{◌≡◌, ◌++◌, drop, map}
use Rattle.strc_cli_places.specs.Additions.{addition_view}
use Rattle.strc_cli_places.specs.Streams.{additions_in_block}
use Rattle.strc_cli_places.proofs.recursion.+additions.Given as goal

abbrev pub invariant-add_block-loop-statement : goal.invariant-add_block-loop-statement
invariant-add_block-loop-statement l = map addition_view l.additions.items
    ++ additions_in_block (drop l.statement-index l.block)
    ≡ map addition_view l.initial.additions.items ++ additions_in_block l.block
