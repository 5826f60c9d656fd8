use Rattle.std.proofs.Common.{◌≡◌, drop}
use Rattle.strc_cli_tapes.specs.Parted.{words_of}
use Rattle.strc_cli_tapes.proofs.parted.words_of.Given as goal

abbrev pub invariant-loop-tape : goal.invariant-loop-tape
invariant-loop-tape l = words_of (drop l.tape-index l.tapes) l.node ≡ words_of l.tapes l.node
