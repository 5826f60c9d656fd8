use Rattle.std.proofs.Common.{◌≡◌, drop, map}
use Rattle.strc_cli_words.specs.Outs.{has_twice, names_of}
use Rattle.strc_cli_words.proofs.words.has_twice.Given as goal

-- none so far is named again
abbrev pub invariant-loop-place : goal.invariant-loop-place
invariant-loop-place l =
    has_twice (map names_of (drop l.place l.outs)) ≡ has_twice (map names_of l.outs)
