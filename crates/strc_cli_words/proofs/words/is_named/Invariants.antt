use Rattle.std.proofs.Common.{◌≡◌, drop, map}
use Rattle.std.specs.List.{list_any}
use Rattle.strc_cli_words.specs.Outs.{names_of, shares_name}
use Rattle.strc_cli_words.proofs.words.is_named.Given as goal

-- none so far names the tape, or the file
abbrev pub invariant-loop-out : goal.invariant-loop-out
invariant-loop-out l =
    list_any (λ names. shares_name names (l.tape, l.file)) (map names_of (drop l.out-index l.outs))
    ≡ list_any (λ names. shares_name names (l.tape, l.file)) (map names_of l.outs)
