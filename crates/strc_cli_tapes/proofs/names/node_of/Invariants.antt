use Rattle.std.proofs.Common.{◌≡◌, drop, map}
use Rattle.strc_cli_tapes.specs.TapeNames.{node_in}
use Rattle.strc_cli_tapes.proofs.names.node_of.Given as goal

-- no tape so far has the name
abbrev pub invariant-loop-tape : goal.invariant-loop-tape
invariant-loop-tape l =
    node_in (map (λ it. (it.node, it.name.items)) (drop l.tape-index l.tapes)) l.name
    ≡ node_in (map (λ it. (it.node, it.name.items)) l.tapes) l.name
