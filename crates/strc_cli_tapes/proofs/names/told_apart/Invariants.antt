use Rattle.std.proofs.Common.{◌≡◌, ◌++◌, [], drop, map, take}
use Rattle.strc_cli_tapes.specs.TapeNames.{told_apart}
use Rattle.strc_cli_tapes.proofs.names.told_apart.Given as goal

-- the tapes so far and those of what is left are all
abbrev pub invariant-loop-place : goal.invariant-loop-place
invariant-loop-place l =
    map (λ it. (it.node, it.name.items)) l.tapes.items
    ++ told_apart (map (λ it. (it.node, it.name.now)) (take l.place l.owns))
    (map (λ it. (it.node, it.name.now)) (drop l.place l.owns))
    ≡ told_apart [] (map (λ it. (it.node, it.name.now)) l.owns)
