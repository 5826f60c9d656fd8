use Rattle.std.proofs.Common.{◌≡◌, map}
use Rattle.std.specs.List.{range_with_len}
use Rattle.strc_cli_pictures.specs.Parts.{label_at}
use Rattle.strc_cli_pictures.proofs.parts.labels_after.Given as goal

-- the labels of the nodes so far
abbrev pub invariant-loop-number : goal.invariant-loop-number
invariant-loop-number l =
    map (λ l. l.items) l.after.items
    ≡ map (label_at l.graph.nodes l.origins (map (λ l. l.items) l.labels))
    (range_with_len 0 l.number)
