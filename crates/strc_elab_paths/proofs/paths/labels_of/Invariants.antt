use Rattle.std.proofs.Common.{◌≡◌, ◌++◌, drop, map}
use Rattle.strc_elab_paths.specs.Paths as spec
use Rattle.strc_elab_paths.proofs.paths.labels_of.Given as goal

-- the labels so far and those of the parts left are all
abbrev pub invariant-loop-part : goal.invariant-loop-part
invariant-loop-part l =
    map (λ l. l.items) l.labels.items ++ spec.labels_of (drop l.part-index l.parts)
    ≡ spec.labels_of l.parts
