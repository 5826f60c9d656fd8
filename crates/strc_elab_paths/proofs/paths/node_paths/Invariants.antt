use Rattle.std.proofs.Common.{◌≡◌, ◌++◌, drop, map}
use Rattle.strc_elab_paths.specs.Paths as spec
use Rattle.strc_elab_paths.proofs.paths.node_paths.Given as goal

-- the paths so far and those of the parts left are all
abbrev pub invariant-loop-part : goal.invariant-loop-part
invariant-loop-part l =
    map (λ p. p.items) l.paths.items
    ++ spec.paths_in (map (λ a. a.items) l.around.items) (drop l.part-index l.parts)
    ≡ spec.paths_of l.parts
