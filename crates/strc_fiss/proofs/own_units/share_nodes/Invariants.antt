use Rattle.std.proofs.Common.{◌≡◌, ℕ, cond, drop, eqb, length, get_or}
use Rattle.std.specs.List.{list_any}
use Rattle.strc_fiss.specs.declared.own_units.Naming.TheVariants.{Never, Shared}
use Rattle.strc_fiss.proofs.own_units.share_nodes.Given as goal

abbrev pub invariant-loop-node : goal.invariant-loop-node
invariant-loop-node l =
    (length l.namings ≡ length l.initial.namings)
    × ((node : ℕ) → cond (list_any (eqb node) (drop l.node-index l.nodes)) Shared
    (get_or l.namings node Never)
    ≡ cond (list_any (eqb node) l.nodes) Shared (get_or l.initial.namings node Never))
