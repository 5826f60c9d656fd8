use Rattle.std.proofs.Common.{◌≡◌, ℕ, ◌<◌, drop, length, get_or}
use Rattle.strc_fuse.specs.Units.{round_units}
use Rattle.strc_fiss.specs.Namings.{together, naming_of}
use Rattle.strc_fiss.specs.declared.own_units.Naming.TheVariants.{Never}
use Rattle.strc_fiss.proofs.own_units.name_units.Given as goal

abbrev pub invariant-loop-unit : goal.invariant-loop-unit
invariant-loop-unit l =
    (length l.namings ≡ length l.initial.namings)
    × ((node : ℕ) → node < length l.initial.namings
    → together (get_or l.namings node Never)
    (naming_of node (drop l.unit-index (round_units l.round)))
    ≡ together (get_or l.initial.namings node Never) (naming_of node (round_units l.round)))
