use Rattle.std.proofs.Common.{◌≡◌, ◌++◌, ◌+◌, suc}
use Rattle.strc_fuse.specs.Units.{round_units}
use Rattle.strc_elab_dataflow.specs.Pieces.{unit_of}
use Rattle.strc_fiss.specs.Numbers.{up_to}
use Rattle.strc_fiss.proofs.rounds.push_copies.Given as goal

abbrev pub invariant-loop-copy : goal.invariant-loop-copy
invariant-loop-copy l =
    round_units l.units.items
    ≡ round_units l.fn.units.items
    ++ up_to (λ copy. unit_of l.share.firings (l.number + suc copy)) l.copy
