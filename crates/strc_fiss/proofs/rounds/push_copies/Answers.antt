use Rattle.std.proofs.Common.{◌∙◌, ap, ℕ, ◌+◌, suc}
use Rattle.strc_fuse.specs.Units.{round_unit, round_units}
use Rattle.strc_elab_dataflow.specs.Pieces.{unit_of}
use Rattle.strc_fiss.proofs.Sequences.{pushed}
use Rattle.strc_fiss.proofs.rounds.push_copies.Goals as goal

pub loop-copy-preserved : goal.loop-copy-preserved
loop-copy-preserved c =
    ap round_units c.in_ok-push.ensures.items
    ∙ pushed round_unit (λ (copy : ℕ). unit_of c.args.share.firings (c.args.number + suc copy))
    (round_units c.args.units.now.items) c.loop-copy.units.items c.loop-copy.copy
    c.in_ok-copy_unit.field-0 c.loop-copy.invariant c.in_ok-copy_unit.ensures
