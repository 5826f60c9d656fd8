use Rattle.std.proofs.Common.{◌∙◌, ap, map}
use Rattle.strc_fiss.specs.Splitting.{from_copy}
use Rattle.strc_fiss.specs.WireView.{wire_view}
use Rattle.strc_fiss.proofs.Sequences.{pushed}
use Rattle.strc_fiss.proofs.channels.push_from_copies.Goals as goal

pub loop-copy-preserved : goal.loop-copy-preserved
loop-copy-preserved c =
    ap (map wire_view) c.in_ok-push.ensures.items
    ∙ pushed wire_view (from_copy c.args.number c.args.ways) (map wire_view c.args.wires.now.items)
    c.loop-copy.wires.items c.loop-copy.copy c.wire_from_copy.result c.loop-copy.invariant
    c.wire_from_copy.ensures
