use Rattle.std.proofs.Common.{◌∙◌, ap, map}
use Rattle.strc_fiss.specs.Splitting.{to_copy}
use Rattle.strc_fiss.specs.WireView.{wire_view}
use Rattle.strc_fiss.proofs.Sequences.{pushed}
use Rattle.strc_fiss.proofs.channels.push_to_copies.Goals as goal

pub loop-copy-preserved : goal.loop-copy-preserved
loop-copy-preserved c =
    ap (map wire_view) c.in_ok-push.ensures.items
    ∙ pushed wire_view (to_copy c.args.number) (map wire_view c.args.wires.now.items)
    c.loop-copy.wires.items c.loop-copy.copy c.wire_to_copy.result c.loop-copy.invariant
    c.wire_to_copy.ensures
