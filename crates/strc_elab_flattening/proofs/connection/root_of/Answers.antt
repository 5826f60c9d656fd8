use Rattle.std.proofs.Common.{refl, arith}
use Rattle.strc_elab_flattening.specs.Connecting.{Here, Then}
use Rattle.strc_elab_flattening.proofs.connection.root_of.Goals as goal

pub loop-root-init : goal.loop-root-init
loop-root-init c = (c.requires.within, Here)

pub loop-root-preserved : goal.loop-root-preserved
loop-root-preserved c =
    let up = c.requires.trees c.loop-root.root c.loop-root.invariant.0 in
    let within = c.loop-root.invariant.0 in
    (omega arith, Then c.loop-root.invariant.1 within refl)
