use Rattle.std.proofs.Common.{◌∙◌, refl, ap, get_or}
use Rattle.strc_sched_laws.specs.Rings.{moved}
use Rattle.strc_sched_rings.proofs.Ports.{deals_next}
use Rattle.strc_sched_rings.proofs.movers.fire_roundrobin.Goals as goal

pub loop-port-init : goal.loop-port-init
loop-port-init c = record { rest = refl; each = refl }

pub loop-port-preserved : goal.loop-port-preserved
loop-port-preserved c =
    let weights = c.args.weights.now in
    let port = c.loop-port.port in
    deals_next weights c.args.input c.args.outputs.now port 0 c.args.rings.now
    c.loop-port.rings c.move_items.new.rings c.loop-port.invariant c.loop-port-test.true
    (c.move_items.ensures
    ∙ ap (λ s. moved c.args.input s (get_or weights port 0) c.loop-port.rings) c.ring_of.ensures)

pub returns-clause-rings : goal.returns-clause-rings
returns-clause-rings c = c.loop-port.invariant.each
