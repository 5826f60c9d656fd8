use Rattle.std.proofs.Common.{◌∙◌, refl, ap, get_or}
use Rattle.strc_sched_laws.specs.Rings.{moved}
use Rattle.strc_sched_rings.proofs.Ports.{gathers_next, gathers_all}
use Rattle.strc_sched_rings.proofs.movers.gather.Goals as goal

pub loop-port-init : goal.loop-port-init
loop-port-init c = record { rest = refl; each = refl }

pub loop-port-preserved : goal.loop-port-preserved
loop-port-preserved c =
    let weights = c.args.weights.now in
    let port = c.loop-port.port in
    gathers_next weights c.args.inputs.now c.args.output port 0 c.args.rings.now
    c.loop-port.rings c.move_items.new.rings c.loop-port.invariant c.loop-port-test.true
    (c.move_items.ensures
    ∙ ap (λ s. moved s c.args.output (get_or weights port 0) c.loop-port.rings) c.ring_of.ensures)

pub returns-clause-rings : goal.returns-clause-rings
returns-clause-rings c = c.loop-port.invariant.each

pub returns-clause-gathered : goal.returns-clause-gathered
returns-clause-gathered c =
    gathers_all c.args.weights.now c.args.inputs.now c.args.output c.loop-port.port
    c.args.rings.now c.loop-port.rings c.loop-port-test.false c.loop-port.invariant
