use Rattle.std.proofs.Common.{sym, subst, suc, get_or, add-one}
use Rattle.std.proofs.lemmas.Option.{slice_get-get_or}
use Rattle.strc_elab_graph.specs.declared.graph.Port.{Port}
use Rattle.strc_sched_rings.proofs.Wirings.{Wires, wires_start, wires_next}
use Rattle.strc_sched_rings.proofs.port_rings.PortRings.wired.Goals as goal

pub loop-number-init : goal.loop-number-init
loop-number-init c = wires_start c.args.counts.now c.args.ends.now c.in_ok-rings.rings
    c.in_ok-rings.ensures

pub loop-number-preserved : goal.loop-number-preserved
loop-number-preserved c =
    let counts = c.args.counts.now in
    let ends = c.args.ends.now in
    let number = c.loop-number.number in
    let nowhere : Port = record { node = 0; port = 0 } in
    let end = get_or ends number nowhere in
    subst (λ n. Wires counts ends n c.put.new.self) (sym (add-one number))
    (subst (λ rings. Wires counts ends (suc number) rings) (sym c.put.ensures)
    (wires_next counts ends number c.loop-number.rings end c.loop-number.invariant
    (slice_get-get_or ends number nowhere c.loop-number-test.true)
    (c.requires.ends number nowhere c.loop-number-test.true)))
