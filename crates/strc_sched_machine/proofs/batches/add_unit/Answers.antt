use Rattle.std.proofs.Common.{◌≡◌, ◌∙◌, ap, sym, subst, ◌∷◌, [], ◌++◌, IfOk, length, arith}
use Rattle.strc_sched_orders.specs.Order.{repeated}
use Rattle.strc_sched_rings.specs.Circuits.{circuit_view}
use Rattle.strc_sched_machine.specs.Batches.{all_firings, in_circuit}
use Rattle.strc_sched_machine.proofs.BatchLists.{in_circuit-repeated, list_more, one_alone}
use Rattle.strc_sched_machine.proofs.BatchLists.{repeated_times}
use Rattle.strc_sched_machine.proofs.batches.add_unit.Goals as goal

pub returns-in-Some-clause-firings : goal.returns-in-Some-clause-firings
returns-in-Some-clause-firings c =
    let circuit = circuit_view c.args.circuit.now in
    let unit = c.args.unit.now in
    let items = c.in_ok-batches.batches.items in
    let only = c.index-only.result.now in
    let one : length items ≡ 1 = let e = c.if-len-eq1.true in let f = c.len.ensures in
    omega (arith, e, f) in
    subst (λ l. IfOk c.add_batch.result
    (λ done. all_firings c.add_batch.new.lists.items ≡ all_firings c.args.lists.now.items ++ l))
    (ap (λ n. repeated n (only.node ∷ [])) c.in-Some.ensures.1
    ∙ repeated_times only.turns unit.turns (only.node ∷ [])
    ∙ ap (repeated unit.turns) (sym (one_alone items only one c.index-only.ensures)
    ∙ c.in_ok-batches.ensures.firings ∙ ap (in_circuit circuit) c.deref.ensures.value)
    ∙ sym (in_circuit-repeated circuit unit.turns unit.nodes.items))
    c.add_batch.ensures.firings

pub returns-clause-firings : goal.returns-clause-firings
returns-clause-firings c =
    let circuit = circuit_view c.args.circuit.now in
    let unit = c.args.unit.now in
    let before = c.args.lists.now.items in
    ap all_firings c.in_ok-push.ensures.items
    ∙ list_more before _
    ∙ ap (λ l. all_firings before ++ l) (ap (repeated unit.turns)
    (c.in_ok-batches.ensures.firings ∙ ap (in_circuit circuit) c.deref.ensures.value)
    ∙ sym (in_circuit-repeated circuit unit.turns unit.nodes.items))
