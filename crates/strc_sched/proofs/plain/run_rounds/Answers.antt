use Rattle.std.proofs.Common.{◌∙◌, ap, subst, sym, arith, map}
use Rattle.strc_elab_graph.specs.NodeView.{node_view}
use Rattle.strc_sched_orders.specs.Greedy.{firings_of}
use Rattle.strc_sched_laws.specs.Machine.{order_run, rounds_run}
use Rattle.strc_sched_machine.specs.Batches.{units_of}
use Rattle.strc_sched_rings.specs.Circuits.{circuit_view}
use Rattle.strc_sched.specs.Marks.{kept_tapes}
use Rattle.strc_sched_machine.specs.Running.{machine_view, words_of}
use Rattle.strc_sched.specs.Plain.{IsEnding}
use Rattle.strc_sched_outcome.specs.declared.outcome.Outcome.TheVariants as outcome
use Rattle.strc_sched_machine.proofs.Done.{more_refl}
use Rattle.strc_sched.proofs.TapeLists.{words_each}
use Rattle.strc_sched.proofs.Endings.{ended_in, kept_before, rounds_done, rounds_next, rounds_stop}
use Rattle.strc_sched.proofs.plain.run_rounds.Goals as goal

pub returns-in-Err-clause-ending : goal.returns-in-Err-clause-ending
returns-in-Err-clause-ending c =
    let circuit = circuit_view c.args.circuit.now in
    let order = firings_of (units_of c.args.order.now) in
    let now = machine_view c.loop-round.running in
    let after = machine_view c.fire_order.new.self in
    ended_in circuit.codes c.in-Err.stop c.stopped.result c.loop-round.round now.words
    (order_run circuit order now) after
    (kept_tapes c.mark.new.self (words_of c.into_words-words.result.items))
    (rounds_run circuit order c.args.rounds 0 (machine_view c.args.machine))
    c.stopped.ensures.outcome c.in-Err.ensures.gone
    (λ node firing cause gone. c.loop-round.invariant.rest
    ∙ rounds_stop circuit order c.args.rounds c.loop-round.round c.loop-round-test.true now node
    firing cause gone)
    (λ more. kept_before c.mark.new.self circuit.codes
    (map node_view c.loop-round.before.nodes.now) (words_of c.into_words-words.result.items)
    now.words after.words (words_of c.words.result.now)
    (ap (map node_view) c.mark.ensures.nodes ∙ c.loop-round.invariant.nodes)
    c.loop-round.invariant.nodes c.mark.ensures.marked c.words.ensures c.into_words-words.ensures
    more)

pub stopped-requires-clause-each : goal.stopped-requires-clause-each
stopped-requires-clause-each c =
    words_each c.into_words-words.result.items c.fire_order.new.self.words.items
    (circuit_view c.args.circuit.now).codes c.mark.new.self.nodes.now c.into_words-words.ensures
    c.in-Err.ensures.machine.words
    (ap (map node_view) c.mark.ensures.nodes ∙ c.loop-round.invariant.nodes)

pub tapes-requires-clause-each : goal.tapes-requires-clause-each
tapes-requires-clause-each c =
    words_each c.into_words.result.items c.loop-round.running.words.items
    (circuit_view c.args.circuit.now).codes c.mark-2.new.self.nodes.now c.into_words.ensures
    c.loop-round.invariant.machine.words
    (ap (map node_view) c.mark-2.ensures.nodes ∙ c.loop-round.invariant.nodes)

pub returns-in-Ok-tapes-clause-ending : goal.returns-in-Ok-tapes-clause-ending
returns-in-Ok-tapes-clause-ending c =
    let circuit = circuit_view c.args.circuit.now in
    let order = firings_of (units_of c.args.order.now) in
    let now = machine_view c.loop-round.running in
    subst (IsEnding circuit.codes (outcome.Done c.in-Ok-tapes.tapes))
    (sym (c.loop-round.invariant.rest ∙ rounds_done circuit order c.args.rounds c.loop-round.round
    (let past = c.loop-round-test.false in omega (arith, past)) now))
    (c.in-Ok-tapes.ensures
    ∙ kept_before c.mark-2.new.self circuit.codes (map node_view c.loop-round.before.nodes.now)
    (words_of c.into_words.result.items) now.words now.words (words_of c.words-2.result.now)
    (ap (map node_view) c.mark-2.ensures.nodes ∙ c.loop-round.invariant.nodes)
    c.loop-round.invariant.nodes
    c.mark-2.ensures.marked c.words-2.ensures c.into_words.ensures (more_refl now.words))

pub loop-round-preserved : goal.loop-round-preserved
loop-round-preserved c =
    let circuit = circuit_view c.args.circuit.now in
    let order = firings_of (units_of c.args.order.now) in
    record {
      machine = c.fire_order.ensures.machine;
      marks = c.mark.ensures.marks;
      nodes = ap (map node_view) c.mark.ensures.nodes ∙ c.loop-round.invariant.nodes;
      rest = c.loop-round.invariant.rest
          ∙ rounds_next circuit order c.args.rounds c.loop-round.round c.loop-round-test.true
          (machine_view c.loop-round.running) (machine_view c.fire_order.new.self)
          c.in-Ok.ensures.gone.0;
    }
