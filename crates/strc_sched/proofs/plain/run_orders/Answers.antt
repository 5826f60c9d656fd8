use Rattle.std.proofs.Common.{[], refl}
use Rattle.strc_sched_orders.specs.Greedy.{firings_of}
use Rattle.strc_sched_laws.specs.Machine.{order_run, rounds_run}
use Rattle.strc_sched_machine.specs.Batches.{units_of}
use Rattle.strc_sched_rings.specs.Circuits.{circuit_view}
use Rattle.strc_sched.specs.Marks.{kept_tapes}
use Rattle.strc_sched_machine.specs.Running.{machine_view, words_of}
use Rattle.strc_sched.proofs.Endings.{ended_first, kept_before, more_than_none}
use Rattle.strc_sched.proofs.plain.run_orders.Goals as goal

pub returns-in-Err-clause-ending : goal.returns-in-Err-clause-ending
returns-in-Err-clause-ending c =
    let circuit = circuit_view c.args.circuit.now in
    let before = machine_view c.args.machine in
    let after = machine_view c.fire_order.new.self in
    ended_first circuit.codes c.in-Err.stop c.stopped.result before.words
    (order_run circuit (firings_of (units_of c.args.startup.now)) before) after
    (kept_tapes c.args.marks (words_of c.into_words.result.items))
    (rounds_run circuit (firings_of (units_of c.args.round.now)) c.args.rounds 0)
    c.stopped.ensures.outcome c.in-Err.ensures.gone
    (kept_before c.args.marks circuit.codes circuit.codes (words_of c.into_words.result.items) []
    after.words [] c.requires.nodes refl c.requires.none refl c.into_words.ensures
    (more_than_none after.words))
