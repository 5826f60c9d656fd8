use Rattle.std.proofs.Common.{sym, subst, ◌/◌, ◌<◌, ℕ, inl, inr, refl}
use Rattle.std.proofs.lemmas.List.{length-map}
use Rattle.strc_elab_graph.specs.NodeView.{node_view}
use Rattle.strc_sched_rings.specs.Circuits.{circuit_view}
use Rattle.strc_sched_machine.specs.Running.{machine_view}
use Rattle.strc_run_batches.specs.Ringed.{HasRunRing}
use Rattle.strc_run_batches.proofs.Ringing.{later_rings, never_so, went_so}
use Rattle.strc_run_batches.proofs.by_stages.run_rounds.Goals as goal

pub run_ring-requires-clause-rings : goal.run_ring-requires-clause-rings
run_ring-requires-clause-rings g c κs within =
    let plan = c.args.plan.now in
    let batch = c.args.batch.now in
    let circuit = circuit_view c.args.circuit.now in
    let some = subst (λ n. 0 < n) (sym (length-map plan.graph.nodes node_view)) c.requires.nodes in
    later_rings plan circuit.input c.args.rounds batch c.ranges.rounds.fits c.requires.enough some
    c.requires.batch c.args.circuit.now c.args.machine c.requires.left c.requires.cut.graph
    (machine_view c.in-Some.later)
    (went_so plan batch circuit (machine_view c.args.machine) c.args.rounds c.rounds.result
    c.in_ok-later.field-0 c.rounds.ensures c.in-Some.later c.in-Some.is
    c.in_ok-later.ensures.went)

pub returns-in_default : goal.returns-in_default
returns-in_default g c = inr (
  refl,
  never_so c.args.plan.now c.args.batch.now (circuit_view c.args.circuit.now)
      (machine_view c.args.machine) c.args.rounds c.rounds.result c.in_ok-later.field-0
      c.rounds.ensures c.in_default.is c.in_ok-later.ensures.faulted,
)

pub returns : goal.returns
returns g c =
    let plan = c.args.plan.now in
    let batch = c.args.batch.now in
    let circuit = circuit_view c.args.circuit.now in
    inl (record {
      later = machine_view c.in-Some.later;
      went = went_so plan batch circuit (machine_view c.args.machine) c.args.rounds c.rounds.result
          c.in_ok-later.field-0 c.rounds.ensures c.in-Some.later c.in-Some.is
          c.in_ok-later.ensures.went;
      ended = c.in_ok-ended.ended;
      ran = subst (λ (k : ℕ). HasRunRing plan batch c.args.bounds.items circuit
          (machine_view c.in-Some.later) (c.args.rounds / k) c.in_ok-ended.ended)
          c.rounds-2.ensures c.in_ok-ended.ensures;
      tells = c.in_ok-tapes_of.ensures;
    })
