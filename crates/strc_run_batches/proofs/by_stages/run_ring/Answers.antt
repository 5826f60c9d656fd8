use Rattle.std.proofs.Common.{sym, subst, ◌<◌, List, rules}
use Rattle.std.proofs.lemmas.List.{length-map}
use Rattle.strc_elab_graph.specs.NodeView.{node_view}
use Rattle.strc_sched_orders.specs.declared.unit as units
use Rattle.strc_sched_rings.specs.Circuits.{circuit_view}
use Rattle.strc_sched_machine.specs.Running.{machine_view}
use Rattle.strc_stage_steps.specs.declared.collector.CollectorParts.{CollectorParts}
use Rattle.strc_stage_cut.specs.Fired.{CanBeShared}
use Rattle.strc_stage_cut.specs.Launches.{IsRingOf, start_of}
use Rattle.strc_run_workers.specs.Leftovers.{Drives}
use Rattle.strc_batch.proofs.Sharing.{batch_shared}
use Rattle.strc_run_batches.proofs.by_stages.run_ring.Goals as goal

pub ring_by-requires-clause-shared : goal.ring_by-requires-clause-shared
ring_by-requires-clause-shared g c =
    let plan = c.args.plan.now in
    let some = subst (λ n. 0 < n) (sym (length-map plan.graph.nodes node_view)) c.requires.nodes in
    subst (λ (l : List units.Unit.Unit). CanBeShared plan l c.args.bounds.items)
    (sym c.units.ensures)
    (batch_shared plan c.args.batch.now c.requires.cut.is c.requires.cut.graph some
    c.requires.batch c.args.bounds.items c.requires.cut.cut)

pub collected-requires : goal.collected-requires
collected-requires g c =
    (search rules, (search rules, c.in_ok-ring.ensures.beginning.is_start))

pub returns : goal.returns
returns g c = record {
  ring = c.in_ok-ring.ring;
  ring_is = subst (λ (l : List units.Unit.Unit). IsRingOf c.args.plan.now l c.args.bounds.items
      (circuit_view c.args.circuit.now) (machine_view c.args.machine) c.args.steps
      c.in_ok-ring.ring) c.units.ensures c.in_ok-ring.ensures;
  drives = subst (λ (parts : CollectorParts). Drives (start_of c.in_ok-ring.ring) parts)
      (sym c.into_parts.ensures) c.in_ok-collector.ensures;
}
