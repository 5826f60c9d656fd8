use Rattle.std.proofs.Common.{◌∙◌, ap, subst, ◌/◌, ◌%◌, ℕ, List, Option}
use Rattle.std.specs.Prelude.{IfSome}
use Rattle.strc_sched_orders.specs.Greedy.{firings_of}
use Rattle.strc_sched_laws.specs.Machine.{rounds_run}
use Rattle.strc_sched_rings.specs.Circuits.{circuit_view}
use Rattle.strc_sched_machine.specs.Running.{machine_view}
use Rattle.strc_sched_machine.specs.declared.machine.Machine.{Machine}
use Rattle.strc_sched.specs.Plain.{IsEnding}
use Rattle.strc_batch_plans.specs.Plans.{WentThrough}
use Rattle.strc_run_batches.specs.Batched.{batch_firings}
use Rattle.strc_run_batches.proofs.Endings.{comes_so}
use Rattle.strc_run_batches.proofs.by_batches.run_rounds.Goals as goal

pub returns-in-Ok : goal.returns-in-Ok
returns-in-Ok c =
    let plan = c.args.plan.now in
    let batch = c.args.batch.now in
    let circuit = circuit_view c.args.circuit.now in
    let machine = machine_view c.args.machine in
    let later = machine_view c.in-Some.later in
    let rounds = c.args.rounds in
    let own = subst (λ (o : Option Machine). IfSome o (λ (l : Machine). WentThrough plan
    (rounds % c.rounds.result) circuit machine (machine_view l))) c.in-Some.is
    c.in_ok-later.ensures.went in
    let went = subst (λ (k : ℕ). WentThrough plan (rounds % k) circuit machine later)
    c.rounds.ensures own in
    let ending = subst (λ (k : ℕ). IsEnding circuit.codes c.in-Ok.outcome
    (rounds_run circuit (batch_firings plan batch) (rounds / k) 0 later)) c.rounds-2.ensures
    (subst (λ (l : List ℕ). IsEnding circuit.codes c.in-Ok.outcome
    (rounds_run circuit l (rounds / c.rounds-2.result) 0 later))
    (ap firings_of c.units.ensures ∙ c.requires.batch.firings_are) c.in-Ok.ensures.ending) in
    comes_so plan batch circuit machine later rounds went c.in-Ok.outcome c.renamed.result ending
    c.renamed.ensures c.done_tapes.result c.done_tapes.ensures.done c.done_tapes.ensures.other
