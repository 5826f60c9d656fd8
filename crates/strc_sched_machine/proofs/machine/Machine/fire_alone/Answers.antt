use Rattle.std.proofs.Common.{◌≡◌, ◌∙◌, sym, ap, ◌-◌, ◌+◌, ◌∷◌, [], suc, arith}
use Rattle.strc_sched_orders.specs.Order.{repeated}
use Rattle.strc_sched_rings.specs.Circuits.{circuit_view}
use Rattle.strc_sched_machine.specs.Running.{machine_view}
use Rattle.strc_sched_machine.proofs.Going.{goes_on, goes_so, stops_so, wants_so, repeated_parts}
use Rattle.strc_sched_machine.proofs.machine.Machine.fire_alone.Goals as goal

pub returns-in-Err-clause-gone : goal.returns-in-Err-clause-gone
returns-in-Err-clause-gone c =
    let circuit = circuit_view c.args.circuit.now in
    let turns = c.args.batch.now.turns in
    let node = c.args.batch.now.node in
    let left = c.loop-left.left in
    let now = machine_view c.loop-left.self in
    let parts : suc (left - 1) ≡ left = omega arith in
    stops_so circuit (repeated turns (node ∷ [])) (node ∷ []) (repeated (left - 1) (node ∷ []))
    (machine_view c.args.self.now) now (machine_view c.fire_next.new.self) c.in-Err.stop
    (goes_so circuit (repeated turns (node ∷ [])) (repeated left (node ∷ [])) _
    (machine_view c.args.self.now) now
    (ap (λ n. repeated n (node ∷ [])) (sym parts)) c.loop-left.invariant.goes)
    c.in-Err.ensures.gone

pub returns-in-Err-clause-memory : goal.returns-in-Err-clause-memory
returns-in-Err-clause-memory c =
    let circuit = circuit_view c.args.circuit.now in
    let turns = c.args.batch.now.turns in
    let node = c.args.batch.now.node in
    let left = c.loop-left.left in
    let now = machine_view c.loop-left.self in
    let parts : suc (left - 1) ≡ left = omega arith in
    wants_so circuit (repeated turns (node ∷ [])) (node ∷ []) (repeated (left - 1) (node ∷ []))
    (machine_view c.args.self.now) now c.in-Err.stop
    (goes_so circuit (repeated turns (node ∷ [])) (repeated left (node ∷ [])) _
    (machine_view c.args.self.now) now
    (ap (λ n. repeated n (node ∷ [])) (sym parts)) c.loop-left.invariant.goes)
    c.in-Err.ensures.memory

pub loop-left-preserved : goal.loop-left-preserved
loop-left-preserved c =
    let circuit = circuit_view c.args.circuit.now in
    let turns = c.args.batch.now.turns in
    let node = c.args.batch.now.node in
    let left = c.loop-left.left in
    let fired = c.in-Ok.fired in
    let now = machine_view c.loop-left.self in
    let most = c.in-Ok.ensures.most in
    let parts : fired + (left - fired) ≡ left = omega arith in
    record {
      machine = c.fire_next.ensures.machine;
      goes = goes_on circuit (repeated turns (node ∷ [])) (repeated fired (node ∷ []))
          (repeated (left - fired) (node ∷ [])) (machine_view c.args.self.now) now
          (machine_view c.fire_next.new.self)
          (goes_so circuit (repeated turns (node ∷ [])) (repeated left (node ∷ [])) _
          (machine_view c.args.self.now) now
          (ap (λ n. repeated n (node ∷ [])) (sym parts)
          ∙ repeated_parts fired (left - fired) (node ∷ [])) c.loop-left.invariant.goes)
          c.in-Ok.ensures.went c.in-Ok.ensures.words;
    }
