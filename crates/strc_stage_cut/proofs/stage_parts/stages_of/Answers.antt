use Rattle.std.proofs.Common.{◌≡◌, ◌∙◌, ap, subst, ◌+◌, ◌≤◌, ℕ, suc, length, arith}
use Rattle.std.proofs.lemmas.List.{length_push}
use Rattle.strc_sched_rings.specs.Circuits.{circuit_view}
use Rattle.strc_sched_machine.specs.Parts.{HoldsFrom, IsRest}
use Rattle.strc_sched_machine.specs.Running.{machine_view}
use Rattle.strc_stage_plan.specs.Plans.{transformed_of}
use Rattle.strc_stage_cut.specs.Bounds.{bound_in, last_of}
use Rattle.strc_stage_cut.proofs.Remainders.{made_more, rest_next}
use Rattle.strc_stage_cut.proofs.stage_parts.stages_of.Goals as goal

pub loop-stage-preserved : goal.loop-stage-preserved
loop-stage-preserved c =
    let plan = c.args.plan.now in
    let bounds = c.args.cut.now.bounds.items in
    let stage = c.loop-stage.stage in
    let so_far = c.loop-stage.invariant in
    let own = c.in_ok-stage_of.ensures in
    let before = machine_view c.loop-stage.machine in
    let started = machine_view c.args.machine.now in
    let at = c.requires.cut.at in
    let e : suc stage ≡ stage + 1 = omega arith in
    let most : stage ≤ last_of bounds = omega (
      arith,
      at.some,
      c.loop-stage-test.true,
      c.len-stage-end.ensures,
      c.args.cut.now.bounds.ok.0,
    ) in
    record {
      each = ap length c.in_ok-push.ensures.items ∙ length_push c.loop-stage.stages.items _
          ∙ ap (λ (n : ℕ). n + 1) so_far.each;
      made = made_more plan c.args.fired.now bounds (circuit_view c.args.circuit.now) at started
          before c.args.rounds stage c.loop-stage.stages.items c.push.new.self.items
          c.in_ok-stage_of.field-0 so_far.each c.in_ok-push.ensures.items so_far.rest so_far.made
          own.made;
      rest = subst (λ (n : ℕ). IsRest (transformed_of plan) (bound_in bounds n) started
          (machine_view c.stage_of.new.machine)) e
          (rest_next plan (bound_in bounds) (last_of bounds) stage started before
          (machine_view c.stage_of.new.machine) at.cut most so_far.rest own.rest);
      holds = subst (λ (n : ℕ). HoldsFrom (transformed_of plan) (bound_in bounds n)
          c.stage_of.new.machine) e own.holds;
    }
