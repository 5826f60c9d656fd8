use Rattle.std.proofs.Common.{◌≡◌, ◌∙◌, ◌+◌, ap, arith, suc, ℕ}
use Rattle.strc_batch_cut.specs.Weighed.{least_group}
use Rattle.strc_stage_weights.proofs.Groups.{bounds_next, bounds_end}
use Rattle.strc_stage_weights.proofs.stage_groups.bounds_by_weight.Goals as goal

pub loop-stage-preserved : goal.loop-stage-preserved
loop-stage-preserved c =
    let stage : ℕ = c.loop-stage.stage in
    record {
      bounds_are = bounds_next c.args.starts.now c.args.weights.now c.args.stages stage
          c.loop-stage.least c.min.result c.loop-stage.bounds.items c.push.new.self.items
          c.loop-stage-test.true c.loop-stage.invariant.least_is c.min.ensures
          c.loop-stage.invariant.bounds_are c.in_ok-push.ensures.items;
      least_is = c.next_least-least.ensures.least
          ∙ ap (least_group c.args.weights.now c.args.stages)
          (let next : suc stage ≡ stage + 1 = omega arith in next);
      within = omega (arith, c.next_least-least.ensures.within);
    }

pub returns : goal.returns
returns c =
    bounds_end c.args.starts.now c.args.weights.now c.args.stages c.loop-stage.stage
    c.loop-stage.bounds.items c.push-2.new.self.items
    (omega (arith, c.loop-stage-test.false, c.loop-stage.auto.stage-end))
    c.loop-stage.invariant.bounds_are c.in_ok-push-2.ensures.items
