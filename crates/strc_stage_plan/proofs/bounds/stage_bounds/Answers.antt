use Rattle.std.proofs.Common.{ap, ◌∙◌, sym, min, length}
use Rattle.std.proofs.lemmas.Result.{IfOk-weaker}
use Rattle.strc_fuse.specs.Units.{round_units}
use Rattle.strc_stage_plan.proofs.Shares.{bounds_are_shared}
use Rattle.strc_stage_plan.proofs.bounds.stage_bounds.Goals as goal

pub returns : goal.returns
returns c = IfOk-weaker c.shared.result _ _
    (λ bounds. bounds_are_shared c.args.graph.now.outer_loops (round_units c.args.round.now)
    c.args.workers (length c.nodes.result.now) c.min-stages.result c.deref.result.now bounds.items
    (c.requires.loops ∙ sym (ap length c.nodes.ensures))
    (c.deref.ensures.value ∙ c.in_ok-starts.ensures)
    (c.min-stages.ensures ∙ ap (λ n. min n c.args.workers)
    (c.len.ensures ∙ sym c.deref.ensures.len)))
    c.shared.ensures
