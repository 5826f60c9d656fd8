use Rattle.std.proofs.Common.{◌∙◌, sym, ap, subst}
use Rattle.strc_elab_graph.specs.NodeView.{splitter_view}
use Rattle.strc_sched_laws.specs.Steps.{splitter_step, roundrobin_step}
use Rattle.strc_sched_rings.specs.Answers.{MovesBy}
use Rattle.strc_sched_rings.proofs.movers.fire_splitter.Goals as goal

pub returns-in-Roundrobin-clause-step : goal.returns-in-Roundrobin-clause-step
returns-in-Roundrobin-clause-step c =
    let input = c.args.input in
    let outputs = c.args.outputs.now in
    let rings = c.args.rings.now in
    subst (λ step. MovesBy step c.fire_roundrobin.result rings c.fire_roundrobin.new.rings)
    (ap (λ weights. roundrobin_step weights input outputs rings)
    c.deref-in-Roundrobin.ensures.value
    ∙ sym (ap (λ s. splitter_step (splitter_view s) input outputs rings) c.in-Roundrobin.is))
    c.fire_roundrobin.ensures.step
