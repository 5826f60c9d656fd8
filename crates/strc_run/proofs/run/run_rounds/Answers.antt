use Rattle.std.proofs.Common.{◌≡◌, ◌∙◌, ◌==◌, List, ap, inl, inr, arith, length}
use Rattle.strc_elab_graph.specs.NodeView.{GraphParts}
use Rattle.strc_elab_graph.specs.declared.graph.Node.{Node}
use Rattle.strc_run.proofs.Batched.{alone_batches, empty_has_none}
use Rattle.strc_run.proofs.run.run_rounds.Goals as goal
use Rattle.strc_run.proofs.run.run_rounds.Goals.{then-sharing-eq1-via-then-sharing-eq1}
use Rattle.strc_run.proofs.run.run_rounds.Goals.{then-sharing-eq1-via-else-sharing-eq1+then-rounds-eq0}
use Rattle.strc_run.proofs.run.run_rounds.Goals.{then-sharing-eq1-via-else-sharing-eq1+else-rounds-eq0+then-is_empty}

pub returns-then-sharing-eq1-clause-batches : goal.returns-then-sharing-eq1-clause-batches
returns-then-sharing-eq1-clause-batches g c = λ some.
    alone_batches c.args.plan.now c.args.sharing c.args.rounds c.run_single.result
    (elim c.then-sharing-eq1.branch [
      | then-sharing-eq1-via-then-sharing-eq1 w ↦ inl (omega (arith, w.if-sharing-eq1.true))
      | then-sharing-eq1-via-else-sharing-eq1+then-rounds-eq0 w ↦
          inr (omega (arith, w.if-rounds-eq0.true))
      | then-sharing-eq1-via-else-sharing-eq1+else-rounds-eq0+then-is_empty w ↦
          absurd (empty_has_none (length c.args.plan.now.graph.nodes) w.is_empty.result
          w.if-is_empty.true
          (w.is_empty.ensures ∙ ap (λ (nodes : List Node). length nodes == 0)
          (w.nodes.ensures ∙ ap (λ (graph : GraphParts). graph.nodes) c.graph-graph.ensures.graph))
          some)
    ])
    (c.run_single.ensures.batches some)
