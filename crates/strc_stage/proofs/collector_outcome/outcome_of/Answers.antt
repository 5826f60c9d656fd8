use Rattle.std.proofs.Common.{◌∙◌, ap, subst, map}
use Rattle.strc_elab_graph.specs.NodeView.{GraphParts, node_view}
use Rattle.strc_stage_steps.specs.Collectors.{total_of}
use Rattle.strc_stage_steps.specs.Laws.{TellsOutcome}
use Rattle.strc_stage.specs.Answers.{Answer, IsTold}
use Rattle.strc_stage.proofs.collector_outcome.outcome_of.Goals as goal

pub returns-clause-ending : goal.returns-clause-ending
returns-clause-ending c = record {
  own = c.in_ok-own.own;
  tells = subst (λ nodes. (answer : Answer)
      → TellsOutcome (map node_view nodes) (total_of c.args.collector) c.args.collector.stop answer
      → IsTold (map node_view nodes) answer c.in_ok-own.own)
      (c.nodes.ensures ∙ ap (λ (g : GraphParts). g.nodes) c.transformed_graph.ensures)
      c.in_ok-own.ensures.ending;
  renamed = c.renamed.ensures;
}
