use Rattle.std.proofs.Common.{◌≡◌, List, map, subst, sym}
use Rattle.strc_elab_graph.specs.NodeView.{GraphParts, node_view}
use Rattle.strc_cli.specs.Answering.{choice_of, chosen}
use Rattle.strc_cli_words.specs.Outs.{names_of}
use Rattle.strc_cli_words.specs.declared.line.Command.TheVariants as command
use Rattle.strc_out_files.specs.Outs.{AreGiven, IsAbsent, IsGivenBy}
use Rattle.strc_out_files.specs.declared.answer.Given.{Given}
use Rattle.strc_out_files.proofs.Outing.{has_given, memory_located, memory_true, refused_at}
use Rattle.strc_out_files.proofs.Outing.{refused_so, unrefused_at}
use Rattle.strc_out_files.proofs.answer.answer_named.Goals as goal

pub returns-in-Ok-clause-answered : goal.returns-in-Ok-clause-answered
returns-in-Ok-clause-answered g c = λ text main ways fuse batch stats is. (
  c.in-Ok.ensures.run text main ways fuse batch stats is,
  has_given c.args.plan (map names_of c.args.outs.now) c.in-Ok-Nodes.given.items c.in-Ok.answer
      c.in-Ok.ensures.own
      (subst (λ (graph : GraphParts). AreGiven (map node_view graph.nodes)
      (map names_of c.args.outs.now) c.in-Ok-Nodes.given.items) c.graph.ensures.graph
      (subst (λ (it : Given). IsGivenBy (map node_view c.graph.result.now.nodes)
      (map names_of c.args.outs.now) it) c.in-Ok-Nodes.field-0-is c.in-Ok-Nodes.ensures)),
)

pub returns-in-Ok-clause-located : goal.returns-in-Ok-clause-located
returns-in-Ok-clause-located g c = λ text it.
    unrefused_at text it c.in-Ok.answer c.in-Ok.ensures.unrefused

pub returns-in-Ok-Absent-clause-answered : goal.returns-in-Ok-Absent-clause-answered
returns-in-Ok-Absent-clause-answered g c = λ text main ways fuse batch stats is.
    record {
      plan = c.args.plan;
      planned = is;
      absent = subst (λ (graph : GraphParts). IsAbsent (map node_view graph.nodes)
          (map names_of c.args.outs.now) c.in-Ok-Absent.no_tape) c.graph.ensures.graph
          (subst (λ (it : Given). IsGivenBy (map node_view c.graph.result.now.nodes)
          (map names_of c.args.outs.now) it) c.in-Ok-Absent.field-0-is c.in-Ok-Absent.ensures);
    }

pub returns-in-Err-clause-answered : goal.returns-in-Err-clause-answered
returns-in-Err-clause-answered g c = λ text main ways fuse batch stats is.
    refused_so text (command.Run c.args.rounds c.args.sharing.workers ways fuse batch stats main) _
    _ c.from.result c.refused.result
    (memory_true text (chosen main ways fuse) c.from.result c.from.ensures) c.refused.ensures

pub returns-in-Err-clause-located : goal.returns-in-Err-clause-located
returns-in-Err-clause-located g c = λ text it.
    refused_at text it c.from.result c.refused.result
    (memory_located text (choice_of it) c.from.result c.from.ensures) c.refused.ensures
