-- A ring of stages over the fused rounds after fission has come to an answer of the equations.
use Rattle.std.proofs.Common.{sym, subst, ℤ, List}
use Rattle.strc_elab_dataflow.specs.Queues.{fifo_rounds}
use Rattle.strc_elab_graph.specs.Meaning.{node_meaning}
use Rattle.strc_stage_plan.specs.Fusions.{ComesToAnswerIn}
use Rattle.strc_stage_plan.specs.Runs.{parts_of}
use Rattle.strc_stage_plan.proofs.FusedRuns.{fused_answers_kept}
use Rattle.strc_stage_plan.specs.Fused.{graph_of, named_order_of, order_of, state_of}
use Rattle.strc_stage_steps.proofs.Alike.{stages_run_alike}
use Rattle.strc_stage_steps.specs.SplitRingsLaws.{SplitGraphsAreRunning, SplitRingsAnswer}
use Rattle.strc_stage_steps.specs.SplitRingsLaws.{running_after}
use Rattle.strc_stage_steps.proofs.SplitRingsRoom.{room_at_first}
use Rattle.strc_stage_steps.proofs.Running.{is_running}

pub graphs_are_running : SplitGraphsAreRunning
graphs_are_running run limit sizes stream bound last circuit started is holds =
    is_running run limit sizes stream bound last circuit started is holds
    (room_at_first run limit is.fused sizes is.sizes_are)

pub rings_answer : SplitRingsAnswer
rings_answer run limit sizes stream bound last circuit started start core is holds begun state
    over =
    record {
      outcome = fifo_rounds node_meaning (graph_of run) circuit.input (order_of run) run.rounds 0
          (state_of run);
      tells = stages_run_alike (running_after run sizes) (graph_of run) (state_of run) run.rounds
          bound last circuit started start core
          (graphs_are_running run limit sizes stream bound last circuit started is holds) holds
          begun state over;
      answers = subst (λ (l : List ℤ).
          ComesToAnswerIn (named_order_of run) run.tree run.schedule run.input run.rounds
          (parts_of run.tree run.old run.schedule run.round run.ways)
          (fifo_rounds node_meaning (graph_of run) l (order_of run) run.rounds 0 (state_of run)))
          (sym is.reads_it)
          (fused_answers_kept run.tree run.old run.schedule run.round run.ways run.input run.rounds
          run.started limit run.fused is.fused.program is.fused.is is.fused.planned is.fused.known
          is.fused.own is.fused.placed is.fused.fusion is.fused.supplied is.fused.went);
    }
