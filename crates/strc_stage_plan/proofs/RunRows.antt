-- What a small graph writes before fission and after it.
use Rattle.std.proofs.Common.{refl}
use Rattle.std.specs.Int.{int_wrap}
use Rattle.strc_elab_dataflow.specs.Node.{total, at_port_0}
use Rattle.strc_elab_dataflow.specs.Histories.{all_below, initial_run, after_firing}
use Rattle.strc_elab_dataflow.specs.Flat.{items_of, arrived}
use Rattle.strc_elab_dataflow.specs.Machine.{put}
use Rattle.strc_elab_dataflow.specs.Answer.{words_of}
use Rattle.strc_elab_dataflow.specs.Queues.{fifo_then, added, holds, fronts, moved, fifo_after}
use Rattle.strc_elab_dataflow.specs.Queues.{fifo_if}
use Rattle.strc_elab_dataflow.specs.Queues.{fifo_fire, fifo_go, fifo_at_first, fifo_round_outcome}
use Rattle.strc_elab_dataflow.specs.Queues.{fifo_rounds, fifo_startup_outcome, fifo_run}
use Rattle.strc_sched_laws.specs.DealingRow.{written}
use Rattle.strc_elab_dataflow.specs.Starting.{run_dealt, queues_dealt, state_dealt}
use Rattle.strc_stage_plan.specs.RunRows.{run_before, rounds_after, run_after, fault_of, RunRow}

pub run_row : RunRow
unfolding total at_port_0 all_below initial_run after_firing items_of arrived put words_of fifo_then
    added holds fronts moved fifo_after fifo_if fifo_fire fifo_go fifo_at_first fifo_round_outcome
    fifo_rounds fifo_startup_outcome fifo_run run_dealt queues_dealt state_dealt run_before
    rounds_after run_after fault_of written int_wrap
run_row = record {
  words_before = refl;
  words_after = refl;
  fault_before = refl;
  fault_after = refl;
  earlier_before = refl;
  earlier_after = refl;
}
