-- What the graphs of the row write.
use Rattle.std.proofs.Common.{refl}
use Rattle.std.specs.Int.{int_wrap}
use Rattle.strc_elab_dataflow.specs.Node.{total, at_port_0}
use Rattle.strc_elab_dataflow.specs.Histories.{all_below, initial_run, after_firing}
use Rattle.strc_elab_dataflow.specs.Flat.{items_of, arrived}
use Rattle.strc_elab_dataflow.specs.Machine.{put}
use Rattle.strc_elab_dataflow.specs.Answer.{words_of}
use Rattle.strc_elab_dataflow.specs.Queues.{fifo_then, added, holds, fronts, moved, fifo_after}
use Rattle.strc_elab_dataflow.specs.Queues.{fifo_if}
use Rattle.strc_elab_dataflow.specs.Queues.{fifo_fire, fifo_go, fifo_at_first, fifo_round_outcome}
use Rattle.strc_elab_dataflow.specs.Queues.{fifo_rounds, fifo_startup_outcome, fifo_run}
use Rattle.strc_sched_laws.specs.DealingRow.{from, plain_graph, split_source, split_graph, written}
use Rattle.strc_sched_laws.specs.DealingRow.{PeekingRow}

pub peeking_row : PeekingRow
unfolding total at_port_0 all_below initial_run after_firing items_of arrived put words_of fifo_then
    added holds fronts moved fifo_after fifo_if fifo_fire fifo_go fifo_at_first fifo_round_outcome
    fifo_rounds fifo_startup_outcome fifo_run from plain_graph split_source split_graph written
    int_wrap
peeking_row = record { plain = refl; split = refl }
