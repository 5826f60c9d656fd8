-- What the graphs of the row print.
use Rattle.std.proofs.Common.{refl}
use Rattle.strc_elab_dataflow.specs.Node.{total, at_port_0}
use Rattle.strc_elab_dataflow.specs.Histories.{all_below, initial_run, after_firing}
use Rattle.strc_elab_dataflow.specs.Flat.{items_of, arrived}
use Rattle.strc_elab_dataflow.specs.Machine.{put}
use Rattle.strc_elab_dataflow.specs.Answer.{words_of}
use Rattle.strc_elab_dataflow.specs.Queues.{fifo_then, added, holds, fronts, moved, fifo_after}
use Rattle.strc_elab_dataflow.specs.Queues.{fifo_if}
use Rattle.strc_elab_dataflow.specs.Queues.{fifo_fire, fifo_go, fifo_at_first, fifo_round_outcome}
use Rattle.strc_elab_dataflow.specs.Queues.{fifo_rounds, fifo_startup_outcome, fifo_run}
use Rattle.strc_elab_dataflow.specs.Split.{joined}
use Rattle.strc_elab_dataflow.specs.RoundRows.{second_of, ports_of, looks_at, takes_of, fires_as}
use Rattle.strc_elab_dataflow.specs.RoundRows.{meaning}
use Rattle.strc_elab_dataflow.specs.RoundRows.{from, graph, split_source, split_graph, base}
use Rattle.strc_elab_dataflow.specs.RoundRows.{two_ways}
use Rattle.strc_elab_dataflow.specs.RoundRows.{printed, FissionRow}
use Rattle.strc_elab_dataflow.proofs.FissionRow.{is_split_graph}

pub fission_row : FissionRow
unfolding total at_port_0 all_below initial_run after_firing items_of arrived put words_of fifo_then
    added holds fronts moved fifo_after fifo_if fifo_fire fifo_go fifo_at_first fifo_round_outcome
    fifo_rounds fifo_startup_outcome fifo_run joined second_of ports_of looks_at takes_of fires_as
    meaning from graph split_source split_graph base two_ways printed
fission_row = record { is = is_split_graph; old_words = refl; new_words = refl }
