-- The run over rings gives the answer of the stream equations.
use Rattle.strc_elab_dataflow.proofs.Theorem.{stream_queue_run}
use Rattle.strc_elab_dataflow.specs.Queues.{fifo_run}
use Rattle.strc_elab_dataflow.specs.Streams.{flat}
use Rattle.strc_elab_graph.specs.Meaning.{node_meaning}
use Rattle.strc_sched_orders.specs.Order.{firing_count}
use Rattle.strc_sched_laws.specs.Laws.{startup_order, round_order}
use Rattle.strc_sched_laws.proofs.Filling.{run_fits}
use Rattle.strc_sched_laws.proofs.Keeping.{nodes_keep_rates, nodes_take_within}
use Rattle.strc_sched_laws.proofs.Rounds.{orders_find, startup_nodes, round_nodes}
use Rattle.strc_sched_laws.proofs.RunAlike.{run_alike}
use Rattle.strc_sched_laws.specs.RingAnswer.{RingRunsAnswer}

pub ring_runs : RingRunsAnswer
ring_runs tree graph schedule input rounds circuit machine program planned known few supplied is
    reads first = (
      fifo_run node_meaning (flat tree) input (round_order schedule) (startup_order schedule)
          rounds,
      (stream_queue_run node_meaning tree input (firing_count (startup_order schedule))
          (firing_count (round_order schedule)) (startup_order schedule) (round_order schedule)
          rounds
          (nodes_take_within tree graph schedule program.flat planned)).1
          (nodes_keep_rates tree graph schedule program.flat planned known)
          (orders_find graph schedule planned tree input rounds program supplied),
      run_alike tree graph program planned.unfissioned circuit is schedule.sizes input reads
          (round_order schedule) (round_nodes graph schedule planned) (startup_order schedule)
          (startup_nodes graph schedule planned) rounds machine first
          (run_fits graph schedule planned tree input rounds program known few supplied),
    )
