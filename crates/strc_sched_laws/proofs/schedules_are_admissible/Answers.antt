use Rattle.strc_elab_dataflow.proofs.Theorem.{stream_queue_run}
use Rattle.strc_elab_graph.specs.Meaning.{node_meaning}
use Rattle.strc_sched_orders.specs.Order.{firing_count}
use Rattle.strc_sched_laws.specs.Laws.{startup_order, round_order}
use Rattle.strc_sched_laws.proofs.Filling.{run_fits}
use Rattle.strc_sched_laws.proofs.Keeping.{nodes_keep_rates, nodes_take_within}
use Rattle.strc_sched_laws.proofs.Rounds.{orders_find}
use Rattle.strc_sched_laws.proofs.schedules_are_admissible.Goals as goal

pub returns : goal.returns
returns c = λ tree graph schedule input rounds program planned known few supplied.
    let finds = orders_find graph schedule planned tree input rounds program supplied in
    record {
      finds = finds;
      fits = run_fits graph schedule planned tree input rounds program known few supplied;
      answers = (stream_queue_run node_meaning tree input (firing_count (startup_order schedule))
          (firing_count (round_order schedule)) (startup_order schedule) (round_order schedule)
          rounds
          (nodes_take_within tree graph schedule program.flat planned)).1
          (nodes_keep_rates tree graph schedule program.flat planned known) finds;
    }
