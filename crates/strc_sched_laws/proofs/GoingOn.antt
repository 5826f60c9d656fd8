-- A graph of nodes with their rates goes on from a state.
use Rattle.std.proofs.Common.{refl, ℕ, true, ℤ, List}
use Rattle.strc_elab_dataflow.specs.Flat as flat
use Rattle.strc_elab_dataflow.specs.Histories.{KeepsRates}
use Rattle.strc_elab_dataflow.specs.Queues.{Fifo}
use Rattle.strc_work_meaning.specs.declared.fault.Cause.{Cause}
use Rattle.strc_work_meaning.specs.declared.word.Word.{Word}
use Rattle.strc_elab_graph.specs.Graphs.{NodeCode}
use Rattle.strc_elab_graph.specs.Meaning.{node_meaning}
use Rattle.strc_elab_dataflow.specs.Restart.{restarted_meaning, restarted}
use Rattle.strc_elab_dataflow.specs.RestartRounds.{RepeatsByRounds}
use Rattle.strc_elab_dataflow.specs.Schedules.{fired_in}
use Rattle.strc_elab_dataflow.proofs.RestartRates.{pushes_rates_keeps_rates}
use Rattle.strc_elab_dataflow.proofs.Schedules.{restarted_rounds_are_schedules}
use Rattle.strc_sched_laws.specs.GoingOn.{CanGoOn, GraphsGoOn}
use Rattle.strc_sched_laws.proofs.Nodes.{nodes_push_rates}
use Rattle.strc_sched_laws.proofs.Repeats.{nodes_repeat_by_rounds, nodes_take_within}

module _ (graph : flat.Graph NodeCode) (from : Fifo (List ℤ) Cause Word) (round : ℕ → ℕ)
    (can : CanGoOn graph from round) where
  abbrev fired : ℕ → ℕ
  fired = fired_in node_meaning graph from

  repeats : RepeatsByRounds node_meaning graph (fired_in node_meaning graph from) round
  repeats = record {
    windows_repeat = λ node firing port after. (nodes_repeat_by_rounds (graph.code node)
        (fired node) (round node) firing (can.rounds node) after port).0;
    pops_repeat = λ node firing port after. (nodes_repeat_by_rounds (graph.code node)
        (fired node) (round node) firing (can.rounds node) after port).1;
    pushes_repeat = λ node firing port after. (nodes_repeat_by_rounds (graph.code node)
        (fired node) (round node) firing (can.rounds node) after port).2;
  }

  keeps : (node : ℕ) → KeepsRates (restarted_meaning node_meaning)
      ((restarted from graph).code node)
  unfolding restarted
  keeps node =
      (pushes_rates_keeps_rates node_meaning (graph.code node) (λ fields. true)
      (nodes_push_rates (graph.code node) (can.rates node))).1
      (from.runs node).fired (from.runs node).state refl

pub graphs_go_on : GraphsGoOn
graphs_go_on graph from round round_order rounds stage_of segment stages can counts supplied once
    staged =
    let schedule = restarted_rounds_are_schedules node_meaning graph from round round_order rounds
    counts (repeats graph from round can) can.balanced supplied once in
    record {
      faultless = can.faultless;
      keeps = keeps graph from round can;
      takes_within = λ node firing port less.
          nodes_take_within (graph.code node) firing port (can.narrow node);
      schedule = schedule;
      staged = staged;
    }
