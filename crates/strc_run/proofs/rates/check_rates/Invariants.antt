use Rattle.std.proofs.Common.{◌≡◌, drop, map}
use Rattle.strc_elab_graph.specs.NodeView.{node_view}
use Rattle.strc_run.specs.Rates.{rates_checked}
use Rattle.strc_run.proofs.rates.check_rates.Given as goal

-- the test of the nodes left is that of all
abbrev pub invariant-loop-number : goal.invariant-loop-number
invariant-loop-number l = rates_checked l.number (map node_view (drop l.number l.nodes))
    ≡ rates_checked 0 (map node_view l.nodes)
