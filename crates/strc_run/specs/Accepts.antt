-- Which texts are accepted, and with which plan.
use Rattle.std.specs.Prelude.{◌≡◌, ℕ, List, Result, Ok}
use Rattle.strc_parse_tree.specs.Tree.{Declaration}
use Rattle.strc_parse.specs.Texts.{Spells}
use Rattle.strc_elab.specs.Elaboration.{elaborated}
use Rattle.strc_elab_stream.specs.Connections.{IsConnected}
use Rattle.strc_elab_stream.specs.Flattening.{nodes_of, codes_of, meaning_of, outer_loops, IsFlat}
use Rattle.strc_elab_stream.specs.Instances.{Stream}
use Rattle.strc_elab_flattening.specs.Verdicts.{IsAccepted}
use Rattle.strc_elab_graph.specs.Graphs.{Graph}
use Rattle.strc_balance.specs.Rates.{equations_of, size_of}
use Rattle.strc_balance.specs.Verdicts.{judged}
use Rattle.strc_balance.specs.declared.error.BalanceError.{BalanceError}
use Rattle.strc_fiss.specs.Fissions.{IsTransformed}
use Rattle.strc_fiss.specs.Ways.{fission_of}
use Rattle.strc_stage_plan.specs.Plans.{HasSchedule, HasStartup, PlanParts, graph_of}
use Rattle.strc_run.specs.Choices.{Choice}
use Rattle.strc_run.specs.Rates.{rates_checked}

-- a stream has no more nodes than are allowed, one of them at most takes the input and one at most
-- writes, and all are connected
abbrev pub CanRun : Stream → Type 0
CanRun stream = IsAccepted (codes_of stream) (IsConnected (meaning_of stream))

-- how often each node of a graph fires in a round, or why the graph has no rounds
abbrev pub round_counts : Graph → Result (List ℕ) BalanceError
round_counts graph = judged (size_of graph) (equations_of graph)

-- the text is accepted, compiled so, with this plan
pub record Accepts (text : List ℕ) (choice : Choice) (plan : PlanParts) : Type 0 where
  -- the text spells a program
  pub program : List Declaration
  pub spells : Spells text program
  -- whose main stream this is
  pub stream : Stream
  pub elaborates : elaborated program choice.main ≡ Ok stream
  -- which can be run, and each node of which keeps its rates
  pub runs : CanRun stream
  pub rates : rates_checked 0 (nodes_of stream) ≡ Ok tt
  -- the plan's graph is the stream's flat graph, with the outermost loop of each node
  pub flat : IsFlat stream (graph_of plan)
  pub loops : plan.graph.outer_loops ≡ outer_loops 0 stream
  -- with its counts, its schedule, and what fission and fusion make of both
  pub round : round_counts (graph_of plan) ≡ Ok plan.round_counts
  pub startup : HasStartup (graph_of plan) plan.startup_counts
  pub schedule : HasSchedule (graph_of plan) plan.startup_counts plan.round_counts plan.schedule
  pub transformed : IsTransformed (fission_of (graph_of plan) plan.round_counts choice.ways)
      (graph_of plan) plan.schedule choice.fuse plan.split
