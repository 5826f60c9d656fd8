-- The balance equations of a graph, by the rates of `work` (Lee and Messerschmitt 1987).
use Rattle.std.specs.Prelude.{ℕ, ◌<◌, List, map, length, slice_get}
use Rattle.std.specs.Prelude.{if◌then◌else◌}
use Rattle.std.specs.Option.{option_map_or}
use Rattle.strc_elab_graph.specs.Graphs.{NodeCode, Channel, Graph}
use Rattle.strc_elab_graph.specs.Rates.{pops_at, pushes_at}
pub use Rattle.strc_elab_graph.specs.Rates.{fires_by_rounds}
use Rattle.strc_elab_graph.specs.declared.graph.Port.{Port}
use Rattle.strc_balance.specs.declared.equation.Equation.{Equation}

-- the rates by `work` are those of each firing after the first one
abbrev pub pops_by_work : NodeCode → (port : ℕ) → ℕ
pops_by_work node port = if fires_by_rounds node then 0 else pops_at node 1 port

abbrev pub pushes_by_work : NodeCode → (port : ℕ) → ℕ
pushes_by_work node port = if fires_by_rounds node then 0 else pushes_at node 1 port

-- those of a node by its number
abbrev pub pop_of : List NodeCode → Port → ℕ
pop_of nodes port =
    option_map_or (λ node. pops_by_work node port.port) (slice_get nodes port.node) 0

abbrev pub push_of : List NodeCode → Port → ℕ
push_of nodes port =
    option_map_or (λ node. pushes_by_work node port.port) (slice_get nodes port.node) 0

-- the equation of a channel
abbrev pub equation_of : List NodeCode → Channel → Equation
equation_of nodes channel =
    record {
      source = channel.source.node;
      push = push_of nodes channel.source;
      target = channel.target.node;
      pop = pop_of nodes channel.target;
    }

-- an equation for each channel
abbrev pub equations_of : Graph → List Equation
equations_of graph = map (equation_of graph.nodes) graph.channels

-- how many nodes there are
abbrev pub size_of : Graph → ℕ
size_of graph = length graph.nodes

-- both ends of a channel have a rate
pub record IsRated (equation : Equation) : Type 0 where
  pub push : 0 < equation.push
  pub pop : 0 < equation.pop
