-- The nodes of a graph are connected by its channels just where its equations connect them.
use Rattle.std.proofs.Common.{◌↔◌, Bool, Result, Ok, Err, IfOk, ◌≡◌, ℕ, ◌<◌, List, length, get_or}
use Rattle.std.proofs.Common.{sym, ap, subst, ◌∙◌, arith}
use Rattle.std.specs.Prelude.{IsTrue}
use Rattle.std.specs.List.{All, Contains}
use Rattle.std.proofs.lemmas.List.{get_or-map, length-map}
use Rattle.std.proofs.lemmas.List.Elements.{Contains-get_or}
use Rattle.strc_elab_graph.specs.Graphs.{Channel, Graph}
use Rattle.strc_elab_graph.specs.Connections as channels
use Rattle.strc_balance.specs.declared.equation.Equation.{Equation}
use Rattle.strc_balance.specs.Balance.{Path, Here, Along, Against, AreConnected}
use Rattle.strc_balance.specs.Rates.{IsRated, equation_of, equations_of, size_of}

-- the equation of a channel is one of the graph's
equation_in : (graph : Graph) (channel : Channel) → Contains graph.channels channel
    → Contains (equations_of graph) (equation_of graph.nodes channel)
equation_in graph channel is =
    let of = equation_of graph.nodes in
    let e = length-map graph.channels of in
    let within = is.1 in
    (is.0, omega arith, get_or-map of graph.channels is.0 channel (of channel) within ∙ ap of is.2)

-- each of the graph's equations is that of a channel
record IsOf (graph : Graph) (equation : Equation) : Type 0 where
  channel : Channel
  is : Contains graph.channels channel
  of : equation ≡ equation_of graph.nodes channel

channel_of : (graph : Graph) (equation : Equation) → Contains (equations_of graph) equation
    → IsOf graph equation
channel_of graph equation is =
    let of = equation_of graph.nodes in
    let nowhere : Channel =
    record {
      source = record { node = 0; port = 0 };
      target = record { node = 0; port = 0 };
      enqueued = List.[];
    } in
    let e = length-map graph.channels of in
    let below = is.1 in
    let within : is.0 < length graph.channels = omega arith in
    record {
      channel = get_or graph.channels is.0 nowhere;
      is = Contains-get_or graph.channels is.0 nowhere within;
      of = sym is.2 ∙ get_or-map of graph.channels is.0 nowhere equation within;
    }

by_equations : (graph : Graph) {node last : ℕ} → channels.Path graph.channels node last
    → Path (equations_of graph) node last
by_equations graph channels.Here = Here
by_equations graph (channels.Along channel is from rest) =
    Along (equation_of graph.nodes channel) (equation_in graph channel is) from
    (by_equations graph rest)
by_equations graph (channels.Against channel is from rest) =
    Against (equation_of graph.nodes channel) (equation_in graph channel is) from
    (by_equations graph rest)

by_channels : (graph : Graph) {node last : ℕ} → Path (equations_of graph) node last
    → channels.Path graph.channels node last
by_channels graph Here = channels.Here
by_channels graph {node} {last} (Along equation is from rest) =
    let found = channel_of graph equation is in
    channels.Along found.channel found.is (sym (ap (λ (e : Equation). e.source) found.of) ∙ from)
    (subst (λ (e : Equation). channels.Path graph.channels e.target last) found.of
    (by_channels graph rest))
by_channels graph {node} {last} (Against equation is from rest) =
    let found = channel_of graph equation is in
    channels.Against found.channel found.is (sym (ap (λ (e : Equation). e.target) found.of) ∙ from)
    (subst (λ (e : Equation). channels.Path graph.channels e.source last) found.of
    (by_channels graph rest))

pub channels_connect : (graph : Graph) → channels.IsConnected graph
    → AreConnected (size_of graph) (equations_of graph)
channels_connect graph connected node other node_within other_within =
    by_equations graph (connected node other node_within other_within)

pub equations_connect : (graph : Graph) → AreConnected (size_of graph) (equations_of graph)
    → channels.IsConnected graph
equations_connect graph connected node other node_within other_within =
    by_channels graph (connected node other node_within other_within)

-- where the equations have rates, a graph can be balanced just where they connect its nodes
pub can_be : {E : Type 0} (graph : Graph) → All IsRated (equations_of graph)
    → (result : Result Bool E)
    → IfOk result (λ can. IsTrue can ↔ AreConnected (size_of graph) (equations_of graph))
    → IfOk result (λ can. IsTrue can ↔ All IsRated (equations_of graph)
    × channels.IsConnected graph)
can_be graph rated (Err error) h = tt
can_be graph rated (Ok can) h =
    (λ yes. (rated, equations_connect graph (h.0 yes)), λ both. h.1 (channels_connect graph both.1))
