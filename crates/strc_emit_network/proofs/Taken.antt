-- A round's firings take as many items as later firings do.
use Rattle.std.proofs.Common.{◌≡◌, ◌⊎◌, inl, inr, ℕ, zero, suc, ◌+◌, ◌*◌, ◌≤◌, Option, Some, None}
use Rattle.std.proofs.Common.{refl, sym, ap, ◌∙◌, subst, arith}
use Rattle.std.specs.Prelude.{slice_get, slice_index}
use Rattle.std.specs.Option.{option_map, option_map_or}
use Rattle.strc_work_meaning.specs.Filters.{filter_of}
use Rattle.strc_elab_graph.specs.declared.graph.Channel.{Channel}
use Rattle.strc_elab_graph.specs.declared.graph.Node.{Node}
use Rattle.strc_elab_graph.specs.declared.graph.Port.{Port}
use Rattle.strc_elab_graph.specs.Graphs.{NodeCode}
use Rattle.strc_elab_graph.specs.Graphs as graphs
use Rattle.strc_elab_graph.specs.NodeView.{node_view}
use Rattle.strc_elab_graph.specs.Rates.{pops_at}
use Rattle.strc_emit_moves.specs.declared.places.Phase.TheVariants as phase
use Rattle.strc_emit_moves.specs.Places.{pops_of}
use Rattle.strc_emit_moves.specs.Rooms.{moved_after, first_port}
use Rattle.strc_emit_runs.specs.Running.{Program, code_at}
use Rattle.strc_emit_network.specs.Later.{HasNoPrework, IsWorkFiring, IsLaterFiring}
use Rattle.strc_emit_network.specs.Programs.{IsNodeIn}
use Rattle.strc_emit_network.specs.Taken.{RoundsTake}
use Rattle.strc_emit_network.proofs.Later.{later_rates_are_same}

pub moved_by_later : (before first later firings : ℕ) → (1 ≤ before) ⊎ (first ≡ later)
    → moved_after before first later firings ≡ later * firings
moved_by_later (suc before) first later firings is = refl
moved_by_later zero first later firings (inl one) = absurd (omega (arith, one))
moved_by_later zero first later zero (inr same) = omega arith
moved_by_later zero first later (suc firings) (inr same) =
    let sum : first + later * firings ≡ later * suc firings = omega (arith, same) in sum

-- a node has fired in start-up, or its first firing is as the later ones
starts : (program : Program) (node : ℕ) (code : NodeCode)
    → IsNodeIn program phase.Round node code
    → (1 ≤ slice_index program.network.startup.now node) ⊎ IsLaterFiring code 0
starts program node (graphs.Filter name filter) is = by is.2.started
  where
    by : HasNoPrework (filter_of is.0) ⊎ (1 ≤ slice_index program.network.startup.now node)
        → (1 ≤ slice_index program.network.startup.now node) ⊎ IsWorkFiring filter 0
    by (inl none) = inr (inl (subst HasNoPrework (sym is.1) none))
    by (inr first) = inl first
starts program node graphs.Identity is = inr is.is
starts program node (graphs.FileReader text) is = inr is.is
starts program node (graphs.FileWriter text) is = inr is.is
starts program node (graphs.Splitter splitter) is = inr is.is
starts program node (graphs.Joiner weights) is = inr is.is
starts program node (graphs.Scatter fission) is = inr is.is
starts program node (graphs.Copy copied fission) is = inr is.is
starts program node (graphs.Gather fission) is = inr is.is

pops_through : (program : Program) (node firing port : ℕ) (o : Option NodeCode)
    → code_at program node ≡ o
    → pops_of program.network.nodes.now node firing port
    ≡ option_map_or (λ c. pops_at c firing port) o 0
pops_through program node firing port o at = by (slice_get program.network.nodes.now node) at
  where
    by : (found : Option Node) → option_map node_view found ≡ o
        → option_map_or (λ c. pops_at (node_view c) firing port) found 0
        ≡ option_map_or (λ c. pops_at c firing port) o 0
    by None e = ap (λ (o : Option NodeCode). option_map_or (λ c. pops_at c firing port) o 0) e
    by (Some node) e =
        ap (λ (o : Option NodeCode). option_map_or (λ c. pops_at c firing port) o 0) e

pub rounds_take : RoundsTake
rounds_take graph program number channel is there =
    ap (λ (end : Port). moved_after (slice_index program.network.startup.now end.node)
    (pops_of program.network.nodes.now end.node 0 end.port)
    (pops_of program.network.nodes.now end.node 1 end.port)
    (slice_index program.network.round.now end.node))
    (ap (λ (o : Option Channel). option_map_or (λ (one : Channel). one.target) o first_port) there)
    ∙ moved_by_later (slice_index program.network.startup.now channel.target.node)
    (pops_of program.network.nodes.now channel.target.node 0 channel.target.port)
    (pops_of program.network.nodes.now channel.target.node 1 channel.target.port)
    (slice_index program.network.round.now channel.target.node)
    (by channel.target.node channel.target.port (code_at program channel.target.node) refl)
  where
    same : (node port : ℕ) (code : NodeCode) → code_at program node ≡ Some code
        → (1 ≤ slice_index program.network.startup.now node) ⊎ IsLaterFiring code 0
        → (1 ≤ slice_index program.network.startup.now node)
        ⊎ (pops_of program.network.nodes.now node 0 port
        ≡ pops_of program.network.nodes.now node 1 port)
    same node port code at (inl first) = inl first
    same node port code at (inr later) =
        inr (pops_through program node 0 port (Some code) at
        ∙ (later_rates_are_same code 0 later port).1
        ∙ sym (pops_through program node 1 port (Some code) at))

    by : (node port : ℕ) (o : Option NodeCode) → code_at program node ≡ o
        → (1 ≤ slice_index program.network.startup.now node)
        ⊎ (pops_of program.network.nodes.now node 0 port
        ≡ pops_of program.network.nodes.now node 1 port)
    by node port None at =
        inr (pops_through program node 0 port None at
        ∙ sym (pops_through program node 1 port None at))
    by node port (Some code) at =
        same node port code at (starts program node code (is.nodes node code at))
