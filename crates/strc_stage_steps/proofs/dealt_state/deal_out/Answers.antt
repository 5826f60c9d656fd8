use Rattle.std.proofs.Common.{◌∙◌, sym, ap, subst, List, ℕ, length, map}
use Rattle.std.proofs.lemmas.List.{length-map}
use Rattle.strc_elab_graph.specs.Graphs.{NodeCode}
use Rattle.strc_elab_graph.specs.NodeView.{channel_view, graph_view, node_view}
use Rattle.strc_elab_graph.specs.declared.graph.Node.{Node}
use Rattle.strc_sched_rings.specs.Circuits.{circuit_view}
use Rattle.strc_sched_machine.specs.Running.{machine_view}
use Rattle.strc_stage_steps.specs.Handing.{HasFilled, HasHanded, items_before}
use Rattle.strc_stage_steps.specs.Origins.{AreOrigins, IsWhole}
use Rattle.strc_stage_steps.proofs.HandedOn.{dealt_is}
use Rattle.strc_stage_steps.proofs.dealt_state.deal_out.Goals as goal

pub hand_nodes-requires-clause-apart : goal.hand_nodes-requires-clause-apart
hand_nodes-requires-clause-apart c one other first second same =
    let e = ap (map node_view) c.nodes.ensures in
    c.requires.origins.apart one other (subst (λ (l : List NodeCode). IsWhole l one) e first)
    (subst (λ (l : List NodeCode). IsWhole l other) e second) same

pub returns-clause-machine : goal.returns-clause-machine
returns-clause-machine c =
    let old = circuit_view c.args.old.now in
    let circuit = circuit_view c.args.circuit.now in
    c.hand_channels.ensures.machine circuit
    (c.hand_nodes.ensures.machine old circuit
    (c.requires.circuit.codes ∙ sym (ap (map node_view) c.nodes.ensures))
    (subst (λ (l : List NodeCode). AreOrigins old.codes l c.args.origins.now)
    (sym c.requires.circuit.codes) c.requires.origins)
    c.requires.before c.in_ok-after.ensures.machine)

pub returns-clause-dealt : goal.returns-clause-dealt
returns-clause-dealt c room =
    let graph = c.args.graph.now in
    let origins = c.args.origins.now in
    let old = circuit_view c.args.old.now in
    let before = machine_view c.args.before in
    let first = machine_view c.in_ok-after.after in
    let left = machine_view c.hand_nodes.new.left in
    let given = machine_view c.hand_nodes.new.after in
    let after = machine_view c.hand_channels.new.after in
    dealt_is old (graph_view graph) origins c.args.sizes.now before first left given after
    c.in_ok-after.ensures.first
    (subst (λ (n : ℕ). HasHanded (map node_view graph.nodes) origins n before first left given)
    (sym (length-map graph.nodes node_view))
    (subst (λ (l : List Node). HasHanded (map node_view l) origins (length l) before first left
    given) c.nodes.ensures c.hand_nodes.ensures.handed))
    (subst (λ (n : ℕ). HasFilled (items_before old (graph_view graph).nodes origins left)
    (graph_view graph).channels n given after)
    (sym (length-map graph.channels channel_view)) c.hand_channels.ensures.filled)
    room
