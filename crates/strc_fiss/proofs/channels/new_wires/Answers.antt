use Rattle.std.proofs.Common.{◌≡◌, ◌∙◌, map, length, List, Vec}
use Rattle.std.specs.Global.{Global}
use Rattle.std.specs.List.{flat_map}
use Rattle.strc_elab_graph.specs.NodeView.{channel_view, graph_view}
use Rattle.strc_fiss.specs.declared.channels.Wire as declared
use Rattle.strc_fiss.specs.Numbers.{share_at}
use Rattle.strc_fiss.specs.Splitting.{Wire, wires_of, split_wires}
use Rattle.strc_fiss.specs.WireView.{wire_view, group_view}
use Rattle.strc_fiss.proofs.Grouped.{groups_joined}
use Rattle.strc_fiss.proofs.Outcomes.{if_ok}
use Rattle.strc_fiss.proofs.channels.new_wires.Goals as goal
use Rattle.std.proofs.lemmas.List.{length-map}
use Rattle.strc_elab_graph.specs.NodeView.{node_view}
use Rattle.std.proofs.Common.{ap, sym}
use Rattle.strc_fiss.specs.Splitting.{leaving}
use Rattle.strc_fiss.specs.Numbers.{joined_up_to}

pub returns : goal.returns
returns c =
    let graph = c.args.graph.now in
    let share = share_at c.args.shares.now in
    let wires = wires_of (map channel_view graph.channels) c.args.schedule.now.greatest
    c.args.schedule.now.last in
    let groups = map group_view c.in_ok-groups.groups.items in
    if_ok c.joined.result
    (λ (made : Vec declared.Wire Global). map wire_view made.items
    ≡ flat_map (λ (group : List Wire). group) groups)
    (λ (made : Vec declared.Wire Global). map wire_view made.items
    ≡ split_wires share (graph_view graph) c.args.schedule.now.greatest c.args.schedule.now.last)
    (λ made e. e ∙ groups_joined share wires (length graph.nodes) groups c.in_ok-groups.ensures
    ∙ ap (joined_up_to (leaving share wires)) (sym (length-map graph.nodes node_view)))
    c.joined.ensures
