use Rattle.std.proofs.Common.{◌∙◌, ap, sym, subst, ℕ, List, length, map, get_or, take, arith, ◌+◌}
use Rattle.std.proofs.lemmas.List.{length-map}
use Rattle.strc_elab_graph.specs.Graphs as graphs
use Rattle.strc_elab_graph.specs.NodeView.{channel_view}
use Rattle.strc_elab_graph.specs.declared.graph.Channel as declared_channel
use Rattle.strc_fiss.specs.Groups.{AreGroups}
use Rattle.strc_fiss.specs.Numbers.{share_at, up_to, base}
use Rattle.strc_fiss.specs.Splitting.{Wire, wires_of, inner_wires, renamed_channel}
use Rattle.strc_fiss.specs.WireView.{group_view}
use Rattle.strc_fiss.proofs.Grouped.{inner_groups, next_wire, all_wires}
use Rattle.strc_fiss.proofs.Shares.{ends_there}
use Rattle.strc_fiss.proofs.channels.groups_of.Goals as goal

pub loop-number-init : goal.loop-number-init
loop-number-init c =
    let share = share_at c.args.shares.now in
    inner_groups share (length c.args.graph.now.nodes) (map group_view c.in_ok-groups.groups.items)
    (c.in_ok-groups.ensures
    ∙ ap (up_to (λ node. inner_wires (base share node) (share node))) c.requires.shares)

pub renamed-requires-clause-source : goal.renamed-requires-clause-source
renamed-requires-clause-source c =
    let ends = ends_there c.args.graph.now c.channels-channels.result.now c.loop-number.number
    c.index-channels-number.result c.channels-channels.ensures.ports
    c.channels-channels.ensures.channels c.loop-number-test.true c.index-channels-number.is in
    let same = c.requires.shares in
    omega (arith, ends.0, same)

pub renamed-requires-clause-target : goal.renamed-requires-clause-target
renamed-requires-clause-target c =
    let ends = ends_there c.args.graph.now c.channels-channels.result.now c.loop-number.number
    c.index-channels-number.result c.channels-channels.ensures.ports
    c.channels-channels.ensures.channels c.loop-number-test.true c.index-channels-number.is in
    let same = c.requires.shares in
    omega (arith, ends.1, same)

pub add-requires : goal.add-requires
add-requires c =
    let ends = ends_there c.args.graph.now c.channels-channels.result.now c.loop-number.number
    c.index-channels-number.result c.channels-channels.ensures.ports
    c.channels-channels.ensures.channels c.loop-number-test.true c.index-channels-number.is in
    let many = c.loop-number.invariant.each in
    omega (arith, ends.0, many, length-map c.loop-number.groups.items group_view)

pub loop-number-preserved : goal.loop-number-preserved
loop-number-preserved c =
    let graph = c.args.graph.now in
    let share = share_at c.args.shares.now in
    let schedule = c.args.schedule.now in
    let number = c.loop-number.number in
    let channel = c.index-channels-number.result in
    let read = c.channels-channels.ensures.channels in
    let ends = ends_there graph c.channels-channels.result.now number channel
    c.channels-channels.ensures.ports read c.loop-number-test.true c.index-channels-number.is in
    let made : graphs.Channel → ℕ → ℕ → Wire = λ own high held. record
    { channel = own; greatest = high; last = held } in
    let less = c.loop-number-test.true in
    subst (AreGroups share
    (take (number + 1) (wires_of (map channel_view graph.channels) schedule.greatest schedule.last))
    (length graph.nodes)) (sym c.in_ok-add.ensures)
    (next_wire share graph schedule.greatest schedule.last number
    (map group_view c.loop-number.groups.items) channel
    (made (channel_view c.in_ok-renamed.field-0) (get_or c.greatest-greatest.result.now number 0)
    (get_or c.last-last.result.now number 0))
    c.requires.greatest c.requires.last c.loop-number.invariant
    (omega (arith, less, ap length read))
    (c.index-channels-number.is
    ∙ ap (λ (l : List declared_channel.Channel). get_or l number channel) read) ends.0
    (ap (λ (own : graphs.Channel). made own (get_or c.greatest-greatest.result.now number 0)
    (get_or c.last-last.result.now number 0)) c.in_ok-renamed.ensures
    ∙ ap (λ (l : List ℕ). made (renamed_channel share (channel_view channel)) (get_or l number 0)
    (get_or c.last-last.result.now number 0)) c.greatest-greatest.ensures
    ∙ ap (λ (l : List ℕ). made (renamed_channel share (channel_view channel))
    (get_or schedule.greatest number 0) (get_or l number 0)) c.last-last.ensures))

pub returns : goal.returns
returns c =
    let past = c.loop-number-test.false in
    all_wires (share_at c.args.shares.now) c.args.graph.now c.args.schedule.now.greatest
    c.args.schedule.now.last c.loop-number.number (map group_view c.loop-number.groups.items)
    c.requires.greatest c.requires.last
    (omega (arith, past, ap length c.channels-channels.ensures.channels))
    c.loop-number.invariant
