use Rattle.std.proofs.Common.{◌≡◌, ◌∙◌, ap, sym, subst, ℕ, List, length, map, All, arith, Err, ◌≤◌}
use Rattle.std.proofs.lemmas.List.{length-map}
use Rattle.strc_elab_graph.specs.Graphs.{JoinsPorts}
use Rattle.strc_elab_graph.specs.NodeView.{graph_view, node_view, channel_view}
use Rattle.strc_sched_orders.specs.declared.unit as units
use Rattle.strc_sched_orders.specs.Buffers.{size_limit}
use Rattle.strc_sched_orders.specs.Peaks.{HasNodes}
use Rattle.strc_fuse.specs.Units.{round_units}
use Rattle.strc_fiss.specs.Numbers.{share_at, base, each_part, origin_of}
use Rattle.strc_fiss.specs.Splitting.{Wire, new_code, new_loop, split_graph}
use Rattle.strc_fiss.specs.Units.{split_units}
use Rattle.strc_fiss.specs.Fissions.{IsFission}
use Rattle.strc_fiss.specs.WireView.{wire_view}
use Rattle.strc_fiss.specs.declared.channels.Wire as declared
use Rattle.strc_fiss.specs.declared.error.FissError.TheVariants as refused
use Rattle.strc_fiss.proofs.Bases.{base_many}
use Rattle.strc_fiss.proofs.Joining.{wires_join}
use Rattle.strc_fiss.proofs.Lookup.{part_many}
use Rattle.strc_fiss.proofs.Outcome.{graph_is, raised_same, passes_there}
use Rattle.strc_fiss.proofs.Planned.{nodes_there}
use Rattle.strc_fiss.proofs.fission.split_by.Goals as goal
use Rattle.strc_lex_names.proofs.Results.{passed_error}

pub graph_of-requires-clause-joined : goal.graph_of-requires-clause-joined
graph_of-requires-clause-joined c =
    let graph = graph_view c.args.graph.now in
    let share = share_at c.args.shares.now in
    let schedule = c.args.schedule.now in
    let nodes = c.args.graph.now.nodes in
    let many = length-map nodes node_view in
    subst (λ (n : ℕ). All (JoinsPorts (each_part share (new_code share (map node_view nodes)) n))
    (map (λ (wire : Wire). wire.channel) (map wire_view c.in_ok-wires.wires.items))) many
    (subst (λ (l : List Wire). All
    (JoinsPorts (each_part share (new_code share (map node_view nodes))
    (length (map node_view nodes))))
    (map (λ (wire : Wire). wire.channel) l)) (sym c.in_ok-wires.ensures)
    (wires_join share graph c.joins_ports.ensures c.requires.alike schedule.greatest schedule.last))

pub sizes_of-requires-clause-nodes : goal.sizes_of-requires-clause-nodes
sizes_of-requires-clause-nodes c =
    let share = share_at c.args.shares.now in
    let nodes = c.args.graph.now.nodes in
    let codes = map node_view nodes in
    let split = c.in_ok-split.split in
    let round = c.in_ok-round.ensures
    ∙ ap (λ (l : List units.Unit.Unit). split_units share (round_units l)) c.round.ensures in
    let many : base share (length nodes) ≡ length split.nodes =
    sym (part_many share (new_code share codes) (length nodes))
    ∙ sym (ap length c.in_ok-split.ensures.nodes) ∙ length-map split.nodes node_view in
    subst (λ (l : List units.Unit.Unit). All (HasNodes (length split.nodes)) l)
    (sym c.deref-5.ensures.value)
    (subst (λ (n : ℕ). All (HasNodes n) c.in_ok-round.round.items) many
    (nodes_there share (length nodes) c.args.schedule.now.round c.in_ok-round.round.items
    c.requires.nodes round))

pub returns-in_err-sizes-clause-limit : goal.returns-in_err-sizes-clause-limit
returns-in_err-sizes-clause-limit c channel is =
    let share = share_at c.args.shares.now in
    let old = graph_view c.args.graph.now in
    let nodes = c.args.graph.now.nodes in
    let schedule = c.args.schedule.now in
    let split = c.in_ok-split.split in
    let wires = c.in_ok-wires.wires.items in
    let many : length old.nodes ≡ length nodes = length-map nodes node_view in
    let graph = graph_is split (split_graph share old schedule.greatest schedule.last)
    (c.in_ok-split.ensures.nodes
    ∙ ap (each_part share (new_code share old.nodes)) (sym many))
    (c.in_ok-split.ensures.channels
    ∙ ap (map (λ (wire : Wire). wire.channel)) c.in_ok-wires.ensures)
    (c.in_ok-split.ensures.loops
    ∙ ap (λ (n : ℕ). each_part share (new_loop share n old.outer_loops) n) (sym many)) in
    let high = c.deref-3.ensures.value ∙ c.in_ok-greatest.ensures
    ∙ ap (map (λ (wire : Wire). wire.greatest))
    (ap (map wire_view) c.deref.ensures.value ∙ c.in_ok-wires.ensures) in
    let held = c.deref-4.ensures.value ∙ c.in_ok-last.ensures
    ∙ ap (map (λ (wire : Wire). wire.last))
    (ap (map wire_view) c.deref-2.ensures.value ∙ c.in_ok-wires.ensures) in
    let round = ap round_units c.deref-5.ensures.value ∙ c.in_ok-round.ensures
    ∙ ap (λ (l : List units.Unit.Unit). split_units share (round_units l)) c.round.ensures in
    let own : refused.BufferLimit channel ≡ c.in_err-sizes.field-0.0 =
    passed_error c.from_residual-in_err-sizes.result c.in_err-sizes.field-0.0
    (refused.BufferLimit channel) c.from_residual-in_err-sizes.ensures is in
    let within = c.requires.within in
    passes_there share old schedule (graph_view split) c.deref-4.result.now c.deref-3.result.now
    c.deref-5.result.now channel
    (omega (arith, within, ap (base share) c.requires.shares, ap (base share) many))
    graph held high round
    (c.sizes_of.ensures.limit channel (c.in_err-sizes.was ∙ ap Err (sym own)))

pub new_origins-requires : goal.new_origins-requires
new_origins-requires c =
    let within = c.requires.within in
    omega (arith, within, base_many (share_at c.args.shares.now) (length c.args.shares.now))

pub new-planned-requires-clause-sizes : goal.new-planned-requires-clause-sizes
new-planned-requires-clause-sizes c =
    let split = c.in_ok-split.split in
    c.in_ok-sizes.ensures.channels
    ∙ sym (length-map split.channels channel_view)
    ∙ ap length c.in_ok-split.ensures.channels
    ∙ length-map (map wire_view c.in_ok-wires.wires.items) (λ (wire : Wire). wire.channel)
    ∙ sym (length-map (map wire_view c.in_ok-wires.wires.items) (λ (wire : Wire). wire.last))
    ∙ ap (λ (l : List declared.Wire). length (map (λ (wire : Wire). wire.last) (map wire_view l)))
    (sym c.deref-2.ensures.value)
    ∙ sym (ap length c.in_ok-last.ensures)

pub new-requires : goal.new-requires
new-requires c =
    let share = share_at c.args.shares.now in
    let nodes = c.args.graph.now.nodes in
    let codes = map node_view nodes in
    let split = c.in_ok-split.split in
    let wires = map wire_view c.in_ok-wires.wires.items in
    let planned = c.new-planned.ensures in
    let round = c.in_ok-round.ensures
    ∙ ap (λ (l : List units.Unit.Unit). split_units share (round_units l)) c.round.ensures in
    let many : base share (length nodes) ≡ length (map node_view split.nodes) =
    sym (part_many share (new_code share codes) (length nodes))
    ∙ sym (ap length c.in_ok-split.ensures.nodes) in
    let channels = ap length c.in_ok-split.ensures.channels
    ∙ length-map wires (λ (wire : Wire). wire.channel) in
    let greatest = ap length (planned.greatest ∙ c.in_ok-greatest.ensures
    ∙ ap (λ (l : List declared.Wire). map (λ (wire : Wire). wire.greatest) (map wire_view l))
    c.deref.ensures.value) ∙ length-map wires (λ (wire : Wire). wire.greatest) in
    let last = ap length (planned.last ∙ c.in_ok-last.ensures
    ∙ ap (λ (l : List declared.Wire). map (λ (wire : Wire). wire.last) (map wire_view l))
    c.deref-2.ensures.value) ∙ length-map wires (λ (wire : Wire). wire.last) in
    record {
      before = greatest ∙ sym channels;
      fill = last ∙ sym channels;
      nodes = subst (All (HasNodes (length (map node_view split.nodes)))) (sym planned.round)
          (subst (λ (n : ℕ). All (HasNodes n) c.in_ok-round.round.items) many
          (nodes_there share (length nodes) c.args.schedule.now.round c.in_ok-round.round.items
          c.requires.nodes round));
    }

pub returns-clause-split : goal.returns-clause-split
returns-clause-split c =
    let share = share_at c.args.shares.now in
    let old = graph_view c.args.graph.now in
    let nodes = c.args.graph.now.nodes in
    let schedule = c.args.schedule.now in
    let split = c.in_ok-split.split in
    let planned = c.new-planned.ensures in
    let many : length old.nodes ≡ length nodes = length-map nodes node_view in
    let within = c.requires.within in
    let greatest = planned.greatest ∙ c.in_ok-greatest.ensures
    ∙ ap (map (λ (wire : Wire). wire.greatest))
    (ap (map wire_view) c.deref.ensures.value ∙ c.in_ok-wires.ensures) in
    let last = planned.last ∙ c.in_ok-last.ensures
    ∙ ap (map (λ (wire : Wire). wire.last))
    (ap (map wire_view) c.deref-2.ensures.value ∙ c.in_ok-wires.ensures) in
    subst (IsFission share old schedule) (sym c.new.ensures) (record {
      few = omega (arith, within, ap (base share) c.requires.shares, ap (base share) many);
      graph = graph_is split (split_graph share old schedule.greatest schedule.last)
          (c.in_ok-split.ensures.nodes
          ∙ ap (each_part share (new_code share old.nodes)) (sym many))
          (c.in_ok-split.ensures.channels
          ∙ ap (map (λ (wire : Wire). wire.channel)) c.in_ok-wires.ensures)
          (c.in_ok-split.ensures.loops
          ∙ ap (λ (n : ℕ). each_part share (new_loop share n old.outer_loops) n) (sym many));
      startup = ap round_units planned.startup ∙ c.in_ok-startup.ensures
          ∙ ap round_units c.startup.ensures;
      round = ap round_units planned.round ∙ c.in_ok-round.ensures
          ∙ ap (λ (l : List units.Unit.Unit). split_units share (round_units l)) c.round.ensures;
      greatest = greatest;
      last = last;
      each = ap length planned.sizes ∙ c.in_ok-sizes.ensures.channels;
      within = subst (All (λ size. size ≤ size_limit)) (sym planned.sizes)
          c.in_ok-sizes.ensures.within;
      sizes = raised_same (graph_view split) c.new-planned.result.last c.deref-4.result.now
          c.new-planned.result.round c.deref-5.result.now c.new-planned.result.greatest
          c.deref-3.result.now c.new-planned.result.sizes c.in_ok-sizes.sizes.items
          (c.deref-4.ensures.value ∙ sym planned.last) (c.deref-5.ensures.value ∙ sym planned.round)
          (c.deref-3.ensures.value ∙ sym planned.greatest) (sym planned.sizes)
          c.in_ok-sizes.ensures.sizes;
      origins = c.in_ok-origins.ensures
          ∙ ap (each_part share (origin_of share)) (c.requires.shares ∙ sym many);
    })
