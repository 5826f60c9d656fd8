use Rattle.std.proofs.Common.{◌≡◌, ◌∙◌, refl, sym, ap, subst, ◌+◌, ℕ, suc, length}
use Rattle.std.proofs.Common.{arith, true≢false, List}
use Rattle.std.proofs.lemmas.List.{length-map}
use Rattle.strc_elab_graph.specs.NodeView.{GraphParts, graph_view}
use Rattle.strc_elab_graph.specs.Tapes.{tape_nodes}
use Rattle.strc_sched_orders.specs.Greedy.{firings_of}
use Rattle.strc_sched_rings.specs.Circuits.{circuit_view}
use Rattle.strc_sched_rings.specs.Parts.{IsPartCircuit}
use Rattle.strc_sched_rings.proofs.UnitLists.{same_firings}
use Rattle.strc_fuse.specs.Units.{round_units}
use Rattle.strc_stage_plan.specs.Cuts.{IsBetweenUnits, firings_within, segment_of, units_within}
use Rattle.strc_stage_plan.proofs.StageUnits.{segments_are_units}
use Rattle.strc_sched_machine.specs.Actors.{fields_of}
use Rattle.strc_sched_machine.specs.Parts.{HoldsFrom, IsPart, IsRest}
use Rattle.strc_sched_machine.specs.Running.{machine_view}
use Rattle.strc_stage_steps.specs.Tapes.{AreAfter}
use Rattle.strc_stage_plan.specs.Plans.{transformed_of}
use Rattle.strc_stage_cut.specs.Bounds.{bound_in, last_of}
use Rattle.strc_stage_cut.specs.Fired.{running_by}
use Rattle.strc_stage_cut.specs.Links.{blocks_in, crossings_in}
use Rattle.strc_stage_cut.specs.Made.{IsMade}
use Rattle.strc_stage_cut.specs.Tapes.{tapes_in}
use Rattle.strc_stage_cut.specs.declared.links.Side.TheVariants as side
use Rattle.strc_stage_cut.proofs.Crossings.{blocks_are, entering_is, leaving_is, tapes_after}
use Rattle.strc_stage_cut.proofs.Crossings.{tapes_are}
use Rattle.strc_stage_cut.proofs.Parting.{IsParted, bound_read, circuit_of, machine_of}
use Rattle.strc_stage_cut.proofs.stage_parts.stage_of.Goals as goal

pub take_part-requires-clause-own : goal.take_part-requires-clause-own
take_part-requires-clause-own c =
    subst (λ (g : GraphParts). IsPartCircuit (graph_view g) c.index-first.result.now
    c.index-next.result.now (circuit_view c.in_ok-own.own)) (sym c.transformed_graph.ensures)
    (c.parts_are_part_circuits.ensures (graph_view c.args.plan.now.split.graph)
    (circuit_view c.args.circuit.now) (circuit_view c.in_ok-own.own) c.index-first.result.now
    c.index-next.result.now c.requires.circuit c.in_ok-own.ensures.part)

pub new-requires-2 : goal.new-requires-2
new-requires-2 c =
    let first = c.index-first.result.now in
    let next = c.index-next.result.now in
    record {
      machine = c.in_ok-part.ensures.machine;
      order = c.in_ok-order.ensures.order;
      tapes = subst (AreAfter 0) (sym (c.in_ok-tapes_within.ensures
          ∙ ap (tapes_in first next 0) (c.deref-4.ensures.value ∙ c.requires.cut.tapes)))
          (tapes_after first next 0 0 0 (graph_view c.args.plan.now.split.graph).nodes
          (omega arith));
      stopped = λ broken. absurd (true≢false (sym broken));
    }

parted : (c : goal.After-new-2)
    → IsParted c.args.plan.now c.args.fired.now c.args.cut.now.bounds.items
    (circuit_view c.args.circuit.now) (circuit_view c.in_ok-own.own) c.args.cut.now.rooms.items
    (machine_view c.args.machine.now) (machine_view c.in_ok-part.part) c.args.stage
    c.index-first.result.now c.index-next.result.now
parted c =
    let bounds = c.args.cut.now.bounds.items in
    let some = c.requires.cut.at.some in
    let before = c.args.machine.now in
    let part = machine_view c.in_ok-part.part in
    record {
      at = c.requires.cut.at;
      most = c.requires.stage;
      first_is = bound_read bounds c.args.stage c.args.stage c.index-first.result.now some
          (omega (arith, c.requires.stage)) refl c.index-first.ensures;
      next_is = bound_read bounds (suc c.args.stage) (c.args.stage + 1) c.index-next.result.now some
          (omega (arith, c.requires.stage)) (omega arith) c.index-next.ensures;
      whole = c.requires.circuit;
      of = c.in_ok-own.ensures.part;
      rooms_are = c.requires.cut.rooms;
      each_fields = length-map before.actors.items fields_of ∙ c.requires.holds.actors;
      each_fired = c.requires.holds.fired;
      is = subst (λ (g : GraphParts). IsPart (graph_view g) c.index-first.result.now
          c.index-next.result.now c.args.cut.now.rooms.items (machine_view before) part)
          c.transformed_graph.ensures
          (subst (λ (rooms : List ℕ). IsPart (graph_view c.transformed_graph.result.now)
          c.index-first.result.now c.index-next.result.now rooms (machine_view before) part)
          c.deref.ensures.value c.in_ok-part.ensures.part);
    }

order_is : (c : goal.After-new-2)
    → firings_of c.in_ok-order.order.units.items
    ≡ segment_of (bound_in c.args.cut.now.bounds.items) (firings_of c.args.fired.now) c.args.stage
order_is c =
    let fired = c.args.fired.now in
    let shared = c.requires.cut.shared in
    let is = parted c in
    let between_first = subst (λ (n : ℕ). IsBetweenUnits (round_units fired) n)
    (sym is.first_is) (shared.between c.args.stage (omega (arith, c.requires.stage))) in
    let between_next = subst (λ (n : ℕ). IsBetweenUnits (round_units fired) n)
    (sym is.next_is) (shared.between (suc c.args.stage) (omega (arith, c.requires.stage))) in
    let first = c.index-first.result.now in
    let next = c.index-next.result.now in
    ap firings_of c.in_ok-order.ensures.units
    ∙ same_firings c.in_ok-units.units.items (units_within first next fired) c.in_ok-units.ensures
    ∙ segments_are_units fired first next between_first between_next
    ∙ ap (λ (n : ℕ). firings_within n next (firings_of fired)) is.first_is
    ∙ ap (λ (n : ℕ). firings_within (bound_in c.args.cut.now.bounds.items c.args.stage) n
    (firings_of fired)) is.next_is

pub returns-clause-made : goal.returns-clause-made
returns-clause-made c =
    let plan = c.args.plan.now in
    let running = running_by plan c.args.fired.now in
    let cut = c.args.cut.now in
    let bounds = cut.bounds.items in
    let stage = c.args.stage in
    let first = c.index-first.result.now in
    let next = c.index-next.result.now in
    let is = parted c in
    let tapes = c.in_ok-tapes_within.ensures
    ∙ ap (tapes_in first next 0) (c.deref-4.ensures.value ∙ c.requires.cut.tapes) in
    subst (IsMade (running_by plan c.args.fired.now) bounds (circuit_view c.args.circuit.now)
    (machine_view c.args.machine.now) c.args.rounds stage) (sym c.new-2.ensures)
    (record {
      state = record {
        circuit_is = circuit_of plan c.args.fired.now bounds _ _ _ _ _ _ _ _ is;
        order_is = order_is c;
        entering_is = c.in_ok-crossings.ensures
            ∙ ap (crossings_in side.Entering stage 0 0) (c.deref-2.ensures.value
            ∙ c.requires.cut.links)
            ∙ entering_is running bounds stage;
        leaving_is = c.in_ok-crossings-2.ensures
            ∙ ap (crossings_in side.Leaving stage 0 0) (c.deref-3.ensures.value
            ∙ c.requires.cut.links)
            ∙ leaving_is running bounds stage;
        tapes_are = tapes
            ∙ ap (λ (n : ℕ). tapes_in n next 0 (tape_nodes (transformed_of plan).nodes)) is.first_is
            ∙ ap (λ (n : ℕ). tapes_in (bound_in bounds stage) n 0
            (tape_nodes (transformed_of plan).nodes)) is.next_is
            ∙ tapes_are plan (bound_in bounds) (last_of bounds) c.requires.cut.at.cut stage
            c.requires.stage 0 0 (transformed_of plan).nodes (omega arith);
        blocks_are = c.in_ok-blocks.ensures
            ∙ ap (blocks_in stage) (c.deref-5.ensures.value ∙ c.requires.cut.links)
            ∙ blocks_are running bounds stage;
        tape_count_is = c.len.ensures ∙ cut.tapes.ok.0 ∙ ap length c.requires.cut.tapes;
        machine = machine_view c.in_ok-part.part;
        machine_is = refl;
        is_machine = machine_of plan c.args.fired.now bounds _ _ _ _ _ _ _ _ is;
      };
      fresh = record {
        first_is = refl;
        rounds_are = refl;
        none_taken = refl;
        finished_is = refl;
        no_stop = λ going. refl;
      };
      no_stop = refl;
    })

pub returns-clause-rest : goal.returns-clause-rest
returns-clause-rest c =
    let before = machine_view c.args.machine.now in
    let after = machine_view c.take_part.new.self in
    subst (λ (g : GraphParts). IsRest (graph_view g)
    (bound_in c.args.cut.now.bounds.items (suc c.args.stage)) before after)
    c.transformed_graph.ensures
    (subst (λ (n : ℕ). IsRest (graph_view c.transformed_graph.result.now) n before after)
    (parted c).next_is c.in_ok-part.ensures.rest)

pub returns-clause-holds : goal.returns-clause-holds
returns-clause-holds c =
    subst (λ (g : GraphParts). HoldsFrom (graph_view g)
    (bound_in c.args.cut.now.bounds.items (suc c.args.stage)) c.take_part.new.self)
    c.transformed_graph.ensures
    (subst (λ (n : ℕ). HoldsFrom (graph_view c.transformed_graph.result.now) n c.take_part.new.self)
    (parted c).next_is c.in_ok-part.ensures.holds)
