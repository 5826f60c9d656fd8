use Rattle.std.proofs.Common.{◌≡◌, sym, ap, ◌∙◌, ◌<◌, ◌++◌, ◌∷◌, [], subst, ℕ, suc, List, length}
use Rattle.std.proofs.Common.{map, arith, get_or, set}
use Rattle.std.specs.List.{range_with_len}
use Rattle.std.proofs.lemmas.List.{length-map}
use Rattle.strc_sched_orders.specs.Schedules.{ScheduleParts}
use Rattle.strc_sched_orders.specs.declared.unit as unit_type
use Rattle.strc_fuse.specs.Units.{round_unit, round_units}
use Rattle.strc_stage_plan.specs.Cuts.{units_within}
use Rattle.strc_stage_plan.specs.Plans.{transformed_of}
use Rattle.strc_stage_cut.specs.Bounds.{bound_in, last_of}
use Rattle.strc_batch.specs.Listed.{group_view, units_in}
use Rattle.strc_batch.proofs.Grouping.{copy_parted, group_within, unit_there}
use Rattle.strc_batch.proofs.Parting.{all_parted, node_of}
use Rattle.strc_batch.proofs.group_units.parted.Goals as goal

pub add-requires : goal.add-requires
add-requires c =
    let plan = c.args.plan.now in
    let bounds = c.args.bounds.now in
    let groups = c.args.groups.now in
    let unit = c.unit-item.result in
    let there = unit_there plan c.round-round.result.now
    c.transformed_schedule.result.now.round c.loop-unit.unit-index unit
    c.transformed_schedule.ensures.nodes c.round-round.ensures c.loop-unit-test.true
    c.unit-item.is (omega (arith, c.requires.some, c.requires.groups.nodes)) in
    let node : c.node_of.result ≡ node_of unit = c.node_of.ensures in
    let within = group_within plan bounds groups c.requires.bounds c.requires.groups
    c.node_of.result (subst (λ n. n < length (transformed_of plan).nodes) (sym node)
    there) in
    omega (
      arith,
      within,
      c.loop-unit.invariant.each,
      length-map c.loop-unit.parts.items group_view,
    )

pub loop-unit-preserved : goal.loop-unit-preserved
loop-unit-preserved c =
    let plan = c.args.plan.now in
    let bounds = c.args.bounds.now in
    let groups = c.args.groups.now in
    let unit = c.unit-item.result in
    let there = unit_there plan c.round-round.result.now
    c.transformed_schedule.result.now.round c.loop-unit.unit-index unit
    c.transformed_schedule.ensures.nodes c.round-round.ensures c.loop-unit-test.true
    c.unit-item.is (omega (arith, c.requires.some, c.requires.groups.nodes)) in
    copy_parted plan bounds groups c.requires.bounds c.requires.groups c.round-round.result.now
    c.loop-unit.unit-index unit c.in_ok-copy.copy (units_in c.loop-unit.parts.items)
    (units_in c.add.new.groups.items) c.loop-unit-test.true c.unit-item.is there
    c.in_ok-copy.ensures c.loop-unit.invariant
    (subst (λ (n : ℕ). units_in c.add.new.groups.items ≡ set (units_in c.loop-unit.parts.items)
    (get_or groups n 0) (get_or (units_in c.loop-unit.parts.items) (get_or groups n 0) []
    ++ round_unit c.in_ok-copy.copy ∷ [])) c.node_of.ensures c.in_ok-add.ensures)

pub returns : goal.returns
returns c =
    let bounds = c.args.bounds.now in
    all_parted (bound_in bounds) (last_of bounds) c.round-round.result.now
    c.loop-unit.unit-index (units_in c.loop-unit.parts.items) c.loop-unit-test.false
    c.loop-unit.invariant
    ∙ ap (λ (l : List unit_type.Unit.Unit). map (λ (group : ℕ). round_units
    (units_within (bound_in bounds group) (bound_in bounds (suc group)) l))
    (range_with_len 0 (suc (last_of bounds))))
    (c.round-round.ensures
    ∙ ap (λ (s : ScheduleParts). s.round) c.transformed_schedule.ensures.schedule)
