-- The bounds that workers share are a cut.
use Rattle.std.proofs.Common.{◌≡◌, refl, sym, ap, ◌∙◌, subst, ℕ, suc, ◌<◌, ◌≤◌, List, []}
use Rattle.std.proofs.Common.{◌∷◌, length, map, arith}
use Rattle.strc_elab_graph.specs.Graphs.{Channel, Graph}
use Rattle.strc_elab_dataflow.specs.FusedUnits.{RoundUnit}
use Rattle.strc_sched_orders.specs.Firings.{Firings}
use Rattle.strc_fuse.specs.Units.{round_units}
use Rattle.strc_stage_plan.specs.Plans.{IsPlan, PlanParts, graph_of, transformed_of}
use Rattle.strc_stage_plan.specs.Bounds.{stage_bound, stage_bounds, stage_count}
use Rattle.strc_stage_plan.specs.Cuts.{IsBetweenGroups, IsBetweenUnits}
use Rattle.strc_stage_plan.proofs.Shares.{bounds_are_listed}
use Rattle.strc_stage_steps.specs.Plans.{IsCut}
use Rattle.strc_stage_steps.proofs.Plans.{plan_bounds_are_a_cut}
use Rattle.strc_stage_cut.specs.Bounds.{bound_in, last_of}
use Rattle.strc_stage_cut.specs.Links.{carried_between, link_of, room_of}

module _ (plan : PlanParts) (workers : ℕ) (plan_is : IsPlan plan) (some : 0 < workers)
    (nodes : 0 < length (graph_of plan).nodes) where
  abbrev order : List RoundUnit
  order = round_units plan.split.schedule.round

  abbrev bounds : List ℕ
  bounds = stage_bounds (transformed_of plan).outer_loops
      (round_units plan.split.schedule.round) workers

  abbrev count : ℕ
  count = stage_count (transformed_of plan).outer_loops
      (round_units plan.split.schedule.round) workers

  long : length bounds ≡ suc count
  long = (bounds_are_listed (transformed_of plan).outer_loops order workers).0

  pub bound_is : (stage : ℕ) → stage ≤ count
      → bound_in bounds stage ≡ stage_bound (transformed_of plan).outer_loops order workers stage
  bound_is stage less =
      (bounds_are_listed (transformed_of plan).outer_loops order workers).1 stage less

  some_stage : 0 < count
  some_stage = (plan_bounds_are_a_cut plan workers plan_is some nodes).0

  pub two_bounds : 2 ≤ length bounds
  two_bounds = omega (arith, long, some_stage)

  pub stages_are : suc (last_of bounds) ≡ count
  stages_are = omega (arith, long, some_stage)

  counted : IsCut plan (bound_in bounds) count
  counted =
      let is = (plan_bounds_are_a_cut plan workers plan_is some nodes).1 in record {
        first = bound_is 0 (omega arith) ∙ is.first;
        all = bound_is count (omega arith) ∙ is.all;
        rising = λ stage less. omega (
          arith,
          bound_is stage (omega (arith, less)),
          bound_is (suc stage) (omega (arith, less)),
          is.rising stage less,
        );
        between = λ stage less. subst (IsBetweenGroups (transformed_of plan).outer_loops)
            (sym (bound_is stage less)) (is.between stage less);
        units = λ stage less. subst (IsBetweenUnits order) (sym (bound_is stage less))
            (is.units stage less);
      }

  pub bounds_cut : IsCut plan (bound_in bounds) (suc (last_of bounds))
  bounds_cut = subst (IsCut plan (bound_in bounds)) (sym stages_are) counted

-- the room of each channel
pub link_rooms : (graph : Graph) (counts : Firings) (at_bounds : List ℕ) (channels : List Channel)
    → map room_of (map (link_of graph counts at_bounds) channels)
    ≡ map (carried_between graph counts at_bounds) channels
link_rooms graph counts at_bounds [] = refl
link_rooms graph counts at_bounds (channel ∷ channels) =
    ap (λ l. carried_between graph counts at_bounds channel ∷ l)
    (link_rooms graph counts at_bounds channels)
