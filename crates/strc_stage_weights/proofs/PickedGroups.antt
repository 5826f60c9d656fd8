-- Bounds where groups of a plan begin are a cut.
use Rattle.std.proofs.Common.{sym, ◌∙◌, subst, suc, arith}
use Rattle.strc_fuse.specs.Units.{round_units}
use Rattle.strc_batch_cut.specs.Plans.{group_bound, plan_groups}
use Rattle.strc_batch_cut.proofs.Picks.{picked_bounds_are_a_cut, within_groups}
use Rattle.strc_batch_cut.proofs.Plans.{groups_cut}
use Rattle.strc_stage_plan.specs.Cuts.{IsBetweenGroups, IsBetweenUnits}
use Rattle.strc_stage_plan.specs.Plans.{transformed_of}
use Rattle.strc_stage_weights.specs.Laws.{PickedGroupsAreACut}

pub picked_groups_are_a_cut : PickedGroupsAreACut
picked_groups_are_a_cut plan pick bound stages is nodes picks same =
    let cut = (picked_bounds_are_a_cut (transformed_of plan)
    (round_units plan.split.schedule.round) (group_bound plan) (plan_groups plan) pick stages
    (groups_cut plan is nodes) picks).0 in (
      record {
        first = same 0 (omega arith) ∙ cut.first;
        all = same stages (omega arith) ∙ cut.all;
        rising = λ stage less. omega (
          arith,
          same stage (omega (arith, less)),
          same (suc stage) (omega (arith, less)),
          cut.rising stage less,
        );
        between = λ stage less. subst (IsBetweenGroups (transformed_of plan).outer_loops)
            (sym (same stage less)) (cut.between stage less);
        units = λ stage less. subst (IsBetweenUnits (round_units plan.split.schedule.round))
            (sym (same stage less)) (cut.units stage less);
      },
      λ stage less. (
        pick stage,
        within_groups pick stages (plan_groups plan) picks stage less,
        same stage less,
      ),
    )
