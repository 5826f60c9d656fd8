-- The units of a plan's round can be shared among its stages, and a ring of these is what start-up
-- leaves.
use Rattle.std.proofs.Common.{◌≡◌, sym, subst, ℕ, ◌<◌, ℤ, List, length}
use Rattle.std.proofs.Common.{Result, Ok, Err, IfOk}
use Rattle.std.specs.Global.{Vec}
use Rattle.strc_elab_graph.specs.Graphs.{IsGraph}
use Rattle.strc_sched_laws.specs.Machine.{CircuitView, MachineView}
use Rattle.strc_sched_orders.specs.declared.unit as units
use Rattle.strc_stage_plan.specs.Plans.{IsPlan, PlanParts, graph_of, transformed_of}
use Rattle.strc_stage_plan.proofs.Transformed.{nodes_after}
use Rattle.strc_stage_cut.specs.Cuts.{IsCutAt}
use Rattle.strc_stage_cut.specs.Fired.{CanBeShared}
use Rattle.strc_stage_cut.specs.Launches.{HasBegun, IsRingOf, bounds_of}
use Rattle.strc_stage_cut.specs.Stages.{AreStages}
use Rattle.strc_stage_cut.specs.Startups.{HasEnded}
use Rattle.strc_stage_cut.specs.declared.plan_cut.Cut.{Cut}
use Rattle.strc_stage_cut.specs.Launches.{Ring}
use Rattle.strc_stage_cut.proofs.Carried.{carried_few}
use Rattle.strc_stage_cut.proofs.Cuts.{two_bounds, bounds_cut, stages_are}
use Rattle.strc_stage_cut.proofs.RoundCounts.{counts_few}

module _ (plan : PlanParts) (workers : ℕ) (is : IsPlan plan) (graph : IsGraph (transformed_of plan))
    (some : 0 < workers) (nodes : 0 < length (graph_of plan).nodes) where
  pub cut_at : IsCutAt plan (bounds_of plan workers)
  cut_at = record {
    is = is;
    graph = graph;
    some = two_bounds plan workers is some nodes;
    cut = bounds_cut plan workers is some nodes;
  }

  pub cuts_at : {E : Type 0} (result : Result (Vec ℕ) E)
      → IfOk result (λ bounds. bounds.items ≡ bounds_of plan workers)
      → IfOk result (λ bounds. IsCutAt plan bounds.items)
  cuts_at (Ok bounds) same = subst (IsCutAt plan) (sym same) cut_at
  cuts_at (Err error) same = tt

  pub round_shared : CanBeShared plan plan.split.schedule.round (bounds_of plan workers)
  round_shared = record {
    nodes = nodes_after plan.graph plan.startup_counts plan.round_counts plan.schedule plan.split
        is.round is.schedule is.transformation;
    between = (bounds_cut plan workers is some nodes).units;
    counts_few = counts_few plan is;
    items_few = carried_few plan (bounds_of plan workers) cut_at;
  }

-- The ring of a round's stages is that of so many workers.
pub begun_so : (plan : PlanParts) (input : List ℤ) (rounds workers : ℕ) (cut : Cut)
    (fired : List units.Unit.Unit) (circuit : CircuitView) (started : MachineView) (ring : Ring)
    → AreStages plan workers cut → fired ≡ plan.split.schedule.round
    → HasEnded plan input circuit started
    → IsRingOf plan fired cut.bounds.items circuit started rounds ring
    → HasBegun plan input rounds workers ring
begun_so plan input rounds workers cut fired circuit started ring are same ended made = record {
  circuit = circuit;
  started = started;
  startup = ended;
  count = stages_are plan workers are.cutting.at.is are.some_worker are.some_node;
  ring_is = subst (λ (l : List ℕ). IsRingOf plan plan.split.schedule.round l circuit started rounds
      ring) are.bounds
      (subst (λ (l : List units.Unit.Unit). IsRingOf plan l cut.bounds.items circuit started rounds
      ring) same made);
}
