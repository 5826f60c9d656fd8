-- The rounds of a plan are a fused run after fission, and a cut of them is one for rings of stages.
use Rattle.std.proofs.Common.{◌≡◌, sym, ap, ◌∙◌, subst, ℕ, suc, ◌<◌, ℤ, List}
use Rattle.strc_elab_dataflow.specs.Queues.{FifoProgress.FifoWent, fifo_go, fifo_at_first}
use Rattle.strc_elab_dataflow.specs.Streams as trees
use Rattle.strc_elab_graph.specs.FlatGraphs.{IsProgram}
use Rattle.strc_elab_graph.specs.Graphs.{NodeCode, Graph, IsGraph}
use Rattle.strc_elab_graph.specs.Meaning.{node_meaning}
use Rattle.strc_elab_graph.specs.declared.graph.Fission.{Fission}
use Rattle.strc_balance.specs.Balance.{count_at}
use Rattle.strc_startup.specs.Rates.{rates_of}
use Rattle.strc_sched_orders.specs.Firings.{Firings, none_fired}
use Rattle.strc_elab_dataflow.specs.Order.{firing_count}
use Rattle.strc_sched_orders.specs.Peaks.{AreRaised}
use Rattle.strc_sched_orders.specs.Schedules.{ScheduleParts}
use Rattle.strc_sched_orders.specs.Sizing.{round_rates_on}
use Rattle.strc_sched_laws.specs.Circuits.{IsCircuit}
use Rattle.strc_sched_laws.specs.Fits.{Queues}
use Rattle.strc_sched_laws.specs.Laws.{startup_order, round_order}
use Rattle.strc_sched_laws.specs.Machine.{CircuitView}
use Rattle.strc_sched_laws.specs.Planned.{AreKnown}
use Rattle.strc_elab_dataflow.specs.FusedUnits.{RoundUnit, AreFused, firings_of}
use Rattle.strc_fuse.specs.Units.{is_free, round_units, ArePlaced}
use Rattle.strc_fuse.proofs.Counting.{firings_same}
use Rattle.strc_fuse.proofs.Lawful.{programs_are_placed}
use Rattle.strc_fiss.specs.Fissions.{IsTransformed}
use Rattle.strc_fiss.specs.Splitting.{split_greatest, split_last}
use Rattle.strc_fiss.specs.Units.{split_units}
use Rattle.strc_fiss.specs.Ways.{fission_of}
use Rattle.strc_stage_plan.specs.SplitLaws.{new_graph}
use Rattle.strc_stage_plan.specs.Named.{new_origins, old_firings}
use Rattle.strc_stage_plan.specs.Runs.{graph_before}
use Rattle.strc_stage_plan.proofs.OwnUnits.{greedy_rounds_own}
use Rattle.strc_stage_plan.specs.Fused.{FusedRun, IsFusedRun, named_order_of}
use Rattle.strc_stage_steps.specs.SplitCutLaws.{IsFusedFission}
use Rattle.strc_stage_steps.proofs.Staged.{split_bounds_are_a_cut}
use Rattle.strc_stage_plan.specs.Plans.{PlanParts, IsPlan, graph_of, transformed_of}
use Rattle.strc_stage_plan.specs.Bounds.{stage_bound, stage_count}
use Rattle.strc_stage_plan.specs.Cuts.{IsCutOf}
use Rattle.strc_stage_steps.specs.Runnings.{Running}
use Rattle.strc_stage_steps.specs.SplitRingsLaws.{HaveSizes, IsCutRun, running_after}
use Rattle.strc_stage_steps.specs.Names.{plan_order}
use Rattle.strc_stage_steps.specs.Plans.{IsCut, PlanBoundsAreACut, Suffices, running_of}

module _ (plan : PlanParts) (is : IsPlan plan) where
  abbrev pub ways : ℕ
  ways = is.transformation.ways

  abbrev pub threshold : ℕ
  threshold = is.transformation.threshold

  abbrev pub old : Graph
  old = graph_of plan

  abbrev pub share : ℕ → Fission
  share = fission_of (graph_of plan) plan.round_counts is.transformation.ways

  abbrev pub new : Graph
  new = new_graph (graph_of plan) plan.schedule plan.round_counts is.transformation.ways

  abbrev done : IsTransformed (fission_of (graph_of plan) plan.round_counts ways) (graph_of plan)
      plan.schedule threshold plan.split
  done = is.transformation.transformed

  abbrev unfused : ScheduleParts
  unfused = is.transformation.transformed.unfused

  abbrev pub units : List RoundUnit
  units = round_units plan.split.schedule.round

  pub graph_is : transformed_of plan ≡ new
  graph_is = done.fission.graph

  pub origins_are : plan.split.origins ≡ new_origins (graph_of plan) plan.round_counts ways
  origins_are = done.fission.origins

  fires : count_at plan.round_counts ≡ count_at is.planned.round
  fires = ap count_at (sym is.round_is)

  fused_units : AreFused (is_free new) threshold
      (split_units share (round_units plan.schedule.round)) units
  fused_units =
      subst (λ (l : List RoundUnit). AreFused (is_free new) threshold l units) done.fission.round
      (subst (λ (g : Graph). AreFused (is_free g) threshold (round_units unfused.round) units)
      graph_is done.fusion.round)

  pub fused_fission : IsFusedFission is.whole.stream (graph_of plan) plan.schedule
      plan.round_counts ways threshold units
  fused_fission = record {
    typed = is.whole.closed.typed;
    program = is.whole.program;
    loops = is.whole.loops;
    planned = is.planned;
    counts = count_at plan.startup_counts;
    greedy = is.schedule.is;
    units = fused_units;
  }

  sizes_by_graph : AreRaised (round_rates_on new unfused.last) none_fired (firings_of units)
      unfused.greatest plan.split.schedule.sizes
  sizes_by_graph =
      subst (λ (g : Graph). AreRaised (round_rates_on g unfused.last) none_fired
      (firings_of units) unfused.greatest plan.split.schedule.sizes) graph_is
      (subst (λ (l : List ℕ). AreRaised (round_rates_on (transformed_of plan) unfused.last)
      none_fired l unfused.greatest plan.split.schedule.sizes)
      (firings_same plan.split.schedule.round) done.fusion.sizes)

  sizes_raised : AreRaised
      (round_rates_on new (split_last share (graph_of plan) plan.schedule.greatest
      plan.schedule.last)) none_fired (firings_of units)
      (split_greatest share (graph_of plan) plan.schedule.greatest plan.schedule.last)
      plan.split.schedule.sizes
  sizes_raised =
      subst (λ (l : List ℕ). AreRaised
      (round_rates_on new (split_last share (graph_of plan) plan.schedule.greatest
      plan.schedule.last)) none_fired (firings_of units) l plan.split.schedule.sizes)
      done.fission.greatest
      (subst (λ (l : List ℕ). AreRaised (round_rates_on new l) none_fired (firings_of units)
      unfused.greatest plan.split.schedule.sizes) done.fission.last sizes_by_graph)

  module _ (graph : IsGraph (graph_of plan)) (known : AreKnown (graph_of plan))
      (tree : trees.Stream NodeCode) (program : IsProgram tree (graph_of plan))
      (input : List ℤ) (rounds : ℕ) (enough : Suffices plan input rounds) (started : Queues)
      (went : fifo_go node_meaning
      (graph_before tree (graph_of plan) plan.schedule plan.round_counts ways)
      (startup_order plan.schedule)
      (fifo_at_first node_meaning
      (graph_before tree (graph_of plan) plan.schedule plan.round_counts ways) input)
      ≡ FifoWent started) where
    -- its rounds over the input, from the state to which start-up came
    abbrev pub run : FusedRun
    run = record {
      tree = tree;
      old = graph_of plan;
      schedule = plan.schedule;
      round = plan.round_counts;
      ways = is.transformation.ways;
      fused = round_units plan.split.schedule.round;
      input = input;
      rounds = rounds;
      started = started;
    }

    pub is_fused_run : IsFusedRun run threshold
    is_fused_run = record {
      program = program;
      is = graph;
      planned = is.planned;
      known = known;
      own = greedy_rounds_own (graph_of plan) is.whole.stream (count_at plan.startup_counts)
          plan.round_counts plan.schedule ways is.whole.closed.typed is.whole.program
          is.whole.loops is.schedule.is;
      placed = subst (λ (c : Firings). ArePlaced (rates_of (graph_of plan)) c
          (is_free (graph_of plan)) (round_units plan.schedule.round)) fires
          (programs_are_placed (graph_of plan) is.whole.stream (count_at plan.startup_counts)
          (count_at plan.round_counts) plan.schedule is.whole.closed.typed is.whole.program
          is.whole.loops is.schedule.is);
      fusion = fused_units;
      supplied = enough.supplied;
      went = went;
    }

    pub have_sizes : HaveSizes run plan.split.schedule.sizes
    have_sizes = sizes_raised

    pub is_cut_run : (bound : (stage : ℕ) → ℕ) (last : ℕ) (circuit : CircuitView)
        → IsCut plan bound (suc last) → IsCircuit (transformed_of plan) circuit
        → circuit.input ≡ input
        → IsCutRun run threshold plan.split.schedule.sizes is.whole.stream bound last circuit
    is_cut_run bound last circuit cut wired reads_it = record {
      fused = is_fused_run;
      few = enough.few;
      fission = fused_fission;
      cut = subst (λ (g : Graph). IsCutOf g units bound (suc last)) graph_is cut;
      sizes_are = have_sizes;
      is_circuit = subst (λ (g : Graph). IsCircuit g circuit) graph_is wired;
      reads_it = reads_it;
    }

    made : Graph → List ℕ → Running
    made graph order = record {
      graph = graph;
      counts = firing_count order;
      order = order;
      sizes = plan.split.schedule.sizes;
    }

    -- its rounds are those of the plan
    pub running_is : running_of plan ≡ running_after run plan.split.schedule.sizes
    unfolding made
    running_is =
        ap (λ (g : Graph). made g (round_order plan.split.schedule)) graph_is
        ∙ ap (made new) (firings_same plan.split.schedule.round)

    pub order_is : plan_order plan ≡ named_order_of run
    order_is =
        ap (λ (g : Graph). old_firings g.nodes plan.split.origins
        (round_order plan.split.schedule)) graph_is
        ∙ ap (λ l. old_firings new.nodes l (round_order plan.split.schedule)) origins_are
        ∙ ap (old_firings new.nodes (new_origins (graph_of plan) plan.round_counts ways))
        (firings_same plan.split.schedule.round)

pub plan_bounds_are_a_cut : PlanBoundsAreACut
plan_bounds_are_a_cut plan workers is works some =
    let cut = split_bounds_are_a_cut is.whole.stream (graph_of plan) plan.schedule
    plan.round_counts (ways plan is) (threshold plan is) (units plan is) workers
    (fused_fission plan is) works some in
    subst (λ (g : Graph). (0 < stage_count g.outer_loops (units plan is) workers)
    × IsCutOf g (units plan is) (stage_bound g.outer_loops (units plan is) workers)
    (stage_count g.outer_loops (units plan is) workers)) (sym (graph_is plan is))
    (cut.0, cut.1)
