-- The picture of what is run, from its parts.
use Rattle.std.proofs.Common.{◌≡◌, ◌∙◌, ℕ, List, ap}
use Rattle.strc_elab_graph.specs.NodeView.{GraphParts}
use Rattle.strc_sched_orders.specs.declared.unit.Unit.{Unit}
use Rattle.strc_stage_plan.specs.Plans.{PlanParts}
use Rattle.strc_cli_pictures.specs.Parts.{labels_after, round_shares, startup_shares}
use Rattle.strc_cli_pictures.specs.Stages.{plan_picture_text}
use Rattle.strc_cli.specs.Answering.{labelled_text, run_batch, run_bounds}

pub pictured : (plan : PlanParts) (workers : ℕ) (given : List (List ℕ)) (graph : GraphParts)
    (labels : List (List ℕ)) (startup round sizes : List ℕ) (units : List Unit) (bounds : List ℕ)
    (batch : ℕ) (text : List ℕ) → graph ≡ plan.split.graph
    → labels ≡ labels_after plan.split.graph.nodes plan.split.origins given
    → startup ≡ startup_shares plan.split.graph.nodes plan.split.origins plan.startup_counts
    → round ≡ round_shares plan.split.graph.nodes plan.split.origins plan.round_counts
    → sizes ≡ plan.split.schedule.sizes → units ≡ plan.split.schedule.round
    → bounds ≡ run_bounds plan workers → batch ≡ run_batch plan workers
    → text ≡ plan_picture_text graph labels startup round sizes units bounds batch
    → text ≡ labelled_text given plan workers
pictured plan workers given graph labels startup round sizes units bounds batch text graph_is
    labels_are startup_is round_is sizes_are units_are bounds_are batch_is is =
    let split = plan.split in
    let after = labels_after split.graph.nodes split.origins given in
    let started = startup_shares split.graph.nodes split.origins plan.startup_counts in
    let fired = round_shares split.graph.nodes split.origins plan.round_counts in
    is
    ∙ ap (λ (g : GraphParts). plan_picture_text g labels startup round sizes units bounds batch)
    graph_is
    ∙ ap (λ (l : List (List ℕ)). plan_picture_text split.graph l startup round sizes units bounds
    batch) labels_are
    ∙ ap (λ (l : List ℕ). plan_picture_text split.graph after l round sizes units bounds batch)
    startup_is
    ∙ ap (λ (l : List ℕ). plan_picture_text split.graph after started l sizes units bounds batch)
    round_is
    ∙ ap (λ (l : List ℕ). plan_picture_text split.graph after started fired l units bounds batch)
    sizes_are
    ∙ ap (λ (l : List Unit). plan_picture_text split.graph after started fired
    split.schedule.sizes l bounds batch) units_are
    ∙ ap (λ (l : List ℕ). plan_picture_text split.graph after started fired split.schedule.sizes
    split.schedule.round l batch) bounds_are
    ∙ ap (λ (n : ℕ). plan_picture_text split.graph after started fired split.schedule.sizes
    split.schedule.round (run_bounds plan workers) n) batch_is
