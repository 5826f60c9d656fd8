-- What the stages of a plan's pipe can take.
use Rattle.std.specs.Prelude.{◌≡◌, ℕ, true, false, ℤ, List, ◌∷◌, length, Some, slice_get}
use Rattle.strc_elab_dataflow.specs.Streams as trees
use Rattle.strc_elab_graph.specs.FlatGraphs.{IsProgram}
use Rattle.strc_elab_graph.specs.Graphs.{NodeCode}
use Rattle.strc_stage_core.specs.Events.{before}
use Rattle.strc_stage_core.specs.Parcels.{ParcelView}
use Rattle.strc_stage_plan.specs.Plans.{PlanParts, graph_of}
use Rattle.strc_stage_steps.specs.Blocks.{fits}
use Rattle.strc_stage_steps.specs.Plans.{Suffices}
use Rattle.strc_stage_core.specs.Seeing.{Ring}
use Rattle.strc_stage_steps.specs.declared.collector.CollectorParts.{CollectorParts}
use Rattle.strc_stage_steps.specs.declared.stage.StageParts.{StageParts}
use Rattle.strc_stage.specs.Piped.{HasGoneOn}

-- Whatever events have led there, the first parcel before a stage that has not finished fits it.
abbrev pub ParcelsFitStages : Type 0
ParcelsFitStages =
    (tree : trees.Stream NodeCode) (plan : PlanParts) (input : List ℤ) (rounds : ℕ)
    (ring : Ring StageParts CollectorParts)
    → IsProgram tree (graph_of plan) → Suffices plan input rounds
    → HasGoneOn plan input rounds ring
    → (number : ℕ) (stage : StageParts) (parcel : ParcelView) (rest : List ParcelView)
    → slice_get ring.stages number ≡ Some stage → stage.finished ≡ false
    → slice_get ring.links (before (length ring.stages) number) ≡ Some (parcel ∷ rest)
    → fits stage parcel ≡ true
