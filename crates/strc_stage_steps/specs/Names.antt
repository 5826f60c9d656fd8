-- What rounds after fission come to, by the nodes before it.
use Rattle.std.specs.Prelude.{◌≡◌, ℕ, ◌+◌, ◌*◌, ◌/◌, ◌%◌, ◌^◌, ◌<◌, List, map, Option, Some}
use Rattle.std.specs.Prelude.{slice_get, slice_index_or}
use Rattle.strc_elab_dataflow.specs.Answer.{Outcome, Outcome.Done, Outcome.RoundFault}
use Rattle.strc_elab_dataflow.specs.Machine.{Stop}
use Rattle.strc_work_meaning.specs.declared.fault.Cause.{Cause}
use Rattle.strc_work_meaning.specs.declared.word.Word.{Word}
use Rattle.strc_elab_graph.specs.Graphs as graphs
use Rattle.strc_elab_graph.specs.Graphs.{NodeCode}
use Rattle.strc_elab_graph.specs.Tapes.{tape_nodes}
use Rattle.strc_balance.specs.Balance.{count_at}
use Rattle.strc_sched_laws.specs.Laws.{round_order}
use Rattle.strc_fiss.specs.declared.split.Origin.{Origin}
use Rattle.strc_stage_plan.specs.Named.{old_firings, old_node}
use Rattle.strc_stage_plan.specs.Plans.{PlanParts, graph_of, transformed_of}

-- the firings of a plan's round
abbrev pub plan_order : PlanParts → List ℕ
plan_order plan = old_firings (transformed_of plan).nodes plan.split.origins
    (round_order plan.split.schedule)

-- what a node is a part of
abbrev pub origin_at : List Origin → (number : ℕ) → Origin
origin_at origins number = slice_index_or origins number (record { node = 0; first = 0 })

-- which firing of its node one of a part is: a copy that has so many firings in a round has them in
-- a row, from its first one on
abbrev pub firing_by : Option NodeCode → (startup each first firing : ℕ) → ℕ
firing_by (Some (graphs.Copy copied fission)) startup each first firing =
    startup + (firing / fission.firings) * each + first + firing % fission.firings
firing_by code startup each first firing = firing

abbrev pub old_firing : PlanParts → (number firing : ℕ) → ℕ
old_firing plan number firing =
    firing_by (slice_get (transformed_of plan).nodes number)
    (count_at plan.startup_counts (origin_at plan.split.origins number).node)
    (count_at plan.round_counts (origin_at plan.split.origins number).node)
    (origin_at plan.split.origins number).first firing

-- a fault is that of a node before fission, whose firings have numbers of 64 bits
pub record IsOldFault (plan : PlanParts) (old new : Stop Cause) : Type 0 where
  pub node : old.node ≡ old_node plan.split.origins new.node
  pub firing : old.firing ≡ old_firing plan new.node new.firing
  pub cause : old.cause ≡ new.cause
  pub numbered : old.firing < 2 ^ 64

-- the words of each tape are those of its node before fission
abbrev pub HaveSameTapes : PlanParts → (old new : ℕ → List Word) → Type 0
HaveSameTapes plan old new =
    map new (tape_nodes (transformed_of plan).nodes) ≡ map old (tape_nodes (graph_of plan).nodes)

-- rounds come to the same words; or to the same fault in the same round, after the same words
abbrev pub IsNamedSo : PlanParts → (old new : Outcome Cause Word) → Type 0
IsNamedSo plan (Done words) (Done others) = HaveSameTapes plan words others
IsNamedSo plan (RoundFault q stop words) (RoundFault r other others) =
    (r ≡ q) × IsOldFault plan stop other × HaveSameTapes plan words others
IsNamedSo plan _ _ = ⊥
