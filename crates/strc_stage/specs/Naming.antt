-- Outcomes of rounds after fission, by the nodes before it.
use Rattle.std.specs.Prelude.{◌≡◌, ◌<◌, ◌^◌, List, map}
use Rattle.strc_fiss.specs.declared.split.Origin.{Origin}
use Rattle.strc_sched_outcome.specs.Tapes.{TapeView, tape, tape_view}
use Rattle.strc_sched_outcome.specs.declared.outcome.Tape.{Tape}
use Rattle.strc_sched_outcome.specs.declared.outcome.Outcome.{Outcome}
use Rattle.strc_sched_outcome.specs.declared.outcome.Outcome.TheVariants as outcome
use Rattle.strc_sched_outcome.specs.declared.outcome.Round.TheVariants as round
use Rattle.strc_stage_plan.specs.Named.{old_node}
use Rattle.strc_stage_plan.specs.Plans.{PlanParts}
use Rattle.strc_stage_steps.specs.Names.{old_firing}

-- A tape is that of the node that its node stands for.
abbrev pub renamed_tape : List Origin → TapeView → TapeView
renamed_tape origins own = tape (old_node origins own.node) own.words

abbrev pub AreRenamed : List Origin → (tapes renamed : List Tape) → Type 0
AreRenamed origins tapes renamed =
    map tape_view renamed ≡ map (renamed_tape origins) (map tape_view tapes)

-- A fault in a round is at that node, in the firing that the part's firing is, which has a number
-- of 64 bits; all else is the same.
abbrev pub IsRenamed : PlanParts → (own renamed : Outcome) → Type 0
IsRenamed plan (outcome.Done tapes) (outcome.Done others) =
    AreRenamed plan.split.origins tapes.items others.items
IsRenamed plan (outcome.Fault node firing (round.At q) cause tapes)
    (outcome.Fault at number (round.At r) why others) =
    (r ≡ q) × (at ≡ old_node plan.split.origins node)
    × (old_firing plan node firing < 2 ^ 64 → number ≡ old_firing plan node firing)
    × (why ≡ cause) × AreRenamed plan.split.origins tapes.items others.items
IsRenamed plan (outcome.Fault node firing round.Startup cause tapes) renamed =
    renamed ≡ outcome.Fault node firing round.Startup cause tapes
IsRenamed plan _ _ = ⊥
