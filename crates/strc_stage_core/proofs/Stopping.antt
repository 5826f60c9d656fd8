-- A stage that has given a stopped parcel gives stopped ones from then on.
use Rattle.std.proofs.Common.{ap, ◌∙◌, List, [], ◌∷◌, IsSome, is_some}
use Rattle.strc_stage_core.specs.Actors.{Plain, Stage, Work, Step}
use Rattle.strc_stage_core.specs.States.{Runs}
use Rattle.strc_stage_core.specs.Endings.{AreStopped, StayStopped}
use Rattle.strc_stage_core.proofs.Steps.{stepped}

module _ {State Load Stop Total : Type 0} (work : Work State Load Stop Total) where
  runs_stopped : (a : Stage State Stop) (taken made : List (Plain Load Stop))
      (b : Stage State Stop) → Runs (Step work) a taken made b → IsSome a.stop → AreStopped made
  runs_stopped a [] [] b runs is = tt
  runs_stopped a (p ∷ taken) (q ∷ made) b (m, step, runs) is =
      let one = stepped work a p m q step in
      (one.halted is, runs_stopped m taken made b runs (ap is_some one.halts ∙ one.halted is))
  runs_stopped a _ _ b runs is = absurd runs

  pub runs_stay_stopped : (a b : Stage State Stop) (taken made : List (Plain Load Stop))
      → Runs (Step work) a taken made b → StayStopped made
  runs_stay_stopped a b [] [] runs = tt
  runs_stay_stopped a b (p ∷ taken) (q ∷ made) (m, step, runs) = (
    λ is. runs_stopped m taken made b runs (ap is_some (stepped work a p m q step).halts ∙ is),
    runs_stay_stopped m b taken made runs,
  )
  runs_stay_stopped a b _ _ runs = absurd runs
