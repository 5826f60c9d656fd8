-- Worked rows: the firings that a batch lists, and how many rounds it is to have.
use Rattle.std.specs.Prelude.{◌≡◌, List, [], ◌∷◌}
use Rattle.strc_elab_dataflow.specs.FusedUnits.{RoundUnit}
use Rattle.strc_batch.specs.Choice.{batch_for_lanes, suited_batch}
use Rattle.strc_batch.specs.Listed.{listed_firings, listed_in}

-- A node that fires six times in a row; two that are fused, of three turns; and a loop's.
abbrev pub alone : List RoundUnit
alone = record { turns = 6; nodes = 0 ∷ [] } ∷ []

abbrev pub fused : List RoundUnit
fused = record { turns = 3; nodes = 1 ∷ 2 ∷ 2 ∷ [] } ∷ []

abbrev pub loop : List RoundUnit
loop = record { turns = 2; nodes = 3 ∷ [] } ∷ record { turns = 1; nodes = 4 ∷ [] } ∷ []

pub record ListedRow : Type 0 where
  pub one : listed_firings alone ≡ 0
  pub two : listed_firings fused ≡ 9
  pub three : listed_firings loop ≡ 3
  pub all : listed_in (alone ∷ fused ∷ loop ∷ []) ≡ 12

-- A unit that fires ten times in a round is to fire seven rounds' firings in a batch, and steps
-- that are to have 300 rounds have them; but no more than an eighth of the rounds, no more than
-- buffers of 20,000 items allow, and one at least.
pub record ChoiceRow : Type 0 where
  pub for_lanes : batch_for_lanes 10 ≡ 7
  pub of_lanes : suited_batch 7 100 10000 1 ≡ 7
  pub of_steps : suited_batch 7 100 10000 300 ≡ 300
  pub of_rounds : suited_batch 7 100 50 300 ≡ 6
  pub of_buffers : suited_batch 7 20000 10000 300 ≡ 3
  pub of_few : suited_batch 64 100 7 1 ≡ 1
