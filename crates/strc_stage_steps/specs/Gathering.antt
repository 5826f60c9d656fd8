-- Room for the words of a parcel.
use Rattle.std.specs.Prelude.{◌≡◌, ◌+◌, ◌≤◌, ℕ, suc, cond, List, [], ◌∷◌, length, Option, is_some}
use Rattle.std.specs.Global.{Vec}
use Rattle.std.specs.Vec.{vec_items, vec_capacity}
use Rattle.strc_work_meaning.specs.declared.word.Word.{Word}
use Rattle.strc_stage_core.specs.Actors.{MayStop, or_else}
use Rattle.strc_sched_outcome.specs.declared.stop.Stop.{Stop}
use Rattle.strc_stage_core.specs.Parcels.{Load, ParcelView, words_at}
use Rattle.strc_stage_steps.specs.Steps.{stage_work, with_round}
use Rattle.strc_stage_steps.specs.declared.collector.CollectorParts.{CollectorParts}
use Rattle.strc_stage_steps.specs.Collectors.{total_of}

-- A tape's list has room for its words of a load.
abbrev pub HasRoom : Load → (tape : ℕ) → Vec Word → Type 0
HasRoom load tape own =
    length (vec_items own) + length (words_at load tape) ≤ vec_capacity own

-- So has each of these lists; the first of them is of this tape.
abbrev pub HaveRoom : Load → (tape : ℕ) → List (Vec Word) → Type 0
HaveRoom load tape [] = Unit {0}
HaveRoom load tape (own ∷ others) = HasRoom load tape own × HaveRoom load (suc tape) others

-- A parcel's words were gathered, unless a stop came before; all else is as it was.
pub record HasAdded (before : CollectorParts) (own : ParcelView) (stop : Option Stop)
    (after : CollectorParts) : Type 0 where
  pub may : MayStop stage_work (is_some own.stop) own.stop stop
  pub total : total_of after ≡ cond (is_some (or_else before.stop stop)) (total_of before)
      (with_round (total_of before) own.load)
  pub gathered : after.gathered ≤ suc before.taken
  pub rounds : after.rounds ≡ before.rounds
  pub taken : after.taken ≡ before.taken
  pub stop_is : after.stop ≡ before.stop
