-- The blocks of parcels, as a stage wants them.
use Rattle.std.specs.Prelude.{◌≡◌, ◌⊎◌, ℕ, Bool, true, false, ◌&&◌, ◌||◌, nat_le, nat_lt, nat_eq, ℤ}
use Rattle.std.specs.Prelude.{if◌then◌else◌, List, [], ◌∷◌, length, map, Some, None, is_some}
use Rattle.strc_stage_core.specs.Actors as actors
use Rattle.strc_sched_outcome.specs.declared.stop.Stop.{Stop}
use Rattle.strc_sched_outcome.specs.declared.stop.Stop.TheVariants as stop
use Rattle.strc_stage_core.specs.Parcels.{ParcelView, parcel, empty_load}
use Rattle.strc_stage_steps.specs.declared.stage.Block.{Block}
use Rattle.strc_stage_steps.specs.declared.stage.StageParts.{StageParts}
use Rattle.strc_stage_steps.specs.Stages.{see}
use Rattle.strc_stage_steps.specs.Steps.{StageState}

abbrev pub room_of : Block → ℕ
room_of block = block.room

-- It has the room, and holds the items of a round or none.
abbrev pub block_fits : Block → (items : List ℤ) → (room : ℕ) → Bool
block_fits block items room =
    nat_le block.room room && nat_eq (length items) (if block.held then block.room else 0)

abbrev pub blocks_fit : List Block → List (List ℤ) → (rooms : List ℕ) → Bool
blocks_fit [] [] rooms = true
blocks_fit (block ∷ blocks) (items ∷ others) (room ∷ rooms) =
    block_fits block items room && blocks_fit blocks others rooms
blocks_fit _ _ _ = false

-- A parcel fits a stage: it is stopped; or the stage has rounds left, and each block fits.
abbrev pub fits_stage : actors.Stage StageState Stop → ParcelView → Bool
fits_stage stage own = is_some own.stop
    || (nat_lt stage.taken stage.rounds
    && blocks_fit stage.inner.blocks own.load.blocks own.load.rooms)

abbrev pub fits : StageParts → ParcelView → Bool
fits stage own = fits_stage (see stage) own

-- A free parcel of a stage has the rooms of its blocks and no items, or memory stopped it.
abbrev pub IsFreeFor : StageParts → ParcelView → Type 0
IsFreeFor stage free =
    (free ≡ parcel (empty_load (map room_of stage.blocks.items) stage.tape_count) None false)
    ⊎ (free ≡ parcel (empty_load [] 0) (Some stop.NoMemory) false)
