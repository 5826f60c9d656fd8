-- Parcels as plain data.
use Rattle.std.specs.Prelude.{ℕ, ◌-◌, ℤ, Bool, List, [], ◌++◌, map, length, replicate, take}
use Rattle.std.specs.Prelude.{Option, slice_index_or, slice_set}
use Rattle.std.specs.Global.{Vec}
use Rattle.std.specs.Vec.{vec_items, vec_capacity}
use Rattle.strc_stage_core.specs.Actors.{Plain}
use Rattle.strc_work_meaning.specs.declared.word.Word.{Word}
use Rattle.strc_sched_outcome.specs.declared.stop.Stop.{Stop}

-- What a parcel carries: a block of items for each channel that crosses stages, how many items
-- each block has room for, and the words of each tape.
pub record Load : Type 0 where
  pub blocks : List (List ℤ)
  pub rooms : List ℕ
  pub words : List (List Word)

-- What it carries, why it is stopped, and the mark of the last one.
abbrev pub ParcelView : Type 0
ParcelView = Plain Load Stop

abbrev pub load_of : List (Vec ℤ) → List (Vec Word) → Load
load_of blocks words = record {
  blocks = map vec_items blocks;
  rooms = map vec_capacity blocks;
  words = map vec_items words;
}

abbrev pub parcel : Load → Option Stop → Bool → ParcelView
parcel load stop last = record { load = load; stop = stop; last = last }

-- Empty blocks with these rooms, and so many tapes with no words.
abbrev pub empty_load : List ℕ → ℕ → Load
empty_load rooms tapes = record {
  blocks = replicate (length rooms) [];
  rooms = rooms;
  words = replicate tapes [];
}

-- A load with its blocks and words taken out of it, its rooms as they are.
abbrev pub emptied : Load → Load
emptied load = record {
  blocks = replicate (length load.blocks) [];
  rooms = load.rooms;
  words = replicate (length load.words) [];
}

-- The items of a block, its room, and the words of a tape.
abbrev pub block_at : Load → ℕ → List ℤ
block_at load number = slice_index_or load.blocks number []

abbrev pub room_at : Load → ℕ → ℕ
room_at load number = slice_index_or load.rooms number 0

abbrev pub words_at : Load → ℕ → List Word
words_at load tape = slice_index_or load.words tape []

-- A load with other items in a block, or other words of a tape.
abbrev pub with_block : Load → ℕ → List ℤ → Load
with_block load number items = record {
  blocks = slice_set load.blocks number items;
  rooms = load.rooms;
  words = load.words;
}

abbrev pub with_words : Load → ℕ → List Word → Load
with_words load tape words = record {
  blocks = load.blocks;
  rooms = load.rooms;
  words = slice_set load.words tape words;
}

-- A load with as many more items in a block as it has room for.
abbrev pub filled : Load → ℕ → List ℤ → Load
filled load number items = with_block load number
    (block_at load number
    ++ take (room_at load number - length (block_at load number)) items)
