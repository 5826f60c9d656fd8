-- What moves of items do.
use Rattle.std.specs.Prelude.{ℕ, zero, suc, ◌+◌, ℤ, pos, ◌+ℤ◌, ◌-ℤ◌, ◌*ℤ◌, Bool, true}
use Rattle.std.specs.Prelude.{◌&&◌, List, [], ◌∷◌, ◌++◌, length, Result, Ok, Err, ◌==◌, nat_le}
use Rattle.std.specs.Prelude.{nat_lt, slice_index_or, if◌then◌else◌}
use Rattle.strc_lex_names.specs.Results.{result_and_then}
use Rattle.strc_emit_c.specs.Meaning.{Item, Memory, written, Stop, Undefined, as_int}
use Rattle.strc_emit_c.specs.Meaning.{place_within}
use Rattle.strc_emit_moves.specs.declared.places.Items.{Items}
use Rattle.strc_emit_moves.specs.declared.places.Phase.{Phase}
use Rattle.strc_emit_moves.specs.declared.places.Phase.TheVariants as phase
use Rattle.strc_emit_passes.specs.Moves.{Move, Pass, Read, Take, Line}

-- the memory, and how many numbers of the input were taken
pub record Passing : Type 0 where
  pub memory : Memory
  pub taken : ℕ

-- how large each channel's array is, and the numbers of the input
pub record Surroundings : Type 0 where
  pub rooms : (channel : ℕ) → ℕ
  pub input : List ℤ

-- which firing this is after the first one of start-up: `i - 1`; or of a round: `i`
abbrev pub number_of : Phase → ℤ → Result ℤ Stop
number_of phase.Startup i = as_int (i -ℤ pos 1)
number_of phase.Round i = Ok i

-- where a firing has its items: `2 + 3 * i`
abbrev pub place_value : Items → (i : ℤ) → Result ℤ Stop
place_value items i =
    result_and_then (number_of items.phase i) (λ number.
    result_and_then (as_int (pos items.each *ℤ number)) (λ far.
    as_int (pos items.after +ℤ far)))

-- a place within a channel's array
abbrev pub item_place : Surroundings → Items → (i : ℤ) → Result ℕ Stop
item_place around items i =
    result_and_then (place_value items i) (place_within (around.rooms items.channel) 0)

-- so many items are copied
abbrev pub copied : (to place from there count : ℕ) → Memory → Memory
copied to place from there zero memory = memory
copied to place from there (suc count) memory =
    copied to (place + 1) from (there + 1) count
    (written (Item to place) (memory.cells (Item from there)) memory)

-- a copy has a meaning between two arrays, within both
abbrev pub may_copy : Surroundings → (to place from there count : ℕ) → Bool
may_copy around to place from there count =
    nat_le (place + count) (around.rooms to) && nat_le (there + count) (around.rooms from)

abbrev pub copied_within : Surroundings → (to place from there count : ℕ) → Memory
    → Result Memory Stop
copied_within around to place from there count memory =
    if to == from then Err Undefined
    else if may_copy around to place from there count
    then Ok (copied to place from there count memory) else Err Undefined

-- the next number of the input
abbrev pub next_number : List ℤ → (taken : ℕ) → Result ℤ Stop
next_number input taken = if nat_lt taken (length input)
    then Ok (slice_index_or input taken (pos 0)) else Err Undefined

-- what a move does in firing i
abbrev pub move_done : Surroundings → (i : ℤ) → Move → Passing → Result Passing Stop
move_done around i (Pass to from count) passing =
    result_and_then (item_place around to i) (λ place.
    result_and_then (item_place around from i) (λ there.
    result_and_then (copied_within around to.channel place from.channel there count
    passing.memory) (λ memory. Ok (record passing { memory = memory }))))
move_done around i (Read to) passing =
    result_and_then (item_place around to i) (λ place.
    result_and_then (next_number around.input passing.taken) (λ number.
    Ok (record passing { memory = written (Item to.channel place) number passing.memory })))
move_done around i Take passing = Ok (record passing { taken = passing.taken + 1 })
move_done around i (Line tape from) passing =
    result_and_then (item_place around from i) (λ there.
    let item = passing.memory.cells (Item from.channel there) in
    Ok (record passing {
      memory = record passing.memory {
        words = passing.memory.words ++ record { value = item; ends_line = true } ∷ [];
      };
    }))

-- moves one after another
abbrev pub moves_done : Surroundings → (i : ℤ) → List Move → Passing → Result Passing Stop
moves_done around i [] passing = Ok passing
moves_done around i (first ∷ rest) passing =
    result_and_then (move_done around i first passing) (moves_done around i rest)
