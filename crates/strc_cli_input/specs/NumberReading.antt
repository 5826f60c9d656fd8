-- The input read number by number.
use Rattle.std.specs.Prelude.{◌≡◌, ℕ, ◌+◌, ◌<◌, ◌≤◌, ℤ, Bool, true, false, List, [], ◌∷◌, ◌++◌}
use Rattle.std.specs.Prelude.{length, take, drop, Option, Some, None, Result, Ok, Err, IfSome}
use Rattle.std.specs.Io.KnownBytes.{Consumes}
use Rattle.strc_cli_input.specs.Numbers.{given, wrong_word}
use Rattle.strc_cli_input.specs.Reading.{Reading, Reads, Fails, unread, bytes_read}
use Rattle.strc_cli_input.specs.declared.input.ReadStop.{ReadStop}
use Rattle.strc_cli_input.specs.declared.input.ReadStop.TheVariants as stop
use Rattle.strc_cli_input.specs.declared.number_reader.NumberReader.{NumberReader}

-- the bytes at hand are within the piece, which has room
pub record IsWithin (reader : NumberReader) : Type 0 where
  pub next : reader.next ≤ reader.filled
  pub filled : reader.filled ≤ length reader.piece.items
  pub room : 0 < length reader.piece.items

-- the bytes that were given and are still to come
abbrev pub rest_of : NumberReader → List ℕ
rest_of reader = drop reader.next (take reader.filled reader.piece.items)

-- the bytes of the input, where they are known, write these numbers up to this word that writes
-- none, or these alone
abbrev pub WritesUpTo : (bytes : Option (List ℕ)) → List ℤ → (wrong : Option ℕ) → Type 0
WritesUpTo bytes numbers wrong =
    IfSome bytes (λ all. (given all ≡ numbers) × (wrong_word all ≡ wrong))

-- of the input, from what it had at first to what it has left, these numbers were pulled: no others
-- end in the bytes that were parsed, or in all of them where it has ended
pub record HasPulled (first left : Option (List ℕ)) (numbers : List ℤ) (reader : NumberReader)
    : Type 0 where
  pub taken : List ℕ
  pub consumed : Consumes first left taken
  pub parsed : List ℕ
  pub split : taken ≡ parsed ++ rest_of reader
  pub read : reader.ended ≡ false → bytes_read unread parsed ≡ Reads numbers reader.last
  pub whole : reader.ended ≡ true → WritesUpTo first numbers None
  pub count : reader.count ≡ length numbers

-- so, and the bytes that were given end no further number
pub record HasPulledAll (first left : Option (List ℕ)) (numbers : List ℤ) (reader : NumberReader)
    : Type 0 where
  pub pulled : HasPulled first left numbers reader
  pub all : rest_of reader ≡ []
  pub unended : reader.ended ≡ false

-- a number is pulled; or the input has no more, or a word that writes none; or a read fails before
-- one ends
abbrev pub IsPulled : (first left : Option (List ℕ)) → (numbers : List ℤ)
    → Result (Option ℤ) ReadStop → NumberReader → Type 0
IsPulled first left numbers (Ok (Some number)) after =
    HasPulled first left (numbers ++ number ∷ []) after
IsPulled first left numbers (Ok None) after = WritesUpTo first numbers None
IsPulled first left numbers (Err (stop.BadInput word)) after =
    WritesUpTo first numbers (Some word) × (word ≡ length numbers)
IsPulled first left numbers (Err stop.Failed) after = HasPulledAll first left numbers after
IsPulled first left numbers (Err stop.NoMemory) after = ⊥

-- so many numbers are pulled into a window; or fewer, where the input ends, or a word writes none,
-- or a read fails
abbrev pub IsFilled : (first left : Option (List ℕ)) → (numbers : List ℤ) → (need : ℕ)
    → Result Bool ReadStop → (window : List ℤ) → NumberReader → Type 0
IsFilled first left numbers need (Ok true) window after =
    (length window ≡ need) × HasPulled first left (numbers ++ window) after
IsFilled first left numbers need (Ok false) window after =
    (length window < need) × WritesUpTo first (numbers ++ window) None
IsFilled first left numbers need (Err (stop.BadInput word)) window after =
    (length window < need) × WritesUpTo first (numbers ++ window) (Some word)
    × (word ≡ length (numbers ++ window))
IsFilled first left numbers need (Err stop.Failed) window after =
    (length window < need) × HasPulledAll first left (numbers ++ window) after
IsFilled first left numbers need (Err stop.NoMemory) window after = Unit {0}

-- a number is counted
abbrev pub IsCounted : (before : ℕ) → Result (Option ℤ) ReadStop → (after : ℕ) → Type 0
IsCounted before (Ok (Some number)) after = after ≡ before + 1
IsCounted before (Ok None) after = after ≡ before
IsCounted before (Err why) after = Unit {0}

-- bytes at hand were read, to these numbers
pub record ScansTo (numbers more : List ℤ) (before after : NumberReader) : Type 0 where
  pub done : List ℕ
  pub split : rest_of before ≡ done ++ rest_of after
  pub read : bytes_read (Reads numbers before.last) done ≡ Reads more after.last
  pub count : after.count ≡ length more
  pub ended : after.ended ≡ before.ended

-- the bytes at hand are read until a number ends, or a word that writes none, or all of them
abbrev pub IsScanned : (numbers : List ℤ) → NumberReader → Result (Option ℤ) ReadStop
    → NumberReader → Type 0
IsScanned numbers before (Ok (Some number)) after =
    ScansTo numbers (numbers ++ number ∷ []) before after
IsScanned numbers before (Ok None) after =
    ScansTo numbers numbers before after × (rest_of after ≡ [])
IsScanned numbers before (Err (stop.BadInput word)) after =
    (bytes_read (Reads numbers before.last) (rest_of before) ≡ Fails word)
    × (word ≡ length numbers)
IsScanned numbers before (Err stop.Failed) after = ⊥
IsScanned numbers before (Err stop.NoMemory) after = ⊥

-- the same bytes are at hand, of the same input
pub record HasSameBytes (before after : NumberReader) : Type 0 where
  pub piece : after.piece ≡ before.piece
  pub next : after.next ≡ before.next
  pub filled : after.filled ≡ before.filled
  pub ended : after.ended ≡ before.ended

-- the input is read to these numbers
pub record ReadsTo (expected : Reading) (more : List ℤ) (after : NumberReader) : Type 0 where
  pub read : expected ≡ Reads more after.last
  pub count : after.count ≡ length more

-- a byte, or the end of a word, leads to such a reading
abbrev pub IsReadOn : Reading → (numbers : List ℤ) → Result (Option ℤ) ReadStop → NumberReader
    → Type 0
IsReadOn expected numbers (Ok (Some number)) after =
    ReadsTo expected (numbers ++ number ∷ []) after
IsReadOn expected numbers (Ok None) after = ReadsTo expected numbers after
IsReadOn expected numbers (Err (stop.BadInput word)) after =
    (expected ≡ Fails word) × (word ≡ length numbers)
IsReadOn expected numbers (Err stop.Failed) after = ⊥
IsReadOn expected numbers (Err stop.NoMemory) after = ⊥

-- a word writes no number
abbrev pub IsBadWord : ReadStop → Type 0
IsBadWord (stop.BadInput word) = Unit {0}
IsBadWord stop.Failed = ⊥
IsBadWord stop.NoMemory = ⊥
