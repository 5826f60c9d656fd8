-- Worked rows: small pieces of C, and what they do.
use Rattle.std.specs.Prelude.{◌≡◌, ℤ, pos, negsuc, false, List, [], ◌∷◌, Result, Ok, Err}
use Rattle.std.specs.Prelude.{slice_index_or}
use Rattle.strc_lex_names.specs.Results.{result_and_then}
use Rattle.strc_parse_tree.specs.declared.tree.BinaryOperator.TheVariants as binary
use Rattle.strc_work_meaning.specs.declared.fault.Cause.TheVariants as cause
use Rattle.strc_work_meaning.specs.declared.word.Word.{Word}
use Rattle.strc_emit_c.specs.C.{Popped, Turns, Size, Slot, Count, Input, Binary}
use Rattle.strc_emit_c.specs.C.{Sum, Difference, IsZero, IsOutside, Reaches, Assign, Increase}
use Rattle.strc_emit_c.specs.C.{Print, LeaveIf, Statements, End, Then, Loop}
use Rattle.strc_emit_c.specs.Meaning.{Cell, Local, Counted, Item, Memory, Stop, Faults, Undefined}
use Rattle.strc_emit_c.specs.Meaning.{Standing, Calls, statements_done}

-- locals with these values, taken items in a window of two, and nothing printed
abbrev pub cell_of : (values : List ℤ) → (popped : ℤ) → Cell → ℤ
cell_of values popped (Local slot) = slice_index_or values slot (pos 0)
cell_of values popped (Counted Popped) = popped
cell_of values popped (Item channel place) = pos 40
cell_of values popped _ = pos 0

abbrev pub here : Standing
here = record {
  node = 0;
  fields = 0;
  source = 0;
  reads_from = 0;
  source_room = 2;
  target = 1;
  writes_from = 0;
  target_room = 2;
}

abbrev pub no_calls : Calls
no_calls helper values memory = Err Undefined

-- what the first local holds after statements, and what they print
abbrev pub first_local : Result Memory Stop → Result (ℤ × List Word) Stop
first_local result = result_and_then result (λ memory. Ok (memory.cells (Local 0), memory.words))

abbrev pub after : (values : List ℤ) → (popped : ℤ) → Statements → Result (ℤ × List Word) Stop
after values popped statements = first_local (statements_done 5 no_calls here statements
    (record { cells = cell_of values popped; words = [] }))

-- `v0 = add(v1, v2);` wraps from the greatest number to the least
abbrev pub SumWraps : Type 0
SumWraps = after (pos 0 ∷ pos 2147483647 ∷ pos 1 ∷ []) (pos 0)
    (Then (Assign 0 (Binary binary.Add (Slot 1) (Slot 2))) End)
    ≡ Ok (negsuc 2147483647, [])

-- `v0 = quotient(v1, v2);` has no meaning at 0, but faults where a test of it comes first, and
-- wraps for the least number by -1
abbrev pub DivisionByZero : Type 0
DivisionByZero =
    (after (pos 0 ∷ pos 7 ∷ pos 0 ∷ []) (pos 0)
    (Then (Assign 0 (Binary binary.Divide (Slot 1) (Slot 2))) End) ≡ Err Undefined)
    × (after (pos 0 ∷ pos 7 ∷ pos 0 ∷ []) (pos 0)
    (Then (LeaveIf (IsZero (Slot 2)) cause.DivZero)
    (Then (Assign 0 (Binary binary.Divide (Slot 1) (Slot 2))) End)) ≡ Err (Faults cause.DivZero))
    × (after (pos 0 ∷ negsuc 2147483647 ∷ negsuc 0 ∷ []) (pos 0)
    (Then (LeaveIf (IsZero (Slot 2)) cause.DivZero)
    (Then (Assign 0 (Binary binary.Divide (Slot 1) (Slot 2))) End))
    ≡ Ok (negsuc 2147483647, []))

-- `v0 = in[popped + v1];` after one of two items was taken: the next one is within the array, one
-- after it isn't, and the test `outside(v1, 2 - popped)` faults
abbrev pub WindowEnds : Type 0
WindowEnds =
    (after (pos 0 ∷ pos 0 ∷ []) (pos 1)
    (Then (Assign 0 (Input (Sum (Count Popped) (Slot 1)))) End) ≡ Ok (pos 40, []))
    × (after (pos 0 ∷ pos 1 ∷ []) (pos 1)
    (Then (Assign 0 (Input (Sum (Count Popped) (Slot 1)))) End) ≡ Err Undefined)
    × (after (pos 0 ∷ pos 1 ∷ []) (pos 1)
    (Then (LeaveIf (IsOutside (Slot 1) (Difference (Size 2) (Count Popped))) cause.PeekRange)
    (Then (Assign 0 (Input (Sum (Count Popped) (Slot 1)))) End))
    ≡ Err (Faults cause.PeekRange))

-- `v0 = shift_left(v1, v2);` shifts by the low five bits of 33
abbrev pub ShiftIsMasked : Type 0
ShiftIsMasked = after (pos 0 ∷ pos 1 ∷ pos 33 ∷ []) (pos 0)
    (Then (Assign 0 (Binary binary.ShiftLeft (Slot 1) (Slot 2))) End)
    ≡ Ok (pos 2, [])

-- `popped = popped + 1;` is no int after the greatest one
abbrev pub CounterOverflows : Type 0
CounterOverflows =
    after [] (pos 2147483647) (Then (Increase Popped) End) ≡ Err Undefined

-- a loop that counts from 2 down to 0 and prints each; one that never ends has no meaning, but
-- faults where it counts its turns
abbrev pub LoopsTurn : Type 0
LoopsTurn =
    (after (pos 2 ∷ pos 1 ∷ []) (pos 0)
    (Loop End 0 (Then (Print (Slot 0) false)
    (Then (Assign 0 (Binary binary.Subtract (Slot 0) (Slot 1))) End)) End)
    ≡ Ok (
      pos 0,
      record { value = pos 2; ends_line = false }
          ∷ record { value = pos 1; ends_line = false } ∷ [],
    ))
    × (after (pos 1 ∷ []) (pos 0) (Loop End 0 End End) ≡ Err Undefined)
    × (after (pos 1 ∷ []) (pos 0)
    (Loop End 0 (Then (LeaveIf (Reaches Turns 3) cause.Turns) (Then (Increase Turns) End)) End)
    ≡ Err (Faults cause.Turns))
