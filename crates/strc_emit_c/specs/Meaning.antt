-- What C's statements do. Cells have numbers; a statement that C gives no meaning is told apart
-- from one that leaves with a fault.
use Rattle.std.specs.Prelude.{ℕ, zero, suc, ◌+◌, ℤ, pos, negsuc, ◌+ℤ◌, ◌-ℤ◌, Bool, true, false}
use Rattle.std.specs.Prelude.{◌&&◌, ◌||◌, not, List, [], ◌∷◌, ◌++◌, Result, Ok, Err, ◌==◌}
use Rattle.std.specs.Prelude.{nat_lt, if◌then◌else◌}
use Rattle.std.specs.Int.RustNames.{int_lt}
use Rattle.std.specs.Ordering.{int_eq}
use Rattle.strc_lex_names.specs.Results.{result_and_then}
use Rattle.strc_work_meaning.specs.Arithmetic.{unary_value, binary_value, wrapped, is_true}
use Rattle.strc_work_meaning.specs.declared.fault.Cause.{Cause}
use Rattle.strc_work_meaning.specs.declared.word.Word.{Word}
use Rattle.strc_emit_c.specs.C.{Counter, Popped, Pushed, Turns, Depth}
use Rattle.strc_emit_c.specs.C.{Expression, Number, Size, Slot, Count, Element, Input, Unary}
use Rattle.strc_emit_c.specs.C.{Binary, Sum, Difference, Test, IsZero, IsOutside, Reaches}
use Rattle.strc_emit_c.specs.C.{Statement, Assign, AssignElement, Output, Increase, Clear, Print}
use Rattle.strc_emit_c.specs.C.{LeaveIf, Leave, Call, Statements, End, Then, If, Loop}

-- where a number is kept: in a field of a node, a local of the function that runs, a counter, or as
-- an item in the array of a channel
pub data Cell : Type 0 where
  Field : (node slot : ℕ) → Cell
  Local : (slot : ℕ) → Cell
  Counted : (counter : Counter) → Cell
  Item : (channel place : ℕ) → Cell

abbrev pub same_counter : Counter → Counter → Bool
same_counter Popped Popped = true
same_counter Pushed Pushed = true
same_counter Turns Turns = true
same_counter Depth Depth = true
same_counter _ _ = false

abbrev pub same_cell : Cell → Cell → Bool
same_cell (Field node slot) (Field other place) = node == other && slot == place
same_cell (Local slot) (Local other) = slot == other
same_cell (Counted counter) (Counted other) = same_counter counter other
same_cell (Item channel place) (Item other there) = channel == other && place == there
same_cell _ _ = false

-- the numbers in the cells, and the words that are printed
pub record Memory : Type 0 where
  pub cells : Cell → ℤ
  pub words : List Word

abbrev pub written : Cell → ℤ → Memory → Memory
written cell value memory = record memory {
  cells = λ other. if same_cell cell other then value else memory.cells other;
}

-- why statements end early: a firing faults, or C gives them no meaning
pub data Stop : Type 0 where
  Faults : (cause : Cause) → Stop
  Undefined : Stop

-- where a function finds its slots and its items: its node, how many of the slots are fields, and
-- for what it reads and what it writes the channel, the place where that begins and the array's
-- size
pub record Standing : Type 0 where
  pub node : ℕ
  pub fields : ℕ
  pub source : ℕ
  pub reads_from : ℕ
  pub source_room : ℕ
  pub target : ℕ
  pub writes_from : ℕ
  pub target_room : ℕ

abbrev pub slot_cell : Standing → (slot : ℕ) → Cell
slot_cell stand slot = if nat_lt slot stand.fields then Field stand.node slot else Local slot

-- a place in an array of so many numbers, so many after its beginning
abbrev pub place_within : (room from : ℕ) → ℤ → Result ℕ Stop
place_within room from (pos place) =
    if nat_lt (from + place) room then Ok (from + place) else Err Undefined
place_within room from (negsuc place) = Err Undefined

-- a number that an int holds
abbrev pub as_int : ℤ → Result ℤ Stop
as_int value = if int_eq (wrapped value) value then Ok value else Err Undefined

-- a dividing operator has no meaning at a divisor 0
abbrev pub defined : Result ℤ Cause → Result ℤ Stop
defined (Ok value) = Ok value
defined (Err why) = Err Undefined

abbrev pub value_of : Standing → Expression → Memory → Result ℤ Stop
value_of stand (Number value) memory = Ok value
value_of stand (Size count) memory = as_int (pos count)
value_of stand (Slot slot) memory = Ok (memory.cells (slot_cell stand slot))
value_of stand (Count counter) memory = Ok (memory.cells (Counted counter))
value_of stand (Element base length index) memory =
    result_and_then (value_of stand index memory) (λ at.
    result_and_then (place_within length 0 at) (λ place.
    Ok (memory.cells (slot_cell stand (base + place)))))
value_of stand (Input place) memory =
    result_and_then (value_of stand place memory) (λ at.
    result_and_then (place_within stand.source_room stand.reads_from at) (λ there.
    Ok (memory.cells (Item stand.source there))))
value_of stand (Unary operator operand) memory =
    result_and_then (value_of stand operand memory) (λ value. Ok (unary_value operator value))
value_of stand (Binary operator left right) memory =
    result_and_then (value_of stand left memory) (λ one.
    result_and_then (value_of stand right memory) (λ other.
    defined (binary_value operator one other)))
value_of stand (Sum left right) memory =
    result_and_then (value_of stand left memory) (λ one.
    result_and_then (value_of stand right memory) (λ other. as_int (one +ℤ other)))
value_of stand (Difference left right) memory =
    result_and_then (value_of stand left memory) (λ one.
    result_and_then (value_of stand right memory) (λ other. as_int (one -ℤ other)))

-- whether a test holds
abbrev pub holds : Standing → Test → Memory → Result Bool Stop
holds stand (IsZero value) memory =
    result_and_then (value_of stand value memory) (λ number. Ok (not (is_true number)))
holds stand (IsOutside index length) memory =
    result_and_then (value_of stand index memory) (λ at.
    result_and_then (value_of stand length memory) (λ room.
    Ok (int_lt at (pos 0) || not (int_lt at room))))
holds stand (Reaches counter limit) memory =
    result_and_then (as_int (pos limit)) (λ most.
    Ok (not (int_lt (memory.cells (Counted counter)) most)))

-- so many slots from one on get 0
abbrev pub cleared : Standing → (base length : ℕ) → Memory → Memory
cleared stand base zero memory = memory
cleared stand base (suc length) memory =
    cleared stand (base + 1) length (written (slot_cell stand base) (pos 0) memory)

-- a call of a helper function by its number, with the values of its arguments
abbrev pub Calls : Type 0
Calls = (helper : ℕ) → List ℤ → Memory → Result (ℤ × Memory) Stop

-- the values of so many slots from one on
abbrev pub values_at : Standing → (first count : ℕ) → Memory → List ℤ
values_at stand first zero memory = []
values_at stand first (suc count) memory =
    memory.cells (slot_cell stand first) ∷ values_at stand (first + 1) count memory

-- what a statement does
abbrev pub statement_done : Calls → Standing → Statement → Memory → Result Memory Stop
statement_done calls stand (Assign slot value) memory =
    result_and_then (value_of stand value memory) (λ number.
    Ok (written (slot_cell stand slot) number memory))
statement_done calls stand (AssignElement base length index value) memory =
    result_and_then (value_of stand index memory) (λ at.
    result_and_then (place_within length 0 at) (λ place.
    result_and_then (value_of stand value memory) (λ number.
    Ok (written (slot_cell stand (base + place)) number memory))))
statement_done calls stand (Output place value) memory =
    result_and_then (value_of stand place memory) (λ at.
    result_and_then (place_within stand.target_room stand.writes_from at) (λ there.
    result_and_then (value_of stand value memory) (λ number.
    Ok (written (Item stand.target there) number memory))))
statement_done calls stand (Increase counter) memory =
    result_and_then (as_int (memory.cells (Counted counter) +ℤ pos 1)) (λ next.
    Ok (written (Counted counter) next memory))
statement_done calls stand (Clear base length) memory = Ok (cleared stand base length memory)
statement_done calls stand (Print value ends_line) memory =
    result_and_then (value_of stand value memory) (λ number.
    Ok (record memory {
      words = memory.words ++ record { value = number; ends_line = ends_line } ∷ [];
    }))
statement_done calls stand (LeaveIf test cause) memory =
    result_and_then (holds stand test memory) (λ leaves.
    if leaves then Err (Faults cause) else Ok memory)
statement_done calls stand (Leave cause) memory = Err (Faults cause)
statement_done calls stand (Call helper first count into) memory =
    result_and_then (calls helper (values_at stand first count memory) memory) (λ told.
    Ok (written (slot_cell stand into) told.0 told.1))

-- one of two, where a slot doesn't hold 0
abbrev pub chosen_of : Bool → (chosen other : Memory → Result Memory Stop) → Memory
    → Result Memory Stop
chosen_of true chosen other memory = chosen memory
chosen_of false chosen other memory = other memory

-- turns of a loop: the first statements, and where a slot then doesn't hold 0 the body and so on. A
-- loop that turns more often than the fuel has no meaning here
abbrev pub loop_done : (fuel : ℕ) → (first : Memory → Result Memory Stop) → Cell
    → (body : Memory → Result Memory Stop) → Memory → Result Memory Stop
loop_done zero first cell body memory = Err Undefined
loop_done (suc fuel) first cell body memory =
    result_and_then (first memory) (λ tested.
    if is_true (tested.cells cell)
    then result_and_then (body tested) (loop_done fuel first cell body) else Ok tested)

-- what statements do
abbrev pub statements_done : (fuel : ℕ) → Calls → Standing → Statements → Memory
    → Result Memory Stop
statements_done fuel calls stand End memory = Ok memory
statements_done fuel calls stand (Then first rest) memory =
    result_and_then (statement_done calls stand first memory)
    (statements_done fuel calls stand rest)
statements_done fuel calls stand (If slot chosen other rest) memory =
    result_and_then (chosen_of (is_true (memory.cells (slot_cell stand slot)))
    (statements_done fuel calls stand chosen) (statements_done fuel calls stand other) memory)
    (statements_done fuel calls stand rest)
statements_done fuel calls stand (Loop first slot body rest) memory =
    result_and_then (loop_done fuel (statements_done fuel calls stand first)
    (slot_cell stand slot) (statements_done fuel calls stand body) memory)
    (statements_done fuel calls stand rest)
