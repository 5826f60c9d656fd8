-- Tests that don't leave may be left out.
use Rattle.std.proofs.Common.{◌≡◌, refl, ap, ◌∙◌, ℕ, zero, suc, ◌+◌, ℤ, pos, negsuc}
use Rattle.std.proofs.Common.{◌+ℤ◌, ◌-ℤ◌, Bool, true, false, cond, Result, Ok, Err}
use Rattle.std.specs.Prelude.{nat_lt, if◌then◌else◌}
use Rattle.std.specs.Ordering.{int_eq}
use Rattle.strc_lex_names.specs.Results.{result_and_then}
use Rattle.strc_work_meaning.specs.Arithmetic.{binary_value, wrapped, is_true}
use Rattle.strc_work_meaning.specs.declared.fault.Cause.{Cause}
use Rattle.strc_work_meaning.specs.declared.fault.Cause.TheVariants as cause
use Rattle.strc_emit_c.specs.C.{Expression, Number, Size, Slot, Count, Element, Input, Unary}
use Rattle.strc_emit_c.specs.C.{Binary, Sum, Difference, Test, IsZero, IsOutside, Reaches}
use Rattle.strc_emit_c.specs.C.{Statement, Assign, AssignElement, Output, Increase, Clear, Print}
use Rattle.strc_emit_c.specs.C.{LeaveIf, Leave, Call, Statements, End, Then, If, Loop}
use Rattle.strc_emit_c.specs.Meaning.{Cell, Memory, Stop, Faults, Undefined, Standing, Calls}
use Rattle.strc_emit_c.specs.Meaning.{slot_cell, place_within, as_int, defined, value_of, holds}
use Rattle.strc_emit_c.specs.Meaning.{chosen_of, loop_done, statement_done, statements_done}
use Rattle.strc_emit_meaning.specs.Untested.{untested_line, untested, IsUntouched}
use Rattle.strc_emit_meaning.specs.Untested.{UntestedDoTheSame}

-- ---- expressions don't fault

abbrev NeverFaults : {A : Type 0} → Result A Stop → Type 0
NeverFaults (Ok value) = Unit {0}
NeverFaults (Err Undefined) = Unit {0}
NeverFaults (Err (Faults why)) = ⊥

never_then : {A B : Type 0} (r : Result A Stop) (go : A → Result B Stop) → NeverFaults r
    → ((a : A) → NeverFaults (go a)) → NeverFaults (result_and_then r go)
never_then (Ok a) go h next = next a
never_then (Err Undefined) go h next = tt
never_then (Err (Faults why)) go h next = absurd h

int_never : (value : ℤ) → NeverFaults (as_int value)
int_never value = by_test (int_eq (wrapped value) value)
  where
    by_test : (t : Bool) → NeverFaults {A = ℤ} (if t then Ok value else Err Undefined)
    by_test true = tt
    by_test false = tt

place_never : (room from : ℕ) (at : ℤ) → NeverFaults (place_within room from at)
place_never room from (negsuc place) = tt
place_never room from (pos place) = by_test (nat_lt (from + place) room)
  where
    by_test : (t : Bool) → NeverFaults {A = ℕ} (if t then Ok (from + place) else Err Undefined)
    by_test true = tt
    by_test false = tt

defined_never : (r : Result ℤ Cause) → NeverFaults (defined r)
defined_never (Ok value) = tt
defined_never (Err why) = tt

value_never : (stand : Standing) (e : Expression) (memory : Memory)
    → NeverFaults (value_of stand e memory)
value_never stand (Number value) memory = tt
value_never stand (Size count) memory = int_never (pos count)
value_never stand (Slot slot) memory = tt
value_never stand (Count counter) memory = tt
value_never stand (Element base length index) memory =
    never_then (value_of stand index memory) _ (value_never stand index memory)
    (λ at. never_then (place_within length 0 at) _ (place_never length 0 at) (λ place. tt))
value_never stand (Input place) memory =
    never_then (value_of stand place memory) _ (value_never stand place memory)
    (λ at. never_then (place_within stand.source_room stand.reads_from at) _
    (place_never stand.source_room stand.reads_from at) (λ there. tt))
value_never stand (Unary operator operand) memory =
    never_then (value_of stand operand memory) _ (value_never stand operand memory) (λ value. tt)
value_never stand (Binary operator left right) memory =
    never_then (value_of stand left memory) _ (value_never stand left memory)
    (λ one. never_then (value_of stand right memory) _ (value_never stand right memory)
    (λ other. defined_never (binary_value operator one other)))
value_never stand (Sum left right) memory =
    never_then (value_of stand left memory) _ (value_never stand left memory)
    (λ one. never_then (value_of stand right memory) _ (value_never stand right memory)
    (λ other. int_never (one +ℤ other)))
value_never stand (Difference left right) memory =
    never_then (value_of stand left memory) _ (value_never stand left memory)
    (λ one. never_then (value_of stand right memory) _ (value_never stand right memory)
    (λ other. int_never (one -ℤ other)))

holds_never : (stand : Standing) (test : Test) (memory : Memory)
    → NeverFaults (holds stand test memory)
holds_never stand (IsZero value) memory =
    never_then (value_of stand value memory) _ (value_never stand value memory) (λ number. tt)
holds_never stand (IsOutside index length) memory =
    never_then (value_of stand index memory) _ (value_never stand index memory)
    (λ at. never_then (value_of stand length memory) _ (value_never stand length memory)
    (λ room. tt))
holds_never stand (Reaches counter limit) memory =
    never_then (as_int (pos limit)) _ (int_never (pos limit)) (λ most. tt)

-- ---- steps

-- what is untouched is so in its first step
pub first_untouched : {A B : Type 0} (r : Result A Stop) (go : A → Result B Stop)
    → IsUntouched (result_and_then r go) → IsUntouched r
first_untouched (Ok a) go h = tt
first_untouched (Err Undefined) go h = absurd h
first_untouched (Err (Faults cause.PeekRange)) go h = absurd h
first_untouched (Err (Faults cause.DivZero)) go h = tt
first_untouched (Err (Faults cause.Index)) go h = tt
first_untouched (Err (Faults cause.Turns)) go h = tt
first_untouched (Err (Faults cause.Calls)) go h = tt

-- two steps that are the same where they are untouched
then_same : {A B : Type 0} (r s : Result A Stop) (f g : A → Result B Stop)
    → IsUntouched (result_and_then r f) → (IsUntouched r → s ≡ r)
    → ((a : A) → IsUntouched (f a) → g a ≡ f a) → result_and_then s g ≡ result_and_then r f
then_same (Ok a) s f g h first next = ap (λ q. result_and_then q g) (first tt) ∙ next a h
then_same (Err why) s f g h first next =
    ap (λ q. result_and_then q g) (first (first_untouched (Err why) f h))

-- the same step before others
rest_same : {A B : Type 0} (r : Result A Stop) (f g : A → Result B Stop)
    → IsUntouched (result_and_then r f) → ((a : A) → IsUntouched (f a) → g a ≡ f a)
    → result_and_then r g ≡ result_and_then r f
rest_same r f g h next = then_same r r f g h (λ u. refl) next

-- what the tested does, the untested does too
abbrev SameWhereUntouched : (does without : Memory → Result Memory Stop) → Type 0
SameWhereUntouched does without =
    (memory : Memory) → IsUntouched (does memory) → without memory ≡ does memory

-- a test that doesn't leave
test_same : (held : Result Bool Stop) (memory : Memory) (f g : Memory → Result Memory Stop)
    → NeverFaults held → SameWhereUntouched f g
    → IsUntouched (result_and_then (result_and_then held (λ leaves.
    if leaves then Err (Faults cause.PeekRange) else Ok memory)) f)
    → g memory ≡ result_and_then (result_and_then held (λ leaves.
    if leaves then Err (Faults cause.PeekRange) else Ok memory)) f
test_same (Ok true) memory f g never same h = absurd h
test_same (Ok false) memory f g never same h = same memory h
test_same (Err Undefined) memory f g never same h = absurd h
test_same (Err (Faults why)) memory f g never same h = absurd never

chosen_same : (b : Bool) (one other one' other' : Memory → Result Memory Stop)
    → SameWhereUntouched one one' → SameWhereUntouched other other'
    → SameWhereUntouched (chosen_of b one other) (chosen_of b one' other')
chosen_same true one other one' other' same same' memory h = same memory h
chosen_same false one other one' other' same same' memory h = same' memory h

-- one more turn, or the end of a loop
turn_same : (b : Bool) (tested : Memory) (body body' more more' : Memory → Result Memory Stop)
    → SameWhereUntouched body body' → SameWhereUntouched more more'
    → IsUntouched (cond b (result_and_then (body tested) more) (Ok tested))
    → cond b (result_and_then (body' tested) more') (Ok tested)
    ≡ cond b (result_and_then (body tested) more) (Ok tested)
turn_same false tested body body' more more' same later h = refl
turn_same true tested body body' more more' same later h =
    then_same (body tested) (body' tested) more more' h (same tested) later

loop_same : (fuel : ℕ) (first first' : Memory → Result Memory Stop) (cell : Cell)
    (body body' : Memory → Result Memory Stop) → SameWhereUntouched first first'
    → SameWhereUntouched body body'
    → SameWhereUntouched (loop_done fuel first cell body) (loop_done fuel first' cell body')
loop_same zero first first' cell body body' same same' memory h = refl
loop_same (suc fuel) first first' cell body body' same same' memory h =
    then_same (first memory) (first' memory) _ _ h (same memory)
    (λ tested u. turn_same (is_true (tested.cells cell)) tested body body'
    (loop_done fuel first cell body) (loop_done fuel first' cell body') same'
    (loop_same fuel first first' cell body body' same same') u)

-- ---- statements

module _ (fuel : ℕ) (calls : Calls) (stand : Standing) where
  abbrev done : Statements → Memory → Result Memory Stop
  done = statements_done fuel calls stand

  -- a line that stays
  kept_same : (first : Statement) (rest rest' : Statements)
      → SameWhereUntouched (done rest) (done rest')
      → SameWhereUntouched (done (Then first rest)) (done (Then first rest'))
  kept_same first rest rest' same memory h =
      rest_same (statement_done calls stand first memory) (done rest) (done rest') h same

  leave_same : (test : Test) (why : Cause) (rest rest' : Statements)
      → SameWhereUntouched (done rest) (done rest')
      → SameWhereUntouched (done (Then (LeaveIf test why) rest))
      (done (untested_line (LeaveIf test why) rest'))
  leave_same test cause.PeekRange rest rest' same memory h =
      test_same (holds stand test memory) memory (done rest) (done rest')
      (holds_never stand test memory) same h
  leave_same test cause.DivZero rest rest' same memory h =
      kept_same (LeaveIf test cause.DivZero) rest rest' same memory h
  leave_same test cause.Index rest rest' same memory h =
      kept_same (LeaveIf test cause.Index) rest rest' same memory h
  leave_same test cause.Turns rest rest' same memory h =
      kept_same (LeaveIf test cause.Turns) rest rest' same memory h
  leave_same test cause.Calls rest rest' same memory h =
      kept_same (LeaveIf test cause.Calls) rest rest' same memory h

  line_same : (first : Statement) (rest rest' : Statements)
      → SameWhereUntouched (done rest) (done rest')
      → SameWhereUntouched (done (Then first rest)) (done (untested_line first rest'))
  line_same (LeaveIf test why) rest rest' same memory h =
      leave_same test why rest rest' same memory h
  line_same (Assign slot value) rest rest' same memory h =
      kept_same (Assign slot value) rest rest' same memory h
  line_same (AssignElement base length index value) rest rest' same memory h =
      kept_same (AssignElement base length index value) rest rest' same memory h
  line_same (Output place value) rest rest' same memory h =
      kept_same (Output place value) rest rest' same memory h
  line_same (Increase counter) rest rest' same memory h =
      kept_same (Increase counter) rest rest' same memory h
  line_same (Clear base length) rest rest' same memory h =
      kept_same (Clear base length) rest rest' same memory h
  line_same (Print value ends_line) rest rest' same memory h =
      kept_same (Print value ends_line) rest rest' same memory h
  line_same (Leave why) rest rest' same memory h =
      kept_same (Leave why) rest rest' same memory h
  line_same (Call helper first count into) rest rest' same memory h =
      kept_same (Call helper first count into) rest rest' same memory h

  code_same : (code : Statements) → SameWhereUntouched (done code) (done (untested code))
  code_same End memory h = refl
  code_same (Then first rest) memory h =
      line_same first rest (untested rest) (code_same rest) memory h
  code_same (If slot chosen other rest) memory h =
      let b = is_true (memory.cells (slot_cell stand slot)) in
      then_same (chosen_of b (done chosen) (done other) memory)
      (chosen_of b (done (untested chosen)) (done (untested other)) memory) (done rest)
      (done (untested rest)) h
      (chosen_same b (done chosen) (done other) (done (untested chosen)) (done (untested other))
      (code_same chosen) (code_same other) memory)
      (code_same rest)
  code_same (Loop first slot body rest) memory h =
      let cell = slot_cell stand slot in
      then_same (loop_done fuel (done first) cell (done body) memory)
      (loop_done fuel (done (untested first)) cell (done (untested body)) memory) (done rest)
      (done (untested rest)) h
      (loop_same fuel (done first) (done (untested first)) cell (done body)
      (done (untested body)) (code_same first) (code_same body) memory)
      (code_same rest)

pub untested_same : UntestedDoTheSame
untested_same fuel calls stand code memory h = code_same fuel calls stand code memory h
