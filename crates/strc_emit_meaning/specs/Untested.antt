-- C without the tests of windows and of room, which does the same where none of these leaves.
use Rattle.std.specs.Prelude.{◌≡◌, ℕ, Bool, true, false, if◌then◌else◌, Result, Ok, Err}
use Rattle.strc_work_meaning.specs.declared.fault.Cause.{Cause}
use Rattle.strc_work_meaning.specs.declared.fault.Cause.TheVariants as cause
use Rattle.strc_work_code.specs.Nodes.{Nodes}
use Rattle.strc_emit_c.specs.declared.function.Function.{Function}
use Rattle.strc_emit_c.specs.C.{Statement, LeaveIf, Statements, End, Then, If, Loop}
use Rattle.strc_emit_c.specs.Meaning.{Memory, Stop, Faults, Undefined, Standing, Calls}
use Rattle.strc_emit_c.specs.Meaning.{statements_done}
use Rattle.strc_emit_code.specs.Emitted.{emitted}

-- the fault of a pop, a peek or a push past the rates
abbrev pub is_range : Cause → Bool
is_range cause.PeekRange = true
is_range cause.DivZero = false
is_range cause.Index = false
is_range cause.Turns = false
is_range cause.Calls = false

-- a statement before others, which isn't there if it tests a window or room
abbrev pub untested_line : Statement → Statements → Statements
untested_line (LeaveIf test why) rest =
    if is_range why then rest else Then (LeaveIf test why) rest
untested_line first rest = Then first rest

abbrev pub untested : Statements → Statements
untested End = End
untested (Then first rest) = untested_line first (untested rest)
untested (If slot chosen other rest) = If slot (untested chosen) (untested other) (untested rest)
untested (Loop first slot body rest) = Loop (untested first) slot (untested body) (untested rest)

-- an outcome that is defined, and isn't left by such a test
abbrev pub IsUntouched : {A : Type 0} → Result A Stop → Type 0
IsUntouched (Ok done) = Unit {0}
IsUntouched (Err Undefined) = ⊥
IsUntouched (Err (Faults cause.PeekRange)) = ⊥
IsUntouched (Err (Faults cause.DivZero)) = Unit {0}
IsUntouched (Err (Faults cause.Index)) = Unit {0}
IsUntouched (Err (Faults cause.Turns)) = Unit {0}
IsUntouched (Err (Faults cause.Calls)) = Unit {0}

-- statements without these tests do the same wherever the tests don't leave
abbrev pub UntestedDoTheSame : Type 0
UntestedDoTheSame =
    (fuel : ℕ) (calls : Calls) (stand : Standing) (code : Statements) (memory : Memory)
    → IsUntouched (statements_done fuel calls stand code memory)
    → statements_done fuel calls stand (untested code) memory
    ≡ statements_done fuel calls stand code memory

-- and they are what is emitted for a function without tests
abbrev pub UntestedAreEmitted : Type 0
UntestedAreEmitted =
    (function : Function) (code : Nodes) → function.tests ≡ false
    → untested (emitted (record function { tests = true }) code) ≡ emitted function code
