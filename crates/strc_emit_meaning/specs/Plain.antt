-- Lowered code that has statements in C: its instructions are none of those that run other code
-- faster, and its calls are known.
use Rattle.std.specs.Prelude.{◌≡◌, ℕ, Bool, true, false, List}
use Rattle.strc_work_code.specs.declared.inst.Inst.{Inst}
use Rattle.strc_work_code.specs.declared.inst.Inst.TheVariants as act
use Rattle.strc_work_code.specs.Nodes.{Nodes, End, Act, Choice, Loop, Call}

-- an instruction that is none of two in one, and no jump
abbrev pub is_plain : Inst → Bool
is_plain (act.MultiplyThenAdd into product right from number) = false
is_plain (act.ShiftLeftThenAdd into left shifted from number) = false
is_plain (act.ShiftRightThenExclusiveOr into left shifted from number) = false
is_plain (act.AndThenAdd into left bits from mask) = false
is_plain (act.AddThenAnd into sum left right mask) = false
is_plain (act.AddNumberThenAnd into sum from number mask) = false
is_plain (act.ExclusiveOrThenAnd into bits first second mask) = false
is_plain (act.SubtractThenAdd into difference right first second) = false
is_plain (act.AndThenMultiply product from mask number) = false
is_plain (act.AndThenMultiplyThenAdd into product right from mask number) = false
is_plain (act.MultiplyTwoThenAdd into product right first second) = false
is_plain (act.MultiplyThenShiftRight into product left right number) = false
is_plain (act.ShiftRightThenAnd into shifted from number mask) = false
is_plain (act.ExclusiveOrThenAdd into bits right first second) = false
is_plain (act.MultiplyThenAddThenPeek into place product right from number) = false
is_plain (act.Jump count) = false
is_plain (act.JumpUnless condition count) = false
is_plain (act.JumpUnlessNoBits into left number count) = false
is_plain (act.JumpUnlessSomeBits into left number count) = false
is_plain _ = true

-- code of such instructions, whose calls are among those known by a name and how many arguments
abbrev pub IsPlain : (known : List ℕ → ℕ → Bool) → Nodes → Type 0
IsPlain known End = Unit {0}
IsPlain known (Act inst rest) = (is_plain inst ≡ true) × IsPlain known rest
IsPlain known (Choice slot chosen other rest) =
    IsPlain known chosen × IsPlain known other × IsPlain known rest
IsPlain known (Loop condition slot body rest) =
    IsPlain known condition × IsPlain known body × IsPlain known rest
IsPlain known (Call name first count into rest) =
    (known name count ≡ true) × IsPlain known rest
