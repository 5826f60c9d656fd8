-- The arrays that code works on, among the slots of a filter.
use Rattle.std.specs.Prelude.{◌≡◌, ℕ, ◌+◌, ◌^◌, ◌<◌, ◌≤◌, List, length, Option, Some, slice_index}
use Rattle.std.specs.List.{All}
use Rattle.strc_work_code.specs.declared.code.Routine.{Routine}
use Rattle.strc_work_code.specs.declared.helper.HelperCode.{HelperCode}
use Rattle.strc_work_code.specs.declared.inst.Inst.{Inst}
use Rattle.strc_work_code.specs.declared.inst.Inst.TheVariants as act
use Rattle.strc_work_code.specs.Code.{code_of}
use Rattle.strc_work_code.specs.Nodes.{Nodes, End, Act, Choice, Loop, Call}
use Rattle.strc_emit_c.specs.Spelling.{array_in}
use Rattle.strc_emit_filter.specs.Variables.{array_length}

-- so many slots from a base on are one array: it begins at the base or before, each of them is in
-- it, and it is declared with room for all
pub record AreOneArray (arrays : List (Option ℕ)) (base count : ℕ) : Type 0 where
  pub from : ℕ
  pub begins : from ≤ base
  pub each : (slot : ℕ) → slot < count → array_in arrays (base + slot) ≡ Some from
  pub room : base + count ≤ from + array_length arrays from

-- what holds of the array that an instruction works on: of its base and how many slots it has
abbrev pub OfInst : (Is : (base count : ℕ) → Type 0) → Inst → Type 0
OfInst Is (act.Load into base count index mark) = Is base count
OfInst Is (act.Store base count index from mark) = Is base count
OfInst Is (act.Clear base count) = Is base count
OfInst Is inst = Unit {0}

-- what holds of each array that code works on
abbrev pub OfCode : (Is : (base count : ℕ) → Type 0) → Nodes → Type 0
OfCode Is End = Unit {0}
OfCode Is (Act inst rest) = OfInst Is inst × OfCode Is rest
OfCode Is (Choice slot chosen other rest) = OfCode Is chosen × OfCode Is other × OfCode Is rest
OfCode Is (Loop condition slot body rest) = OfCode Is condition × OfCode Is body × OfCode Is rest
OfCode Is (Call name first count into rest) = OfCode Is rest

-- code finds each array that it works on; an array has a slot at the least
abbrev pub FindsArrays : (arrays : List (Option ℕ)) → Nodes → Type 0
FindsArrays arrays = OfCode (λ base count. 1 ≤ count → AreOneArray arrays base count)

-- so does the code of each helper function, of the prework, where there is one, and of the work
pub record PartsFindArrays (arrays : List (Option ℕ)) (helpers : List HelperCode)
    (prework : Option Routine) (work : Routine) : Type 0 where
  pub in_helpers : All (λ (helper : HelperCode). FindsArrays arrays (code_of helper.code)) helpers
  pub in_prework : (routine : Routine) → prework ≡ Some routine
      → FindsArrays arrays (code_of routine.code)
  pub in_work : FindsArrays arrays (code_of work.code)

-- the ends of the longest arrays that begin at each slot: none becomes smaller
pub record Raised (before after : List ℕ) : Type 0 where
  pub same : length after ≡ length before
  pub raised : (slot : ℕ) → slice_index before slot ≤ slice_index after slot

-- the longest array that begins at a base reaches the end of this one
abbrev pub Reaches : (ends : List ℕ) → (base count : ℕ) → Type 0
Reaches ends base count = 1 ≤ count → base + count ≤ length ends → base + count < 2 ^ 32
    → base + count ≤ slice_index ends base

-- each array whose end is reached by the longest one at its base is one
abbrev pub AreJoined : (ends : List ℕ) → (arrays : List (Option ℕ)) → Type 0
AreJoined ends arrays = (base count : ℕ) → 1 ≤ count → base + count ≤ length ends
    → base + count ≤ slice_index ends base → AreOneArray arrays base count
