-- The names of causes, as they are written.
use Rattle.std.specs.Prelude.{ℕ, List, codes}
use Rattle.strc_work_meaning.specs.declared.fault.Cause.{Cause}
use Rattle.strc_work_meaning.specs.declared.fault.Cause.TheVariants.{DivZero, Index, PeekRange}
use Rattle.strc_work_meaning.specs.declared.fault.Cause.TheVariants.{Turns}
use Rattle.strc_work_meaning.specs.declared.fault.Cause.TheVariants.{Calls}

abbrev pub cause_name : Cause → List ℕ
cause_name DivZero = codes "DivZero"
cause_name Index = codes "Index"
cause_name PeekRange = codes "PeekRange"
cause_name Turns = codes "Turns"
cause_name Calls = codes "Calls"
