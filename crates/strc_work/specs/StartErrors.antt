-- What a halt means at the start.
use Rattle.strc_work_meaning.specs.declared.fault.Halt.{Halt}
use Rattle.strc_work_meaning.specs.declared.fault.Halt.TheVariants as halt
use Rattle.strc_work.specs.declared.firing.StartError.{StartError}
use Rattle.strc_work.specs.declared.firing.StartError.TheVariants as start

-- a fault of an initialiser is the start's, and so is out of memory
abbrev pub start_error_of : Halt → StartError
start_error_of (halt.Fault cause) = start.ConstFault cause
start_error_of halt.NoMemory = start.NoMemory
