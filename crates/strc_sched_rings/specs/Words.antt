-- Where a firing wants memory: only at a word.
use Rattle.std.specs.Prelude.{◌≡◌, ◌≢◌, [], Bool, true, Result, Ok, Err}
use Rattle.strc_work_meaning.specs.declared.fault.Halt.{Halt}
use Rattle.strc_work_meaning.specs.declared.fault.Halt.TheVariants as halt
use Rattle.strc_sched_laws.specs.Steps.{Step, Stays, Goes, Faults}

-- a firing gives words; one that faults tells none
abbrev pub GivesWords : Step → Type 0
GivesWords Stays = ⊥
GivesWords (Goes fields rings words) = words ≢ []
GivesWords (Faults cause) = Unit {0}

-- a firing has a word to give
pub record HasNextWord (may_print : Bool) (step : Step) : Type 0 where
  pub prints : may_print ≡ true
  pub gives : GivesWords step

-- only a firing that has a word to give can want memory
abbrev pub WantsWordOfStep : (may_print : Bool) → Step → Result Bool Halt → Type 0
WantsWordOfStep may_print step (Ok fired) = Unit {0}
WantsWordOfStep may_print step (Err (halt.Fault cause)) = Unit {0}
WantsWordOfStep may_print step (Err halt.NoMemory) = HasNextWord may_print step
