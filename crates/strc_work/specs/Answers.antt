-- How a firing and a start answer.
use Rattle.std.specs.Prelude.{◌≡◌, ℤ, List, ◌∷◌, ◌++◌, Result, Ok, Err, IfOk}
use Rattle.strc_work_meaning.specs.declared.fault.Cause.{Cause}
use Rattle.strc_work_meaning.specs.declared.fault.Halt.{Halt}
use Rattle.strc_work_meaning.specs.declared.fault.Halt.TheVariants as halt
use Rattle.strc_work.specs.declared.firing.StartError.{StartError}
use Rattle.strc_work.specs.declared.firing.StartError.TheVariants as start
use Rattle.strc_work_meaning.specs.declared.word.Word.{Word}
use Rattle.strc_work.specs.Kept.{Kept}
use Rattle.strc_work_meaning.specs.Firing.{Fired}

-- a firing gave these values of the fields and these pushes, and its words are after those before
-- it
pub record HasGiven (outcome : Result Fired Cause) (fields pushes : List ℤ)
    (before after : List Word) : Type 0 where
  pub words : List Word
  pub is : outcome ≡ Ok (record { fields = fields; pushes = pushes; words = words })
  pub printed : after ≡ before ++ words

-- an answer tells what a firing gave, or its fault; out of memory tells nothing
abbrev pub Fires : Result Fired Cause → Result (Unit {0}) Halt
    → (fields pushes : List ℤ) (before after : List Word) → Type 0
Fires outcome (Ok done) fields pushes before after = HasGiven outcome fields pushes before after
Fires outcome (Err (halt.Fault cause)) fields pushes before after = outcome ≡ Err cause
Fires outcome (Err halt.NoMemory) fields pushes before after = Unit {0}

-- of a firing's words some are printed, and one is next
pub record HasNextWord (words before after : List Word) : Type 0 where
  pub given : List Word
  pub next : Word
  pub rest : List Word
  pub is : words ≡ given ++ next ∷ rest
  pub printed : after ≡ before ++ given

-- only a word that the firing gives can need memory: out of memory comes at one of its words, those
-- before it being printed; so never where the firing gives no words. A firing that faults tells no
-- words
abbrev pub WantsGivenWords : Result Fired Cause → Result (Unit {0}) Halt
    → (before after : List Word) → Type 0
WantsGivenWords outcome (Ok done) before after = Unit {0}
WantsGivenWords outcome (Err (halt.Fault cause)) before after = Unit {0}
WantsGivenWords outcome (Err halt.NoMemory) before after =
    IfOk outcome (λ given. HasNextWord given.words before after)

-- an answer tells the values of the fields at the start, or the fault of an initialiser
abbrev pub Starts : Result (List ℤ) Cause → Result Kept StartError → Type 0
Starts outcome (Ok state) = outcome ≡ Ok state.fields
Starts outcome (Err (start.ConstFault cause)) = outcome ≡ Err cause
Starts outcome (Err start.NoMemory) = Unit {0}
