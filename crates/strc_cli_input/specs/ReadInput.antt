-- How the input is read.
use Rattle.std.specs.Prelude.{◌≡◌, ℕ, ℤ, List, Option, Result, Ok, Err, Vec, IfSome}
use Rattle.std.specs.declared.alloc.Global.{Global}
use Rattle.strc_cli_input.specs.Numbers.{ints}
use Rattle.strc_cli_input.specs.declared.numbers.InputError.{InputError}
use Rattle.strc_cli_input.specs.declared.numbers.InputError.TheVariants as error
use Rattle.strc_cli_input.specs.declared.input.ReadStop.{ReadStop}
use Rattle.strc_cli_input.specs.declared.input.ReadStop.TheVariants as stop

-- the bytes of the input, where they are known, write these numbers; or the word of this number
-- writes none
abbrev pub WritesNumbers : (bytes : Option (List ℕ)) → Result (List ℤ) ℕ → Type 0
WritesNumbers bytes numbers = IfSome bytes (λ all. ints all ≡ numbers)

-- an answer is the numbers of the bytes, where they are known, or the word that writes none
abbrev pub ReadsNumbers : (bytes : Option (List ℕ)) → Result (Vec ℤ Global) ReadStop → Type 0
ReadsNumbers bytes (Ok numbers) = WritesNumbers bytes (Ok numbers.items)
ReadsNumbers bytes (Err (stop.BadInput word)) = WritesNumbers bytes (Err word)
ReadsNumbers bytes (Err stop.Failed) = Unit {0}
ReadsNumbers bytes (Err stop.NoMemory) = Unit {0}

-- an answer is the numbers that are expected, or the word that writes none
abbrev pub IsEnded : Result (List ℤ) ℕ → Result (Vec ℤ Global) ReadStop → Type 0
IsEnded expected (Ok numbers) = expected ≡ Ok numbers.items
IsEnded expected (Err (stop.BadInput word)) = expected ≡ Err word
IsEnded expected (Err stop.Failed) = ⊥
IsEnded expected (Err stop.NoMemory) = Unit {0}

-- why no more is read
abbrev pub stop_of : InputError → ReadStop
stop_of (error.BadInput word) = stop.BadInput word
stop_of error.NoMemory = stop.NoMemory
