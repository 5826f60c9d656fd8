-- How code that reads numbers answers.
use Rattle.std.specs.Prelude.{◌≡◌, ℕ, ℤ, List, Result, Ok, Err, Vec}
use Rattle.std.specs.declared.alloc.Global.{Global}
use Rattle.strc_cli_input.specs.Reading.{Reading, Reads, Fails}
use Rattle.strc_cli_input.specs.declared.numbers.InputError.{InputError}
use Rattle.strc_cli_input.specs.declared.numbers.InputError.TheVariants as error
use Rattle.strc_cli_input.specs.declared.numbers.Numbers.{Numbers}

-- numbers as far as they are read
abbrev pub reading_of : Numbers → Reading
reading_of numbers = Reads numbers.values.items numbers.last

-- an answer is how far the input is read
abbrev pub IsRead : Reading → Result (Unit {0}) InputError → Reading → Type 0
IsRead expected (Ok done) after = expected ≡ after
IsRead expected (Err (error.BadInput word)) after = expected ≡ Fails word
IsRead expected (Err error.NoMemory) after = Unit {0}

-- an answer is the numbers, or the word that writes none
abbrev pub AreNumbers : Result (List ℤ) ℕ → Result (Vec ℤ Global) InputError → Type 0
AreNumbers expected (Ok numbers) = expected ≡ Ok numbers.items
AreNumbers expected (Err (error.BadInput word)) = expected ≡ Err word
AreNumbers expected (Err error.NoMemory) = Unit {0}
