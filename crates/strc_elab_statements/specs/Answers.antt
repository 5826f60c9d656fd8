-- How code answers that gives values and does statements.
use Rattle.std.specs.Prelude.{◌≡◌, ℕ, ℤ, List, Result, Ok, Err, Vec}
use Rattle.std.specs.declared.alloc.Global.{Global}
use Rattle.strc_work_meaning.specs.Firing as firing
use Rattle.strc_elab_statements.specs.declared.error.ElabError.{ElabError}
use Rattle.strc_elab_statements.specs.declared.error.ElabErrorKind.TheVariants.{NoMemory}

-- the judgement's refusal, if it isn't out of memory
abbrev pub IsRefusal : {A : Type 0} → Result A ElabError → ElabError → Type 0
IsRefusal expected NoMemory = Unit {0}
IsRefusal expected refusal = expected ≡ Err refusal

-- the answer, under a view, is the judgement's
abbrev pub IsVerdict : {X A : Type 0} → (X → A) → Result A ElabError → Result X ElabError → Type 0
IsVerdict view expected (Ok x) = expected ≡ Ok (view x)
IsVerdict view expected (Err refusal) = IsRefusal expected refusal

-- an answer is the value that is given, with the store after it
abbrev pub Gives : Result (ℤ × firing.Store) ElabError → Result ℤ ElabError → firing.Store → Type 0
Gives expected (Ok value) after = expected ≡ Ok (value, after)
Gives expected (Err refusal) after = IsRefusal expected refusal

-- an answer is the number of cells, with the store after it
abbrev pub GivesCount : Result (ℕ × firing.Store) ElabError → Result ℕ ElabError → firing.Store
    → Type 0
GivesCount expected (Ok count) after = expected ≡ Ok (count, after)
GivesCount expected (Err refusal) after = IsRefusal expected refusal

-- an answer is the cells that are given, with the store after it
abbrev pub GivesCells : Result (List ℤ × firing.Store) ElabError → Result (Vec ℤ Global) ElabError
    → firing.Store → Type 0
GivesCells expected (Ok cells) after = expected ≡ Ok (cells.items, after)
GivesCells expected (Err refusal) after = IsRefusal expected refusal

-- an answer is what is done, with the store after it
abbrev pub Done : Result firing.Store ElabError → Result (Unit {0}) ElabError → firing.Store
    → Type 0
Done expected (Ok done) after = expected ≡ Ok after
Done expected (Err refusal) after = IsRefusal expected refusal
