-- How code answers a judgement of the definitions: with what it gives, or with its refusal, or
-- where memory runs out.
use Rattle.std.specs.Prelude.{◌≡◌, Result, Ok, Err}
use Rattle.strc_run_refusal.specs.declared.refusal.Refusal.{Refusal}
use Rattle.strc_run_refusal.specs.declared.refusal.Refusal.TheVariants.{NoMemory}

-- the judgement's refusal, if it isn't out of memory
abbrev pub IsRefusal : {A : Type 0} → Result A Refusal → Refusal → Type 0
IsRefusal expected NoMemory = Unit {0}
IsRefusal expected refused = expected ≡ Err refused

-- the answer, under a view, is the judgement's
abbrev pub IsVerdict : {X A : Type 0} → (X → A) → Result A Refusal → Result X Refusal → Type 0
IsVerdict view expected (Ok x) = expected ≡ Ok (view x)
IsVerdict view expected (Err refused) = IsRefusal expected refused
