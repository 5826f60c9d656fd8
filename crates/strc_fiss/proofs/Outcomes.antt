-- What a result comes to.
use Rattle.std.proofs.Common.{Result, Ok, Err, IfOk, OnOk}

pub if_ok : {A E : Type 0} (result : Result A E) (P Q : A → Type 0) → ((x : A) → P x → Q x)
    → IfOk result P → IfOk result Q
if_ok (Ok value) P Q step holds = step value holds
if_ok (Err error) P Q step holds = tt

pub on_ok : {A E : Type 0} (result : Result A E) (P Q : Type 0) → (P → Q) → OnOk result P
    → OnOk result Q
on_ok (Ok value) P Q step holds = step holds
on_ok (Err error) P Q step holds = tt
