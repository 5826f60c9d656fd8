-- What holds of the answers of steps, one after another.
use Rattle.std.proofs.Common.{◌≡◌, Bool, true, false, ◌&&◌, Result, Ok, Err, IfOk, cond, refl}
use Rattle.strc_lex_names.specs.Results.{result_and_then}
use Rattle.strc_elab_statements.specs.declared.error.ElabError.{ElabError}
use Rattle.strc_elab.specs.Elaboration.{where_kept}

pub then_known : {A B : Type 0} (r : Result A ElabError) (go : A → Result B ElabError)
    (P : B → Type 0) → ((x : A) → r ≡ Ok x → IfOk (go x) P) → IfOk (result_and_then r go) P
then_known (Ok x) go P next = next x refl
then_known (Err e) go P next = tt

pub any_holds : {A : Type 0} (r : Result A ElabError) → IfOk r (λ x. Unit {0})
any_holds (Ok x) = tt
any_holds (Err e) = tt

pub kept_holds : {A : Type 0} (test : Bool) (refusal : ElabError) (r : Result A ElabError)
    (P : A → Type 0) → (test ≡ true → IfOk r P) → IfOk (where_kept test refusal r) P
kept_holds true refusal r P next = next refl
kept_holds false refusal r P next = tt

pub either_holds : {A : Type 0} (test : Bool) (r s : Result A ElabError) (P : A → Type 0)
    → IfOk r P → IfOk s P → IfOk (cond test r s) P
either_holds true r s P h g = h
either_holds false r s P h g = g

pub then_did : {A B : Type 0} (r : Result A ElabError) (go : A → Result B ElabError) (y : B)
    → result_and_then r go ≡ Ok y → (x : A) × (r ≡ Ok x) × (go x ≡ Ok y)
then_did (Ok x) go y e = (x, refl, e)
then_did (Err refusal) go y e = absurd (cc)

pub both_true : (a b : Bool) → (a && b) ≡ true → (a ≡ true) × (b ≡ true)
both_true true true e = (refl, refl)
both_true true false e = absurd (cc)
both_true false b e = absurd (cc)
