-- Where a walk of tests is Ok, and what holds there.
use Rattle.std.proofs.Common.{◌≡◌, Bool, true, false, not, Result, Ok, Err, IsOk, is_ok, refl, ap}
use Rattle.strc_lex_names.specs.Results.{result_and_then}
use Rattle.strc_work_rules.specs.declared.error.LowerError.{LowerError}
use Rattle.strc_work_meaning.specs.declared.types.ValueType.{ValueType}
use Rattle.strc_work_meaning.specs.declared.types.ValueType.TheVariants.{Int, Boolean, Array}
use Rattle.strc_work_meaning.specs.Typing.{same_type}
use Rattle.strc_work_rules.specs.Resolution.{where_kept}
use Rattle.strc_work_rules.proofs.ResolvingExpressions.{Gives}

-- a test that is kept holds of what follows
pub kept_gives : {B : Type 0} (Q : B → Type 0) (kept : Bool) (next : Result B LowerError)
    → (kept ≡ true → Gives Q next) → Gives Q (where_kept kept next)
kept_gives Q true next h = h refl
kept_gives Q false next h = tt

-- a test that holds leaves what follows
pub kept_is : {B : Type 0} (kept : Bool) (next : Result B LowerError) → kept ≡ true
    → where_kept kept next ≡ next
kept_is kept next e = ap (λ k. where_kept k next) e

-- a step after one that gives a value
pub then_is : {A B : Type 0} (r : Result A LowerError) (go : A → Result B LowerError) (a : A)
    → r ≡ Ok a → result_and_then r go ≡ go a
then_is r go a e = ap (λ s. result_and_then s go) e

-- both steps are Ok
pub then_ok : {A B : Type 0} (P : A → Type 0) (r : Result A LowerError)
    (go : A → Result B LowerError) → Gives P r → IsOk r → ((a : A) → P a → IsOk (go a))
    → IsOk (result_and_then r go)
then_ok P (Ok a) go h ok next = next a h
then_ok P (Err e) go h ok next = absurd (cc)

-- the same where nothing is known of the first one's value
pub any_ok : {A B : Type 0} (r : Result A LowerError) (go : A → Result B LowerError) → IsOk r
    → ((a : A) → IsOk (go a)) → IsOk (result_and_then r go)
any_ok (Ok a) go ok next = next a
any_ok (Err e) go ok next = absurd (cc)

-- what an Ok result gives
pub given : {A : Type 0} (P : Type 0) (r : Result A LowerError) → Gives (λ a. P) r → IsOk r → P
given P (Ok a) h ok = h
given P (Err e) h ok = absurd (cc)

pub is_ok_of : {A : Type 0} (r : Result A LowerError) (a : A) → r ≡ Ok a → IsOk r
is_ok_of r a e = ap is_ok e

-- types that pass for one are one
pub same_type_true : (a b : ValueType) → same_type a b ≡ true → a ≡ b
same_type_true Int Int e = refl
same_type_true Int Boolean e = absurd (cc)
same_type_true Int Array e = absurd (cc)
same_type_true Boolean Int e = absurd (cc)
same_type_true Boolean Boolean e = refl
same_type_true Boolean Array e = absurd (cc)
same_type_true Array Int e = absurd (cc)
same_type_true Array Boolean e = absurd (cc)
same_type_true Array Array e = absurd (cc)

-- a type that is no array's passes for itself
pub same_type_self : (P : ValueType → Type 0) (kind : ValueType) → (P Array → ⊥) → P kind
    → same_type kind kind ≡ true
same_type_self P Int refutes h = refl
same_type_self P Boolean refutes h = refl
same_type_self P Array refutes h = absurd (refutes h)

-- turned tests
pub not_true : (t : Bool) → not t ≡ true → t ≡ false
not_true true e = absurd (cc)
not_true false e = refl

pub not_false : (t : Bool) → t ≡ false → not t ≡ true
not_false t e = ap not e
