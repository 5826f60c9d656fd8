-- Outcomes that go with each other, step by step.
use Rattle.std.proofs.Common.{◌≡◌, true, false, cond, List, [], ◌∷◌, Result, Ok, Err, refl, sym}
use Rattle.std.proofs.Common.{ap, subst}
use Rattle.strc_lex_names.specs.Results.{result_and_then}
use Rattle.strc_work_meaning.specs.declared.fault.Cause.{Cause}
use Rattle.std.proofs.Common.{ℕ}
use Rattle.strc_emit_c.specs.C.{Statement, Test, LeaveIf, Statements, lines_before}
use Rattle.strc_emit_c.specs.Meaning.{Memory, Stop, Faults, Undefined, Standing, Calls, holds}
use Rattle.strc_emit_c.specs.Meaning.{statement_done, statements_done}
use Rattle.strc_emit_meaning.specs.Refinement.{Refines, lines_done}

-- one step after another
pub refines_then : {A B C D : Type 0} (Shown : A → B → Type 0) (Next : C → D → Type 0)
    (r : Result A Cause) (s : Result B Stop) (f : A → Result C Cause) (g : B → Result D Stop)
    → Refines Shown r s → ((a : A) (b : B) → Shown a b → Refines Next (f a) (g b))
    → Refines Next (result_and_then r f) (result_and_then s g)
refines_then Shown Next (Ok a) (Ok b) f g h next = next a b h
refines_then Shown Next (Ok a) (Err why) f g h next = absurd h
refines_then Shown Next (Err why) (Ok b) f g h next = absurd h
refines_then Shown Next (Err why) (Err (Faults cause)) f g h next = h
refines_then Shown Next (Err why) (Err Undefined) f g h next = absurd h

-- what is shown may say less
pub refines_less : {A B : Type 0} (Shown Less : A → B → Type 0) (r : Result A Cause)
    (s : Result B Stop) → Refines Shown r s → ((a : A) (b : B) → Shown a b → Less a b)
    → Refines Less r s
refines_less Shown Less (Ok a) (Ok b) h less = less a b h
refines_less Shown Less (Ok a) (Err why) h less = absurd h
refines_less Shown Less (Err why) (Ok b) h less = absurd h
refines_less Shown Less (Err why) (Err (Faults cause)) h less = h
refines_less Shown Less (Err why) (Err Undefined) h less = absurd h

-- what is done after a first step, in two steps
later : (r : Result Memory Stop) (f g h : Memory → Result Memory Stop)
    → ((memory : Memory) → f memory ≡ result_and_then (g memory) h)
    → result_and_then r f ≡ result_and_then (result_and_then r g) h
later (Ok memory) f g h same = same memory
later (Err why) f g h same = refl

-- lines before other statements
pub lines_before_done : (fuel : ℕ) (calls : Calls) (stand : Standing) (lines : List Statement)
    (rest : Statements) (memory : Memory)
    → statements_done fuel calls stand (lines_before lines rest) memory
    ≡ result_and_then (lines_done calls stand lines memory) (statements_done fuel calls stand rest)
lines_before_done fuel calls stand [] rest memory = refl
lines_before_done fuel calls stand (first ∷ others) rest memory =
    later (statement_done calls stand first memory)
    (statements_done fuel calls stand (lines_before others rest)) (lines_done calls stand others)
    (statements_done fuel calls stand rest) (lines_before_done fuel calls stand others rest)

-- a line that leaves, and one that doesn't
pub leaves : (calls : Calls) (stand : Standing) (test : Test) (why : Cause) (rest : List Statement)
    (memory : Memory) → holds stand test memory ≡ Ok true
    → lines_done calls stand (LeaveIf test why ∷ rest) memory ≡ Err (Faults why)
leaves calls stand test why rest memory e =
    ap (λ r. result_and_then (result_and_then r (λ t. cond t (Err (Faults why)) (Ok memory)))
    (lines_done calls stand rest)) e

pub goes_on : (calls : Calls) (stand : Standing) (test : Test) (why : Cause) (rest : List Statement)
    (memory : Memory) → holds stand test memory ≡ Ok false
    → lines_done calls stand (LeaveIf test why ∷ rest) memory ≡ lines_done calls stand rest memory
goes_on calls stand test why rest memory e =
    ap (λ r. result_and_then (result_and_then r (λ t. cond t (Err (Faults why)) (Ok memory)))
    (lines_done calls stand rest)) e

-- the outcome in C by what it is
pub refines_as : {A B : Type 0} (Shown : A → B → Type 0) (r : Result A Cause)
    (s s' : Result B Stop) → s ≡ s' → Refines Shown r s' → Refines Shown r s
refines_as Shown r s s' e h = subst (λ t. Refines Shown r t) (sym e) h

-- three steps
pub then_assoc : {X Y Z E : Type 0} (r : Result X E) (f : X → Result Y E) (g : Y → Result Z E)
    → result_and_then (result_and_then r f) g
    ≡ result_and_then r (λ x. result_and_then (f x) g)
then_assoc (Ok x) f g = refl
then_assoc (Err why) f g = refl
