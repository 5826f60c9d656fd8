-- Outcomes of text, of lowered code and of C, one after another.
use Rattle.std.proofs.Common.{◌≡◌, ℕ, zero, suc, ◌+◌, ◌<◌, pos, length, get_or, Result, Ok, Err}
use Rattle.std.proofs.Common.{refl, sym, ap, ◌∙◌, subst, arith}
use Rattle.strc_lex_names.specs.Results.{result_and_then}
use Rattle.strc_work_meaning.specs.declared.fault.Cause.{Cause}
use Rattle.strc_emit_c.specs.Meaning.{Memory, Stop, Faults, Undefined, Standing, slot_cell}
use Rattle.strc_emit_c.specs.Meaning.{values_at}
use Rattle.strc_emit_meaning.specs.Refinement.{Refines}
use Rattle.strc_work.proofs.Related.{Related}

-- text and lowered code, and lowered code and C
pub refines_by : {A B C : Type 0} (P : A → B → Type 0) (Q : B → C → Type 0) (R : A → C → Type 0)
    (x : Result A Cause) (y : Result B Cause) (z : Result C Stop) → Related P x y
    → Refines Q y z → ((a : A) (b : B) (c : C) → P a b → Q b c → R a c) → Refines R x z
refines_by P Q R (Ok a) (Ok b) (Ok c) p q go = go a b c p q
refines_by P Q R (Ok a) (Ok b) (Err e) p q go = absurd q
refines_by P Q R (Ok a) (Err d) z p q go = absurd p
refines_by P Q R (Err c) (Ok b) z p q go = absurd p
refines_by P Q R (Err c) (Err d) (Ok e) p q go = absurd q
refines_by P Q R (Err c) (Err d) (Err (Faults e)) p q go = p ∙ q
refines_by P Q R (Err c) (Err d) (Err Undefined) p q go = absurd q

-- a last step of C, which always succeeds
pub refines_after : {A B C : Type 0} (P : A → B → Type 0) (R : A → C → Type 0)
    (x : Result A Cause) (z : Result B Stop) (g : B → Result C Stop) → Refines P x z
    → ((a : A) (b : B) → P a b → (c : C) × (g b ≡ Ok c) × R a c)
    → Refines R x (result_and_then z g)
refines_after P R (Ok a) (Ok b) g h go =
    let last = go a b h in subst (λ r. Refines R (Ok a) r) (sym last.1) last.2
refines_after P R (Ok a) (Err e) g h go = absurd h
refines_after P R (Err c) (Ok b) g h go = absurd h
refines_after P R (Err c) (Err (Faults e)) g h go = h
refines_after P R (Err c) (Err Undefined) g h go = absurd h

-- the values of slots
pub values_count : (stand : Standing) (first count : ℕ) (memory : Memory)
    → length (values_at stand first count memory) ≡ count
values_count stand first zero memory = refl
values_count stand first (suc count) memory = ap suc (values_count stand (first + 1) count memory)

pub values_get : (stand : Standing) (first count : ℕ) (memory : Memory) (place : ℕ)
    → place < count → get_or (values_at stand first count memory) place (pos 0)
    ≡ memory.cells (slot_cell stand (first + place))
values_get stand first zero memory place lt = absurd (omega (arith, lt))
values_get stand first (suc count) memory zero lt =
    let here : first ≡ first + 0 = omega arith in
    ap (λ n. memory.cells (slot_cell stand n)) here
values_get stand first (suc count) memory (suc place) lt =
    let there : first + 1 + place ≡ first + suc place = omega arith in
    values_get stand (first + 1) count memory place (omega (arith, lt))
    ∙ ap (λ n. memory.cells (slot_cell stand n)) there
