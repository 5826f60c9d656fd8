-- Variables whose cells are in slots.
use Rattle.std.proofs.Common.{◌≡◌, ◌≢◌, ℕ, zero, suc, ◌+◌, ◌-◌, ◌<◌, ◌≤◌, Bool, true, false, ◌||◌}
use Rattle.std.proofs.Common.{cond, ℤ, pos, List, [], ◌∷◌, ◌++◌, length, take, drop, get_or}
use Rattle.std.proofs.Common.{set, Some, refl, sym, ap, ◌∙◌, subst, ⊎_elim, arith}
use Rattle.std.specs.Prelude.{unwrap_or, bytes_eq}
use Rattle.std.proofs.lemmas.List.{get_or-set_same, get_or-set_other, length-set, length-map}
use Rattle.std.proofs.lemmas.List.{length-drop, length-take-le, get_or-take, get_or-drop}
use Rattle.std.proofs.lemmas.List.{ext_get_or, drop-map}
use Rattle.std.proofs.Math.Seq.{take-add}
use Rattle.std.proofs.lemmas.Bool.{false≢true, cases_lt}
use Rattle.strc_work_meaning.specs.Scoping.{total, is_declared, slot_named, slot_of, size_named}
use Rattle.strc_work_meaning.specs.Scoping.{size_of}
use Rattle.strc_work_meaning.specs.Firing.{Variables, cells_named, with_cell, values_of}
use Rattle.strc_work_meaning.specs.Closed.{IsNamed}
pub use Rattle.strc_work_meaning.proofs.Calls.{scope_of}

abbrev pub at : List ℤ → ℕ → ℤ
at slots slot = get_or slots slot (pos 0)

-- a variable's cells are one after another from a slot on
abbrev pub HoldsFrom : (base : ℕ) → (cells slots : List ℤ) → Type 0
HoldsFrom base cells slots = (k : ℕ) → k < length cells → at slots (base + k) ≡ at cells k

-- each variable has a cell, and its cells are in its slots, after those of the variables outside
-- it
abbrev pub Holds : Variables → List ℤ → Type 0
Holds [] slots = Unit {0}
Holds (first ∷ rest) slots = (1 ≤ length first.1) × HoldsFrom (total (scope_of rest)) first.1 slots
    × Holds rest slots

pub length-scope_of : (variables : Variables) → length (scope_of variables) ≡ length variables
length-scope_of variables = length-map variables (λ v. record { 0 = v.0; 1 = length v.1 })

pub scope_of-drop : (n : ℕ) (variables : Variables)
    → scope_of (drop n variables) ≡ drop n (scope_of variables)
scope_of-drop n variables = sym (drop-map (λ (v : List ℕ × List ℤ). record
    { 0 = v.0; 1 = length v.1 }) n variables)

-- what is below the total stays in other slots that are the same there
pub Holds-same : (variables : Variables) (slots slots' : List ℤ)
    → ((k : ℕ) → k < total (scope_of variables) → at slots' k ≡ at slots k) → Holds variables slots
    → Holds variables slots'
Holds-same [] slots slots' same h = tt
Holds-same (first ∷ rest) slots slots' same h = (
  h.0,
  λ k lt. same (total (scope_of rest) + k) (omega arith) ∙ h.1 k lt,
  Holds-same rest slots slots' (λ k lt. same k (omega arith)) h.2,
)

-- a write above the variables changes none
pub Holds-set_above : (variables : Variables) (slots : List ℤ) (slot : ℕ) (value : ℤ)
    → total (scope_of variables) ≤ slot → Holds variables slots
    → Holds variables (set slots slot value)
Holds-set_above variables slots slot value above h =
    Holds-same variables slots (set slots slot value)
    (λ k lt. let other : k ≢ slot = omega arith in
    get_or-set_other slots slot k value (pos 0) other) h

-- where a named variable is: it has a cell, and its slots, below the total, hold its cells
pub record IsPlaced (variables : Variables) (slots : List ℤ) (name : List ℕ) : Type 0 where
  pub slot : ℕ
  pub size : ℕ
  pub found : slot_named (scope_of variables) name ≡ Some slot
  pub sized : size_named (scope_of variables) name ≡ Some size
  pub some : 1 ≤ size
  pub below : slot + size ≤ total (scope_of variables)
  pub cells : length (cells_named variables name) ≡ size
  pub value : HoldsFrom slot (cells_named variables name) slots

placed_by_test : (first : List ℕ × List ℤ) (rest : Variables) (slots : List ℤ) (name : List ℕ)
    → 1 ≤ length first.1 → HoldsFrom (total (scope_of rest)) first.1 slots
    → (IsNamed (scope_of rest) name → IsPlaced rest slots name) → (t : Bool)
    → bytes_eq first.0 name ≡ t → t || is_declared (scope_of rest) name ≡ true
    → IsPlaced (first ∷ rest) slots name
placed_by_test first rest slots name some here inside true test e =
    let is : cells_named (first ∷ rest) name ≡ first.1 =
    ap (λ t. cond t first.1 (cells_named rest name)) test in
    record {
      slot = total (scope_of rest);
      size = length first.1;
      found = ap (λ t. cond t (Some (total (scope_of rest))) (slot_named (scope_of rest) name))
          test;
      sized = ap (λ t. cond t (Some (length first.1)) (size_named (scope_of rest) name)) test;
      some = some;
      below = omega arith;
      cells = ap length is;
      value = subst (λ c. HoldsFrom (total (scope_of rest)) c slots) (sym is) here;
    }
placed_by_test first rest slots name some here inside false test e =
    let p = inside e in
    let le = p.below in
    let is : cells_named (first ∷ rest) name ≡ cells_named rest name =
    ap (λ t. cond t first.1 (cells_named rest name)) test in
    record {
      slot = p.slot;
      size = p.size;
      found = ap (λ t. cond t (Some (total (scope_of rest))) (slot_named (scope_of rest) name)) test
          ∙ p.found;
      sized = ap (λ t. cond t (Some (length first.1)) (size_named (scope_of rest) name)) test
          ∙ p.sized;
      some = p.some;
      below = omega arith;
      cells = ap length is ∙ p.cells;
      value = subst (λ c. HoldsFrom p.slot c slots) (sym is) p.value;
    }

pub placed : (variables : Variables) (slots : List ℤ) (name : List ℕ) → Holds variables slots
    → IsNamed (scope_of variables) name → IsPlaced variables slots name
placed [] slots name h named = absurd (false≢true named)
placed (first ∷ rest) slots name h named =
    placed_by_test first rest slots name h.0 h.1 (placed rest slots name h.2)
    (bytes_eq first.0 name) refl named

-- the slots of a named variable
pub slot_of-below : (variables : Variables) (slots : List ℤ) (name : List ℕ) → Holds variables slots
    → IsNamed (scope_of variables) name → slot_of (scope_of variables) name
    + size_of (scope_of variables) name ≤ total (scope_of variables)
slot_of-below variables slots name h named =
    let p = placed variables slots name h named in
    subst (λ o. unwrap_or o 0 + size_of (scope_of variables) name ≤ total (scope_of variables))
    (sym p.found)
    (subst (λ o. p.slot + unwrap_or o 0 ≤ total (scope_of variables)) (sym p.sized) p.below)

-- there is one
pub size_of-some : (variables : Variables) (slots : List ℤ) (name : List ℕ) → Holds variables slots
    → IsNamed (scope_of variables) name → 1 ≤ size_of (scope_of variables) name
size_of-some variables slots name h named =
    let p = placed variables slots name h named in
    subst (λ o. 1 ≤ unwrap_or o 0) (sym p.sized) p.some

-- as many as it has cells
pub size_of-is : (variables : Variables) (slots : List ℤ) (name : List ℕ) → Holds variables slots
    → IsNamed (scope_of variables) name → length (cells_named variables name)
    ≡ size_of (scope_of variables) name
size_of-is variables slots name h named =
    let p = placed variables slots name h named in p.cells ∙ sym (ap (λ o. unwrap_or o 0) p.sized)

-- and they hold them
pub slot_of-value : (variables : Variables) (slots : List ℤ) (name : List ℕ) (place : ℕ)
    → Holds variables slots → IsNamed (scope_of variables) name
    → place < size_of (scope_of variables) name
    → at slots (slot_of (scope_of variables) name + place) ≡ at (cells_named variables name) place
slot_of-value variables slots name place h named within =
    let p = placed variables slots name h named in
    let size = size_of-is variables slots name h named in
    ap (λ o. at slots (unwrap_or o 0 + place)) p.found ∙ p.value place (omega arith)

-- an assignment keeps the names and the numbers of cells
scope_by_test : (first : List ℕ × List ℤ) (rest : Variables) (name : List ℕ) (place : ℕ) (value : ℤ)
    → scope_of (with_cell rest name place value) ≡ scope_of rest → (t : Bool)
    → scope_of (cond t (record { 0 = first.0; 1 = set first.1 place value } ∷ rest)
    (first ∷ with_cell rest name place value)) ≡ record { 0 = first.0; 1 = length first.1 }
    ∷ scope_of rest
scope_by_test first rest name place value inside true =
    ap (λ n. record { 0 = first.0; 1 = n } ∷ scope_of rest) (length-set first.1 place value)
scope_by_test first rest name place value inside false =
    ap (λ l. record { 0 = first.0; 1 = length first.1 } ∷ l) inside

pub scope_of-with_cell : (variables : Variables) (name : List ℕ) (place : ℕ) (value : ℤ)
    → scope_of (with_cell variables name place value) ≡ scope_of variables
scope_of-with_cell [] name place value = refl
scope_of-with_cell (first ∷ rest) name place value =
    scope_by_test first rest name place value (scope_of-with_cell rest name place value)
    (bytes_eq first.0 name)

-- a cell that is written is in its slot, and the others stay
written_cells : (base : ℕ) (cells slots : List ℤ) (place : ℕ) (value : ℤ)
    → base + length cells ≤ length slots → place < length cells → HoldsFrom base cells slots
    → HoldsFrom base (set cells place value) (set slots (base + place) value)
written_cells base cells slots place value room within h k lt =
    let size = length-set cells place value in
    ⊎_elim
    (λ (less : k < place).
    let other : base + k ≢ base + place = omega arith in
    let other' : k ≢ place = omega arith in
    get_or-set_other slots (base + place) (base + k) value (pos 0) other ∙ h k (omega arith)
    ∙ sym (get_or-set_other cells place k value (pos 0) other'))
    (λ (ge : place ≤ k).
    ⊎_elim
    (λ (more : place < k).
    let other : base + k ≢ base + place = omega arith in
    let other' : k ≢ place = omega arith in
    get_or-set_other slots (base + place) (base + k) value (pos 0) other ∙ h k (omega arith)
    ∙ sym (get_or-set_other cells place k value (pos 0) other'))
    (λ (le : k ≤ place).
    let is : place ≡ k = omega arith in
    let below : base + place < length slots = omega arith in
    subst (λ n. at (set slots (base + place) value) (base + n) ≡ at (set cells place value) n) is
    (get_or-set_same slots (base + place) value (pos 0) below
    ∙ sym (get_or-set_same cells place value (pos 0) within)))
    (cases_lt place k))
    (cases_lt k place)

-- an assignment is a write of the cell's slot
assigned_by_test : (first : List ℕ × List ℤ) (rest : Variables) (slots : List ℤ) (name : List ℕ)
    (place : ℕ) (value : ℤ) → length first.1 + total (scope_of rest) ≤ length slots
    → Holds (first ∷ rest) slots → (IsNamed (scope_of rest) name
    → place < size_of (scope_of rest) name
    → Holds (with_cell rest name place value)
    (set slots (slot_of (scope_of rest) name + place) value)) → (t : Bool)
    → t || is_declared (scope_of rest) name ≡ true
    → place < unwrap_or (cond t (Some (length first.1)) (size_named (scope_of rest) name)) 0
    → Holds (cond t (record { 0 = first.0; 1 = set first.1 place value } ∷ rest)
    (first ∷ with_cell rest name place value))
    (set slots (unwrap_or (cond t (Some (total (scope_of rest))) (slot_named (scope_of rest) name))
    0 + place) value)
assigned_by_test first rest slots name place value room h inside true e within =
    let size = length-set first.1 place value in (
      omega arith,
      written_cells (total (scope_of rest)) first.1 slots place value
          (omega arith) within h.1,
      Holds-set_above rest slots (total (scope_of rest) + place) value
          (omega arith) h.2,
    )
assigned_by_test first rest slots name place value room h inside false e within =
    let below = slot_of-below rest slots name h.2 e in
    let same = ap total (scope_of-with_cell rest name place value) in
    let slot = slot_of (scope_of rest) name + place in
    let lt : place < size_of (scope_of rest) name = within in (
      h.0,
      λ k less.
          let other : total (scope_of (with_cell rest name place value)) + k ≢ slot = omega arith in
          get_or-set_other slots slot (total (scope_of (with_cell rest name place value)) + k) value
          (pos 0) other ∙ ap (λ n. at slots (n + k)) same ∙ h.1 k less,
      inside e within,
    )

pub Holds-with_cell : (variables : Variables) (slots : List ℤ) (name : List ℕ) (place : ℕ)
    (value : ℤ) → total (scope_of variables) ≤ length slots → Holds variables slots
    → IsNamed (scope_of variables) name → place < size_of (scope_of variables) name
    → Holds (with_cell variables name place value)
    (set slots (slot_of (scope_of variables) name + place) value)
Holds-with_cell [] slots name place value room h named within = absurd (false≢true named)
Holds-with_cell (first ∷ rest) slots name place value room h named within =
    assigned_by_test first rest slots name place value room h
    (Holds-with_cell rest slots name place value (omega arith) h.2)
    (bytes_eq first.0 name) named within

-- of the first cell
pub Holds-assigned : (variables : Variables) (slots : List ℤ) (name : List ℕ) (value : ℤ)
    → total (scope_of variables) ≤ length slots → Holds variables slots
    → IsNamed (scope_of variables) name → Holds (with_cell variables name 0 value)
    (set slots (slot_of (scope_of variables) name) value)
Holds-assigned variables slots name value room h named =
    let some = size_of-some variables slots name h named in
    let e : slot_of (scope_of variables) name + 0 ≡ slot_of (scope_of variables) name =
    omega arith in
    subst (λ n. Holds (with_cell variables name 0 value) (set slots n value)) e
    (Holds-with_cell variables slots name 0 value room h named (omega arith))

-- fewer variables
pub Holds-drop : (variables : Variables) (slots : List ℤ) (n : ℕ) → Holds variables slots
    → Holds (drop n variables) slots
Holds-drop variables slots zero h = h
Holds-drop [] slots (suc n) h = tt
Holds-drop (first ∷ rest) slots (suc n) h = Holds-drop rest slots n h.2

-- cells from a slot on are a piece of the slots
piece_same : (base : ℕ) (cells slots : List ℤ) → base + length cells ≤ length slots
    → HoldsFrom base cells slots → cells ≡ take (length cells) (drop base slots)
piece_same base cells slots room h =
    let n = length cells in
    let size : length (drop base slots) ≡ length slots - base = length-drop base slots in
    let fits : n ≤ length (drop base slots) = omega arith in
    ext_get_or (pos 0) cells (take n (drop base slots))
    (sym (length-take-le n (drop base slots) fits)) (λ i lt.
    sym (get_or-take n (drop base slots) i (pos 0) lt ∙ get_or-drop base slots i (pos 0) ∙ h i lt))

-- the cells' values are the first slots
pub values-Holds : (variables : Variables) (slots : List ℤ)
    → total (scope_of variables) ≤ length slots → Holds variables slots
    → values_of variables ≡ take (total (scope_of variables)) slots
values-Holds [] slots room h = refl
values-Holds (first ∷ rest) slots room h =
    let base = total (scope_of rest) in
    let n = length first.1 in
    let turned : base + n ≡ n + base = omega arith in
    ap (λ l. l ++ first.1) (values-Holds rest slots (omega arith) h.2)
    ∙ ap (λ l. take base slots ++ l) (piece_same base first.1 slots (omega arith) h.1)
    ∙ sym (take-add base n slots)
    ∙ ap (λ k. take k slots) turned

-- variables that are in two lists of slots
pub same_slots : (variables : Variables) (first second : List ℤ) (slot : ℕ) → Holds variables first
    → Holds variables second → slot < total (scope_of variables) → at first slot ≡ at second slot
same_slots [] first second slot h h' below = absurd (omega arith)
same_slots (variable ∷ rest) first second slot h h' below =
    ⊎_elim
    (λ (lt : slot < total (scope_of rest)). same_slots rest first second slot h.2 h'.2 lt)
    (λ (le : total (scope_of rest) ≤ slot).
    let k = slot - total (scope_of rest) in
    let e : total (scope_of rest) + k ≡ slot = omega arith in
    let lt : k < length variable.1 = omega arith in
    subst (λ n. at first n ≡ at second n) e (h.1 k lt ∙ sym (h'.1 k lt)))
    (cases_lt slot (total (scope_of rest)))
