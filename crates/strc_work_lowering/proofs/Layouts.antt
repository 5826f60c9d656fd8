-- Variables beside the places of their cells.
use Rattle.std.proofs.Common.{◌≡◌, ℕ, zero, suc, ◌+◌, ◌<◌, ◌^◌, Bool, true, false, List, []}
use Rattle.std.proofs.Common.{◌∷◌}
use Rattle.std.proofs.Common.{length, drop, Some, None, cond, refl, sym, ap, ◌∙◌, arith}
use Rattle.std.specs.Prelude.{bytes_eq, slice_get}
use Rattle.strc_work_lowering.specs.declared.layout.Place.{Place}
use Rattle.strc_lex_names.specs.Names.{value_named}
use Rattle.strc_work_meaning.specs.Scoping.{total, slot_named, size_named}
use Rattle.strc_work_lowering.specs.Layouts.{with_cells, AreLaid}

pub length-with_cells : (variables : List (List ℕ × Place))
    → length (with_cells variables) ≡ length variables
length-with_cells [] = refl
length-with_cells (first ∷ rest) = ap suc (length-with_cells rest)

pub drop-with_cells : (n : ℕ) (variables : List (List ℕ × Place))
    → with_cells (drop n variables) ≡ drop n (with_cells variables)
drop-with_cells zero variables = refl
drop-with_cells (suc n) [] = refl
drop-with_cells (suc n) (first ∷ rest) = drop-with_cells n rest

pub AreLaid-drop : (n : ℕ) (variables : List (List ℕ × Place)) → AreLaid variables
    → AreLaid (drop n variables)
AreLaid-drop zero variables laid = laid
AreLaid-drop (suc n) [] laid = tt
AreLaid-drop (suc n) (first ∷ rest) laid = AreLaid-drop n rest laid.2

-- the innermost variable's place tells where the cells end
pub record EndsAt (variables : List (List ℕ × Place)) (place : Place) : Type 0 where
  pub ends : place.slot + place.cells ≡ total (with_cells variables)
  pub few : place.slot + place.cells < 2 ^ 32

pub last_ends : (variables : List (List ℕ × Place)) (name : List ℕ) (place : Place)
    → AreLaid variables → slice_get variables 0 ≡ Some (record { 0 = name; 1 = place })
    → EndsAt variables place
last_ends [] name place laid e = cc
last_ends (first ∷ rest) name place laid e =
    let same : first.1 ≡ place = cc in
    let slot : place.slot ≡ total (with_cells rest) =
    ap (λ (p : Place). p.slot) (sym same) ∙ laid.0 in
    let few : first.1.slot + first.1.cells < 2 ^ 32 = laid.1 in
    rw (← same) (record { ends = omega (arith, laid.0); few = few })

pub none_total : (variables : List (List ℕ × Place)) → length variables ≡ 0
    → 0 ≡ total (with_cells variables)
none_total [] e = refl
none_total (first ∷ rest) e = absurd (omega arith)

-- what is where a name's place tells
pub record IsAt (variables : List (List ℕ × Place)) (name : List ℕ) (place : Place) : Type 0 where
  pub slot : slot_named (with_cells variables) name ≡ Some place.slot
  pub cells : size_named (with_cells variables) name ≡ Some place.cells

pub place_found : (variables : List (List ℕ × Place)) (name : List ℕ) (place : Place)
    → AreLaid variables → value_named variables name ≡ Some place → IsAt variables name place
place_found [] name place laid at = cc
place_found (first ∷ rest) name place laid at =
    by_value (bytes_eq first.0 name) refl at (place_found rest name place laid.2)
  where
    by_value : (t : Bool) → bytes_eq first.0 name ≡ t
        → cond t (Some first.1) (value_named rest name) ≡ Some place
        → (value_named rest name ≡ Some place → IsAt rest name place)
        → IsAt (first ∷ rest) name place
    by_value true test at inner =
        let same : first.1 ≡ place = cc in
        record {
          slot =
              ap (λ t. cond t (Some (total (with_cells rest))) (slot_named (with_cells rest) name))
              test
              ∙ ap Some (sym laid.0) ∙ ap (λ (p : Place). Some p.slot) same;
          cells =
              ap (λ t. cond t (Some first.1.cells) (size_named (with_cells rest) name)) test
              ∙ ap (λ (p : Place). Some p.cells) same;
        }
    by_value false test at inner = record {
      slot =
          ap (λ t. cond t (Some (total (with_cells rest))) (slot_named (with_cells rest) name)) test
          ∙ (inner at).slot;
      cells =
          ap (λ t. cond t (Some first.1.cells) (size_named (with_cells rest) name)) test
          ∙ (inner at).cells;
    }

pub no_place : (variables : List (List ℕ × Place)) (name : List ℕ)
    → value_named variables name ≡ None
    → (slot_named (with_cells variables) name ≡ None)
    × (size_named (with_cells variables) name ≡ None)
no_place [] name at = (refl, refl)
no_place (first ∷ rest) name at = by_value (bytes_eq first.0 name) at (no_place rest name)
  where
    by_value : (t : Bool) → cond t (Some first.1) (value_named rest name) ≡ None
        → (value_named rest name ≡ None
        → (slot_named (with_cells rest) name ≡ None) × (size_named (with_cells rest) name ≡ None))
        → (cond t (Some (total (with_cells rest))) (slot_named (with_cells rest) name) ≡ None)
        × (cond t (Some first.1.cells) (size_named (with_cells rest) name) ≡ None)
    by_value true at inner = absurd (cc)
    by_value false at inner = inner at
