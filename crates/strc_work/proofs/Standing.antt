-- Names that stand in a setting: the outermost of them are its fields.
use Rattle.std.proofs.Common.{◌≡◌, ◌+◌, ◌-◌, ◌≤◌, zero, suc, ℕ, List, [], ◌∷◌, ◌++◌, length, drop}
use Rattle.std.proofs.Common.{reverse, refl, sym, ap, ◌∙◌, subst, arith, length-append}
use Rattle.std.proofs.lemmas.List.{length-reverse}
use Rattle.std.proofs.Math.Seq.{drop-append-add}
use Rattle.strc_parse_tree.specs.Tree as tree
use Rattle.strc_work_meaning.specs.Filters.{Filter, sized_fields}
use Rattle.strc_work_meaning.specs.Scoping.{Scope, total, names_after}
use Rattle.strc_work_meaning.specs.Firing.{Port, Setting, setting_at}
use Rattle.strc_work_meaning.proofs.Growth.{IsBaseOf, base_of_itself, base_of_after}
use Rattle.strc_work_code.specs.Lowering.{field_scope}
use Rattle.strc_work_code.proofs.Totals.{total-reverse}

-- the outermost of the names are the setting's fields, and have its cells together
pub record Stands (setting : Setting) (names : Scope) : Type 0 where
  pub fields : setting.fields ≤ length names
  pub cells : total (drop (length names - setting.fields) names) ≡ setting.cells

-- so they do with others inside them
pub stands_inside : (setting : Setting) (base names : Scope) → IsBaseOf base names
    → Stands setting base → Stands setting names
stands_inside setting base names h stands =
    let few = stands.fields in
    let m = length base - setting.fields in
    let size = length-append h.inner base in
    let n_is : length (h.inner ++ base) - setting.fields ≡ length h.inner + m =
    omega (arith, size, few) in
    subst (Stands setting) (sym h.is)
    (record {
      fields = omega (arith, size, few);
      cells = ap (λ n. total (drop n (h.inner ++ base))) n_is
          ∙ ap total (drop-append-add h.inner base m) ∙ stands.cells;
    })

pub stands_after : (setting : Setting) (names : Scope) (s : tree.Stmt) → Stands setting names
    → Stands setting (names_after names s)
stands_after setting names s stands =
    stands_inside setting names (names_after names s)
    (base_of_after names names s (base_of_itself names)) stands

pub stands_declared : (setting : Setting) (names : Scope) (variable : List ℕ × ℕ)
    → Stands setting names → Stands setting (variable ∷ names)
stands_declared setting names variable stands =
    stands_inside setting names (variable ∷ names)
    (record { inner = variable ∷ []; is = refl }) stands

-- the fields of a filter stand in its setting
pub fields_stand : (filter : Filter) (port : Port)
    → Stands (setting_at filter.members port) (field_scope filter)
fields_stand filter port =
    let fields = sized_fields filter.members in
    let size = length-reverse fields in
    let none : length (reverse fields) - length fields ≡ 0 = omega (arith, size) in
    record {
      fields = omega (arith, size);
      cells = ap (λ n. total (drop n (reverse fields))) none ∙ total-reverse fields;
    }

pub total-drop : (n : ℕ) (names : Scope) → total (drop n names) ≤ total names
total-drop zero names = omega arith
total-drop (suc n) [] = omega arith
total-drop (suc n) (first ∷ rest) = omega (arith, total-drop n rest)

-- the cells of the fields are among those of all names
pub cells_below : (setting : Setting) (names : Scope) → Stands setting names
    → setting.cells ≤ total names
cells_below setting names stands =
    omega (arith, stands.cells, total-drop (length names - setting.fields) names)
