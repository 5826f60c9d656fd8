-- Helper functions: their variables are inside the fields, and their codes go one by one.
use Rattle.std.proofs.Common.{◌≡◌, ◌-◌, ℕ, List, [], ◌∷◌, Some, None, length, drop, refl, ap}
use Rattle.strc_parse_tree.specs.Tree as tree
use Rattle.strc_work_code.specs.declared.helper.HelperCode.{HelperCode}
use Rattle.strc_work_code.specs.Helpers.{IsHelperOf, AreHelpers}
use Rattle.strc_work_meaning.specs.Scoping.{Scope, with_parameters, helper_scope, answer_name}
use Rattle.strc_work_meaning.proofs.Growth.{IsBaseOf, drop_inner}

base_of_parameters : (base names : Scope) (parameters : List (List ℕ)) → IsBaseOf base names
    → IsBaseOf base (with_parameters names parameters)
base_of_parameters base names [] h = h
base_of_parameters base names (first ∷ rest) h =
    let variable : List ℕ × ℕ = record { 0 = first; 1 = 1 } in
    base_of_parameters base (variable ∷ names) rest
    (record { inner = variable ∷ h.inner; is = ap (λ l. variable ∷ l) h.is })

pub helper_inside : (fields : Scope) (parameters : List (List ℕ))
    → IsBaseOf fields (helper_scope fields parameters)
helper_inside fields parameters =
    let answer : List ℕ × ℕ = record { 0 = answer_name; 1 = 2 } in
    base_of_parameters fields (answer ∷ fields) parameters
    (record { inner = answer ∷ []; is = refl })

pub fields_left : (fields : Scope) (parameters : List (List ℕ))
    → drop (length (helper_scope fields parameters) - length fields)
    (helper_scope fields parameters) ≡ fields
fields_left fields parameters =
    drop_inner fields (helper_scope fields parameters) (helper_inside fields parameters)

-- one more member
pub helper_first : (fields : Scope) (m : tree.Member) (rest : List tree.Member)
    (code : HelperCode) (later : List HelperCode) → IsHelperOf fields m (Some code)
    → AreHelpers fields rest later → AreHelpers fields (m ∷ rest) (code ∷ later)
helper_first fields (tree.Fields kind' variables) rest code later is h =
    absurd (cc)
helper_first fields (tree.Init block') rest code later is h = absurd (cc)
helper_first fields (tree.Prework rates block') rest code later is h =
    absurd (cc)
helper_first fields (tree.Work rates block') rest code later is h =
    absurd (cc)
helper_first fields (tree.Helper kind' own own' block') rest code later
    is h = (is, h)

pub helper_none : (fields : Scope) (m : tree.Member) (rest : List tree.Member)
    (later : List HelperCode) → IsHelperOf fields m None → AreHelpers fields rest later
    → AreHelpers fields (m ∷ rest) later
helper_none fields (tree.Fields kind variables) rest later is h = h
helper_none fields (tree.Init block) rest later is h = h
helper_none fields (tree.Prework rates block) rest later is h = h
helper_none fields (tree.Work rates block) rest later is h = h
helper_none fields (tree.Helper kind name parameters block) rest later is h = absurd is
