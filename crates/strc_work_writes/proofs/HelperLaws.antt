-- What it says of a helper function that a call of it writes no field.
use Rattle.std.proofs.Common.{◌≡◌, refl, sym, ◌∙◌, ap, ℕ, Bool, true, false, ◌||◌, List, []}
use Rattle.std.proofs.Common.{◌∷◌}
use Rattle.std.proofs.Common.{Some, cond}
use Rattle.std.specs.Prelude.{bytes_eq}
use Rattle.std.proofs.lemmas.Slice.Eq.{bytes_eq-Decides}
use Rattle.strc_lex_names.specs.Names.{has_name}
use Rattle.strc_parse_tree.specs.Tree as tree
use Rattle.strc_work_meaning.specs.Filters.{Helper, helper_named}
use Rattle.strc_work_writes.specs.LocalWrites.{stmts_write}
use Rattle.strc_work_writes.specs.Calls.{stmts_call_one}
use Rattle.strc_work_writes.specs.Stateless.{write_one_of, not_shadowed, helper_writes_field}
use Rattle.strc_work_writes.specs.Stateless.{writes_or_calls, can_write}
use Rattle.strc_work_writes.proofs.Chains.{can_write_by}

neither : (a b : Bool) → (a || b) ≡ false → (a ≡ false) × (b ≡ false)
neither false b e = (refl, e)
neither true b e = absurd (cc)

-- its block writes none, and calls only functions that can write none
pub spared_block : (members : List tree.Member) (name : List ℕ) (helper : Helper)
    → helper_named members name ≡ Some helper → can_write members name ≡ false
    → (helper_writes_field members helper ≡ false)
    × (stmts_call_one (can_write members) helper.block ≡ false)
spared_block members name helper is none =
    neither (helper_writes_field members helper) (stmts_call_one (can_write members) helper.block)
    (by_test (writes_or_calls members (can_write members) helper) refl)
  where
    by_test : (t : Bool) → writes_or_calls members (can_write members) helper ≡ t → t ≡ false
    by_test false e = refl
    by_test true e =
        let no : false ≡ true = sym none ∙ can_write_by members name helper is e in absurd (cc)

by_shadowed : (shadowed : Bool) (inner : List (List ℕ)) (name : List ℕ) (rest : List (List ℕ))
    (block : tree.Stmts) → has_name inner name ≡ shadowed
    → write_one_of (cond shadowed (not_shadowed inner rest) (name ∷ not_shadowed inner rest)) block
    ≡ false
    → (has_name inner name ≡ false → stmts_write name block ≡ false)
    × (write_one_of (not_shadowed inner rest) block ≡ false)
by_shadowed true inner name rest block at none = (λ shown. absurd (cc), none)
by_shadowed false inner name rest block at none =
    let both = neither (stmts_write name block) (write_one_of (not_shadowed inner rest) block) none
    in
    (λ shown. both.0, both.1)

by_name : (is : Bool) (first name : List ℕ) (rest inner : List (List ℕ)) (block : tree.Stmts)
    → bytes_eq first name ≡ is → (is || has_name rest name) ≡ true → has_name inner name ≡ false
    → (has_name inner first ≡ false → stmts_write first block ≡ false)
    → (has_name rest name ≡ true → stmts_write name block ≡ false)
    → stmts_write name block ≡ false
by_name true first name rest inner block at found shown here later =
    let same : first ≡ name = (bytes_eq-Decides first name).0 at in
    sym (ap (λ n. stmts_write n block) same) ∙ here (ap (has_name inner) same ∙ shown)
by_name false first name rest inner block at found shown here later = later found

-- a block that writes none of the names that can be seen doesn't write one that is not shadowed
pub shown_unwritten : (inner names : List (List ℕ)) (block : tree.Stmts) (name : List ℕ)
    → write_one_of (not_shadowed inner names) block ≡ false → has_name names name ≡ true
    → has_name inner name ≡ false → stmts_write name block ≡ false
shown_unwritten inner [] block name none found shown = absurd (cc)
shown_unwritten inner (first ∷ rest) block name none found shown =
    let left = by_shadowed (has_name inner first) inner first rest block refl none in
    by_name (bytes_eq first name) first name rest inner block refl found shown left.0
    (λ later. shown_unwritten inner rest block name left.1 later shown)
