-- Tables from names to slots: what one change of the map leaves at every name.
use Rattle.std.proofs.Common.{◌≡◌, ℕ, Bool, true, false, List, Option, None, Result, Ok, Err, OnOk}
use Rattle.std.proofs.Common.{OnErr, IsSome, Vec, sym, ◌∙◌, subst, ⊎_elim}
use Rattle.std.specs.Prelude.{bytes_eq}
use Rattle.std.specs.HashMap.{HashMap, UpdatesBy}
use Rattle.std.specs.Map.{lookup, KeepsOthers, IsKeyTest, AreApart}
use Rattle.std.specs.Cmp.Lexicographic.{bytes_decides, nat_list_eq_equiv}
use Rattle.std.proofs.lemmas.Bool.{cases_Bool, cond-true, cond-false}
use Rattle.strc_lex_names.specs.Tables.{slot_in, IsUpdated}

-- a query for another key finds what it found
others : {K X : Type 0} (eq : K → K → Bool) (test : K → Bool) (old new : List (K × X))
    → KeepsOthers eq test old new → (other : K → Bool) → IsKeyTest eq other → AreApart test other
    → lookup other new ≡ lookup other old
unfolding KeepsOthers
others eq test old new h = h

apart : (name sought key : List ℕ) → bytes_eq name sought ≡ false → bytes_eq name key ≡ true
    → bytes_eq sought key ≡ false
apart name sought key other same = nat_list_eq_equiv.symm sought key
    ∙ sym (nat_list_eq_equiv.congr name key sought same) ∙ other

-- a change of the entry of a name, as `insert` and `remove` tell it
pub IsUpdated-updates : {Y S : Type 0} (name : List ℕ) (old new : HashMap (Vec ℕ Y) ℕ S)
    (slot : Option ℕ)
    → UpdatesBy (λ x y. bytes_eq x.items y.items) (λ key. bytes_eq name key.items) old new slot
    → IsUpdated (slot_in old) name slot (slot_in new)
IsUpdated-updates name old new slot h sought =
    ⊎_elim
    (λ same. subst (λ l. slot_in new l ≡ slot) ((bytes_decides name sought).0 same) h.1
    ∙ sym (cond-true (bytes_eq name sought) slot (slot_in old sought) same))
    (λ other. others _ _ old.entries new.entries h.3 (λ key. bytes_eq sought key.items)
    (λ x y. nat_list_eq_equiv.congr sought x.items y.items)
    (λ key. apart name sought key.items other)
    ∙ sym (cond-false (bytes_eq name sought) slot (slot_in old sought) other))
    (cases_Bool (bytes_eq name sought))

-- what fails only for a new name does not fail for one that is there
pub must_be_ok : {T E X : Type 0} (result : Result T E) (P : Type 0) (found : Option X)
    → OnOk result P → OnErr result (found ≡ None) → IsSome found → P
must_be_ok (Ok x) P found done absent there = done
must_be_ok {X = X} (Err e) P found done absent there =
    absurd (let none : IsSome {T = X} None = subst IsSome absent there in cc)
