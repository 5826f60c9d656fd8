-- Which declarations are found by their names, and which is the main stream's.
use Rattle.std.proofs.Common.{◌≡◌, ℕ, zero, suc, ◌+◌, ◌<◌, nat_eq, List, [], ◌∷◌}
use Rattle.std.proofs.Common.{length, map, get_or, Option, Some, None, Result, Ok, slice_get}
use Rattle.std.proofs.Common.{sym, ap, ◌∙◌, arith, inl, inr}
use Rattle.std.specs.Cmp.Lexicographic.{pointwise}
use Rattle.strc_parse_tree.specs.Tree.{Declaration}
use Rattle.strc_parse_tree.specs.declared.tree.Decl.{Decl}
use Rattle.strc_parse_tree.specs.View.{declaration_view}
use Rattle.strc_elab_statements.specs.MainStreams.{can_be_main, mains_from, only_main, named_main}
use Rattle.strc_elab_statements.specs.MainStreams.{main_of}
use Rattle.strc_elab_statements.specs.Names.{place_from}
use Rattle.strc_elab_statements.specs.Texts.{declared_from}
use Rattle.strc_elab_statements.specs.declared.error.ElabError.{ElabError}
use Rattle.strc_elab_statements.proofs.NameTables.{either, some_same}
use Rattle.strc_elab.specs.Sources.{declaration_source, named_source, numbered_source}
use Rattle.strc_elab.specs.Sources.{known_source}

-- ---- the first declaration of a name

-- at an index that is counted from a number on, the first of this name is there
pub record First (m : ℕ) (all : List Decl) (q : List ℕ) (n : ℕ) : Type 0 where
  pub offset : ℕ
  pub place : n ≡ m + offset
  pub source : (x : Decl) → x ≡ get_or all offset x → declaration_source x ≡ named_source all q

pub first_found : (m : ℕ) (all : List Decl) (q : List ℕ) (n : ℕ)
    → place_from m (map (λ d. d.name) all) q ≡ Some n → First m all q n
first_found m [] q n e = absurd (cc)
first_found m (first ∷ others) q n e = elim (either (pointwise nat_eq q first.name)) [
  | inl here ↦
      let same : m ≡ n = some_same (rw here at e) in
      record {
        offset = 0;
        place = omega (arith, same);
        source = λ x at. rw here (ap declaration_source at);
      }
  | inr there ↦
      let found = first_found (m + 1) others q n (rw there at e) in
      let place = found.place in
      record {
        offset = suc found.offset;
        place = omega (arith, place);
        source = λ x at. rw there (found.source x at);
      }
]

-- ---- the main stream's declaration

-- a declaration at an index that is counted from a number on
pub record At (m : ℕ) (all : List Decl) (n : ℕ) (d : Declaration) : Type 0 where
  pub offset : ℕ
  pub place : n ≡ m + offset
  pub within : offset < length all
  pub declared : (x : Decl) → x ≡ get_or all offset x → d ≡ declaration_view x

pair_same : {A B : Type 0} {a a' : A} {b b' : B} → ◌≡◌ {A = A × B} (a, b) (a', b')
    → (a ≡ a') × (b ≡ b')
pair_same e = (ap (λ p. p.0) e, ap (λ p. p.1) e)

at_first : (m : ℕ) (first : Decl) (others : List Decl) (n : ℕ) (d : Declaration) → m ≡ n
    → declaration_view first ≡ d → At m (first ∷ others) n d
at_first m first others n d same view = record {
  offset = 0;
  place = omega (arith, same);
  within = omega arith;
  declared = λ x at. sym view ∙ ap declaration_view (sym at);
}

at_later : (m : ℕ) (first : Decl) (others : List Decl) (n : ℕ) (d : Declaration)
    → At (m + 1) others n d → At m (first ∷ others) n d
at_later m first others n d found =
    let place = found.place in
    let within = found.within in
    record {
      offset = suc found.offset;
      place = omega (arith, place);
      within = omega (arith, within);
      declared = λ x at. found.declared x at;
    }

declared_at : (m : ℕ) (all : List Decl) (q : List ℕ) (n : ℕ) (d : Declaration)
    → declared_from m (map declaration_view all) q ≡ Some (n, d) → At m all n d
declared_at m [] q n d e = absurd (cc)
declared_at m (first ∷ others) q n d e = elim (either (pointwise nat_eq q first.name)) [
  | inl here ↦
      let same : (m, declaration_view first) ≡ (n, d) = some_same (rw here at e) in
      at_first m first others n d (pair_same same).0 (pair_same same).1
  | inr there ↦ at_later m first others n d (declared_at (m + 1) others q n d (rw there at e))
]

first_same : {A : Type 0} {x y : A} {l k : List A} → x ∷ l ≡ y ∷ k → x ≡ y
first_same e = cc

mains_at : (m : ℕ) (all : List Decl) (n : ℕ) (d : Declaration) (rest : List (ℕ × Declaration))
    → mains_from m (map declaration_view all) ≡ (n, d) ∷ rest → At m all n d
mains_at m [] n d rest e = absurd (cc)
mains_at m (first ∷ others) n d rest e = elim (either (can_be_main (declaration_view first))) [
  | inl here ↦
      let same : (m, declaration_view first) ≡ (n, d) = first_same (rw here at e) in
      at_first m first others n d (pair_same same).0 (pair_same same).1
  | inr there ↦ at_later m first others n d (mains_at (m + 1) others n d rest (rw there at e))
]

ok_same : {A : Type 0} {x y : A} → ◌≡◌ {A = Result A ElabError} (Ok x) (Ok y) → x ≡ y
ok_same e = cc

only_one : (mains : List (ℕ × Declaration)) (found : ℕ × Declaration)
    → only_main mains ≡ Ok found → mains ≡ found ∷ []
only_one [] found e = absurd (cc)
only_one (one ∷ []) found e = ap (λ x. x ∷ []) (ok_same e)
only_one (one ∷ other ∷ others) found e = absurd (cc)

named_one : (named : Option (ℕ × Declaration)) (found : ℕ × Declaration)
    → named_main named ≡ Ok found → named ≡ Some found
named_one None found e = absurd (cc)
named_one (Some one) found e = elim (either (can_be_main one.1)) [
  | inl may ↦ ap (λ x. Some x) (ok_same (rw may at e))
  | inr may_not ↦ absurd (cc (rw may_not at e))
]

pub main_at : (all : List Decl) (main : Option (List ℕ)) (n : ℕ) (d : Declaration)
    → main_of (map declaration_view all) main ≡ Ok (n, d) → At 0 all n d
main_at all None n d e =
    mains_at 0 all n d [] (only_one (mains_from 0 (map declaration_view all)) (n, d) e)
main_at all (Some name) n d e =
    declared_at 0 all name n d
    (named_one (declared_from 0 (map declaration_view all) name) (n, d) e)

-- ---- a declaration by its number

pub numbered_at : (all : List Decl) (n : ℕ) (x : Decl) → n < length all → x ≡ get_or all n x
    → slice_get all n ≡ Some x
numbered_at [] n x within at = absurd (omega (arith, within))
numbered_at (first ∷ others) zero x within at = ap (λ d. Some d) (sym at)
numbered_at (first ∷ others) (suc n) x within at =
    numbered_at others n x (omega (arith, within)) at

-- the text of a declaration is found by its number
pub numbered_source-at : (all : List Decl) (n : ℕ) (x : Decl) → slice_get all n ≡ Some x
    → declaration_source x ≡ numbered_source all n
numbered_source-at all n x at = sym (ap known_source at)
