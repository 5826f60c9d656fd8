-- A table of names that grows by one name.
use Rattle.std.proofs.Common.{◌≡◌, ℕ, suc, ◌+◌, ◌<◌, ◌≤◌, Bool, true, false, cond, nat_eq, List, []}
use Rattle.std.proofs.Common.{◌∷◌, ◌++◌, length, take, drop, map, Option, Some, None, IfSome}
use Rattle.std.proofs.Common.{is_some, refl, ap, ◌∙◌, sym, arith, get_or, add-one, ◌||◌, ◌⊎◌, inl}
use Rattle.std.proofs.Common.{inr}
use Rattle.std.proofs.Math.Seq.{drop-cons}
use Rattle.std.specs.List.{list_any}
use Rattle.std.specs.Map.{lookup}
use Rattle.std.specs.Cmp.Lexicographic.{pointwise}
use Rattle.std.proofs.lemmas.List.{take_more, length-take-le}
use Rattle.strc_parse_tree.specs.declared.tree.Decl.{Decl}
use Rattle.strc_parse_tree.specs.View.{declaration_view}
use Rattle.strc_elab_statements.specs.MainStreams.{doubled_from}
use Rattle.strc_elab_statements.specs.Texts.{declared_from}
use Rattle.strc_elab_statements.specs.Names.{place_from}

pub either : (b : Bool) → (b ≡ true) ⊎ (b ≡ false)
either true = inl refl
either false = inr refl

pub some_same : {X : Type 0} {x y : X} → Some x ≡ Some y → x ≡ y
some_same e = cc

-- the first of two answers
abbrev pub first_found : {X : Type 0} → Option X → Option X → Option X
first_found None other = other
first_found (Some x) other = Some x

first_found-cond : {X : Type 0} (b : Bool) (x : X) (o p : Option X)
    → cond b (Some x) (first_found o p) ≡ first_found (cond b (Some x) o) p
first_found-cond true x o p = refl
first_found-cond false x o p = refl

pub lookup-append : {K X : Type 0} (p : K → Bool) (es : List (K × X)) (k : K) (v : X)
    → lookup p (es ++ (k, v) ∷ []) ≡ first_found (lookup p es) (cond (p k) (Some v) None)
lookup-append p [] k v = refl
lookup-append p (e ∷ es) k v = ap (cond (p e.0) (Some e.1)) (lookup-append p es k v)
    ∙ first_found-cond (p e.0) e.1 (lookup p es) (cond (p k) (Some v) None)

pub place_from-append : (n : ℕ) (names : List (List ℕ)) (x q : List ℕ)
    → place_from n (names ++ x ∷ []) q ≡ first_found (place_from n names q)
    (cond (pointwise nat_eq q x) (Some (n + length names)) None)
place_from-append n [] x q = let e : n ≡ n + 0 = omega arith in
    ap (λ m. cond (pointwise nat_eq q x) (Some m) None) e
place_from-append n (y ∷ names) x q =
    let e : n + 1 + length names ≡ n + length (y ∷ names) = omega arith in
    ap (cond (pointwise nat_eq q y) (Some n))
    (place_from-append (n + 1) names x q
    ∙ ap (λ m. first_found (place_from (n + 1) names q)
    (cond (pointwise nat_eq q x) (Some m) None)) e)
    ∙ first_found-cond (pointwise nat_eq q y) n (place_from (n + 1) names q)
    (cond (pointwise nat_eq q x) (Some (n + length (y ∷ names))) None)

pub map-append : {X Y : Type 0} (f : X → Y) (xs : List X) (x : X)
    → map f (xs ++ x ∷ []) ≡ map f xs ++ f x ∷ []
map-append f [] x = refl
map-append f (y ∷ xs) x = ap (λ ys. f y ∷ ys) (map-append f xs x)

pub length-map : {X Y : Type 0} (f : X → Y) (xs : List X) → length (map f xs) ≡ length xs
length-map f [] = refl
length-map f (x ∷ xs) = ap (λ n. suc n) (length-map f xs)

-- one declaration more in the table
pub named_push : (all : List Decl) (i : ℕ) (x : Decl) → i < length all → x ≡ get_or all i x
    → (name : List ℕ) (found : Option ℕ) → found
    ≡ place_from 0 (map (λ d. d.name) (take i all)) name
    → first_found found (cond (pointwise nat_eq name x.name) (Some i) None)
    ≡ place_from 0 (map (λ d. d.name) (take (i + 1) all)) name
named_push all i x lt at name found is =
    let names = map (λ (d : Decl). d.name) (take i all) in
    let low : i ≤ length all = omega arith in
    let long : length names ≡ i = length-map (λ (d : Decl). d.name) (take i all)
    ∙ length-take-le i all low in
    let place : i ≡ 0 + length names = omega (arith, long) in
    let grown : take (i + 1) all ≡ take i all ++ x ∷ [] =
    take_more all i x lt ∙ ap (λ y. take i all ++ y ∷ []) (sym at) in
    ap (λ o. first_found o (cond (pointwise nat_eq name x.name) (Some i) None)) is
    ∙ ap (λ n. first_found (place_from 0 names name)
    (cond (pointwise nat_eq name x.name) (Some n) None)) place
    ∙ sym (place_from-append 0 names x.name name)
    ∙ ap (λ ns. place_from 0 ns name) (sym (map-append (λ (d : Decl). d.name) (take i all) x))
    ∙ ap (λ ds. place_from 0 (map (λ (d : Decl). d.name) ds) name) (sym grown)

any_step : (b : Bool) (n : ℕ) (later : Option ℕ) (others : Bool) → others ≡ is_some later
    → (b || others) ≡ is_some (cond b (Some n) later)
any_step true n later others e = refl
any_step false n later others e = e

-- a name has a place just where it is among the names
pub place_from-any : (n : ℕ) (names : List (List ℕ)) (q : List ℕ)
    → list_any (λ name. pointwise nat_eq q name) names ≡ is_some (place_from n names q)
place_from-any n [] q = refl
place_from-any n (name ∷ names) q = any_step (pointwise nat_eq q name) n
    (place_from (n + 1) names q) (list_any (λ x. pointwise nat_eq q x) names)
    (place_from-any (n + 1) names q)

-- the declarations from a place on
pub views-drop : (all : List Decl) (i : ℕ) (x : Decl) → i < length all → x ≡ get_or all i x
    → map declaration_view (drop i all) ≡ declaration_view x
    ∷ map declaration_view (drop (i + 1) all)
views-drop all i x lt at =
    let next : drop (suc i) all ≡ drop (i + 1) all = rw add-one refl in
    ap (map declaration_view) (drop-cons all i x lt)
    ∙ ap (λ y. declaration_view y ∷ map declaration_view (drop (suc i) all)) (sym at)
    ∙ ap (λ ds. declaration_view x ∷ map declaration_view ds) next

pub names-take : (all : List Decl) (i : ℕ) (x : Decl) → i < length all → x ≡ get_or all i x
    → map (λ (d : Decl). d.name) (take (i + 1) all) ≡ map (λ (d : Decl). d.name) (take i all)
    ++ x.name ∷ []
names-take all i x lt at = ap (map (λ (d : Decl). d.name))
    (take_more all i x lt ∙ ap (λ y. take i all ++ y ∷ []) (sym at))
    ∙ map-append (λ (d : Decl). d.name) (take i all) x

-- a fresh name: the double, if there is one, comes later
pub doubled_later : (all : List Decl) (i : ℕ) (x : Decl) → i < length all → x ≡ get_or all i x
    → (found : Option ℕ) → found ≡ place_from 0 (map (λ (d : Decl). d.name) (take i all)) x.name
    → found ≡ None →
    doubled_from (map (λ (d : Decl). d.name) (take (i + 1) all)) (i + 1)
    (map declaration_view (drop (i + 1) all))
    ≡ doubled_from (map (λ (d : Decl). d.name) (take i all)) i
    (map declaration_view (drop i all))
doubled_later all i x lt at found is none =
    let names = map (λ (d : Decl). d.name) (take i all) in
    let fresh : list_any (λ name. pointwise nat_eq x.name name) names ≡ false =
    place_from-any 0 names x.name ∙ ap is_some (sym is ∙ none) in
    ap (λ ns. doubled_from ns (i + 1) (map declaration_view (drop (i + 1) all)))
    (names-take all i x lt at)
    ∙ sym (ap (doubled_from names i) (views-drop all i x lt at) ∙ rw fresh refl)

-- a name that is there: the double is here
pub doubled_here : (all : List Decl) (i : ℕ) (x : Decl) → i < length all → x ≡ get_or all i x
    → (found : Option ℕ) → found ≡ place_from 0 (map (λ (d : Decl). d.name) (take i all)) x.name
    → is_some found ≡ true →
    doubled_from (map (λ (d : Decl). d.name) (take i all)) i (map declaration_view (drop i all))
    ≡ Some i
doubled_here all i x lt at found is some =
    let names = map (λ (d : Decl). d.name) (take i all) in
    let there : list_any (λ name. pointwise nat_eq x.name name) names ≡ true =
    place_from-any 0 names x.name ∙ ap is_some (sym is) ∙ some in
    ap (doubled_from names i) (views-drop all i x lt at) ∙ rw there refl

-- where a place is found, the declaration is there
pub record Found (m : ℕ) (all : List Decl) (q : List ℕ) (n : ℕ) : Type 0 where
  pub offset : ℕ
  pub place : n ≡ m + offset
  pub within : offset < length all
  pub declared : (x : Decl) → x ≡ get_or all offset x
      → declared_from m (map declaration_view all) q ≡ Some (n, declaration_view x)

pub declared_found : (m : ℕ) (all : List Decl) (q : List ℕ) (n : ℕ)
    → place_from m (map (λ d. d.name) all) q ≡ Some n → Found m all q n
declared_found m [] q n e = absurd (cc)
declared_found m (first ∷ others) q n e = elim (either (pointwise nat_eq q first.name)) [
  | inl here ↦
      let same : m ≡ n = some_same (rw here at e) in
      record {
        offset = 0;
        place = omega (arith, same);
        within = omega arith;
        declared = λ x at. rw here (ap (λ k. Some (k, declaration_view first)) same
            ∙ ap (λ (d : Decl). Some (n, declaration_view d)) (sym at));
      }
  | inr there ↦
      let found = declared_found (m + 1) others q n (rw there at e) in
      let place = found.place in
      let within = found.within in
      record {
        offset = suc found.offset;
        place = omega (arith, place);
        within = omega (arith, within);
        declared = λ x at. rw there (found.declared x at);
      }
]

pub declared_missing : (m : ℕ) (all : List Decl) (q : List ℕ)
    → place_from m (map (λ d. d.name) all) q ≡ None
    → declared_from m (map declaration_view all) q ≡ None
declared_missing m [] q e = refl
declared_missing m (first ∷ others) q e = elim (either (pointwise nat_eq q first.name)) [
  | inl here ↦ let bad : Some m ≡ None = rw here at e in absurd (cc)
  | inr there ↦ rw there (declared_missing (m + 1) others q (rw there at e))
]

-- what is found is one of the declarations
pub place_within : (all : List Decl) (q : List ℕ) (found : Option ℕ)
    → found ≡ place_from 0 (map (λ d. d.name) all) q → IfSome found (λ n. n < length all)
place_within all q None e = tt
place_within all q (Some n) e =
    let found = declared_found 0 all q n (sym e) in
    let place = found.place in
    let within = found.within in
    omega (arith, place, within)
