-- Variables that are added to others, with their types.
use Rattle.std.proofs.Common.{◌≡◌, ◌-◌, ℕ, List, [], ◌∷◌, ◌++◌, length, drop, refl, ap, ◌∙◌, arith}
use Rattle.std.proofs.Common.{length-append}
use Rattle.std.proofs.Math.Seq.{drop-append_seam}
use Rattle.strc_parse_tree.specs.Tree as tree
use Rattle.strc_work_meaning.specs.declared.types.ValueType.{ValueType}
use Rattle.strc_work_meaning.specs.declared.types.ValueType.TheVariants.{Int}
use Rattle.strc_work_meaning.specs.Typing.{TypedNames, type_of, with_declared, names_after}
use Rattle.strc_work_rules.specs.Signatures.{with_parameters}

-- the names are others, with some inside them
pub record StandsOn (base names : TypedNames) : Type 0 where
  pub inner : TypedNames
  pub is : names ≡ inner ++ base

pub stands_on_itself : (base : TypedNames) → StandsOn base base
stands_on_itself base = record { inner = []; is = refl }

-- a declaration adds names
pub stands_on_declared : (base names : TypedNames) (kind : ValueType)
    (variables : List tree.Variable) → StandsOn base names
    → StandsOn base (with_declared names kind variables)
stands_on_declared base names kind [] h = h
stands_on_declared base names kind (first ∷ rest) h =
    stands_on_declared base (record { 0 = first.name; 1 = kind } ∷ names) kind rest
    (record {
      inner = record { 0 = first.name; 1 = kind } ∷ h.inner;
      is =
          ap (λ l. record { 0 = first.name; 1 = kind } ∷ l) h.is;
    })

-- no other statement adds a name
pub stands_on_after : (base names : TypedNames) (s : tree.Stmt) → StandsOn base names
    → StandsOn base (names_after names s)
stands_on_after base names (tree.Declare kind variables) h =
    stands_on_declared base names (type_of kind) variables h
stands_on_after base names tree.Empty h = h
stands_on_after base names (tree.Compose statement) h = h
stands_on_after base names (tree.Block body) h = h
stands_on_after base names (tree.Evaluate value) h = h
stands_on_after base names (tree.Assign name operator value) h = h
stands_on_after base names (tree.AssignElement name index operator value) h = h
stands_on_after base names (tree.If condition chosen) h = h
stands_on_after base names (tree.IfElse condition chosen other) h = h
stands_on_after base names (tree.While condition body) h = h
stands_on_after base names (tree.For first condition step body) h = h
stands_on_after base names (tree.Push value) h = h
stands_on_after base names (tree.Print value) h = h
stands_on_after base names (tree.Println value) h = h
stands_on_after base names (tree.Return value) h = h

-- without the inner ones the names are as before
pub drop_inner : (base names : TypedNames) → StandsOn base names
    → drop (length names - length base) names ≡ base
drop_inner base names h =
    let e : length (h.inner ++ base) - length base ≡ length h.inner =
    omega (arith, length-append h.inner base) in
    ap (λ l. drop (length l - length base) l) h.is ∙ ap (λ n. drop n (h.inner ++ base)) e
    ∙ drop-append_seam h.inner base

-- a statement's own variables are forgotten
pub drop_own : (names : TypedNames) (s : tree.Stmt)
    → drop (length (names_after names s) - length names) (names_after names s) ≡ names
drop_own names s = drop_inner names (names_after names s)
    (stands_on_after names names s (stands_on_itself names))

-- the variables of two statements are forgotten
pub drop_both : (names : TypedNames) (s s' : tree.Stmt)
    → drop (length (names_after (names_after names s) s') - length names)
    (names_after (names_after names s) s') ≡ names
drop_both names s s' =
    drop_inner names (names_after (names_after names s) s')
    (stands_on_after names (names_after names s) s'
    (stands_on_after names names s (stands_on_itself names)))

-- parameters add names
stands_on_parameters : (base names : TypedNames) (parameters : List (List ℕ))
    → StandsOn base names → StandsOn base (with_parameters names parameters)
stands_on_parameters base names [] h = h
stands_on_parameters base names (first ∷ rest) h =
    stands_on_parameters base (record { 0 = first; 1 = Int } ∷ names) rest
    (record {
      inner = record { 0 = first; 1 = Int } ∷ h.inner;
      is =
          ap (λ l. record { 0 = first; 1 = Int } ∷ l) h.is;
    })

-- without them the names are as before
pub drop_parameters : (names : TypedNames) (parameters : List (List ℕ))
    → drop (length (with_parameters names parameters) - length names)
    (with_parameters names parameters) ≡ names
drop_parameters names parameters = drop_inner names (with_parameters names parameters)
    (stands_on_parameters names names parameters (stands_on_itself names))
