-- Variables that are added to others.
use Rattle.std.proofs.Common.{◌≡◌, ℕ, ◌-◌, List, [], ◌∷◌, ◌++◌, length, drop, reverse, refl, sym}
use Rattle.std.proofs.Common.{ap, ◌∙◌, arith, length-append, append_assoc}
use Rattle.std.proofs.lemmas.List.{reverse-append}
use Rattle.strc_parse_tree.specs.View.{member_view}
use Rattle.strc_parse_tree.specs.declared.tree.Member.{Member}
use Rattle.strc_parse_tree.specs.declared.tree.Member.TheVariants as member
use Rattle.strc_work_meaning.specs.Filters.{sized_all, sized_fields}
use Rattle.std.proofs.Math.Seq.{drop-append_seam}
use Rattle.strc_parse_tree.specs.Tree as tree
use Rattle.strc_work_meaning.specs.Scoping.{Scope, cells_of, names_after, with_declared}

-- the variables are others, with some inside them
pub record IsBaseOf (base names : Scope) : Type 0 where
  pub inner : Scope
  pub is : names ≡ inner ++ base

pub base_of_itself : (base : Scope) → IsBaseOf base base
base_of_itself base = record { inner = []; is = refl }

-- a declaration adds variables
pub base_of_declared : (base names : Scope) (cells : ℕ) (variables : List tree.Variable)
    → IsBaseOf base names → IsBaseOf base (with_declared names cells variables)
base_of_declared base names cells [] h = h
base_of_declared base names cells (first ∷ rest) h =
    let variable : List ℕ × ℕ = record { 0 = first.name; 1 = cells } in
    base_of_declared base (variable ∷ names) cells rest
    (record { inner = variable ∷ h.inner; is = ap (λ l. variable ∷ l) h.is })

-- the variables of a declaration are in front, the last one first
pub with_declared-reverse : (names : Scope) (cells : ℕ) (variables : List tree.Variable)
    → with_declared names cells variables ≡ reverse (sized_all cells variables) ++ names
with_declared-reverse names cells [] = refl
with_declared-reverse names cells (first ∷ rest) =
    let variable : List ℕ × ℕ = record { 0 = first.name; 1 = cells } in
    with_declared-reverse (variable ∷ names) cells rest
    ∙ sym (append_assoc (reverse (sized_all cells rest)) (variable ∷ []) names)
    ∙ ap (λ l. l ++ names) (sym (reverse-append (variable ∷ []) (sized_all cells rest)))

-- no other statement adds one
pub base_of_after : (base names : Scope) (s : tree.Stmt) → IsBaseOf base names
    → IsBaseOf base (names_after names s)
base_of_after base names (tree.Declare kind variables) h =
    base_of_declared base names (cells_of kind) variables h
base_of_after base names tree.Empty h = h
base_of_after base names (tree.Compose statement) h = h
base_of_after base names (tree.Block body) h = h
base_of_after base names (tree.Evaluate value) h = h
base_of_after base names (tree.Assign name operator value) h = h
base_of_after base names (tree.AssignElement name index operator value) h = h
base_of_after base names (tree.If condition chosen) h = h
base_of_after base names (tree.IfElse condition chosen other) h = h
base_of_after base names (tree.While condition body) h = h
base_of_after base names (tree.For first condition step body) h = h
base_of_after base names (tree.Push value) h = h
base_of_after base names (tree.Print value) h = h
base_of_after base names (tree.Println value) h = h
base_of_after base names (tree.Return value) h = h

-- without the inner ones they are as before
pub drop_inner : (base names : Scope) → IsBaseOf base names
    → drop (length names - length base) names ≡ base
drop_inner base names h =
    let e : length (h.inner ++ base) - length base ≡ length h.inner =
    omega (arith, length-append h.inner base) in
    ap (λ l. drop (length l - length base) l) h.is ∙ ap (λ n. drop n (h.inner ++ base)) e
    ∙ drop-append_seam h.inner base

-- a list of variables before others, reversed
pub reverse_before : (front back names : Scope)
    → reverse (front ++ names) ++ back ≡ reverse names ++ (reverse front ++ back)
reverse_before front back names = ap (λ l. l ++ back) (reverse-append front names)
    ∙ append_assoc (reverse names) (reverse front) back

-- fields that are declared together, before those of other members
pub fields_before : (kind : tree.VariableType) (variables : List tree.Variable)
    (rest : List tree.Member) (names : Scope)
    → reverse (sized_fields rest) ++ with_declared names (cells_of kind) variables
    ≡ reverse (sized_fields (tree.Fields kind variables ∷ rest)) ++ names
fields_before kind variables rest names =
    ap (λ l. reverse (sized_fields rest) ++ l)
    (with_declared-reverse names (cells_of kind) variables)
    ∙ sym (reverse_before (sized_all (cells_of kind) variables) names (sized_fields rest))

-- no other member has fields
pub no_fields : (m : Member) (rest : List tree.Member)
    → ((declared : _) → m ≡ member.Fields declared → ⊥)
    → sized_fields rest ≡ sized_fields (member_view m ∷ rest)
no_fields (member.Fields declared) rest other = absurd (other declared refl)
no_fields (member.Init' shape block) rest other = refl
no_fields (member.Prework' rates shape block) rest other = refl
no_fields (member.Work' rates shape block) rest other = refl
no_fields (member.Helper' kind name parameters shape block) rest other = refl
