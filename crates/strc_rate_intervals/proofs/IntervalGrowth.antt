-- Variables that are added to others, with their intervals.
use Rattle.std.proofs.Common.{◌≡◌, ℕ, ◌-◌, Bool, true, false, List, [], ◌∷◌, ◌++◌, length, drop}
use Rattle.std.proofs.Common.{Option, Some, None, cond, refl, ap, ◌∙◌, arith, length-append}
use Rattle.std.specs.Prelude.{bytes_eq}
use Rattle.std.proofs.Math.Seq.{drop-append_seam}
use Rattle.strc_parse_tree.specs.Tree as tree
use Rattle.strc_lex_names.specs.Names.{value_named, with_value}
use Rattle.strc_rate_intervals.specs.Intervals.{Interval, Intervals, interval_named, with_unknown}
use Rattle.strc_rate_intervals.specs.Intervals.{with_interval, intervals_after}
use Rattle.strc_work_writes.specs.LocalWrites.{with_locals, locals_after}
use Rattle.strc_rate_intervals.specs.Intervals.{names_of}

-- the names are others, with some inside them
pub record IsBaseOf (base names : Intervals) : Type 0 where
  pub inner : Intervals
  pub is : names ≡ inner ++ base

pub base_of_itself : (base : Intervals) → IsBaseOf base base
base_of_itself base = record { inner = []; is = refl }

-- a declaration adds names
pub base_of_declared : (base names : Intervals) (variables : List tree.Variable)
    → IsBaseOf base names → IsBaseOf base (with_unknown names variables)
base_of_declared base names [] h = h
base_of_declared base names (first ∷ rest) h =
    base_of_declared base (record { 0 = first.name; 1 = None } ∷ names) rest
    (record {
      inner = record { 0 = first.name; 1 = None } ∷ h.inner;
      is =
          ap (λ l. record { 0 = first.name; 1 = None } ∷ l) h.is;
    })

-- no other statement adds a name
pub base_of_after : (base names : Intervals) (s : tree.Stmt) → IsBaseOf base names
    → IsBaseOf base (intervals_after names s)
base_of_after base names (tree.Declare kind variables) h =
    base_of_declared base names variables h
base_of_after base names tree.Empty h = h
base_of_after base names (tree.Compose statement) h = h
base_of_after base names (tree.Block body) h = h
base_of_after base names (tree.Evaluate value) h = h
base_of_after base names (tree.Assign name operator value) h = h
base_of_after base names (tree.AssignElement name index operator value) h = h
base_of_after base names (tree.If condition chosen) h = h
base_of_after base names (tree.IfElse condition chosen other) h = h
base_of_after base names (tree.While condition body) h = h
base_of_after base names (tree.For first condition step body) h = h
base_of_after base names (tree.Push value) h = h
base_of_after base names (tree.Print value) h = h
base_of_after base names (tree.Println value) h = h
base_of_after base names (tree.Return value) h = h

-- without the inner ones the names are as before
pub drop_inner : (base names : Intervals) → IsBaseOf base names
    → drop (length names - length base) names ≡ base
drop_inner base names h =
    let e : length (h.inner ++ base) - length base ≡ length h.inner =
    omega (arith, length-append h.inner base) in
    ap (λ l. drop (length l - length base) l) h.is ∙ ap (λ n. drop n (h.inner ++ base)) e
    ∙ drop-append_seam h.inner base

-- a statement's own variables are forgotten
pub drop_own : (names : Intervals) (s : tree.Stmt)
    → drop (length (intervals_after names s) - length names) (intervals_after names s) ≡ names
drop_own names s = drop_inner names (intervals_after names s)
    (base_of_after names names s (base_of_itself names))

-- the variables of two statements are forgotten
pub drop_both : (names : Intervals) (s s' : tree.Stmt)
    → drop (length (intervals_after (intervals_after names s) s') - length names)
    (intervals_after (intervals_after names s) s') ≡ names
drop_both names s s' =
    drop_inner names (intervals_after (intervals_after names s) s')
    (base_of_after names (intervals_after names s) s'
    (base_of_after names names s (base_of_itself names)))

-- the names alone after a declaration, and after a statement
pub names_declared : (names : Intervals) (variables : List tree.Variable)
    → names_of (with_unknown names variables) ≡ with_locals (names_of names) variables
names_declared names [] = refl
names_declared names (first ∷ rest) = names_declared
    (record { 0 = first.name; 1 = None } ∷ names) rest

pub names_after : (names : Intervals) (s : tree.Stmt)
    → names_of (intervals_after names s) ≡ locals_after (names_of names) s
names_after names (tree.Declare kind variables) = names_declared names variables
names_after names tree.Empty = refl
names_after names (tree.Compose statement) = refl
names_after names (tree.Block body) = refl
names_after names (tree.Evaluate value) = refl
names_after names (tree.Assign name operator value) = refl
names_after names (tree.AssignElement name index operator value) = refl
names_after names (tree.If condition chosen) = refl
names_after names (tree.IfElse condition chosen other) = refl
names_after names (tree.While condition body) = refl
names_after names (tree.For first condition step body) = refl
names_after names (tree.Push value) = refl
names_after names (tree.Print value) = refl
names_after names (tree.Println value) = refl
names_after names (tree.Return value) = refl

-- the interval of a variable, by its value in scope
pub interval_named-some : (names : Intervals) (name : List ℕ) (interval : Option Interval)
    → value_named names name ≡ Some interval → interval ≡ interval_named names name
interval_named-some [] name interval e = cc
interval_named-some (first ∷ rest) name interval e =
    by_value (bytes_eq first.0 name) e (interval_named-some rest name interval)
  where
    by_value : (t : Bool) → cond t (Some first.1) (value_named rest name) ≡ Some interval
        → (value_named rest name ≡ Some interval → interval ≡ interval_named rest name)
        → interval ≡ cond t first.1 (interval_named rest name)
    by_value true e inner = cc
    by_value false e inner = inner e

pub interval_named-none : (names : Intervals) (name : List ℕ)
    → value_named names name ≡ None → None ≡ interval_named names name
interval_named-none [] name e = refl
interval_named-none (first ∷ rest) name e =
    by_value (bytes_eq first.0 name) e (interval_named-none rest name)
  where
    by_value : (t : Bool) → cond t (Some first.1) (value_named rest name) ≡ None
        → (value_named rest name ≡ None → None ≡ interval_named rest name)
        → None ≡ cond t first.1 (interval_named rest name)
    by_value true e inner = cc
    by_value false e inner = inner e

-- a known interval is one in scope
pub with_interval_is : (names : Intervals) (name : List ℕ) (interval : Interval)
    → with_interval names name interval ≡ with_value names name (Some interval)
with_interval_is [] name interval = refl
with_interval_is (first ∷ rest) name interval =
    ap (cond (bytes_eq first.0 name) (record { 0 = first.0; 1 = Some interval } ∷ rest))
    (ap (λ l. first ∷ l) (with_interval_is rest name interval))

-- the interval that a variable had is given back
pub with_value_back : (names : Intervals) (name : List ℕ) (interval : Option Interval)
    → with_value (with_value names name interval) name (interval_named names name) ≡ names
with_value_back [] name interval = refl
with_value_back (first ∷ rest) name interval =
    by_value (bytes_eq first.0 name) refl (with_value_back rest name interval)
  where
    by_value : (t : Bool) → bytes_eq first.0 name ≡ t
        → with_value (with_value rest name interval) name (interval_named rest name) ≡ rest
        → with_value (cond t (record { 0 = first.0; 1 = interval } ∷ rest)
        (first ∷ with_value rest name interval)) name (cond t first.1 (interval_named rest name))
        ≡ first ∷ rest
    by_value true e inner = ap (λ t. cond t (first ∷ rest)
        (record { 0 = first.0; 1 = interval } ∷ with_value rest name first.1)) e
    by_value false e inner = ap (λ t. cond t
        (record { 0 = first.0; 1 = interval_named rest name } ∷ with_value rest name interval)
        (first ∷ with_value (with_value rest name interval) name (interval_named rest name))) e
        ∙ ap (λ l. first ∷ l) inner

-- names that are declared and left again
pub ruleset growth = (drop_own, drop_both, names_after)

pub ruleset own_growth = (drop_own, names_after)

pub ruleset known_values = (drop_own, with_value_back, with_interval_is)
