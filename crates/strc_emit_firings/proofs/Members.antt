-- The helper functions of a filter's members: where they stand, and that their calls are known.
use Rattle.std.proofs.Common.{◌≡◌, ℕ, suc, Bool, true, false, cond, List, [], ◌∷◌, Option, Some}
use Rattle.std.proofs.Common.{None, refl, sym, ap, subst}
use Rattle.std.specs.Prelude.{bytes_eq, unwrap_or}
use Rattle.std.specs.Option.{option_map}
use Rattle.strc_parse_tree.specs.Tree as tree
use Rattle.strc_work_meaning.specs.declared.body.Body.{Body}
use Rattle.strc_work_meaning.specs.declared.body.Body.TheVariants as body
use Rattle.strc_work_meaning.specs.Filters.{Helper, helper_named, work_block, prework_block}
use Rattle.strc_work_meaning.specs.Filters.{body_block}
use Rattle.strc_work_code.specs.Links.{helper_names, place_of}
use Rattle.strc_emit_meaning.specs.Known.{AreKnown}
use Rattle.strc_emit_firings.specs.Known.{AreKnownBlocks}

pub some_none : (helper : Helper) → Some helper ≡ None → ⊥
some_none helper e = cc

pub same_helper : (a b : Helper) → Some a ≡ Some b → a ≡ b
same_helper a b e = ap (λ o. unwrap_or o a) e

none_by : (t : Bool) (helper : Helper) (named : Option Helper) (place : Option ℕ)
    → (named ≡ None → place ≡ None) → cond t (Some helper) named ≡ None
    → cond t (Some 0) (option_map suc place) ≡ None
none_by true helper named place later e = absurd (some_none helper e)
none_by false helper named place later e = ap (option_map suc) (later e)

pub not_placed : (members : List tree.Member) (name : List ℕ) → helper_named members name ≡ None
    → place_of (helper_names members) name ≡ None
not_placed [] name e = refl
not_placed (tree.Fields kind variables ∷ rest) name e = not_placed rest name e
not_placed (tree.Init block ∷ rest) name e = not_placed rest name e
not_placed (tree.Prework rates block ∷ rest) name e = not_placed rest name e
not_placed (tree.Work rates block ∷ rest) name e = not_placed rest name e
not_placed (tree.Helper kind own parameters block ∷ rest) name e =
    none_by (bytes_eq own name)
    (record { kind = kind; parameters = parameters; block = block }) (helper_named rest name)
    (place_of (helper_names rest) name) (not_placed rest name) e

module _ (known : List ℕ → ℕ → Bool) where
  known_by : (t : Bool) (first helper : Helper) (named : Option Helper)
      → AreKnown known first.block → (named ≡ Some helper → AreKnown known helper.block)
      → cond t (Some first) named ≡ Some helper → AreKnown known helper.block
  known_by true first helper named here later e =
      subst (λ (h : Helper). AreKnown known h.block) (same_helper first helper e) here
  known_by false first helper named here later e = later e

  pub known_helper : (members : List tree.Member) (name : List ℕ) (helper : Helper)
      → AreKnownBlocks known members → helper_named members name ≡ Some helper
      → AreKnown known helper.block
  known_helper [] name helper are e = absurd (some_none helper (sym e))
  known_helper (tree.Fields kind variables ∷ rest) name helper are e =
      known_helper rest name helper are e
  known_helper (tree.Init block ∷ rest) name helper are e = known_helper rest name helper are e
  known_helper (tree.Prework rates block ∷ rest) name helper are e =
      known_helper rest name helper are.1 e
  known_helper (tree.Work rates block ∷ rest) name helper are e =
      known_helper rest name helper are.1 e
  known_helper (tree.Helper kind own parameters block ∷ rest) name helper are e =
      known_by (bytes_eq own name)
      (record { kind = kind; parameters = parameters; block = block }) helper
      (helper_named rest name) are.0 (known_helper rest name helper are.1) e

  known_work : (members : List tree.Member) → AreKnownBlocks known members
      → AreKnown known (work_block members)
  known_work [] are = tt
  known_work (tree.Fields kind variables ∷ rest) are = known_work rest are
  known_work (tree.Init block ∷ rest) are = known_work rest are
  known_work (tree.Prework rates block ∷ rest) are = known_work rest are.1
  known_work (tree.Work rates block ∷ rest) are = are.0
  known_work (tree.Helper kind own parameters block ∷ rest) are = known_work rest are.1

  known_prework : (members : List tree.Member) (other : tree.Stmts)
      → AreKnownBlocks known members → AreKnown known other
      → AreKnown known (unwrap_or (prework_block members) other)
  known_prework [] other are last = last
  known_prework (tree.Fields kind variables ∷ rest) other are last =
      known_prework rest other are last
  known_prework (tree.Init block ∷ rest) other are last = known_prework rest other are last
  known_prework (tree.Prework rates block ∷ rest) other are last = are.0
  known_prework (tree.Work rates block ∷ rest) other are last =
      known_prework rest other are.1 last
  known_prework (tree.Helper kind own parameters block ∷ rest) other are last =
      known_prework rest other are.1 last

  pub known_block : (body : Body) (members : List tree.Member) → AreKnownBlocks known members
      → AreKnown known (body_block body members)
  known_block body.Prework members are =
      known_prework members (work_block members) are (known_work members are)
  known_block body.Work members are = known_work members are
