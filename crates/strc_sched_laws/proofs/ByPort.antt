-- Lists and numbers by port: those at one port, and those at the others.
use Rattle.std.proofs.Common.{◌≡◌, refl, sym, ap, ◌∙◌, ℕ, suc, ◌+◌, ◌-◌, ◌<◌, ℤ, Bool, true}
use Rattle.std.proofs.Common.{false, cond, eqb, List, [], ◌++◌, inl, inr, arith, eqb-true}
use Rattle.std.proofs.lemmas.Bool.{cases_lt, ne_eqb, eq-eqb, eqb-false}
use Rattle.std.proofs.lemmas.List.{append-nil}
use Rattle.strc_elab_dataflow.specs.Node.{ByPort}

module _ {A : Type 0} (none : A) where
  -- what is at one port, and nothing elsewhere
  abbrev pub only_at : (own : ℕ) → A → (port : ℕ) → A
  only_at own value port = cond (eqb port own) value none

  -- what is at each port but one
  abbrev pub but_at : (own : ℕ) → (ℕ → A) → (port : ℕ) → A
  but_at own values port = cond (eqb port own) none (values port)

  -- the ports before one have nothing
  abbrev pub NoneBelow : (first : ℕ) → (ℕ → A) → Type 0
  NoneBelow first values = (port : ℕ) → port < first → values port ≡ none

  pub only_here : (own : ℕ) (value : A) → only_at own value own ≡ value
  only_here own value = ap (λ (same : Bool). cond same value none) (eq-eqb own own refl)

  pub only_other : (own : ℕ) (value : A) (port : ℕ) → (port ≡ own → ⊥)
      → only_at own value port ≡ none
  only_other own value port differs =
      ap (λ (same : Bool). cond same value none) (ne_eqb port own differs)

  pub but_other : (own : ℕ) (values : ℕ → A) (port : ℕ) → (port ≡ own → ⊥)
      → but_at own values port ≡ values port
  but_other own values port differs =
      ap (λ (same : Bool). cond same none (values port)) (ne_eqb port own differs)

  pub but_below : (first : ℕ) (values : ℕ → A) → NoneBelow first values
      → NoneBelow (suc first) (but_at first values)
  but_below first values below port less = by_test (eqb port first) refl
    where
      before : (port ≡ first → ⊥) → port < first
      before differs = omega (arith, less, differs)

      by_test : (same : Bool) → eqb port first ≡ same → cond same none (values port) ≡ none
      by_test true e = refl
      by_test false e = below port (before (eqb-false port first e))

  pub but_later : (first : ℕ) (values : ℕ → A) (place : ℕ)
      → but_at first values (suc first + place) ≡ values (first + suc place)
  but_later first values place =
      let differs : suc first + place ≡ first → ⊥ = λ e. omega (arith, e) in
      let same : suc first + place ≡ first + suc place = omega arith in
      but_other first values (suc first + place) differs ∙ ap values same

  pub at_first : (first : ℕ) (values : ℕ → A) → values (first + 0) ≡ values first
  at_first first values =
      let same : first + 0 ≡ first = omega arith in
      ap values same

  pub all_none : (first : ℕ) (values : ℕ → A) → NoneBelow first values
      → ((place : ℕ) → values (first + place) ≡ none) → (port : ℕ) → values port ≡ none
  all_none first values below from port = elim (cases_lt port first) [
    | inl less ↦ below port less
    | inr past ↦
        let is : port ≡ first + (port - first) = omega (arith, past) in
        ap values is ∙ from (port - first)
  ]

pub only_none : (own port : ℕ) → only_at {A = List ℤ} [] own [] port ≡ []
only_none own port = by_test (eqb port own)
  where
    by_test : (same : Bool) → ◌≡◌ {A = List ℤ} (cond same [] []) []
    by_test true = refl
    by_test false = refl

-- together they are all
pub numbers_parted : (own : ℕ) (values : ℕ → ℕ) (port : ℕ)
    → only_at 0 own (values own) port + but_at 0 own values port ≡ values port
numbers_parted own values port = by_test (eqb port own) refl
  where
    by_test : (same : Bool) → eqb port own ≡ same
        → cond same (values own) 0 + cond same 0 (values port) ≡ values port
    by_test true e =
        let here = ap values (eqb-true port own e) in
        omega (arith, here)
    by_test false e = omega arith

pub lists_parted : (own : ℕ) (values : ByPort) (port : ℕ)
    → only_at [] own (values own) port ++ but_at [] own values port ≡ values port
lists_parted own values port = by_test (eqb port own) refl
  where
    by_test : (same : Bool) → eqb port own ≡ same
        → cond same (values own) [] ++ cond same [] (values port) ≡ values port
    by_test true e = append-nil (values own) ∙ ap values (sym (eqb-true port own e))
    by_test false e = refl
