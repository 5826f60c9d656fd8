-- What is known of each fraction that is given, that a fraction stays, and that each node has one
-- when no equation gives another.
use Rattle.std.proofs.Common.{◌≡◌, ℕ, zero, suc, ◌<◌, ◌≤◌, List, [], ◌∷◌, length, set, get_or}
use Rattle.std.proofs.Common.{replicate, Option, Some, None, sym, ap, subst, ◌∙◌, refl, ◌⊎◌, inl}
use Rattle.std.proofs.Common.{inr, arith}
use Rattle.std.specs.List.{All}
use Rattle.std.specs.Option.{option_or}
use Rattle.std.proofs.lemmas.Bool.{cases_eq, cases_lt}
use Rattle.std.proofs.lemmas.List.{get_or-set_same, get_or-set_other, set_past, get_or_past}
use Rattle.std.proofs.lemmas.List.{length-set, length-replicate, get_or-replicate}
use Rattle.std.proofs.lemmas.List.Elements.{All-head, All-tail, All-contains}
use Rattle.std.proofs.lemmas.Option.{same_Some, none-some}
use Rattle.strc_balance.specs.declared.equation.Equation.{Equation}
use Rattle.strc_balance.specs.declared.fraction.Fraction.{Fraction}
use Rattle.strc_balance.specs.Balance.{Fractions, fraction_at, target_fraction, source_fraction}
use Rattle.strc_balance.specs.Balance.{given_by, given, first_given, with_given, propagated, one}
use Rattle.strc_balance.specs.Balance.{start_fractions, spread, Path, Here, Along, Against}
use Rattle.strc_balance.specs.Balance.{HasRates, AreConnected}

-- a fact of each fraction that is known
abbrev pub Known : (ℕ → Fraction → Type 0) → Fractions → Type 0
Known P fractions = (node : ℕ) (fraction : Fraction) → fraction_at fractions node ≡ Some fraction
    → P node fraction

-- a fact goes over an equation, either way
pub record Carries (P : ℕ → Fraction → Type 0) (equation : Equation) : Type 0 where
  pub along : (fraction : Fraction) → P equation.source fraction
      → P equation.target (target_fraction fraction equation)
  pub against : (fraction : Fraction) → P equation.target fraction
      → P equation.source (source_fraction fraction equation)

-- one more fraction

fraction_at-set : (fractions : Fractions) (node other : ℕ) (fraction : Fraction)
    → node < length fractions → other ≡ node
    → fraction_at (set fractions node (Some fraction)) other ≡ Some fraction
fraction_at-set fractions node other fraction within same =
    ap (λ n. fraction_at (set fractions node (Some fraction)) n) same
    ∙ get_or-set_same fractions node (Some fraction) None within

pub Known-set : (P : ℕ → Fraction → Type 0) (fractions : Fractions) (node : ℕ) (fraction : Fraction)
    → Known P fractions → P node fraction → Known P (set fractions node (Some fraction))
Known-set P fractions node fraction all here other found is =
    elim (cases_eq other node) [
      | inl same ↦ elim (cases_lt node (length fractions)) [
        | inl within ↦ let e : fraction ≡ found =
            same_Some fraction found (sym
            (fraction_at-set fractions node other fraction within same) ∙ is) in
            subst (λ f. P other f) e (subst (λ n. P n fraction) (sym same) here)
        | inr past ↦ all other found (ap (λ l. fraction_at l other)
            (sym (set_past fractions node (Some fraction) past)) ∙ is)
      ]
      | inr apart ↦ all other found (sym
          (get_or-set_other fractions node other (Some fraction) None apart) ∙ is)
    ]

-- what an equation gives

given_by-known : (P : ℕ → Fraction → Type 0) (equation : Equation) → Carries P equation
    → (source target : Option Fraction) → ((f : Fraction) → source ≡ Some f → P equation.source f)
    → ((f : Fraction) → target ≡ Some f → P equation.target f) → (found : ℕ × Fraction)
    → given_by source target equation ≡ Some found → P found.0 found.1
given_by-known P equation carries (Some f) None known_source known_target found is =
    subst (λ q. P q.0 q.1) (same_Some (equation.target, target_fraction f equation) found is)
    (carries.along f (known_source f refl))
given_by-known P equation carries None (Some f) known_source known_target found is =
    subst (λ q. P q.0 q.1) (same_Some (equation.source, source_fraction f equation) found is)
    (carries.against f (known_target f refl))
given_by-known P equation carries (Some f) (Some g) known_source known_target found is =
    absurd (none-some found is)
given_by-known P equation carries None None known_source known_target found is =
    absurd (none-some found is)

-- its node was unknown, and is an end of the equation
pub given_by-unknown : (equation : Equation) (source target : Option Fraction)
    (found : ℕ × Fraction) → given_by source target equation ≡ Some found
    → ((found.0 ≡ equation.target) × (target ≡ None))
    ⊎ ((found.0 ≡ equation.source) × (source ≡ None))
given_by-unknown equation (Some f) None found is =
    inl (
      ap (λ q. q.0) (sym (same_Some (equation.target, target_fraction f equation) found is)),
      refl,
    )
given_by-unknown equation None (Some f) found is =
    inr (
      ap (λ q. q.0) (sym (same_Some (equation.source, source_fraction f equation) found is)),
      refl,
    )
given_by-unknown equation (Some f) (Some g) found is = absurd (none-some found is)
given_by-unknown equation None None found is = absurd (none-some found is)

pub given-unknown : (fractions : Fractions) (equation : Equation) (found : ℕ × Fraction)
    → given fractions equation ≡ Some found → fraction_at fractions found.0 ≡ None
given-unknown fractions equation found is =
    elim (given_by-unknown equation (fraction_at fractions equation.source)
    (fraction_at fractions equation.target) found is) [
      | inl h ↦ ap (λ n. fraction_at fractions n) h.0 ∙ h.1
      | inr h ↦ ap (λ n. fraction_at fractions n) h.0 ∙ h.1
    ]

pub given-within : (size : ℕ) (fractions : Fractions) (equation : Equation) → HasRates size equation
    → (found : ℕ × Fraction) → given fractions equation ≡ Some found → found.0 < size
given-within size fractions equation rates found is =
    elim (given_by-unknown equation (fraction_at fractions equation.source)
    (fraction_at fractions equation.target) found is) [
      | inl h ↦ subst (λ n. n < size) (sym h.0) rates.target
      | inr h ↦ subst (λ n. n < size) (sym h.0) rates.source
    ]

-- the first of them

-- what the first equation gives, or what the others do
option_or-cases : {X : Type 0} (a b : Option X) (x : X) → option_or a b ≡ Some x
    → (a ≡ Some x) ⊎ (b ≡ Some x)
option_or-cases None b x h = inr h
option_or-cases (Some y) b x h = inl h

-- what holds of each equation's answer holds of the first one
first_given-holds : (P : ℕ × Fraction → Type 0) (fractions : Fractions) (equations : List Equation)
    → All (λ e. (found : ℕ × Fraction) → given fractions e ≡ Some found → P found) equations
    → (found : ℕ × Fraction) → first_given fractions equations ≡ Some found → P found
first_given-holds P fractions [] all found is = absurd (none-some found is)
first_given-holds P fractions (e ∷ es) all found is =
    elim (option_or-cases (given fractions e) (first_given fractions es) found is) [
      | inl h ↦ All-head (λ e. (found : ℕ × Fraction) → given fractions e ≡ Some found → P found) e
          es all found h
      | inr h ↦ first_given-holds P fractions es
          (All-tail (λ e. (found : ℕ × Fraction) → given fractions e ≡ Some found → P found) e es
          all) found h
    ]

first_given-unknown : (fractions : Fractions) (equations : List Equation) (found : ℕ × Fraction)
    → first_given fractions equations ≡ Some found → fraction_at fractions found.0 ≡ None
first_given-unknown fractions equations =
    first_given-holds (λ found. fraction_at fractions found.0 ≡ None) fractions equations
    (λ k d within. given-unknown fractions (get_or equations k d))

pub first_given-within : (size : ℕ) (fractions : Fractions) (equations : List Equation)
    → All (HasRates size) equations → (found : ℕ × Fraction)
    → first_given fractions equations ≡ Some found → found.0 < size
first_given-within size fractions equations rates =
    first_given-holds (λ found. found.0 < size) fractions equations
    (λ k d within. given-within size fractions (get_or equations k d) (rates k d within))

pub first_given-known : (P : ℕ → Fraction → Type 0) (fractions : Fractions)
    (equations : List Equation) → All (Carries P) equations → Known P fractions
    → (found : ℕ × Fraction) → first_given fractions equations ≡ Some found → P found.0 found.1
first_given-known P fractions equations carries known =
    first_given-holds (λ found. P found.0 found.1) fractions equations
    (λ k d within. let e = get_or equations k d in
    given_by-known P e (carries k d within) (fraction_at fractions e.source)
    (fraction_at fractions e.target) (known e.source) (known e.target))

-- turns

with_given-known : (P : ℕ → Fraction → Type 0) (fractions : Fractions)
    (found : Option (ℕ × Fraction)) → Known P fractions
    → ((q : ℕ × Fraction) → found ≡ Some q → P q.0 q.1) → Known P (with_given fractions found)
with_given-known P fractions None known here = known
with_given-known P fractions (Some q) known here = Known-set P fractions q.0 q.1 known (here q refl)

pub propagated-known : (P : ℕ → Fraction → Type 0) (turns : ℕ) (equations : List Equation)
    (fractions : Fractions) → All (Carries P) equations → Known P fractions
    → Known P (propagated turns equations fractions)
propagated-known P zero equations fractions carries known = known
propagated-known P (suc turns) equations fractions carries known =
    propagated-known P turns equations (with_given fractions (first_given fractions equations))
    carries
    (with_given-known P fractions (first_given fractions equations) known
    (first_given-known P fractions equations carries known))

with_given-stays : (fractions : Fractions) (found : Option (ℕ × Fraction))
    → ((q : ℕ × Fraction) → found ≡ Some q → fraction_at fractions q.0 ≡ None)
    → (node : ℕ) (fraction : Fraction) → fraction_at fractions node ≡ Some fraction
    → fraction_at (with_given fractions found) node ≡ Some fraction
with_given-stays fractions None unknown node fraction is = is
with_given-stays fractions (Some q) unknown node fraction is =
    get_or-set_other fractions q.0 node (Some q.1) None
    (λ same. none-some fraction (sym (unknown q refl)
    ∙ ap (λ n. fraction_at fractions n) (sym same) ∙ is)) ∙ is

-- a fraction that is known stays
pub propagated-stays : (turns : ℕ) (equations : List Equation) (fractions : Fractions) (node : ℕ)
    (fraction : Fraction) → fraction_at fractions node ≡ Some fraction
    → fraction_at (propagated turns equations fractions) node ≡ Some fraction
propagated-stays zero equations fractions node fraction is = is
propagated-stays (suc turns) equations fractions node fraction is =
    propagated-stays turns equations (with_given fractions (first_given fractions equations)) node
    fraction
    (with_given-stays fractions (first_given fractions equations)
    (first_given-unknown fractions equations) node fraction is)

with_given-length : (fractions : Fractions) (found : Option (ℕ × Fraction))
    → length (with_given fractions found) ≡ length fractions
with_given-length fractions None = refl
with_given-length fractions (Some q) = length-set fractions q.0 (Some q.1)

pub propagated-length : (turns : ℕ) (equations : List Equation) (fractions : Fractions)
    → length (propagated turns equations fractions) ≡ length fractions
propagated-length zero equations fractions = refl
propagated-length (suc turns) equations fractions =
    propagated-length turns equations (with_given fractions (first_given fractions equations))
    ∙ with_given-length fractions (first_given fractions equations)

-- where no equation gives one, nothing changes
pub propagated-done : (turns : ℕ) (equations : List Equation) (fractions : Fractions)
    → first_given fractions equations ≡ None → propagated turns equations fractions ≡ fractions
propagated-done zero equations fractions none = refl
propagated-done (suc turns) equations fractions none =
    ap (λ found. propagated turns equations (with_given fractions found)) none
    ∙ propagated-done turns equations fractions none

-- how many are unknown

unknown : Fractions → ℕ
unknown [] = 0
unknown (None ∷ rest) = suc (unknown rest)
unknown (Some fraction ∷ rest) = unknown rest

unknown-le : (fractions : Fractions) → unknown fractions ≤ length fractions
unfolding unknown
unknown-le [] = omega arith
unknown-le (None ∷ rest) = let h = unknown-le rest in omega arith
unknown-le (Some fraction ∷ rest) = let h = unknown-le rest in omega arith

-- one less where one more is known
unknown-set : (fractions : Fractions) (node : ℕ) (fraction : Fraction) → node < length fractions
    → fraction_at fractions node ≡ None → suc (unknown (set fractions node (Some fraction)))
    ≡ unknown fractions
unfolding unknown
unknown-set [] node fraction within is = absurd (omega arith)
unknown-set (None ∷ rest) zero fraction within is = refl
unknown-set (Some g ∷ rest) zero fraction within is = absurd (none-some g (sym is))
unknown-set (None ∷ rest) (suc node) fraction within is =
    ap (λ n. suc n) (unknown-set rest node fraction (omega arith) is)
unknown-set (Some g ∷ rest) (suc node) fraction within is =
    unknown-set rest node fraction (omega arith) is

option_cases : {X : Type 0} (o : Option X) → (o ≡ None) ⊎ ((x : X) × (o ≡ Some x))
option_cases None = inl refl
option_cases (Some x) = inr (x, refl)

-- with as many turns as there are unknown nodes, no equation gives another
none_left : (size turns : ℕ) (equations : List Equation) (fractions : Fractions)
    → All (HasRates size) equations → length fractions ≡ size → unknown fractions ≤ turns
    → first_given (propagated turns equations fractions) equations ≡ None
none_left size zero equations fractions rates same few =
    elim (option_cases (first_given fractions equations)) [
      | inl none ↦ none
      | inr some ↦
          let within : some.0.0 < size =
          first_given-within size fractions equations rates some.0 some.1 in
          let one_less = unknown-set fractions some.0.0 some.0.1 (omega arith)
          (first_given-unknown fractions equations some.0 some.1) in
          absurd (omega arith)
    ]
none_left size (suc turns) equations fractions rates same few =
    elim (option_cases (first_given fractions equations)) [
      | inl none ↦ ap (λ l. first_given l equations)
          (propagated-done (suc turns) equations fractions none) ∙ none
      | inr some ↦
          let within : some.0.0 < size =
          first_given-within size fractions equations rates some.0 some.1 in
          let one_less = unknown-set fractions some.0.0 some.0.1 (omega arith)
          (first_given-unknown fractions equations some.0 some.1) in
          ap (λ found. first_given (propagated turns equations (with_given fractions found))
          equations) some.1
          ∙ none_left size turns equations (set fractions some.0.0 (Some some.0.1)) rates
          (length-set fractions some.0.0 (Some some.0.1) ∙ same) (omega arith)
    ]

pub start-length : (size : ℕ) → length (start_fractions size) ≡ size
start-length size = length-set (replicate size None) 0 (Some one) ∙ length-replicate size None

pub spread-length : (size : ℕ) (equations : List Equation) → length (spread size equations) ≡ size
spread-length size equations = propagated-length size equations (start_fractions size)
    ∙ start-length size

pub spread-none_left : (size : ℕ) (equations : List Equation) → All (HasRates size) equations
    → first_given (spread size equations) equations ≡ None
spread-none_left size equations rates =
    let few = unknown-le (start_fractions size) in
    let same = start-length size in
    none_left size size equations (start_fractions size) rates same (omega arith)

-- node 0's fraction is 1
start-first : (size : ℕ) → 0 < size → fraction_at (start_fractions size) 0 ≡ Some one
start-first size some = get_or-set_same (replicate size None) 0 (Some one) None
    (let nothing : Option Fraction = None in let e = length-replicate size nothing in omega arith)

pub spread-first : (size : ℕ) (equations : List Equation) → 0 < size
    → fraction_at (spread size equations) 0 ≡ Some one
spread-first size equations some = propagated-stays size equations (start_fractions size) 0 one
    (start-first size some)

pub nothing-known : (size node : ℕ) → fraction_at (replicate size None) node ≡ None
nothing-known size node =
    elim (cases_lt node size) [
      | inl within ↦ get_or-replicate size node None None within
      | inr past ↦ get_or_past (replicate size None) node None
          (let nothing : Option Fraction = None in let e = length-replicate size nothing in
          omega arith)
    ]

pub start-known : (P : ℕ → Fraction → Type 0) (size : ℕ) → P 0 one → Known P (start_fractions size)
start-known P size first =
    Known-set P (replicate size None) 0 one
    (λ node fraction is. absurd (none-some fraction (sym (nothing-known size node) ∙ is))) first

-- all nodes

abbrev pub IsKnown : Fractions → ℕ → Type 0
IsKnown fractions node = (fraction : Fraction) × (fraction_at fractions node ≡ Some fraction)

first_given-none : (fractions : Fractions) (equations : List Equation)
    → first_given fractions equations ≡ None → All (λ e. given fractions e ≡ None) equations
first_given-none fractions equations none = none_each equations none
  where
    none_head : (o p : Option (ℕ × Fraction)) → option_or o p ≡ None → o ≡ None
    none_head None p h = refl
    none_head (Some x) p h = h

    none_tail : (o p : Option (ℕ × Fraction)) → option_or o p ≡ None → p ≡ None
    none_tail None p h = h
    none_tail (Some x) p h = absurd (none-some x (sym h))

    none_each : (es : List Equation) → first_given fractions es ≡ None
        → All (λ e. given fractions e ≡ None) es
    none_each [] h k d within = absurd (omega arith)
    none_each (e ∷ es) h zero d within = none_head (given fractions e) (first_given fractions es) h
    none_each (e ∷ es) h (suc k) d within =
        none_each es (none_tail (given fractions e) (first_given fractions es) h) k d (omega arith)

-- an equation that gives nothing has no end or both ends known
both_known : (equation : Equation) (a b : Option Fraction) → given_by a b equation ≡ None
    → ((f : Fraction) × (a ≡ Some f)) → ((f : Fraction) × (b ≡ Some f))
both_known equation None b none some = absurd (none-some some.0 some.1)
both_known equation (Some f) None none some =
    absurd (none-some (equation.target, target_fraction f equation) (sym none))
both_known equation (Some f) (Some g) none some = (g, refl)

both_known_back : (equation : Equation) (a b : Option Fraction) → given_by a b equation ≡ None
    → ((f : Fraction) × (b ≡ Some f)) → ((f : Fraction) × (a ≡ Some f))
both_known_back equation a None none some = absurd (none-some some.0 some.1)
both_known_back equation None (Some f) none some =
    absurd (none-some (equation.source, source_fraction f equation) (sym none))
both_known_back equation (Some g) (Some f) none some = (g, refl)

path-known : (fractions : Fractions) (equations : List Equation)
    → All (λ e. given fractions e ≡ None) equations → {node last : ℕ} → Path equations node last
    → IsKnown fractions node → IsKnown fractions last
path-known fractions equations none Here known = known
path-known fractions equations none (Along equation is from rest) known =
    path-known fractions equations none rest
    (both_known equation (fraction_at fractions equation.source)
    (fraction_at fractions equation.target)
    (All-contains (λ e. given fractions e ≡ None) equations equation none is)
    (subst (λ n. IsKnown fractions n) (sym from) known))
path-known fractions equations none (Against equation is from rest) known =
    path-known fractions equations none rest
    (both_known_back equation (fraction_at fractions equation.source)
    (fraction_at fractions equation.target)
    (All-contains (λ e. given fractions e ≡ None) equations equation none is)
    (subst (λ n. IsKnown fractions n) (sym from) known))

-- where all nodes are connected, each has a fraction
pub spread-known : (size : ℕ) (equations : List Equation) → All (HasRates size) equations
    → AreConnected size equations → (node : ℕ) → node < size → IsKnown (spread size equations) node
spread-known size equations rates connected node within =
    path-known (spread size equations) equations
    (first_given-none (spread size equations) equations (spread-none_left size equations rates))
    (connected 0 node (omega arith) within) (one, spread-first size equations (omega arith))
