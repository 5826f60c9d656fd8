-- The nodes that the spread reaches are those that are connected to node 0.
use Rattle.std.proofs.Common.{◌≡◌, ℕ, ◌<◌, true, List, length, get_or, Option, Some, None, sym, ap}
use Rattle.std.proofs.Common.{subst, ◌∙◌, refl, arith}
use Rattle.std.specs.Prelude.{is_some}
use Rattle.std.specs.List.{All, Contains}
use Rattle.std.proofs.lemmas.Bool.{false≢true}
use Rattle.std.proofs.lemmas.List.{get_or-map, length-map}
use Rattle.std.proofs.lemmas.List.Elements.{Contains-get_or}
use Rattle.strc_balance.specs.declared.equation.Equation.{Equation}
use Rattle.strc_balance.specs.declared.fraction.Fraction.{Fraction}
use Rattle.strc_balance.specs.Balance.{fraction_at, start_fractions, spread, Path, Here, Along}
use Rattle.strc_balance.specs.Balance.{Against, HasRates, AreConnected}
use Rattle.strc_balance.specs.Conditions.{unit_rates, all_unit_rates, AreKnown}
use Rattle.strc_balance.specs.Frontiers.{IsBounded}
use Rattle.strc_balance.proofs.Spreading.{Known, Carries, propagated-known, start-known}
use Rattle.strc_balance.proofs.Spreading.{spread-length, spread-known}

-- paths

path_join : {equations : List Equation} {first middle last : ℕ} → Path equations first middle
    → Path equations middle last → Path equations first last
path_join Here after = after
path_join (Along equation is from rest) after = Along equation is from (path_join rest after)
path_join (Against equation is from rest) after = Against equation is from (path_join rest after)

path_back : {equations : List Equation} {first last : ℕ} → Path equations first last
    → Path equations last first
path_back Here = Here
path_back {equations} (Along equation is from rest) =
    path_join (path_back rest) (Against equation is refl
    (subst (λ n. Path equations equation.source n) from Here))
path_back {equations} (Against equation is from rest) =
    path_join (path_back rest) (Along equation is refl
    (subst (λ n. Path equations equation.target n) from Here))

-- connections by equations with rates of 1

unit-at : (equations : List Equation) (k : ℕ) (d : Equation) → k < length equations
    → get_or (all_unit_rates equations) k d ≡ unit_rates (get_or equations k d)
unit-at equations k d within = get_or-map unit_rates equations k d d within

unit-contains : (equations : List Equation) (equation : Equation) → Contains equations equation
    → Contains (all_unit_rates equations) (unit_rates equation)
unit-contains equations equation h = (
  h.0,
  (let e = length-map equations unit_rates in let w = h.1 in omega arith),
  get_or-map
      unit_rates equations h.0 equation (unit_rates equation) h.1 ∙ ap unit_rates h.2,
)

unit-path : {equations : List Equation} {first last : ℕ} → Path equations first last
    → Path (all_unit_rates equations) first last
unit-path Here = Here
unit-path {equations} (Along equation is from rest) =
    Along (unit_rates equation) (unit-contains equations equation is) from (unit-path rest)
unit-path {equations} (Against equation is from rest) =
    Against (unit_rates equation) (unit-contains equations equation is) from (unit-path rest)

pub unit-rates : (size : ℕ) (equations : List Equation) → All (HasRates size) equations
    → All (HasRates size) (all_unit_rates equations)
unit-rates size equations rates k d within =
    let e = length-map equations unit_rates in
    let short : k < length equations = omega arith in
    let h = rates k d short in
    subst (HasRates size) (sym (unit-at equations k d short))
    (record { source = h.source; target = h.target; push = omega arith; pop = omega arith })

pub unit-bounds : (equations : List Equation) → All IsBounded (all_unit_rates equations)
unit-bounds equations k d within =
    let e = length-map equations unit_rates in
    let short : k < length equations = omega arith in
    subst IsBounded (sym (unit-at equations k d short))
    (record { push = omega arith; pop = omega arith })

-- nodes that are reached

reach : (equations : List Equation) (k : ℕ) (d : Equation) → k < length (all_unit_rates equations)
    → Carries (λ node fraction. Path equations 0 node) (get_or (all_unit_rates equations) k d)
reach equations k d within =
    let e = length-map equations unit_rates in
    let short : k < length equations = omega arith in
    let equation = get_or equations k d in
    let is : Contains equations equation = Contains-get_or equations k d short in
    subst (Carries (λ node fraction. Path equations 0 node)) (sym (unit-at equations k d short))
    (record {
      along = λ f path. path_join path (Along equation is refl Here);
      against = λ f path. path_join path (Against equation is refl Here);
    })

spread-reached : (size : ℕ) (equations : List Equation)
    → Known (λ node fraction. Path equations 0 node) (spread size (all_unit_rates equations))
spread-reached size equations =
    propagated-known (λ node fraction. Path equations 0 node) size (all_unit_rates equations)
    (start_fractions size) (reach equations)
    (start-known (λ node fraction. Path equations 0 node) size Here)

some_of : (o : Option Fraction) → is_some o ≡ true → (f : Fraction) × (o ≡ Some f)
some_of None h = absurd (false≢true h)
some_of (Some f) h = (f, refl)

pub known_connected : (size : ℕ) (equations : List Equation)
    → AreKnown (spread size (all_unit_rates equations)) → AreConnected size equations
known_connected size equations known node other node_within other_within =
    let fractions = spread size (all_unit_rates equations) in
    let same = spread-length size (all_unit_rates equations) in
    let to = λ (n : ℕ) (within : n < size).
    (let some = some_of (fraction_at fractions n) (known n (omega arith)) in
    spread-reached size equations n some.0 some.1) in
    path_join (path_back (to node node_within)) (to other other_within)

pub connected_known : (size : ℕ) (equations : List Equation) → All (HasRates size) equations
    → AreConnected size equations → AreKnown (spread size (all_unit_rates equations))
connected_known size equations rates connected node within =
    let units = all_unit_rates equations in
    let same = spread-length size units in
    let known = spread-known size units (unit-rates size equations rates)
    (λ first last first_within last_within. unit-path
    (connected first last first_within last_within)) node (omega arith) in
    ap is_some known.1
