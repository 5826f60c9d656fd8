-- The least whole multiples of the spread's fractions are the least solution of the balance
-- equations, where there is one.
use Rattle.std.proofs.Common.{◌≡◌, ℕ, zero, suc, ◌*◌, ◌/◌, ◌<◌, ◌≤◌, Bool, true, false, cond, ◌||◌}
use Rattle.std.proofs.Common.{ltb, List, [], ◌∷◌, length, map, get_or, Option, Some, None, sym, ap}
use Rattle.std.proofs.Common.{subst, ◌∙◌, refl, ◌⊎◌, inl, inr, arith}
use Rattle.std.specs.List.{All, list_any}
use Rattle.std.specs.Int.{◌∣◌}
use Rattle.std.proofs.lemmas.Bool.{eqb-true, eq-eqb, ltb-true, false≢true, cases_lt}
use Rattle.std.proofs.lemmas.List.{length-map, get_or_past}
use Rattle.std.proofs.lemmas.Nat.Gcd.{dvd_refl, dvd_trans, le_of_dvd}
use Rattle.std.proofs.lemmas.Option.{same_Some, none-some}
use Rattle.std.proofs.Math.Nat.{one-dvd, mul-div_cancel', eq_of_mul-eq-mul_left, mul-pos}
use Rattle.std.proofs.Math.Nat.{pos_of_ne-zero, mul-le-mul_right}
use Rattle.strc_balance.specs.declared.equation.Equation.{Equation}
use Rattle.strc_balance.specs.declared.fraction.Fraction.{Fraction}
use Rattle.strc_balance.specs.Divisors.{multiple}
use Rattle.strc_balance.specs.Balance.{count_at, IsBalanced, Balances, IsLeast, count_limit}
use Rattle.strc_balance.specs.Balance.{IsWithinLimit, Fractions, fraction_at, one, start_fractions}
use Rattle.strc_balance.specs.Balance.{spread, scale_from, whole_count, whole_counts, passes}
use Rattle.strc_balance.specs.Balance.{fraction_passes, is_too_large, is_balanced, first_unbalanced}
use Rattle.strc_balance.specs.Balance.{HasRates, AreConnected}
use Rattle.strc_balance.proofs.Divisors.{IsLowest, lowest_terms-is, lowest_terms-same, lowest_top}
use Rattle.strc_balance.proofs.Divisors.{lowest_bottom, multiple-left, multiple-right}
use Rattle.strc_balance.proofs.Divisors.{multiple-least, multiple_positive, quotient_positive}
use Rattle.strc_balance.proofs.Spreading.{Known, Carries, propagated-known, start-known}
use Rattle.strc_balance.proofs.Spreading.{spread-length, spread-known}

-- fractions in lowest terms

pub one-lowest : IsLowest one
one-lowest = record {
  top = omega arith;
  bottom = omega arith;
  coprime =
      (dvd_refl 1, dvd_refl 1, λ d p q. p);
}

pub lowest_carries : (size : ℕ) (equation : Equation) → HasRates size equation
    → Carries (λ node fraction. IsLowest fraction) equation
lowest_carries size equation rates = record {
  along = λ f is. lowest_terms-is (f.top * equation.push) (f.bottom * equation.pop)
      (mul-pos is.top rates.push) (mul-pos is.bottom rates.pop);
  against = λ f is. lowest_terms-is (f.top * equation.pop) (f.bottom * equation.push)
      (mul-pos is.top rates.pop) (mul-pos is.bottom rates.push);
}

pub spread-lowest : (size : ℕ) (equations : List Equation) → All (HasRates size) equations
    → Known (λ node fraction. IsLowest fraction) (spread size equations)
spread-lowest size equations rates =
    propagated-known (λ node fraction. IsLowest fraction) size equations (start_fractions size)
    (λ k d within. lowest_carries size (get_or equations k d) (rates k d within))
    (start-known (λ node fraction. IsLowest fraction) size one-lowest)

-- the fractions of a solution

-- a node's count is that fraction of node 0's
pub record IsRatio (counts : List ℕ) (node : ℕ) (fraction : Fraction) : Type 0 where
  pub lowest : IsLowest fraction
  pub ratio : count_at counts node * fraction.bottom ≡ count_at counts 0 * fraction.top

ratio_step : (x y top bottom push pop first : ℕ) → push * x ≡ pop * y → x * bottom ≡ first * top
    → y * (bottom * pop) ≡ first * (top * push)
ratio_step x y top bottom push pop first balanced ratio =
    let left : y * (bottom * pop) ≡ bottom * (pop * y) = omega arith in
    let middle : bottom * (push * x) ≡ push * (x * bottom) = omega arith in
    let right : push * (first * top) ≡ first * (top * push) = omega arith in
    left ∙ ap (λ n. bottom * n) (sym balanced) ∙ middle ∙ ap (λ n. push * n) ratio ∙ right

ratio_carries : (size : ℕ) (counts : List ℕ) (equation : Equation) → HasRates size equation
    → IsBalanced counts equation → Carries (IsRatio counts) equation
ratio_carries size counts equation rates balanced = record {
  along = λ f is. record {
    lowest = (lowest_carries size equation rates).along f is.lowest;
    ratio = lowest_terms-same (f.top * equation.push) (f.bottom * equation.pop)
        (count_at counts equation.target) (count_at counts 0) (mul-pos is.lowest.top rates.push)
        (ratio_step (count_at counts equation.source) (count_at counts equation.target) f.top
        f.bottom equation.push equation.pop (count_at counts 0) balanced is.ratio);
  };
  against = λ f is. record {
    lowest = (lowest_carries size equation rates).against f is.lowest;
    ratio = lowest_terms-same (f.top * equation.pop) (f.bottom * equation.push)
        (count_at counts equation.source) (count_at counts 0) (mul-pos is.lowest.top rates.pop)
        (ratio_step (count_at counts equation.target) (count_at counts equation.source) f.top
        f.bottom equation.pop equation.push (count_at counts 0) (sym balanced) is.ratio);
  };
}

spread-ratio : (size : ℕ) (equations : List Equation) → All (HasRates size) equations
    → (counts : List ℕ) → Balances size equations counts
    → Known (IsRatio counts) (spread size equations)
spread-ratio size equations rates counts balances =
    propagated-known (IsRatio counts) size equations (start_fractions size)
    (λ k d within. ratio_carries size counts (get_or equations k d) (rates k d within)
    (balances.balanced k d within))
    (start-known (IsRatio counts) size (record { lowest = one-lowest; ratio = refl }))

-- the scale

pub scale_from-divides : (scale : ℕ) (fractions : Fractions) → scale ∣ scale_from scale fractions
scale_from-divides scale [] = dvd_refl scale
scale_from-divides scale (None ∷ rest) = scale_from-divides scale rest
scale_from-divides scale (Some f ∷ rest) =
    dvd_trans scale (multiple-left scale f.bottom)
    (scale_from-divides (multiple scale f.bottom) rest)

scale_from-each : (scale : ℕ) (fractions : Fractions)
    → Known (λ node f. f.bottom ∣ scale_from scale fractions) fractions
scale_from-each scale [] node f is = absurd (none-some f is)
scale_from-each scale (None ∷ rest) zero f is = absurd (none-some f is)
scale_from-each scale (Some g ∷ rest) zero f is =
    let same : g ≡ f = same_Some g f is in
    dvd_trans f.bottom (subst (λ h. h.bottom ∣ multiple scale g.bottom) same
    (multiple-right scale g.bottom)) (scale_from-divides (multiple scale g.bottom) rest)
scale_from-each scale (None ∷ rest) (suc node) f is = scale_from-each scale rest node f is
scale_from-each scale (Some g ∷ rest) (suc node) f is =
    scale_from-each (multiple scale g.bottom) rest node f is

scale_from-least : (scale : ℕ) (fractions : Fractions) (whole : ℕ) → 0 < scale → scale ∣ whole
    → Known (λ node f. (0 < f.bottom) × (f.bottom ∣ whole)) fractions
    → scale_from scale fractions ∣ whole
scale_from-least scale [] whole positive divides each = divides
scale_from-least scale (None ∷ rest) whole positive divides each =
    scale_from-least scale rest whole positive divides (λ node f is. each (suc node) f is)
scale_from-least scale (Some g ∷ rest) whole positive divides each =
    let here = each zero g refl in
    scale_from-least (multiple scale g.bottom) rest whole
    (multiple_positive scale g.bottom positive here.0)
    (multiple-least scale g.bottom whole positive divides here.1)
    (λ node f is. each (suc node) f is)

pub scale_from-positive : (scale : ℕ) (fractions : Fractions) → 0 < scale
    → Known (λ node f. 0 < f.bottom) fractions → 0 < scale_from scale fractions
scale_from-positive scale [] positive each = positive
scale_from-positive scale (None ∷ rest) positive each =
    scale_from-positive scale rest positive (λ node f is. each (suc node) f is)
scale_from-positive scale (Some g ∷ rest) positive each =
    scale_from-positive (multiple scale g.bottom) rest
    (multiple_positive scale g.bottom positive (each zero g refl))
    (λ node f is. each (suc node) f is)

-- the counts

pub counts-at : (scale : ℕ) (fractions : Fractions) (node : ℕ)
    → count_at (map (whole_count scale) fractions) node
    ≡ whole_count scale (fraction_at fractions node)
counts-at scale [] node = refl
counts-at scale (f ∷ rest) zero = refl
counts-at scale (f ∷ rest) (suc node) = counts-at scale rest node

-- a solution is a multiple of the counts
pub record IsMultiple (size : ℕ) (equations : List Equation) (counts : List ℕ) : Type 0 where
  pub times : ℕ
  pub some : 0 < times
  pub is : (node : ℕ) (fraction : Fraction)
      → fraction_at (spread size equations) node ≡ Some fraction
      → count_at counts node ≡ times * count_at (whole_counts (spread size equations)) node

multiple_count : (x first top bottom scale times : ℕ) → 0 < bottom → bottom ∣ scale
    → scale * times ≡ first → x * bottom ≡ first * top → x ≡ times * (top * (scale / bottom))
multiple_count x first top bottom scale times positive divides first_is ratio =
    let whole : bottom * (scale / bottom) ≡ scale = mul-div_cancel' bottom divides in
    let left : bottom * x ≡ x * bottom = omega arith in
    let middle : first * top ≡ scale * times * top = ap (λ n. n * top) (sym first_is) in
    let right : scale * times * top ≡ bottom * (scale / bottom) * times * top =
    ap (λ n. n * times * top) (sym whole) in
    let last : bottom * (scale / bottom) * times * top
    ≡ bottom * (times * (top * (scale / bottom))) = omega arith in
    eq_of_mul-eq-mul_left bottom positive x (times * (top * (scale / bottom)))
    (left ∙ ratio ∙ middle ∙ right ∙ last)

pub solution_multiple : (size : ℕ) (equations : List Equation) → All (HasRates size) equations
    → (counts : List ℕ) → Balances size equations counts → 0 < size
    → IsMultiple size equations counts
solution_multiple size equations rates counts balances some =
    let fractions = spread size equations in
    let ratios = spread-ratio size equations rates counts balances in
    let first = count_at counts 0 in
    let scale = scale_from 1 fractions in
    let divides : scale ∣ first = scale_from-least 1 fractions first (omega arith) (one-dvd first)
    (λ node f is. let r = ratios node f is in
    (r.lowest.bottom, lowest_bottom f r.lowest (count_at counts node) first r.ratio)) in
    let first_is : scale * (first / scale) ≡ first = mul-div_cancel' scale divides in
    let positive : 0 < first = balances.positive 0 some in
    record {
      times = first / scale;
      some = pos_of_ne-zero (λ z. let e : scale * (first / scale) ≡ 0 = ap (λ n. scale * n) z
          ∙ omega arith in omega arith);
      is = λ node f is.
          let r = ratios node f is in
          multiple_count (count_at counts node) first f.top f.bottom scale (first / scale)
          r.lowest.bottom (scale_from-each 1 fractions node f is) first_is r.ratio
          ∙ ap (λ n. first / scale * n) (sym
          (counts-at scale fractions node ∙ ap (whole_count scale) is));
    }

known_within : (fractions : Fractions) (node : ℕ) (fraction : Fraction)
    → fraction_at fractions node ≡ Some fraction → node < length fractions
known_within fractions node fraction is =
    elim (cases_lt node (length fractions)) [
      | inl within ↦ within
      | inr past ↦ absurd (none-some fraction (sym (get_or_past fractions node None past) ∙ is))
    ]

option_cases : {X : Type 0} (o : Option X) → (o ≡ None) ⊎ ((x : X) × (o ≡ Some x))
option_cases None = inl refl
option_cases (Some x) = inr (x, refl)

times_le : (x y times : ℕ) → 0 < times → x ≡ times * y → y ≤ x
times_le x y times some is = let h : 1 * y ≤ times * y = mul-le-mul_right y some in omega arith

-- no solution has a lesser count
pub counts-least : (size : ℕ) (equations : List Equation) → All (HasRates size) equations
    → (other : List ℕ) → Balances size equations other → (node : ℕ)
    → count_at (whole_counts (spread size equations)) node ≤ count_at other node
counts-least size equations rates other balances node =
    let fractions = spread size equations in
    let scale = scale_from 1 fractions in
    elim (option_cases (fraction_at fractions node)) [
      | inl none ↦
          let nothing : count_at (whole_counts fractions) node ≡ 0 = counts-at scale fractions node
          ∙ ap (whole_count scale) none in
          omega arith
      | inr known ↦
          let within = known_within fractions node known.0 known.1 in
          let same = spread-length size equations in
          let m = solution_multiple size equations rates other balances (omega arith) in
          times_le (count_at other node) (count_at (whole_counts fractions) node) m.times m.some
          (m.is node known.0 known.1)
    ]

-- each node's count is above 0

counts-positive : (size : ℕ) (equations : List Equation) → All (HasRates size) equations
    → AreConnected size equations → (node : ℕ) → node < size
    → 0 < count_at (whole_counts (spread size equations)) node
counts-positive size equations rates connected node within =
    let fractions = spread size equations in
    let scale = scale_from 1 fractions in
    let lowest = spread-lowest size equations rates in
    let known = spread-known size equations rates connected node within in
    let f = known.0 in
    let positive : 0 < scale = scale_from-positive 1 fractions (omega arith)
    (λ n g is. (lowest n g is).bottom) in
    subst (λ n. 0 < n) (sym (counts-at scale fractions node ∙ ap (whole_count scale) known.1))
    (mul-pos (lowest node f known.1).top
    (quotient_positive scale f.bottom positive (scale_from-each 1 fractions node f known.1)))

-- the equations

unbalanced_head : (test : Bool) (number : ℕ) (rest : Option ℕ) → cond test rest (Some number) ≡ None
    → (test ≡ true) × (rest ≡ None)
unbalanced_head true number rest none = (refl, none)
unbalanced_head false number rest none = absurd (none-some number (sym none))

unbalanced-none : (number : ℕ) (counts : List ℕ) (equations : List Equation)
    → first_unbalanced number counts equations ≡ None → All (IsBalanced counts) equations
unbalanced-none number counts [] none k d within = absurd (omega arith)
unbalanced-none number counts (e ∷ es) none zero d within =
    eqb-true (e.push * count_at counts e.source) (e.pop * count_at counts e.target)
    (unbalanced_head (is_balanced counts e) number (first_unbalanced (suc number) counts es)
    none).0
unbalanced-none number counts (e ∷ es) none (suc k) d within =
    unbalanced-none (suc number) counts es
    (unbalanced_head (is_balanced counts e) number (first_unbalanced (suc number) counts es)
    none).1 k d (omega arith)

-- an equation that doesn't hold
pub record IsUnbalanced (counts : List ℕ) (equations : List Equation) : Type 0 where
  pub equation : Equation
  pub place : ℕ
  pub within : place < length equations
  pub is : get_or equations place equation ≡ equation
  pub unbalanced : is_balanced counts equation ≡ false

unbalanced_some : (test : Bool) (number found : ℕ) (rest : Option ℕ)
    → cond test rest (Some number) ≡ Some found → (test ≡ false) ⊎ (rest ≡ Some found)
unbalanced_some true number found rest is = inr is
unbalanced_some false number found rest is = inl refl

later : (counts : List ℕ) (first : Equation) (rest : List Equation) → IsUnbalanced counts rest
    → IsUnbalanced counts (first ∷ rest)
later counts first rest h = record {
  equation = h.equation;
  place = suc h.place;
  within =
      (let w = h.within in omega arith);
  is = h.is;
  unbalanced = h.unbalanced;
}

unbalanced-some : (number found : ℕ) (counts : List ℕ) (equations : List Equation)
    → first_unbalanced number counts equations ≡ Some found → IsUnbalanced counts equations
unbalanced-some number found counts [] is = absurd (none-some found is)
unbalanced-some number found counts (e ∷ es) is =
    elim (unbalanced_some (is_balanced counts e) number found
    (first_unbalanced (suc number) counts es) is) [
      | inl h ↦ record { equation = e; place = 0; within = omega arith; is = refl; unbalanced = h }
      | inr h ↦ later counts e es (unbalanced-some (suc number) found counts es h)
    ]

-- the promises

-- where no equation fails, the counts are the least solution
pub least_solution : (size : ℕ) (equations : List Equation) → All (HasRates size) equations
    → AreConnected size equations → first_unbalanced 0 (whole_counts (spread size equations))
    equations ≡ None → IsLeast size equations (whole_counts (spread size equations))
least_solution size equations rates connected none = record {
  balances = record {
    each = length-map (spread size equations) (whole_count (scale_from 1 (spread size equations)))
        ∙ spread-length size equations;
    positive = counts-positive size equations rates connected;
    balanced = unbalanced-none 0 (whole_counts (spread size equations)) equations none;
  };
  least = counts-least size equations rates;
}

-- an equation between two multiples holds where it holds between the numbers
times_cancel : (push pop x y source target times : ℕ) → 0 < times → x ≡ times * source
    → y ≡ times * target → push * x ≡ pop * y → push * source ≡ pop * target
times_cancel push pop x y source target times some x_is y_is balanced =
    let left : times * (push * source) ≡ push * (times * source) = omega arith in
    let right : pop * (times * target) ≡ times * (pop * target) = omega arith in
    eq_of_mul-eq-mul_left times some (push * source) (pop * target)
    (left ∙ ap (λ n. push * n) (sym x_is) ∙ balanced ∙ ap (λ n. pop * n) y_is ∙ right)

-- where one fails, there is no solution
pub no_solution : (size found : ℕ) (equations : List Equation) → All (HasRates size) equations
    → AreConnected size equations → first_unbalanced 0 (whole_counts (spread size equations))
    equations ≡ Some found → (counts : List ℕ) → ¬ Balances size equations counts
no_solution size found equations rates connected fails counts balances =
    let own = whole_counts (spread size equations) in
    let h = unbalanced-some 0 found own equations fails in
    let e = h.equation in
    let has : HasRates size e = subst (HasRates size) h.is (rates h.place e h.within) in
    let balanced : IsBalanced counts e =
    subst (IsBalanced counts) h.is (balances.balanced h.place e h.within) in
    let within = has.source in
    let m = solution_multiple size equations rates counts balances (omega arith) in
    let source = spread-known size equations rates connected e.source has.source in
    let target = spread-known size equations rates connected e.target has.target in
    let same : IsBalanced own e =
    times_cancel e.push e.pop (count_at counts e.source) (count_at counts e.target)
    (count_at own e.source) (count_at own e.target) m.times m.some
    (m.is e.source source.0 source.1) (m.is e.target target.0 target.1) balanced in
    false≢true (sym h.unbalanced ∙ eq-eqb (e.push * count_at own e.source)
    (e.pop * count_at own e.target) same)

or_cases : (a b : Bool) → (a || b) ≡ true → (a ≡ true) ⊎ (b ≡ true)
or_cases true b h = inl refl
or_cases false b h = inr h

-- a test that some element of a list passes
list_any-at : {X : Type 0} (test : X → Bool) (xs : List X) → list_any test xs ≡ true
    → (k : ℕ) × (k < length xs) × ((d : X) → test (get_or xs k d) ≡ true)
list_any-at test [] h = absurd (false≢true h)
list_any-at test (x ∷ xs) h =
    elim (or_cases (test x) (list_any test xs) h) [
      | inl here ↦ (0, omega arith, λ d. here)
      | inr there ↦ let found = list_any-at test xs there in
          (suc found.0, (let w = found.1 in omega arith), found.2)
    ]

-- a part or a count above the limit

-- no solution is within the limit
abbrev PassesAll : ℕ → List Equation → Type 0
PassesAll size equations = (counts : List ℕ) → Balances size equations counts
    → ¬ IsWithinLimit counts

large_fraction : (size : ℕ) (equations : List Equation) → All (HasRates size) equations
    → (node : ℕ) (fraction : Fraction) → fraction_at (spread size equations) node ≡ Some fraction
    → fraction_passes (Some fraction) ≡ true → PassesAll size equations
large_fraction size equations rates node f is passes counts balances within =
    let r = spread-ratio size equations rates counts balances node f is in
    let in_range = known_within (spread size equations) node f is in
    let same = spread-length size equations in
    let here : 0 < count_at counts node = balances.positive node (omega arith) in
    let first : 0 < count_at counts 0 = balances.positive 0 (omega arith) in
    let top : f.top ≤ count_at counts node =
    le_of_dvd here (lowest_top f r.lowest (count_at counts node) (count_at counts 0) r.ratio) in
    let bottom : f.bottom ≤ count_at counts 0 =
    le_of_dvd first (lowest_bottom f r.lowest (count_at counts node) (count_at counts 0)
    r.ratio) in
    let here_within = within node in
    let first_within = within 0 in
    elim (or_cases (ltb count_limit f.top) (ltb count_limit f.bottom) passes) [
      | inl h ↦ let above = ltb-true count_limit f.top h in omega arith
      | inr h ↦ let above = ltb-true count_limit f.bottom h in omega arith
    ]

some_fraction : (o : Option Fraction) → fraction_passes o ≡ true → (f : Fraction) × (o ≡ Some f)
some_fraction None h = absurd (false≢true h)
some_fraction (Some f) h = (f, refl)

pub too_large : (size : ℕ) (equations : List Equation) → All (HasRates size) equations
    → is_too_large (spread size equations) ≡ true → (counts : List ℕ)
    → Balances size equations counts → ¬ IsWithinLimit counts
too_large size equations rates large counts balances within =
    let fractions = spread size equations in
    elim (or_cases (list_any fraction_passes fractions) (list_any passes (whole_counts fractions))
    large) [
      | inl h ↦
          let found = list_any-at fraction_passes fractions h in
          let f = some_fraction (fraction_at fractions found.0) (found.2 None) in
          large_fraction size equations rates found.0 f.0 f.1
          (subst (λ o. fraction_passes o ≡ true) f.1 (found.2 None)) counts balances within
      | inr h ↦
          let found = list_any-at passes (whole_counts fractions) h in
          let above = ltb-true count_limit (count_at (whole_counts fractions) found.0) (found.2 0)
          in
          let least = counts-least size equations rates counts balances found.0 in
          let limit = within found.0 in
          omega arith
    ]
