-- Greatest common divisors, least common multiples and lowest terms: what their definitions compute
-- is what their names say.
use Rattle.std.proofs.Common.{◌≡◌, ◌≢◌, ℕ, zero, suc, ◌+◌, ◌*◌, ◌/◌, ◌%◌, ◌<◌, Bool, true, false}
use Rattle.std.proofs.Common.{cond, eqb, sym, ap, subst, ◌∙◌, refl, arith}
use Rattle.std.specs.Int.{IsGcd, ◌∣◌}
use Rattle.std.proofs.lemmas.Bool.{eqb-true, eq-eqb, false≢true}
use Rattle.std.proofs.lemmas.Nat.{div-add-mod'}
use Rattle.std.proofs.lemmas.Nat.Gcd.{IsGcd-from_zero, IsGcd-from_mod, IsGcd-swap, same_from_IsGcd}
use Rattle.std.proofs.Math.Nat.{dvd-mul_left, dvd-mul_right, dvd-mul_right_of_dvd}
use Rattle.std.proofs.Math.Nat.{dvd-add_iff_right, dvd_of_mul-dvd-mul_left, mul-dvd-mul_left}
use Rattle.std.proofs.Math.Nat.{mul-div_cancel', eq_of_mul-eq-mul_left, mul_left_comm, mod-lt}
use Rattle.std.proofs.Math.Nat.{pos_of_dvd_of_pos, mul-pos, pos_of_ne-zero}
use Rattle.strc_balance.specs.declared.fraction.Fraction.{Fraction}
use Rattle.strc_balance.specs.Divisors.{divisor_within, divisor, multiple, lowest_terms}

-- the greatest common divisor

divisor_step : (test : Bool) (a b d : ℕ) → eqb b 0 ≡ test → (b ≢ 0 → IsGcd b (a % b) d)
    → IsGcd a b (cond test a d)
divisor_step true a b d e h = IsGcd-from_zero a b (eqb-true b 0 e)
divisor_step false a b d e h = IsGcd-from_mod a b d (h (λ z. false≢true (sym e ∙ eq-eqb b 0 z)))

divisor_within-is : (steps a b : ℕ) → b < steps → IsGcd a b (divisor_within steps a b)
divisor_within-is zero a b h = absurd (omega arith)
divisor_within-is (suc steps) a b h =
    divisor_step (eqb b 0) a b (divisor_within steps b (a % b)) refl
    (λ some. divisor_within-is steps b (a % b)
    (let below : a % b < b = mod-lt a (pos_of_ne-zero some) in omega arith))

pub divisor-is : (a b : ℕ) → IsGcd a b (divisor a b)
unfolding divisor
divisor-is a b = divisor_within-is (b + 1) a b (omega arith)

pub divisor_unique : (a b g : ℕ) → IsGcd a b g → g ≡ divisor a b
divisor_unique a b g h = same_from_IsGcd a b g (divisor a b) h (divisor-is a b)

-- that of multiples

scaled_mod : (k a b g : ℕ) → IsGcd (k * b) (k * (a % b)) g → IsGcd (k * a) (k * b) g
scaled_mod k a b g h =
    let e : k * a ≡ k * b * (a / b) + k * (a % b) =
    omega (arith, ap (λ n. k * n) (div-add-mod' a b)) in (
      subst (λ n. g ∣ n) (sym e) ((dvd-add_iff_right g (dvd-mul_right_of_dvd g h.0 (a / b))).0 h.1),
      h.0,
      λ d p q. h.2 d q ((dvd-add_iff_right d (dvd-mul_right_of_dvd d q (a / b))).1
          (subst (λ n. d ∣ n) e p)),
    )

scaled_step : (test : Bool) (k a b d : ℕ) → eqb b 0 ≡ test
    → (b ≢ 0 → IsGcd (k * b) (k * (a % b)) (k * d)) → IsGcd (k * a) (k * b) (k * cond test a d)
scaled_step true k a b d e h = IsGcd-from_zero (k * a) (k * b)
    (omega (arith, ap (λ n. k * n) (eqb-true b 0 e)))
scaled_step false k a b d e h = scaled_mod k a b (k * d)
    (h (λ z. false≢true (sym e ∙ eq-eqb b 0 z)))

scaled_within : (steps k a b : ℕ) → b < steps → IsGcd (k * a) (k * b) (k * divisor_within steps a b)
scaled_within zero k a b h = absurd (omega arith)
scaled_within (suc steps) k a b h =
    scaled_step (eqb b 0) k a b (divisor_within steps b (a % b)) refl
    (λ some. scaled_within steps k b (a % b)
    (let below : a % b < b = mod-lt a (pos_of_ne-zero some) in omega arith))

scaled_divisor : (k a b : ℕ) → IsGcd (k * a) (k * b) (k * divisor a b)
unfolding divisor
scaled_divisor k a b = scaled_within (b + 1) k a b (omega arith)

-- no common divisor but 1
abbrev pub IsCoprime : ℕ → ℕ → Type 0
IsCoprime a b = IsGcd a b 1

-- what divides a product and has no divisor in common with one factor divides the other
pub coprime_divides : (d a k : ℕ) → IsCoprime d a → d ∣ k * a → d ∣ k
coprime_divides d a k coprime h =
    let unit : 1 ≡ divisor d a = divisor_unique d a 1 coprime in
    let both : d ∣ k * divisor d a = (scaled_divisor k d a).2 d (dvd-mul_left d k) h in
    subst (λ n. d ∣ n) (ap (λ n. k * n) (sym unit) ∙ omega arith) both

pub divisor_positive : (a b : ℕ) → 0 < a → 0 < divisor a b
divisor_positive a b h = pos_of_dvd_of_pos (divisor-is a b).0 h

-- without their greatest common divisor, two numbers have none but 1
pub reduced_coprime : (a b : ℕ) → 0 < a → IsCoprime (a / divisor a b) (b / divisor a b)
reduced_coprime a b h =
    let g = divisor a b in
    let is = divisor-is a b in
    let first : g * (a / g) ≡ a = mul-div_cancel' g is.0 in
    let second : g * (b / g) ≡ b = mul-div_cancel' g is.1 in
    let inner = divisor (a / g) (b / g) in
    let scaled : IsGcd a b (g * inner) =
    subst (λ n. IsGcd n b (g * inner)) first
    (subst (λ n. IsGcd (g * (a / g)) n (g * inner)) second (scaled_divisor g (a / g) (b / g)))
    in
    let same : g * inner ≡ g * 1 = divisor_unique a b (g * inner) scaled ∙ omega arith in
    let unit : inner ≡ 1 = eq_of_mul-eq-mul_left g (divisor_positive a b h) inner 1 same in
    subst (λ n. IsGcd (a / g) (b / g) n) unit (divisor-is (a / g) (b / g))

-- least common multiples

pub multiple-left : (a b : ℕ) → a ∣ multiple a b
unfolding multiple
multiple-left a b = dvd-mul_right a (b / divisor a b)

multiple-turned : (a b : ℕ) → multiple a b ≡ a / divisor a b * b
unfolding multiple
multiple-turned a b =
    let g = divisor a b in
    let first : g * (a / g) ≡ a = mul-div_cancel' g (divisor-is a b).0 in
    let second : g * (b / g) ≡ b = mul-div_cancel' g (divisor-is a b).1 in
    ap (λ n. n * (b / g)) (sym first) ∙ omega arith ∙ ap (λ n. a / g * n) second

pub multiple-right : (a b : ℕ) → b ∣ multiple a b
multiple-right a b = subst (λ n. b ∣ n) (sym (multiple-turned a b))
    (dvd-mul_left b (a / divisor a b))

pub multiple-least : (a b m : ℕ) → 0 < a → a ∣ m → b ∣ m → multiple a b ∣ m
unfolding multiple
multiple-least a b m positive p q =
    let g = divisor a b in
    let x = m / a in
    let first : g * (a / g) ≡ a = mul-div_cancel' g (divisor-is a b).0 in
    let second : g * (b / g) ≡ b = mul-div_cancel' g (divisor-is a b).1 in
    let whole : a * x ≡ m = mul-div_cancel' a p in
    let scaled : m ≡ g * (x * (a / g)) = sym whole ∙ ap (λ n. n * x) (sym first) ∙ omega arith in
    let divides : g * (b / g) ∣ g * (x * (a / g)) =
    subst (λ n. g * (b / g) ∣ n) scaled (subst (λ n. n ∣ m) (sym second) q) in
    let inner : b / g ∣ x * (a / g) = dvd_of_mul-dvd-mul_left (b / g)
    (divisor_positive a b positive) divides in
    let last : b / g ∣ x = coprime_divides (b / g) (a / g) x
    (IsGcd-swap (a / g) (b / g) 1 (reduced_coprime a b positive)) inner in
    subst (λ n. a * (b / g) ∣ n) whole (mul-dvd-mul_left (b / g) a last)

pub multiple_positive : (a b : ℕ) → 0 < a → 0 < b → 0 < multiple a b
unfolding multiple
multiple_positive a b p q =
    let g = divisor a b in
    let second : g * (b / g) ≡ b = mul-div_cancel' g (divisor-is a b).1 in
    mul-pos p (pos_of_ne-zero (λ z. let e : g * (b / g) ≡ 0 = ap (λ n. g * n) z
    ∙ omega arith in omega arith))

-- lowest terms

-- a fraction above 0 in lowest terms
pub record IsLowest (fraction : Fraction) : Type 0 where
  pub top : 0 < fraction.top
  pub bottom : 0 < fraction.bottom
  pub coprime : IsCoprime fraction.top fraction.bottom

pub quotient_positive : (a g : ℕ) → 0 < a → g ∣ a → 0 < a / g
quotient_positive a g h d = pos_of_ne-zero
    (λ z. let e : g * (a / g) ≡ a = mul-div_cancel' g d in let zero_product : g * (a / g) ≡ 0 =
    ap (λ n. g * n) z ∙ omega arith in omega arith)

pub lowest_terms-is : (top bottom : ℕ) → 0 < top → 0 < bottom → IsLowest (lowest_terms top bottom)
unfolding lowest_terms
lowest_terms-is top bottom p q = record {
  top = quotient_positive top (divisor top bottom) p (divisor-is top bottom).0;
  bottom = quotient_positive bottom (divisor top bottom) q (divisor-is top bottom).1;
  coprime = reduced_coprime top bottom p;
}

-- numbers in the ratio of a fraction's parts are in that of its lowest terms
pub lowest_terms-same : (top bottom x y : ℕ) → 0 < top → x * bottom ≡ y * top
    → x * (lowest_terms top bottom).bottom ≡ y * (lowest_terms top bottom).top
unfolding lowest_terms
lowest_terms-same top bottom x y positive h =
    let g = divisor top bottom in
    let first : g * (top / g) ≡ top = mul-div_cancel' g (divisor-is top bottom).0 in
    let second : g * (bottom / g) ≡ bottom = mul-div_cancel' g (divisor-is top bottom).1 in
    let scaled : g * (x * (bottom / g)) ≡ g * (y * (top / g)) =
    mul_left_comm g x (bottom / g) ∙ ap (λ n. x * n) second ∙ h ∙ ap (λ n. y * n) (sym first)
    ∙ mul_left_comm y g (top / g) in
    eq_of_mul-eq-mul_left g (divisor_positive top bottom positive) (x * (bottom / g))
    (y * (top / g)) scaled

-- of numbers in such a ratio each is a multiple of its part
pub lowest_top : (fraction : Fraction) → IsLowest fraction → (x y : ℕ)
    → x * fraction.bottom ≡ y * fraction.top → fraction.top ∣ x
lowest_top fraction is x y h = coprime_divides fraction.top fraction.bottom x is.coprime
    (subst (λ n. fraction.top ∣ n) (sym h) (dvd-mul_left fraction.top y))

pub lowest_bottom : (fraction : Fraction) → IsLowest fraction → (x y : ℕ)
    → x * fraction.bottom ≡ y * fraction.top → fraction.bottom ∣ y
lowest_bottom fraction is x y h =
    coprime_divides fraction.bottom fraction.top y
    (IsGcd-swap fraction.top fraction.bottom 1 is.coprime)
    (subst (λ n. fraction.bottom ∣ n) h (dvd-mul_left fraction.bottom x))

-- by any greatest common divisor
pub lowest_terms-by : (top bottom g : ℕ) → IsGcd top bottom g
    → lowest_terms top bottom ≡ record { top = top / g; bottom = bottom / g }
unfolding lowest_terms
lowest_terms-by top bottom g is =
    let quotients : ℕ → Fraction = λ n. record { top = top / n; bottom = bottom / n } in
    ap quotients (sym (divisor_unique top bottom g is))

pub multiple-by : (a b g : ℕ) → IsGcd a b g → a * (b / g) ≡ multiple a b
unfolding multiple
multiple-by a b g is = ap (λ n. a * (b / n)) (divisor_unique a b g is)
