-- The number of turns that is reported for a counted loop is the number after which its condition
-- is false for the first time.
use Rattle.std.proofs.Common.{◌≡◌, refl, sym, subst, ◌∙◌, ap, ℕ, zero, suc, ◌+◌, ◌-◌, ◌*◌, ◌^◌, ◌<◌}
use Rattle.std.proofs.Common.{◌≤◌, ℤ, pos, negsuc, neg_ℤ, ◌+ℤ◌, ◌-ℤ◌, ◌*ℤ◌, Bool, true, false, not}
use Rattle.std.proofs.Common.{◌&&◌, Some, None, ◌⊎◌, inl, inr, ⊎_elim, arith}
use Rattle.std.specs.Prelude.{if◌then◌else◌}
use Rattle.std.specs.Option.{IfSome, option_and_then}
use Rattle.std.specs.Int.{div_ceil}
use Rattle.std.specs.Int.RustNames.{int_lt, FitsSigned}
use Rattle.std.specs.Int.Signed.{◌≤ℤ◌, ◌<ℤ◌}
use Rattle.std.proofs.Math.IntN.{pos-*ℤ-pos, pos-*ℤ-negsuc, zero-*ℤ, +ℤ_idr}
use Rattle.std.proofs.Math.Nat.{mul-le-mul_right}
use Rattle.std.proofs.lemmas.Grind.{div_ceil_times}
use Rattle.std.proofs.lemmas.Bool.Decides.{Decides-int_eq}
use Rattle.std.proofs.lemmas.Int.{ints, int_wrap_fits, SFits-int_wrap}
use mir.Syntax.{w32}
use Rattle.strc_parse_tree.specs.declared.tree.BinaryOperator.{BinaryOperator}
use Rattle.strc_parse_tree.specs.declared.tree.BinaryOperator.TheVariants as binary
use Rattle.strc_work_meaning.specs.Arithmetic.{wrapped}
use Rattle.strc_rate_intervals.specs.declared.loops.Bound.{Bound}
use Rattle.strc_rate_intervals.specs.Loops.{First, Loop, is_order, distance, step_toward_bound}
use Rattle.strc_rate_intervals.specs.Loops.{trip_count, within_32_bits, value_after}
use Rattle.strc_rate_intervals.specs.Loops.{loop_within_i32}
use Rattle.strc_rate_intervals.specs.Loops.{loop_of}

-- whether a comparison holds
abbrev pub compares : BinaryOperator → (value limit : ℤ) → Bool
compares binary.Less value limit = int_lt value limit
compares binary.LessOrEqual value limit = not (int_lt limit value)
compares binary.Greater value limit = int_lt limit value
compares binary.GreaterOrEqual value limit = not (int_lt value limit)
compares _ value limit = false

less_true : (v l : ℤ) (n : ℕ) → l -ℤ v ≡ pos (suc n) → int_lt v l ≡ true
less_true v l n e = grind (arith, ints)

less_false : (v l : ℤ) (k : ℕ) → l -ℤ v ≡ neg_ℤ (pos k) → int_lt v l ≡ false
less_false v l k e = grind (arith, ints)

at_most_true : (v l : ℤ) (n : ℕ) → l -ℤ v +ℤ pos 1 ≡ pos (suc n) → not (int_lt l v) ≡ true
at_most_true v l n e = grind (arith, ints)

at_most_false : (v l : ℤ) (k : ℕ) → l -ℤ v +ℤ pos 1 ≡ neg_ℤ (pos k) → not (int_lt l v) ≡ false
at_most_false v l k e = grind (arith, ints)

-- 32 bits hold what is between two bounds
pub fits_between : (z : ℤ) → neg_ℤ (pos (2 ^ 31)) ≤ℤ z → z <ℤ pos (2 ^ 31) → FitsSigned w32 z
fits_between (pos n) low high = record { sfits = omega (arith, ints) }
fits_between (negsuc n) low high = record { sfits = omega (arith, ints) }

pub fits_above : (z : ℤ) → FitsSigned w32 z → neg_ℤ (pos (2 ^ 31)) ≤ℤ z
fits_above (pos n) fits = let h : n < 2 ^ 31 = fits.sfits in omega (arith, ints)
fits_above (negsuc n) fits = let h : n < 2 ^ 31 = fits.sfits in omega (arith, ints)

pub fits_below : (z : ℤ) → FitsSigned w32 z → z <ℤ pos (2 ^ 31)
fits_below (pos n) fits = let h : n < 2 ^ 31 = fits.sfits in omega (arith, ints)
fits_below (negsuc n) fits = let h : n < 2 ^ 31 = fits.sfits in omega (arith, ints)

between_up : (s : ℤ) (p q : ℕ) → FitsSigned w32 s → FitsSigned w32 (s +ℤ pos q) → p ≤ q
    → FitsSigned w32 (s +ℤ pos p)
between_up s p q f g le =
    let low = fits_above s f in
    let high = fits_below (s +ℤ pos q) g in
    fits_between (s +ℤ pos p) (omega (arith, ints)) (omega (arith, ints))

between_down : (s : ℤ) (p q : ℕ) → FitsSigned w32 s → FitsSigned w32 (s +ℤ neg_ℤ (pos q)) → p ≤ q
    → FitsSigned w32 (s +ℤ neg_ℤ (pos p))
between_down s p q f g le =
    let high = fits_below s f in
    let low = fits_above (s +ℤ neg_ℤ (pos q)) g in
    fits_between (s +ℤ neg_ℤ (pos p)) (omega (arith, ints)) (omega (arith, ints))

-- ---- the distance to where a comparison fails

compares_near : (operator : BinaryOperator) (v l : ℤ) (n : ℕ) → is_order operator ≡ true
    → distance operator v l ≡ pos (suc n) → compares operator v l ≡ true
compares_near binary.Less v l n order e = less_true v l n e
compares_near binary.LessOrEqual v l n order e = at_most_true v l n e
compares_near binary.Greater v l n order e = less_true l v n e
compares_near binary.GreaterOrEqual v l n order e = at_most_true l v n e
compares_near _ v l n order e = absurd (cc)

compares_past : (operator : BinaryOperator) (v l : ℤ) (k : ℕ) → is_order operator ≡ true
    → distance operator v l ≡ neg_ℤ (pos k) → compares operator v l ≡ false
compares_past binary.Less v l k order e = less_false v l k e
compares_past binary.LessOrEqual v l k order e = at_most_false v l k e
compares_past binary.Greater v l k order e = less_false l v k e
compares_past binary.GreaterOrEqual v l k order e = at_most_false l v k e
compares_past _ v l k order e = absurd (cc)

negated_back : (move : ℤ) (m : ℕ) → neg_ℤ move ≡ pos (suc m) → move ≡ negsuc m
negated_back (negsuc n) m e = let same : n ≡ m = cc in ap negsuc same
negated_back (pos zero) m e = absurd (cc)
negated_back (pos (suc n)) m e = absurd (cc)

-- a move towards the end is one way or the other
moves_by : (operator : BinaryOperator) (move : ℤ) (m : ℕ) → is_order operator ≡ true
    → step_toward_bound operator move ≡ pos (suc m) → (move ≡ pos (suc m)) ⊎ (move ≡ negsuc m)
moves_by binary.Less move m order e = inl e
moves_by binary.LessOrEqual move m order e = inl e
moves_by binary.Greater move m order e = inr (negated_back move m e)
moves_by binary.GreaterOrEqual move m order e = inr (negated_back move m e)
moves_by _ move m order e = absurd (cc)

-- so many moves
times_up : (t : ℕ) (move : ℤ) (m : ℕ) → move ≡ pos (suc m) → pos t *ℤ move ≡ pos (t * suc m)
times_up t move m e = ap (λ z. pos t *ℤ z) e ∙ pos-*ℤ-pos t (suc m)

times_down : (t : ℕ) (move : ℤ) (m : ℕ) → move ≡ negsuc m → pos t *ℤ move ≡ neg_ℤ (pos (t * suc m))
times_down t move m e = ap (λ z. pos t *ℤ z) e ∙ pos-*ℤ-negsuc t m

nearer_up : (s l x : ℤ) (p : ℕ) → x ≡ pos p → l -ℤ (s +ℤ x) ≡ (l -ℤ s) -ℤ pos p
nearer_up s l x p e = omega (arith, ints)

nearer_down : (s l x : ℤ) (p : ℕ) → x ≡ neg_ℤ (pos p) → (s +ℤ x) -ℤ l ≡ (s -ℤ l) -ℤ pos p
nearer_down s l x p e = omega (arith, ints)

one_more : (d : ℤ) (p : ℕ) → (d -ℤ pos p) +ℤ pos 1 ≡ (d +ℤ pos 1) -ℤ pos p
one_more d p = omega (arith, ints)

-- each move comes nearer by as much
distance_after : (operator : BinaryOperator) (s l move : ℤ) (t m : ℕ) → is_order operator ≡ true
    → step_toward_bound operator move ≡ pos (suc m)
    → distance operator (s +ℤ pos t *ℤ move) l ≡ distance operator s l -ℤ pos (t * suc m)
distance_after binary.Less s l move t m order e =
    nearer_up s l (pos t *ℤ move) (t * suc m) (times_up t move m e)
distance_after binary.LessOrEqual s l move t m order e =
    ap (λ z. z +ℤ pos 1) (nearer_up s l (pos t *ℤ move) (t * suc m) (times_up t move m e))
    ∙ one_more (l -ℤ s) (t * suc m)
distance_after binary.Greater s l move t m order e =
    nearer_down s l (pos t *ℤ move) (t * suc m) (times_down t move m (negated_back move m e))
distance_after binary.GreaterOrEqual s l move t m order e =
    ap (λ z. z +ℤ pos 1) (nearer_down s l (pos t *ℤ move) (t * suc m)
    (times_down t move m (negated_back move m e))) ∙ one_more (s -ℤ l) (t * suc m)
distance_after _ s l move t m order e = absurd (cc)

-- ---- turns

-- the condition holds in each turn and not after them, and no step wraps
pub record Turning (bound : Bound) (move : ℤ) (loop : Loop) : Type 0 where
  pub holds : (t : ℕ) → t < loop.turns → compares bound.operator (value_after loop t) bound.limit
      ≡ true
  pub ends : compares bound.operator (value_after loop loop.turns) bound.limit ≡ false
  pub steps : (t : ℕ) → t < loop.turns → wrapped (value_after loop t +ℤ move)
      ≡ value_after loop (t + 1)
  pub moves : loop.move ≡ move

pub within_fits : (z : ℤ) → within_32_bits z ≡ true → FitsSigned w32 z
within_fits z e = subst (FitsSigned w32) ((Decides-int_eq (wrapped z) z).0 e) (SFits-int_wrap w32 z)

kept_by : (loop : Loop) (P : Loop → Type 0) (a b : Bool) → within_32_bits loop.start ≡ a
    → within_32_bits (value_after loop loop.turns) ≡ b
    → (FitsSigned w32 loop.start → FitsSigned w32 (value_after loop loop.turns) → P loop)
    → IfSome (if a && b then Some loop else None) P
kept_by loop P true true e f h = h (within_fits loop.start e)
    (within_fits (value_after loop loop.turns) f)
kept_by loop P true false e f h = tt
kept_by loop P false b e f h = tt

kept : (loop : Loop) (P : Loop → Type 0) → (FitsSigned w32 loop.start
    → FitsSigned w32 (value_after loop loop.turns) → P loop) → IfSome (loop_within_i32 loop) P
kept loop P h = kept_by loop P (within_32_bits loop.start)
    (within_32_bits (value_after loop loop.turns)) refl refl h

pub no_moves : (s move : ℤ) → s +ℤ pos 0 *ℤ move ≡ s
no_moves s move = ap (λ z. s +ℤ z) (zero-*ℤ move) ∙ +ℤ_idr s

-- a loop whose condition is false at once
no_turns : (first : First) (bound : Bound) (move : ℤ) (k : ℕ) → is_order bound.operator ≡ true
    → distance bound.operator first.value bound.limit ≡ neg_ℤ (pos k)
    → Turning bound move (record { name = first.name; start = first.value; move = move; turns = 0 })
no_turns first bound move k order e = record {
  holds = λ t lt. absurd (omega arith);
  ends = ap (λ v. compares bound.operator v bound.limit) (no_moves first.value move)
      ∙ compares_past bound.operator first.value bound.limit k order e;
  steps = λ t lt. absurd (omega arith);
  moves = refl;
}

left_over : (n p : ℕ) → p < suc n → pos (suc n) -ℤ pos p ≡ pos (suc (n - p))
left_over n p lt = omega (arith, ints)

gone : (n p : ℕ) → suc n ≤ p → pos (suc n) -ℤ pos p ≡ neg_ℤ (pos (p - suc n))
gone n p le = omega (arith, ints)

-- a step between two values that 32 bits hold
step_by : (s x y move : ℤ) (p q r m : ℕ) → (move ≡ pos (suc m)) → x ≡ pos p → y ≡ pos q
    → q ≡ p + suc m → q ≤ r → FitsSigned w32 s → FitsSigned w32 (s +ℤ pos r)
    → wrapped (s +ℤ x +ℤ move) ≡ s +ℤ y
step_by s x y move p q r m is_move is_x is_y next le f g =
    let sum : s +ℤ x +ℤ move ≡ s +ℤ pos q = omega (arith, ints) in
    ap wrapped sum ∙ (int_wrap_fits w32 (s +ℤ pos q) (between_up s q r f g le)
    ∙ ap (λ z. s +ℤ z) (sym is_y))

step_down_by : (s x y move : ℤ) (p q r m : ℕ) → (move ≡ negsuc m) → x ≡ neg_ℤ (pos p)
    → y ≡ neg_ℤ (pos q) → q ≡ p + suc m → q ≤ r → FitsSigned w32 s
    → FitsSigned w32 (s +ℤ neg_ℤ (pos r)) → wrapped (s +ℤ x +ℤ move) ≡ s +ℤ y
step_down_by s x y move p q r m is_move is_x is_y next le f g =
    let sum : s +ℤ x +ℤ move ≡ s +ℤ neg_ℤ (pos q) = omega (arith, ints) in
    ap wrapped sum ∙ (int_wrap_fits w32 (s +ℤ neg_ℤ (pos q)) (between_down s q r f g le)
    ∙ ap (λ z. s +ℤ z) (sym is_y))

-- a loop with turns
some_turns : (first : First) (bound : Bound) (move : ℤ) (n m : ℕ) → is_order bound.operator ≡ true
    → distance bound.operator first.value bound.limit ≡ pos (suc n)
    → step_toward_bound bound.operator move ≡ pos (suc m) → FitsSigned w32 first.value
    → FitsSigned w32 (value_after (record
    { name = first.name; start = first.value; move = move; turns = div_ceil (suc n) (suc m) })
    (div_ceil (suc n) (suc m))) → Turning bound move
    (record {
      name = first.name;
      start = first.value;
      move = move;
      turns =
          div_ceil (suc n) (suc m);
    })
some_turns first bound move n m order far near f g =
    let turns = div_ceil (suc n) (suc m) in
    let sizes = div_ceil_times (suc n) (suc m) (omega arith) in
    let enough : suc n ≤ turns * suc m = sizes.0 in
    let few : turns * suc m < suc n + suc m = sizes.1 in
    let next : (t : ℕ) → (t + 1) * suc m ≡ t * suc m + suc m = λ t. omega arith in
    let most : (t : ℕ) → t < turns → (t + 1) * suc m ≤ turns * suc m =
    λ t lt. mul-le-mul_right (suc m) (omega arith) in
    let here : (t : ℕ) → distance bound.operator (first.value +ℤ pos t *ℤ move) bound.limit
    ≡ pos (suc n) -ℤ pos (t * suc m) =
    λ t. distance_after bound.operator first.value bound.limit move t m order near
    ∙ ap (λ z. z -ℤ pos (t * suc m)) far in
    record {
      holds = λ t lt.
          compares_near bound.operator (first.value +ℤ pos t *ℤ move) bound.limit
          (n - t * suc m) order
          (here t ∙ left_over n (t * suc m) (omega (arith, next t, most t lt)));
      ends =
          compares_past bound.operator (first.value +ℤ pos turns *ℤ move) bound.limit
          (turns * suc m - suc n) order
          (here turns ∙ gone n (turns * suc m) enough);
      steps = λ t lt.
          ⊎_elim
          (λ (up : move ≡ pos (suc m)).
          step_by first.value (pos t *ℤ move) (pos (t + 1) *ℤ move) move (t * suc m)
          ((t + 1) * suc m) (turns * suc m) m up (times_up t move m up)
          (times_up (t + 1) move m up) (next t) (most t lt) f
          (subst (λ z. FitsSigned w32 (first.value +ℤ z)) (times_up turns move m up) g))
          (λ (down : move ≡ negsuc m).
          step_down_by first.value (pos t *ℤ move) (pos (t + 1) *ℤ move) move (t * suc m)
          ((t + 1) * suc m) (turns * suc m) m down (times_down t move m down)
          (times_down (t + 1) move m down) (next t) (most t lt) f
          (subst (λ z. FitsSigned w32 (first.value +ℤ z)) (times_down turns move m down) g))
          (moves_by bound.operator move m order near);
      moves = refl;
    }

-- what is known of a loop is so
pub record IsSoundLoop (first : First) (bound : Bound) (move : ℤ) (loop : Loop) : Type 0 where
  pub turning : Turning bound move loop
  pub name : loop.name ≡ first.name
  pub start : loop.start ≡ first.value

sound_by : (first : First) (bound : Bound) (move far near : ℤ) → is_order bound.operator ≡ true
    → distance bound.operator first.value bound.limit ≡ far
    → step_toward_bound bound.operator move ≡ near
    → IfSome (option_and_then (λ turns. loop_within_i32
    (record { name = first.name; start = first.value; move = move; turns = turns }))
    (trip_count far near)) (IsSoundLoop first bound move)
sound_by first bound move (negsuc n) near order e f =
    kept (record { name = first.name; start = first.value; move = move; turns = 0 })
    (IsSoundLoop first bound move)
    (λ g h. record {
      turning = no_turns first bound move (suc n) order e;
      name = refl;
      start =
          refl;
    })
sound_by first bound move (pos zero) near order e f =
    kept (record { name = first.name; start = first.value; move = move; turns = 0 })
    (IsSoundLoop first bound move)
    (λ g h. record { turning = no_turns first bound move 0 order e; name = refl; start = refl })
sound_by first bound move (pos (suc n)) (pos (suc m)) order e f =
    kept (record {
      name = first.name;
      start = first.value;
      move = move;
      turns =
          div_ceil (suc n) (suc m);
    }) (IsSoundLoop first bound move)
    (λ g h. record {
      turning = some_turns first bound move n m order e f g h;
      name = refl;
      start =
          refl;
    })
sound_by first bound move (pos (suc n)) (pos zero) order e f = tt
sound_by first bound move (pos (suc n)) (negsuc m) order e f = tt

pub loop_sound : (first : First) (bound : Bound) (move : ℤ) → is_order bound.operator ≡ true
    → IfSome (loop_of first bound move) (IsSoundLoop first bound move)
loop_sound first bound move order =
    sound_by first bound move (distance bound.operator first.value bound.limit)
    (step_toward_bound bound.operator move) order refl refl
