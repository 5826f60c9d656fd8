-- An expression of a known interval has a value within it, and changes nothing.
use Rattle.std.proofs.Common.{◌≡◌, refl, sym, subst, ◌∙◌, ap, ℕ, zero, suc, ◌+◌, ◌*◌, ℤ, pos}
use Rattle.std.proofs.Common.{negsuc, neg_ℤ, ◌+ℤ◌, ◌-ℤ◌, ◌*ℤ◌, Bool, true, false, ◌&&◌, List}
use Rattle.std.proofs.Common.{Option, Some, None, Result, Ok, arith}
use Rattle.std.specs.Prelude.{if◌then◌else◌}
use Rattle.std.specs.Option.{IfSome, option_and_then, option_map}
use Rattle.std.specs.Int.{int_min, int_max}
use Rattle.std.specs.Int.RustNames.{FitsSigned}
use Rattle.std.specs.Int.Signed.{◌≤ℤ◌, ≤ℤ_refl}
use Rattle.std.proofs.Math.IntN.{suc_ℤ-*ℤ, +ℤ_idr, +ℤ-suc_ℤ, *ℤ_comm}
use Rattle.std.proofs.lemmas.Int.{ints, clamps, int_wrap_fits}
use mir.Syntax.{w32}
use Rattle.strc_lex_names.specs.Results.{result_and_then}
use Rattle.strc_parse_tree.specs.Tree as tree
use Rattle.strc_parse_tree.specs.declared.tree.UnaryOperator.{UnaryOperator}
use Rattle.strc_parse_tree.specs.declared.tree.UnaryOperator.TheVariants as unary
use Rattle.strc_parse_tree.specs.declared.tree.BinaryOperator.{BinaryOperator}
use Rattle.strc_parse_tree.specs.declared.tree.BinaryOperator.TheVariants as binary
use Rattle.strc_work_meaning.specs.declared.fault.Cause.{Cause}
use Rattle.strc_work_meaning.specs.Arithmetic.{wrapped, unary_value, binary_value}
use Rattle.strc_work_meaning.specs.Firing.{Setting, Store, value_in, value_of, joined}
use Rattle.strc_rate_intervals.specs.Constant.{constant}
use Rattle.strc_rate_intervals.specs.Loops.{within_32_bits}
use Rattle.strc_rate_intervals.specs.declared.interval.Interval.{Interval}
use Rattle.strc_rate_intervals.specs.Intervals.{Intervals, interval_named, known}
use Rattle.strc_rate_intervals.specs.Intervals.{interval_negated, intervals_added}
use Rattle.strc_rate_intervals.specs.Intervals.{intervals_subtracted}
use Rattle.strc_rate_intervals.specs.Intervals.{intervals_multiplied, unary_interval}
use Rattle.strc_rate_intervals.specs.Intervals.{binary_interval}
use Rattle.strc_rate_intervals.specs.Intervals.{singleton, or_else, interval_of}
use Rattle.strc_rate.proofs.LoopTurns.{fits_between, fits_above, fits_below, within_fits}
use Rattle.strc_rate.proofs.LoopParts.{constant_done}

abbrev pub Within : Interval → ℤ → Type 0
Within interval value = (interval.low ≤ℤ value) × (value ≤ℤ interval.high)

-- ---- products

-- a number is a smaller one and a natural number more
gap_by : (a x d : ℤ) → x -ℤ a ≡ d → a ≤ℤ x → (k : ℕ) × (x ≡ a +ℤ pos k)
gap_by a x (pos k) e le = (k, omega (arith, ints))
gap_by a x (negsuc k) e le = absurd (omega (arith, ints))

gap : (a x : ℤ) → a ≤ℤ x → (k : ℕ) × (x ≡ a +ℤ pos k)
gap a x le = gap_by a x (x -ℤ a) refl le

-- a factor that is greater by so much
more_up : (a y : ℤ) (k m : ℕ) → y ≡ pos m → (a +ℤ pos k) *ℤ y ≡ a *ℤ y +ℤ pos (k * m)
more_up a y zero m e = ap (λ z. z *ℤ y) (+ℤ_idr a) ∙ none_more (a *ℤ y) (0 * m) (omega arith)
  where
    none_more : (z : ℤ) (n : ℕ) → n ≡ 0 → z ≡ z +ℤ pos n
    none_more z n f = omega (arith, ints)
more_up a y (suc k) m e =
    ap (λ z. z *ℤ y) (+ℤ-suc_ℤ a (pos k)) ∙ suc_ℤ-*ℤ (a +ℤ pos k) y
    ∙ sums (a *ℤ y) ((a +ℤ pos k) *ℤ y) (k * m) (suc k * m) (more_up a y k m e) (omega arith)
  where
    sums : (p q : ℤ) (n l : ℕ) → q ≡ p +ℤ pos n → l ≡ n + m → q +ℤ y ≡ p +ℤ pos l
    sums p q n l h next = omega (arith, ints)

more_down : (a y : ℤ) (k m : ℕ) → y ≡ neg_ℤ (pos m)
    → (a +ℤ pos k) *ℤ y ≡ a *ℤ y +ℤ neg_ℤ (pos (k * m))
more_down a y zero m e = ap (λ z. z *ℤ y) (+ℤ_idr a) ∙ none_more (a *ℤ y) (0 * m) (omega arith)
  where
    none_more : (z : ℤ) (n : ℕ) → n ≡ 0 → z ≡ z +ℤ neg_ℤ (pos n)
    none_more z n f = omega (arith, ints)
more_down a y (suc k) m e =
    ap (λ z. z *ℤ y) (+ℤ-suc_ℤ a (pos k)) ∙ suc_ℤ-*ℤ (a +ℤ pos k) y
    ∙ sums (a *ℤ y) ((a +ℤ pos k) *ℤ y) (k * m) (suc k * m) (more_down a y k m e) (omega arith)
  where
    sums : (p q : ℤ) (n l : ℕ) → q ≡ p +ℤ neg_ℤ (pos n) → l ≡ n + m → q +ℤ y ≡ p +ℤ neg_ℤ (pos l)
    sums p q n l h next = omega (arith, ints)

-- a product with a factor between two numbers is between the products with those
abbrev pub Between : (z p q : ℤ) → Type 0
Between z p q = (int_min p q ≤ℤ z) × (z ≤ℤ int_max p q)

pub between_up : (p q z : ℤ) (m n : ℕ) → z ≡ p +ℤ pos m → q ≡ z +ℤ pos n → Between z p q
between_up p q z m n e f = (omega (arith, ints, clamps), omega (arith, ints, clamps))

pub between_down : (p q z : ℤ) (m n : ℕ) → z ≡ p +ℤ neg_ℤ (pos m) → q ≡ z +ℤ neg_ℤ (pos n)
    → Between z p q
between_down p q z m n e f = (omega (arith, ints, clamps), omega (arith, ints, clamps))

first_between : (x a b y : ℤ) → a ≤ℤ x → x ≤ℤ b → Between (x *ℤ y) (a *ℤ y) (b *ℤ y)
first_between x a b (pos m) low high =
    let below = gap a x low in
    let above = gap x b high in
    between_up (a *ℤ pos m) (b *ℤ pos m) (x *ℤ pos m) (below.0 * m) (above.0 * m)
    (ap (λ z. z *ℤ pos m) below.1 ∙ more_up a (pos m) below.0 m refl)
    (ap (λ z. z *ℤ pos m) above.1 ∙ more_up x (pos m) above.0 m refl)
first_between x a b (negsuc n) low high =
    let below = gap a x low in
    let above = gap x b high in
    between_down (a *ℤ negsuc n) (b *ℤ negsuc n) (x *ℤ negsuc n) (below.0 * suc n) (above.0 * suc n)
    (ap (λ z. z *ℤ negsuc n) below.1 ∙ more_down a (negsuc n) below.0 (suc n) refl)
    (ap (λ z. z *ℤ negsuc n) above.1 ∙ more_down x (negsuc n) above.0 (suc n) refl)

second_between : (x y c d : ℤ) → c ≤ℤ y → y ≤ℤ d → Between (x *ℤ y) (x *ℤ c) (x *ℤ d)
second_between x y c d low high =
    subst (λ z. Between z (x *ℤ c) (x *ℤ d)) (*ℤ_comm y x)
    (subst (λ z. Between (y *ℤ x) z (x *ℤ d)) (*ℤ_comm c x)
    (subst (λ z. Between (y *ℤ x) (c *ℤ x) z) (*ℤ_comm d x) (first_between y c d x low high)))

all_between : (z p q p1 p2 q1 q2 : ℤ) → Between z p q → Between p p1 p2 → Between q q1 q2
    → (int_min (int_min p1 p2) (int_min q1 q2) ≤ℤ z)
    × (z ≤ℤ int_max (int_max p1 p2) (int_max q1 q2))
all_between z p q p1 p2 q1 q2 h k l =
    let low = h.0 in
    let high = h.1 in
    let p_low = k.0 in
    let p_high = k.1 in
    let q_low = l.0 in
    let q_high = l.1 in
    (omega (arith, ints, clamps), omega (arith, ints, clamps))

product_within : (first second : Interval) (x y : ℤ) → Within first x → Within second y
    → (int_min (int_min (first.low *ℤ second.low) (first.low *ℤ second.high))
    (int_min (first.high *ℤ second.low) (first.high *ℤ second.high)) ≤ℤ (x *ℤ y))
    × ((x *ℤ y) ≤ℤ int_max (int_max (first.low *ℤ second.low) (first.low *ℤ second.high))
    (int_max (first.high *ℤ second.low) (first.high *ℤ second.high)))
product_within first second x y h k =
    all_between (x *ℤ y) (first.low *ℤ y) (first.high *ℤ y) (first.low *ℤ second.low)
    (first.low *ℤ second.high) (first.high *ℤ second.low) (first.high *ℤ second.high)
    (first_between x first.low first.high y h.0 h.1)
    (second_between first.low y second.low second.high k.0 k.1)
    (second_between first.high y second.low second.high k.0 k.1)

-- ---- values

-- the value of an expression is within an interval, and nothing changes
pub record IsWithin (setting : Setting) (e : tree.Expr) (store : Store)
    (interval : Interval) : Type 0 where
  pub value : ℤ
  pub done : value_of setting e store ≡ Ok (value, store)
  pub within : Within interval value

-- each known interval holds of the value of its variable
abbrev pub Holds : Intervals → Store → Type 0
Holds intervals store = (name : List ℕ) → IfSome (interval_named intervals name)
    (λ interval. Within interval (value_in store name))

abbrev pub IsSound : Intervals → tree.Expr → Interval → Type 0
IsSound intervals e interval = (setting : Setting) (store : Store) → Holds intervals store
    → IsWithin setting e store interval

known_by : (interval : Interval) (P : Interval → Type 0) (a b : Bool)
    → within_32_bits interval.low ≡ a → within_32_bits interval.high ≡ b
    → (FitsSigned w32 interval.low → FitsSigned w32 interval.high → P interval)
    → IfSome (if a && b then Some interval else None) P
known_by interval P true true e f h = h (within_fits interval.low e) (within_fits interval.high f)
known_by interval P true false e f h = tt
known_by interval P false b e f h = tt

known_sound : (interval : Interval) (P : Interval → Type 0)
    → (FitsSigned w32 interval.low → FitsSigned w32 interval.high → P interval)
    → IfSome (known interval) P
known_sound interval P h = known_by interval P (within_32_bits interval.low)
    (within_32_bits interval.high) refl refl h

-- what is between numbers of 32 bits doesn't wrap
unwrapped : (low high z : ℤ) → FitsSigned w32 low → FitsSigned w32 high → low ≤ℤ z → z ≤ℤ high
    → wrapped z ≡ z
unwrapped low high z f g above below =
    let least = fits_above low f in
    let most = fits_below high g in
    int_wrap_fits w32 z (fits_between z (omega (arith, ints)) (omega (arith, ints)))

singleton_sound : (intervals : Intervals) (e : tree.Expr) (v : ℤ) → constant e ≡ Some v
    → IsSound intervals e (singleton v)
singleton_sound intervals e v is setting store holds =
    record { value = v; done = constant_done setting e store v is; within = (≤ℤ_refl v, ≤ℤ_refl v) }

or_sound : (intervals : Intervals) (e : tree.Expr) (given : Option ℤ) (other : Option Interval)
    → constant e ≡ given → IfSome other (IsSound intervals e)
    → IfSome (or_else given other) (IsSound intervals e)
or_sound intervals e None other is h = h
or_sound intervals e (Some v) other is h = singleton_sound intervals e v is

read_sound : (intervals : Intervals) (name : List ℕ) (interval : Option Interval)
    → interval_named intervals name ≡ interval
    → IfSome interval (IsSound intervals (tree.Read name))
read_sound intervals name None is = tt
read_sound intervals name (Some interval) is =
    λ setting store holds.
    record {
      value = value_in store name;
      done = refl;
      within =
          subst (λ r. IfSome r (λ interval. Within interval (value_in store name))) is (holds name);
    }

negated_sound : (intervals : Intervals) (e : tree.Expr) (interval : Interval)
    → IsSound intervals e interval → IfSome (interval_negated interval)
    (IsSound intervals (tree.Unary unary.Negate e))
negated_sound intervals e interval reported =
    known_sound (record { low = neg_ℤ interval.high; high = neg_ℤ interval.low })
    (IsSound intervals (tree.Unary unary.Negate e))
    (λ f g setting store holds.
    let h = reported setting store holds in
    let low = h.within.0 in
    let high = h.within.1 in
    let above : neg_ℤ interval.high ≤ℤ neg_ℤ h.value = omega (arith, ints) in
    let below : neg_ℤ h.value ≤ℤ neg_ℤ interval.low = omega (arith, ints) in
    record {
      value = neg_ℤ h.value;
      done = ap (λ r. result_and_then {B = ℤ × Store} r
          (λ right. Ok (unary_value unary.Negate right.0, right.1))) h.done
          ∙ ap (λ v. Ok (v, store)) (unwrapped (neg_ℤ interval.high) (neg_ℤ interval.low)
          (neg_ℤ h.value) f g above below);
      within = (above, below);
    })

unary_sound : (intervals : Intervals) (operator : UnaryOperator) (e : tree.Expr)
    (interval : Option Interval) → IfSome interval (IsSound intervals e)
    → IfSome (option_and_then (unary_interval operator) interval)
    (IsSound intervals (tree.Unary operator e))
unary_sound intervals operator e None reported = tt
unary_sound intervals unary.Negate e (Some interval) reported =
    negated_sound intervals e interval reported
unary_sound intervals unary.Not e (Some interval) reported = tt
unary_sound intervals unary.Complement e (Some interval) reported = tt

-- an operator between values that are known, and whose result is
abbrev Gives : BinaryOperator → (v w z : ℤ) → Type 0
Gives operator v w z =
    (store : Store) (right : Store → Result (ℤ × Store) Cause) → right store ≡ Ok (w, store)
    → joined operator (v, store) right ≡ Ok (z, store)

both_sound : (intervals : Intervals) (operator : BinaryOperator) (left right : tree.Expr)
    (first second interval : Interval) → IsSound intervals left first
    → IsSound intervals right second
    → ((v w : ℤ) → Within first v → Within second w
    → (z : ℤ) × Gives operator v w z × Within interval z)
    → IsSound intervals (tree.Binary operator left right) interval
both_sound intervals operator left right first second interval h k gives setting store holds =
    let v = h setting store holds in
    let w = k setting store holds in
    let z = gives v.value w.value v.within w.within in
    record {
      value = z.0;
      done = ap (λ r. result_and_then r (λ first. joined operator first (value_of setting right)))
          v.done ∙ z.1 store (value_of setting right) w.done;
      within = z.2;
    }

sum_gives : (v w : ℤ) → Gives binary.Add v w (wrapped (v +ℤ w))
sum_gives v w store right e = ap (λ r. result_and_then r
    (λ second. result_and_then (binary_value binary.Add v second.0)
    (λ value. Ok (value, second.1)))) e

difference_gives : (v w : ℤ) → Gives binary.Subtract v w (wrapped (v -ℤ w))
difference_gives v w store right e = ap (λ r. result_and_then r
    (λ second. result_and_then (binary_value binary.Subtract v second.0)
    (λ value. Ok (value, second.1)))) e

product_gives : (v w : ℤ) → Gives binary.Multiply v w (wrapped (v *ℤ w))
product_gives v w store right e = ap (λ r. result_and_then r
    (λ second. result_and_then (binary_value binary.Multiply v second.0)
    (λ value. Ok (value, second.1)))) e

-- a number within known bounds isn't wrapped
kept_within : (interval : Interval) (z : ℤ) → FitsSigned w32 interval.low
    → FitsSigned w32 interval.high → interval.low ≤ℤ z → z ≤ℤ interval.high
    → Within interval (wrapped z)
kept_within interval z f g low high = subst (Within interval)
    (sym (unwrapped interval.low interval.high z f g low high)) (low, high)

added_sound : (intervals : Intervals) (left right : tree.Expr) (first second : Interval)
    → IsSound intervals left first → IsSound intervals right second
    → IfSome (intervals_added first second) (IsSound intervals (tree.Binary binary.Add left right))
added_sound intervals left right first second h k =
    let interval : Interval = record {
      low = first.low +ℤ second.low;
      high =
          first.high +ℤ second.high;
    } in
    known_sound interval (IsSound intervals (tree.Binary binary.Add left right)) (λ f g.
    both_sound intervals binary.Add left right first second interval h k (λ v w a b.
    let a0 = a.0 in
    let a1 = a.1 in
    let b0 = b.0 in
    let b1 = b.1 in (
      wrapped (v +ℤ w),
      sum_gives v w,
      kept_within interval (v +ℤ w) f g (omega (arith, ints))
          (omega (arith, ints)),
    )))

subtracted_sound : (intervals : Intervals) (left right : tree.Expr) (first second : Interval)
    → IsSound intervals left first → IsSound intervals right second
    → IfSome (intervals_subtracted first second)
    (IsSound intervals (tree.Binary binary.Subtract left right))
subtracted_sound intervals left right first second h k =
    let interval : Interval = record {
      low = first.low -ℤ second.high;
      high =
          first.high -ℤ second.low;
    } in
    known_sound interval (IsSound intervals (tree.Binary binary.Subtract left right)) (λ f g.
    both_sound intervals binary.Subtract left right first second interval h k (λ v w a b.
    let a0 = a.0 in
    let a1 = a.1 in
    let b0 = b.0 in
    let b1 = b.1 in (
      wrapped (v -ℤ w),
      difference_gives v w,
      kept_within interval (v -ℤ w) f g (omega (arith, ints)) (omega (arith, ints)),
    )))

multiplied_sound : (intervals : Intervals) (left right : tree.Expr) (first second : Interval)
    → IsSound intervals left first → IsSound intervals right second
    → IfSome (intervals_multiplied first second)
    (IsSound intervals (tree.Binary binary.Multiply left right))
multiplied_sound intervals left right first second h k =
    let interval : Interval = record {
      low = int_min (int_min (first.low *ℤ second.low) (first.low *ℤ second.high))
          (int_min (first.high *ℤ second.low) (first.high *ℤ second.high));
      high = int_max (int_max (first.low *ℤ second.low) (first.low *ℤ second.high))
          (int_max (first.high *ℤ second.low) (first.high *ℤ second.high));
    } in
    known_sound interval (IsSound intervals (tree.Binary binary.Multiply left right)) (λ f g.
    both_sound intervals binary.Multiply left right first second interval h k (λ v w a b.
    let bounds = product_within first second v w a b in
    (wrapped (v *ℤ w), product_gives v w, kept_within interval (v *ℤ w) f g bounds.0 bounds.1)))

binary_by : (intervals : Intervals) (operator : BinaryOperator) (left right : tree.Expr)
    (first second : Interval) → IsSound intervals left first → IsSound intervals right second
    → IfSome (binary_interval operator first second)
    (IsSound intervals (tree.Binary operator left right))
binary_by intervals binary.Add left right first second h k =
    added_sound intervals left right first second h k
binary_by intervals binary.Subtract left right first second h k =
    subtracted_sound intervals left right first second h k
binary_by intervals binary.Multiply left right first second h k =
    multiplied_sound intervals left right first second h k
binary_by intervals binary.LogicalOr left right first second h k = tt
binary_by intervals binary.LogicalAnd left right first second h k = tt
binary_by intervals binary.Or left right first second h k = tt
binary_by intervals binary.ExclusiveOr left right first second h k = tt
binary_by intervals binary.And left right first second h k = tt
binary_by intervals binary.Equal left right first second h k = tt
binary_by intervals binary.NotEqual left right first second h k = tt
binary_by intervals binary.Less left right first second h k = tt
binary_by intervals binary.LessOrEqual left right first second h k = tt
binary_by intervals binary.Greater left right first second h k = tt
binary_by intervals binary.GreaterOrEqual left right first second h k = tt
binary_by intervals binary.ShiftLeft left right first second h k = tt
binary_by intervals binary.ShiftRight left right first second h k = tt
binary_by intervals binary.Divide left right first second h k = tt
binary_by intervals binary.Remainder left right first second h k = tt

binary_sound : (intervals : Intervals) (operator : BinaryOperator) (left right : tree.Expr)
    (first second : Option Interval) → IfSome first (IsSound intervals left)
    → IfSome second (IsSound intervals right)
    → IfSome (option_and_then (λ first. option_and_then (binary_interval operator first) second)
    first) (IsSound intervals (tree.Binary operator left right))
binary_sound intervals operator left right None second h k = tt
binary_sound intervals operator left right (Some first) None h k = tt
binary_sound intervals operator left right (Some first) (Some second) h k =
    binary_by intervals operator left right first second h k

conditional_sound : (intervals : Intervals) (e : tree.Expr) (given : Option ℤ) → constant e ≡ given
    → IfSome (option_map singleton given) (IsSound intervals e)
conditional_sound intervals e None is = tt
conditional_sound intervals e (Some v) is = singleton_sound intervals e v is

-- a known interval holds of each value
pub interval_sound : (intervals : Intervals) (e : tree.Expr)
    → IfSome (interval_of intervals e) (IsSound intervals e)
interval_sound intervals (tree.Read name) =
    read_sound intervals name (interval_named intervals name) refl
interval_sound intervals (tree.Group inner) =
    grouped (interval_of intervals inner) (interval_sound intervals inner)
  where
    grouped : (interval : Option Interval) → IfSome interval (IsSound intervals inner)
        → IfSome interval (IsSound intervals (tree.Group inner))
    grouped None h = tt
    grouped (Some interval) h = λ setting store holds. let k = h setting store holds in
        record { value = k.value; done = k.done; within = k.within }
interval_sound intervals (tree.Unary operator operand) =
    or_sound intervals (tree.Unary operator operand) (constant (tree.Unary operator operand))
    (option_and_then (unary_interval operator) (interval_of intervals operand)) refl
    (unary_sound intervals operator operand (interval_of intervals operand)
    (interval_sound intervals operand))
interval_sound intervals (tree.Binary operator left right) =
    or_sound intervals (tree.Binary operator left right)
    (constant (tree.Binary operator left right))
    (option_and_then (λ first. option_and_then (binary_interval operator first)
    (interval_of intervals right)) (interval_of intervals left)) refl
    (binary_sound intervals operator left right (interval_of intervals left)
    (interval_of intervals right) (interval_sound intervals left) (interval_sound intervals right))
interval_sound intervals (tree.Number value) =
    λ setting store holds. record {
      value = value;
      done = refl;
      within =
          (≤ℤ_refl value, ≤ℤ_refl value);
    }
interval_sound intervals (tree.Truth value) = tt
interval_sound intervals (tree.Element name index) = tt
interval_sound intervals tree.Pop = tt
interval_sound intervals (tree.Peek index) = tt
interval_sound intervals (tree.Call name arguments) = tt
interval_sound intervals (tree.Step operator name) = tt
interval_sound intervals (tree.StepElement operator name index) = tt
interval_sound intervals (tree.Conditional condition chosen other) =
    conditional_sound intervals (tree.Conditional condition chosen other)
    (constant (tree.Conditional condition chosen other)) refl
