-- What a part of a text counts fits what is left of a port: it finds its items and its room. Counts
-- are saturated above any rate, so that a sum that fits is exact.
use Rattle.std.proofs.Common.{◌≡◌, refl, sym, subst, ◌∙◌, ap, ℕ, zero, suc, ◌+◌, ◌*◌, ◌<◌, ◌≤◌, ℤ}
use Rattle.std.proofs.Common.{Bool, true, false, length, Option, Some, None, arith}
use Rattle.std.specs.Prelude.{if◌then◌else◌}
use Rattle.std.specs.Option.{IfSome}
use Rattle.std.proofs.Math.Nat.{mul-le-mul_right}
use Rattle.strc_parse_tree.specs.Tree as tree
use Rattle.strc_parse_tree.specs.declared.tree.BinaryOperator.{BinaryOperator}
use Rattle.strc_parse_tree.specs.declared.tree.BinaryOperator.TheVariants as binary
use Rattle.strc_work_meaning.specs.Arithmetic.{is_true}
use Rattle.strc_work_meaning.specs.Constants.{decides}
use Rattle.strc_work_meaning.specs.Firing.{Port, Traffic}
use Rattle.strc_rate_intervals.specs.Constant.{constant}
use Rattle.strc_rate.specs.declared.counts.TheConstants.{COUNT_LIMIT}
use Rattle.strc_rate.specs.Counts.{Counts, saturated, no_items, same_counts, sequence}
use Rattle.strc_rate.specs.Counts.{require_zero}
use Rattle.strc_rate.specs.Counts.{repeated, branch_counts, Need, need_by, need_of, needed}
use Rattle.strc_rate.proofs.CountedMoves.{Moves, Counted, same_pushes, same_pops}

-- a port's items and room are fewer than a saturated count
pub record IsNarrow (port : Port) : Type 0 where
  pub front : length port.front < COUNT_LIMIT
  pub room : port.room < COUNT_LIMIT

-- after this traffic so many items more can be popped and pushed
pub record Fits (port : Port) (traffic : Traffic) (counts : Counts) : Type 0 where
  pub pops : traffic.popped + counts.pops ≤ length port.front
  pub pushes : length traffic.pushes + counts.pushes ≤ port.room

-- the same, of a text that is counted
abbrev pub CountedFits : Port → Traffic → Option Counts → Type 0
CountedFits port traffic None = ⊥
CountedFits port traffic (Some counts) = Fits port traffic counts

-- ---- one after the other

-- the first of two parts
pub fits_first : (port : Port) → IsNarrow port → (traffic : Traffic) (x y : Option Counts)
    → CountedFits port traffic (sequence x y) → CountedFits port traffic x
fits_first port narrow traffic None y fits = fits
fits_first port narrow traffic (Some x) None fits = absurd fits
fits_first port narrow traffic (Some x) (Some y) fits =
    let front = narrow.front in
    let room = narrow.room in
    let pops = fits.pops in
    let pushes = fits.pushes in
    record { pops = omega arith; pushes = omega arith }

-- the second one alone
pub fits_second : (port : Port) → IsNarrow port → (traffic : Traffic) (x y : Option Counts)
    → CountedFits port traffic (sequence x y) → CountedFits port traffic y
fits_second port narrow traffic None y fits = absurd fits
fits_second port narrow traffic (Some x) None fits = fits
fits_second port narrow traffic (Some x) (Some y) fits =
    let front = narrow.front in
    let room = narrow.room in
    let pops = fits.pops in
    let pushes = fits.pushes in
    record { pops = omega arith; pushes = omega arith }

-- the second one after the first
pub fits_after : (port : Port) → IsNarrow port → (before after : Traffic) (x y : Option Counts)
    → CountedFits port before (sequence x y) → Counted x before after → CountedFits port after y
fits_after port narrow before after None y fits moved = absurd fits
fits_after port narrow before after (Some x) None fits moved = fits
fits_after port narrow before after (Some x) (Some y) fits moved =
    let front = narrow.front in
    let room = narrow.room in
    let pops = fits.pops in
    let pushes = fits.pushes in
    let popped = moved.popped in
    let pushed = moved.pushed in
    let saturated_pops = moved.saturated_pops in
    let saturated_pushes = moved.saturated_pushes in
    record { pops = omega arith; pushes = omega arith }

-- ---- nothing

-- where anything fits, so does nothing
pub fits_nothing : (port : Port) (traffic : Traffic) (x : Option Counts)
    → CountedFits port traffic x → Fits port traffic no_items
fits_nothing port traffic None fits = absurd fits
fits_nothing port traffic (Some x) fits =
    let pops = fits.pops in
    let pushes = fits.pushes in
    record { pops = omega arith; pushes = omega arith }

-- what fits does so after a part that moves nothing
pub fits_still : (port : Port) (before after : Traffic) (x : Option Counts)
    → CountedFits port before x → Moves before after no_items → CountedFits port after x
fits_still port before after None fits moved = fits
fits_still port before after (Some x) fits moved =
    let pops = fits.pops in
    let pushes = fits.pushes in
    let popped = moved.popped in
    let pushed = moved.pushed in
    let saturated_pops = moved.saturated_pops in
    let saturated_pushes = moved.saturated_pushes in
    record { pops = omega arith; pushes = omega arith }

nothing_by : (port : Port) (traffic : Traffic) (x : Counts) (t : Bool)
    → same_counts no_items x ≡ t
    → CountedFits port traffic (if t then Some no_items else None) → Some x ≡ Some no_items
nothing_by port traffic x false e fits = absurd fits
nothing_by port traffic x true e fits =
    ap (λ n. Some (record { pushes = n; pops = x.pops })) (sym (same_pushes no_items x e))
    ∙ ap (λ n. Some (record { pushes = 0; pops = n })) (sym (same_pops no_items x e))

-- what must count nothing does
pub nothing_is : (port : Port) (traffic : Traffic) (x : Option Counts)
    → CountedFits port traffic (require_zero x) → x ≡ Some no_items
nothing_is port traffic None fits = absurd fits
nothing_is port traffic (Some x) fits =
    nothing_by port traffic x (same_counts no_items x) refl fits

-- ---- one of two

sides_by : (port : Port) (traffic : Traffic) (x y : Counts) (t : Bool) → same_counts x y ≡ t
    → CountedFits port traffic (if t then Some x else None)
    → Fits port traffic x × Fits port traffic y
sides_by port traffic x y false e fits = absurd fits
sides_by port traffic x y true e fits =
    let pops = fits.pops in
    let pushes = fits.pushes in
    let same_pops = same_pops x y e in
    let same_pushes = same_pushes x y e in
    (fits, record { pops = omega arith; pushes = omega arith })

either_fits : (port : Port) (traffic : Traffic) (t : Bool) (x y : Option Counts)
    → CountedFits port traffic (if t then x else y)
    → (t ≡ true → CountedFits port traffic x) × (t ≡ false → CountedFits port traffic y)
either_fits port traffic true x y fits = (λ e. fits, λ e. absurd (cc))
either_fits port traffic false x y fits = (λ e. absurd (cc), λ e. fits)

-- the side that is run, by a condition's value and what is known of that
pub fits_sides : (port : Port) (traffic : Traffic) (known : Option ℤ) (value : ℤ)
    (x y : Option Counts) → IfSome known (λ v. value ≡ v)
    → CountedFits port traffic (branch_counts known x y)
    → (is_true value ≡ true → CountedFits port traffic x)
    × (is_true value ≡ false → CountedFits port traffic y)
fits_sides port traffic None value None y is fits = absurd fits
fits_sides port traffic None value (Some x) None is fits = absurd fits
fits_sides port traffic None value (Some x) (Some y) is fits =
    let both = sides_by port traffic x y (same_counts x y) refl fits in (λ e. both.0, λ e. both.1)
fits_sides port traffic (Some v) value x y is fits =
    either_fits port traffic (is_true value) x y
    (subst (λ u. CountedFits port traffic (if is_true u then x else y)) (sym is) fits)

needed_by : (port : Port) (traffic : Traffic) (t : Bool) (x : Option Counts)
    → CountedFits port traffic (needed (if t then Need.Never else Need.Always) x)
    → t ≡ false → CountedFits port traffic x
needed_by port traffic true x fits e = absurd (cc)
needed_by port traffic false x fits e = fits

fits_by : (port : Port) (traffic : Traffic) (operator : BinaryOperator) (known : Option ℤ)
    (value : ℤ) (x : Option Counts) → IfSome known (λ v. value ≡ v)
    → CountedFits port traffic (needed (need_by operator known) x)
    → decides operator value ≡ false → CountedFits port traffic x
fits_by port traffic operator None value x is fits e =
    let none = nothing_is port traffic x fits in
    subst (CountedFits port traffic) (sym none)
    (subst (λ y. CountedFits port traffic (require_zero y)) none fits)
fits_by port traffic operator (Some v) value x is fits e =
    needed_by port traffic (decides operator value) x
    (subst (λ u. CountedFits port traffic
    (needed (if decides operator u then Need.Never else Need.Always) x)) (sym is) fits) e

-- an operator's right side, where it is evaluated
pub fits_right : (port : Port) (traffic : Traffic) (operator : BinaryOperator) (left : tree.Expr)
    (value : ℤ) (x : Option Counts) → IfSome (constant left) (λ v. value ≡ v)
    → CountedFits port traffic (needed (need_of operator left) x)
    → decides operator value ≡ false → CountedFits port traffic x
fits_right port traffic binary.LogicalOr left value x is fits e =
    fits_by port traffic binary.LogicalOr (constant left) value x is fits e
fits_right port traffic binary.LogicalAnd left value x is fits e =
    fits_by port traffic binary.LogicalAnd (constant left) value x is fits e
fits_right port traffic binary.Or left value x is fits e = fits
fits_right port traffic binary.ExclusiveOr left value x is fits e = fits
fits_right port traffic binary.And left value x is fits e = fits
fits_right port traffic binary.Equal left value x is fits e = fits
fits_right port traffic binary.NotEqual left value x is fits e = fits
fits_right port traffic binary.Less left value x is fits e = fits
fits_right port traffic binary.LessOrEqual left value x is fits e = fits
fits_right port traffic binary.Greater left value x is fits e = fits
fits_right port traffic binary.GreaterOrEqual left value x is fits e = fits
fits_right port traffic binary.ShiftLeft left value x is fits e = fits
fits_right port traffic binary.ShiftRight left value x is fits e = fits
fits_right port traffic binary.Add left value x is fits e = fits
fits_right port traffic binary.Subtract left value x is fits e = fits
fits_right port traffic binary.Multiply left value x is fits e = fits
fits_right port traffic binary.Divide left value x is fits e = fits
fits_right port traffic binary.Remainder left value x is fits e = fits

-- ---- turns

-- one turn of so many, after some of them
turn_fits : (t turns c before moved limit : ℕ) → suc t < suc turns → limit < COUNT_LIMIT
    → before + saturated (suc turns * c) ≤ limit → saturated moved ≡ saturated (suc t * c)
    → before + moved + c ≤ limit
turn_fits t turns c before moved limit lt narrow fits is =
    let more : suc (suc t) ≤ suc turns = omega arith in
    let less = mul-le-mul_right c more in
    omega arith

pub fits_turn : (port : Port) → IsNarrow port → (t turns : ℕ) (before now : Traffic)
    (x : Option Counts) → t < turns → CountedFits port before (repeated turns x)
    → Counted (repeated t x) before now → CountedFits port now x
fits_turn port narrow t zero before now x lt fits moved = absurd (omega arith)
fits_turn port narrow t (suc turns) before now None lt fits moved = absurd fits
fits_turn port narrow zero (suc turns) before now (Some x) lt fits moved =
    let front = narrow.front in
    let room = narrow.room in
    let pops = fits.pops in
    let pushes = fits.pushes in
    let popped = moved.popped in
    let pushed = moved.pushed in
    let saturated_pops = moved.saturated_pops in
    let saturated_pushes = moved.saturated_pushes in
    let one : 1 ≤ suc turns = omega arith in
    let less_pops = mul-le-mul_right x.pops one in
    let less_pushes = mul-le-mul_right x.pushes one in
    record { pops = omega arith; pushes = omega arith }
fits_turn port narrow (suc t) (suc turns) before now (Some x) lt fits moved =
    let popped = moved.popped in
    let pushed = moved.pushed in
    let pops = turn_fits t turns x.pops before.popped moved.pops (length port.front) lt narrow.front
    fits.pops moved.saturated_pops in
    let pushes = turn_fits t turns x.pushes (length before.pushes) moved.pushes port.room lt
    narrow.room fits.pushes moved.saturated_pushes in
    record { pops = omega arith; pushes = omega arith }
