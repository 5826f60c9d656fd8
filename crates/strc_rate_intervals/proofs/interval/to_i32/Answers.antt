use Rattle.std.specs.Int.RustNames.{FitsSigned}
use Rattle.std.proofs.lemmas.Int.{to_z-of_z}
use mir.Syntax.{w32}
use Rattle.strc_rate_intervals.proofs.Narrowing.{some_narrowed, none_narrowed, fits_between}
use Rattle.strc_rate_intervals.proofs.Narrowing.{too_low}
use Rattle.strc_rate_intervals.proofs.Narrowing.{too_high}
use Rattle.strc_rate_intervals.proofs.interval.to_i32.Goals as goal

pub returns-then-value-ltminus2147483648 : goal.returns-then-value-ltminus2147483648
returns-then-value-ltminus2147483648 c =
    let fits = c.ranges.value in
    none_narrowed c.args.value (too_low c.args.value
    (simp to_z-of_z at c.if-value-ltminus2147483648.true))

pub returns-then-value-gt2147483647 : goal.returns-then-value-gt2147483647
returns-then-value-gt2147483647 c =
    let fits = c.ranges.value in
    none_narrowed c.args.value (too_high c.args.value
    (simp to_z-of_z at c.if-value-gt2147483647.true))

pub returns : goal.returns
returns c =
    let wide = c.ranges.value in
    let fits : FitsSigned w32 c.args.value =
    fits_between c.args.value (simp to_z-of_z at c.if-value-ltminus2147483648.false)
    (simp to_z-of_z at c.if-value-gt2147483647.false) in
    simp to_z-of_z (some_narrowed c.args.value fits)
