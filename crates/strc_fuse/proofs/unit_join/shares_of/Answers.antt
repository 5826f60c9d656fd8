use Rattle.std.proofs.Common.{arith, sym, ap, ◌*◌, ◌/◌}
use Rattle.std.proofs.Math.Nat.{mul-div_cancel'}
use Rattle.strc_fuse.proofs.unit_join.shares_of.Goals as goal

pub returns-then-turns-eq0-clause-first : goal.returns-then-turns-eq0-clause-first
returns-then-turns-eq0-clause-first c =
    let turns = c.greatest_divisor-turns.result in
    let whole = mul-div_cancel' turns c.greatest_divisor-turns.ensures.0 in
    let none = ap (λ n. n * (c.args.first / turns)) c.if-turns-eq0.true in
    omega (arith, whole, none)

pub returns-then-turns-eq0-clause-second : goal.returns-then-turns-eq0-clause-second
returns-then-turns-eq0-clause-second c =
    let turns = c.greatest_divisor-turns.result in
    let whole = mul-div_cancel' turns c.greatest_divisor-turns.ensures.1 in
    let none = ap (λ n. n * (c.args.second / turns)) c.if-turns-eq0.true in
    omega (arith, whole, none)

pub returns-clause-first : goal.returns-clause-first
returns-clause-first c =
    sym (mul-div_cancel' c.greatest_divisor-turns.result c.greatest_divisor-turns.ensures.0)

pub returns-clause-second : goal.returns-clause-second
returns-clause-second c =
    sym (mul-div_cancel' c.greatest_divisor-turns.result c.greatest_divisor-turns.ensures.1)
