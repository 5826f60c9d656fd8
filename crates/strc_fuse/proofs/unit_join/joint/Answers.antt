use Rattle.std.proofs.Common.{◌≡◌, ◌∙◌, ap, sym, ◌*◌, length, arith}
use Rattle.strc_fuse.specs.Units.{round_unit}
use Rattle.strc_fuse.proofs.Steps.{too_long}
use Rattle.strc_fuse.proofs.unit_join.joint.Goals as goal

pub returns-then-entries-from-clause-none : goal.returns-then-entries-from-clause-none
returns-then-entries-from-clause-none c =
    let shares = c.shares_of-shares.result in
    let unit = c.args.unit.now.nodes in
    let next = c.args.next.now.nodes in
    let many : c.len.result ≡ length unit.items = omega (arith, c.len.ensures, unit.ok.0) in
    let more : c.len-2.result ≡ length next.items = omega (arith, c.len-2.ensures, next.ok.0) in
    let first = c.entries_of.ensures ∙ ap (λ n. shares.first * n) many in
    let second = c.entries_of-2.ensures ∙ ap (λ n. shares.second * n) more in
    too_long c.args.threshold (round_unit c.args.unit.now) (round_unit c.args.next.now) shares
    c.shares_of-shares.ensures.divides c.shares_of-shares.ensures.first
    c.shares_of-shares.ensures.second c.shares_of-shares.ensures.none
    (omega (arith, c.if-entries-from.true, c.from.ensures, first, second))
