use Rattle.std.proofs.Common.{◌≡◌, suc, take, false, subst, arith}
use Rattle.strc_cli_statements.specs.Statements.{are_counted}
use Rattle.strc_cli_statements.proofs.count_places.first_uncounted.Goals as goal

pub returns-clause-with : goal.returns-clause-with
returns-clause-with c =
    let last : c.loop-most.most ≡ suc c.loop-most.least = omega arith in
    subst (λ n. are_counted (take n c.args.block.now) ≡ false) last c.loop-most.invariant.with
