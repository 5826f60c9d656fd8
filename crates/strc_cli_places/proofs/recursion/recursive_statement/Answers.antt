use Rattle.std.proofs.Common.{subst}
use Rattle.std.specs.Option.{option_map}
use Rattle.strc_cli_places.specs.Streams.{LeadsTo}
use Rattle.strc_cli_places.proofs.Recurring.{recurs_listed}
use Rattle.strc_cli_places.proofs.recursion.recursive_statement.Goals as goal

pub returns-then-branch : goal.returns-then-branch
returns-then-branch c =
    let program = option_map (λ p. p.now) c.args.known.program in
    let leads = c.in_ok-leads_to.ensures c.if-branch.true in
    recurs_listed program c.in-Some.around.now c.deref-addition-items.result.now
    c.loop-addition.addition-index _ c.loop-addition.invariant.declared
    c.loop-addition.invariant.listed c.loop-addition-test.true
    (subst (LeadsTo program _) c.as_bytes.ensures leads)
