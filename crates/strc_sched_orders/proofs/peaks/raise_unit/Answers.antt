use Rattle.std.specs.Prelude.{OnSome, IfNone}
use Rattle.std.proofs.Common.{◌≡◌, sym, subst, [], ◌∷◌, arith}
use Rattle.strc_balance.specs.Balance.{count_at}
use Rattle.strc_sched_orders.specs.Order.{after, repeated}
use Rattle.strc_sched_orders.specs.Peaks.{Raises}
use Rattle.strc_sched_orders.specs.Progress.{PassesBound}
use Rattle.strc_sched_orders.proofs.Passing.{single_node}
use Rattle.strc_sched_orders.proofs.peaks.raise_unit.Goals as goal

pub returns-then-len-eq1-clause-raises : goal.returns-then-len-eq1-clause-raises
returns-then-len-eq1-clause-raises c =
    let unit = c.args.unit.now in
    let node = c.index.result.now in
    let one : unit.nodes.items ≡ node ∷ [] = single_node unit.nodes.items node
    (omega (arith, c.if-len-eq1.true, c.len.ensures, unit.nodes.ok.0)) c.index.ensures in
    subst (λ l. OnSome c.raise_by_turns.result (Raises c.args.network.now.channels
    (repeated unit.turns l) c.args.counts.now c.args.peaks.now c.raise_by_turns.new.counts
    c.raise_by_turns.new.peaks)) (sym one) c.raise_by_turns.ensures.raises

pub returns-then-len-eq1-clause-none : goal.returns-then-len-eq1-clause-none
returns-then-len-eq1-clause-none c =
    let unit = c.args.unit.now in
    let node = c.index.result.now in
    let one : unit.nodes.items ≡ node ∷ [] = single_node unit.nodes.items node
    (omega (arith, c.if-len-eq1.true, c.len.ensures, unit.nodes.ok.0)) c.index.ensures in
    subst (λ l. IfNone c.raise_by_turns.result
    (PassesBound (after (count_at c.args.counts.now) (repeated unit.turns l)))) (sym one)
    c.raise_by_turns.ensures.none
