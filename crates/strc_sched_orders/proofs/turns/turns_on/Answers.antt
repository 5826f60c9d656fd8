use Rattle.std.proofs.Common.{◌∙◌, refl, sym, ap, ◌+◌, ◌*◌, ◌≤◌, arith}
use Rattle.strc_balance.specs.Balance.{count_at}
use Rattle.strc_startup.specs.Startup.{supply}
use Rattle.strc_sched_orders.proofs.Windows.{seen, come, finds_always, finds_by, lacks_by}
use Rattle.strc_sched_orders.proofs.turns.turns_on.Goals as goal

pub returns-then-rates-gain-clause-finds : goal.returns-then-rates-gain-clause-finds
returns-then-rates-gain-clause-finds c earlier less =
    let rates = c.args.rates.now in
    let counts = count_at c.args.counts.now in
    let r = c.returned-returned.ensures.returned in
    let s = c.supply-come.ensures.supply ∙ ap (λ o. supply rates (counts rates.source + o)) r in
    let g = ap (λ o. rates.push * o) (c.from.ensures ∙ r) in
    let first : seen rates counts ≤ come rates counts =
    omega (arith, s, c.reach-seen.ensures.reach, c.if-come-seen.false) in
    finds_always rates counts (c.if-not-has_window.ensures.0 refl) first
    (omega (arith, g, c.if-rates-gain.true)) earlier

pub returns-then-more-from-clause-finds : goal.returns-then-more-from-clause-finds
returns-then-more-from-clause-finds c earlier less =
    let rates = c.args.rates.now in
    let counts = count_at c.args.counts.now in
    let r = c.returned-returned.ensures.returned in
    let s = c.supply-come.ensures.supply ∙ ap (λ o. supply rates (counts rates.source + o)) r in
    let g = ap (λ o. rates.push * o) (c.from.ensures ∙ r) in
    finds_by rates counts c.reach-seen.result c.supply-come.result
    (rates.push * c.from.result) earlier
    (c.if-not-has_window.ensures.0 refl) (sym c.reach-seen.ensures.reach) (sym s)
    (sym g) c.if-come-seen.false c.if-rates-gain.false
    (omega (arith, less, c.if-more-from.true, c.from-2.ensures))

pub returns-else-more-from-clause-finds : goal.returns-else-more-from-clause-finds
returns-else-more-from-clause-finds c earlier less =
    let rates = c.args.rates.now in
    let counts = count_at c.args.counts.now in
    let r = c.returned-returned.ensures.returned in
    let s = c.supply-come.ensures.supply ∙ ap (λ o. supply rates (counts rates.source + o)) r in
    let g = ap (λ o. rates.push * o) (c.from.ensures ∙ r) in
    finds_by rates counts c.reach-seen.result c.supply-come.result
    (rates.push * c.from.result) earlier
    (c.if-not-has_window.ensures.0 refl) (sym c.reach-seen.ensures.reach) (sym s)
    (sym g) c.if-come-seen.false c.if-rates-gain.false
    (omega (arith, less, c.min.ensures))

pub returns-else-more-from-clause-most : goal.returns-else-more-from-clause-most
returns-else-more-from-clause-most c less =
    let rates = c.args.rates.now in
    let counts = count_at c.args.counts.now in
    let r = c.returned-returned.ensures.returned in
    let s = c.supply-come.ensures.supply ∙ ap (λ o. supply rates (counts rates.source + o)) r in
    let g = ap (λ o. rates.push * o) (c.from.ensures ∙ r) in
    lacks_by rates counts c.reach-seen.result c.supply-come.result
    (rates.push * c.from.result) c.min.result
    (c.if-not-has_window.ensures.0 refl) (sym c.reach-seen.ensures.reach) (sym s)
    (sym g) c.if-come-seen.false c.if-rates-gain.false
    (omega (arith, less, c.min.ensures))
