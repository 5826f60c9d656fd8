use Rattle.std.proofs.Common.{refl, sym, subst, get_or, length, arith}
use Rattle.std.proofs.lemmas.Bool.{false≢true}
use Rattle.std.proofs.lemmas.Option.{slice_get_within}
use Rattle.strc_balance.specs.Balance.{count_at}
use Rattle.strc_startup.specs.Waiting.{HasEnds, IsBounded}
use Rattle.strc_sched_orders.proofs.Networks.{has_more, lacks_next}
use Rattle.strc_sched_orders.proofs.Turning.{rates_there}
use Rattle.strc_sched_orders.proofs.progress.found_from.Goals as goal

pub loop-found-init : goal.loop-found-init
loop-found-init c = record { within = c.requires.known; first = c.requires.first }

pub channel-requires : goal.channel-requires
channel-requires c = c.requires.numbers c.loop-found.found 0 c.loop-found-test.true

pub has_window-requires-clause-ends : goal.has_window-requires-clause-ends
has_window-requires-clause-ends c =
    let network = c.args.network.now in
    subst (λ n. HasEnds n c.channel.result.now) (sym c.requires.each)
    (rates_there (HasEnds (length network.incoming)) network
    (get_or c.args.numbers.now c.loop-found.found 0) c.channel.result.now
    c.channel.ensures.network.ends c.channel.ensures.rates)

pub has_window-requires-clause-bounds : goal.has_window-requires-clause-bounds
has_window-requires-clause-bounds c =
    rates_there IsBounded c.args.network.now (get_or c.args.numbers.now c.loop-found.found 0)
    c.channel.result.now c.channel.ensures.network.bounds c.channel.ensures.rates

pub has_window-requires-clause-few : goal.has_window-requires-clause-few
has_window-requires-clause-few c = c.requires.few

pub loop-found-preserved : goal.loop-found-preserved
loop-found-preserved c = record {
  within = omega (arith, c.loop-found-test.true);
  first = has_more c.args.network.now c.args.numbers.now (count_at c.args.counts.now)
      c.loop-found.found c.loop-found-test.true c.channel.result.now c.channel.ensures.rates
      c.loop-found.invariant.first (c.if-has_window.ensures.0 refl);
}

pub returns-else-has_window-clause-within : goal.returns-else-has_window-clause-within
returns-else-has_window-clause-within c = c.loop-found.invariant.within

pub returns-else-has_window-clause-first : goal.returns-else-has_window-clause-first
returns-else-has_window-clause-first c = c.loop-found.invariant.first

pub returns-else-has_window-clause-last : goal.returns-else-has_window-clause-last
returns-else-has_window-clause-last c =
    lacks_next c.args.network.now c.args.numbers.now (count_at c.args.counts.now)
    c.loop-found.found c.loop-found-test.true c.channel.result.now c.channel.ensures.rates
    (λ has. false≢true (c.if-has_window.ensures.1 has))

pub returns-after-loop-found-clause-within : goal.returns-after-loop-found-clause-within
returns-after-loop-found-clause-within c = c.loop-found.invariant.within

pub returns-after-loop-found-clause-first : goal.returns-after-loop-found-clause-first
returns-after-loop-found-clause-first c = c.loop-found.invariant.first

pub returns-after-loop-found-clause-last : goal.returns-after-loop-found-clause-last
returns-after-loop-found-clause-last c number rates at here has =
    let within = slice_get_within c.args.numbers.now c.loop-found.found number at in
    absurd (omega (arith, within, c.loop-found-test.false))
