use Rattle.std.proofs.Common.{◌≡◌, ◌∙◌, sym, ap, subst, ◌<◌, length, get_or, slice_get, All, arith}
use Rattle.strc_balance.specs.Balance.{count_at}
use Rattle.strc_startup.specs.Grouping.{places_at}
use Rattle.strc_startup.specs.Waiting.{HasEnds, IsBounded}
use Rattle.strc_sched_orders.specs.Firings.{fired}
use Rattle.strc_sched_orders.specs.Progress.{HasFirst}
use Rattle.strc_sched_orders.proofs.Networks.{finds_all, all_find, listed_within}
use Rattle.strc_sched_orders.proofs.Turning.{turns_more, target_is, rates_there}
use Rattle.strc_sched_orders.proofs.turns.turns_at.Goals as goal

pub channel-requires : goal.channel-requires
channel-requires c =
    let network = c.args.network.now in
    let is = c.incoming-number-items.ensures.network in
    subst (All (λ number. number < length network.channels))
    (sym c.incoming-number-items.ensures.numbers)
    (listed_within network.incoming network.channels (λ r. r.target) is.incoming c.args.node)
    c.loop-number.number-index 0 c.loop-number-test.true

pub turns_on-turns-requires-clause-ends : goal.turns_on-turns-requires-clause-ends
turns_on-turns-requires-clause-ends c =
    let network = c.args.network.now in
    let number = get_or c.incoming-number-items.result.now c.loop-number.number-index 0 in
    subst (λ n. HasEnds n c.channel.result.now) (sym c.requires.each)
    (rates_there (HasEnds (length network.incoming)) network number c.channel.result.now
    c.channel.ensures.network.ends c.channel.ensures.rates)

pub turns_on-turns-requires-clause-bounds : goal.turns_on-turns-requires-clause-bounds
turns_on-turns-requires-clause-bounds c =
    let network = c.args.network.now in
    let number = get_or c.incoming-number-items.result.now c.loop-number.number-index 0 in
    rates_there IsBounded network number c.channel.result.now c.channel.ensures.network.bounds
    c.channel.ensures.rates

pub turns_on-turns-requires-clause-room : goal.turns_on-turns-requires-clause-room
turns_on-turns-requires-clause-room c =
    let network = c.args.network.now in
    let numbers = c.incoming-number-items.ensures.numbers in
    let place = c.loop-number.number-index in
    let same = target_is network c.channel.ensures.network c.args.node place
    (subst (λ l. place < length l) numbers c.loop-number-test.true) c.channel.result.now
    (ap (λ l. slice_get network.channels (get_or l place 0)) (sym numbers)
    ∙ c.channel.ensures.rates) in
    omega (
      arith,
      ap (count_at c.args.counts.now) same,
      c.requires.room,
      c.loop-number.invariant.within,
    )

pub loop-number-preserved : goal.loop-number-preserved
loop-number-preserved c =
    let network = c.args.network.now in
    let numbers = c.incoming-number-items.ensures.numbers in
    let place = c.loop-number.number-index in
    turns_more network c.channel.ensures.network (count_at c.args.counts.now) c.args.node
    c.args.limit c.loop-number.turns place c.turns_on-turns.result
    (subst (λ l. place < length l) numbers c.loop-number-test.true) c.channel.result.now
    (ap (λ l. slice_get network.channels (get_or l place 0)) (sym numbers)
    ∙ c.channel.ensures.rates) c.loop-number.invariant c.turns_on-turns.ensures.within
    c.turns_on-turns.ensures.finds c.turns_on-turns.ensures.most

pub returns-clause-finds : goal.returns-clause-finds
returns-clause-finds c earlier less =
    let network = c.args.network.now in
    let node = c.args.node in
    let numbers = c.incoming-number-items.ensures.numbers in
    let all : c.loop-number.number-index ≡ length (places_at network.incoming node) =
    omega (
      arith,
      ap length numbers,
      c.loop-number.auto.number-index-end,
      c.loop-number-test.false,
    ) in
    let k = fired (count_at c.args.counts.now) earlier node in
    finds_all network c.incoming-number-items.ensures.network k node
    (subst (HasFirst network (places_at network.incoming node) k) all
    (c.loop-number.invariant.finds earlier less))

pub returns-clause-most : goal.returns-clause-most
returns-clause-most c less finds =
    let network = c.args.network.now in
    let node = c.args.node in
    c.loop-number.invariant.most less (all_find network c.incoming-number-items.ensures.network
    (fired (count_at c.args.counts.now) c.loop-number.turns node) node finds
    c.loop-number.number-index)
