use Rattle.std.proofs.Common.{◌∙◌, ◌<◌, ◌≤◌}
use Rattle.std.proofs.Common.{slice_index_or, sym}
use Rattle.std.proofs.Common.{subst, inl, arith}
use Rattle.std.proofs.lemmas.List.Elements.{Contains-get_or}
use Rattle.std.proofs.lemmas.Option.{same_Some, slice_get-get_or}
use Rattle.strc_balance.specs.Balance.{count_at}
use Rattle.strc_startup.specs.Waiting.{Waits}
use Rattle.strc_startup.specs.declared.channel_rates.ChannelRates.{ChannelRates}
use Rattle.strc_startup.proofs.Counting.{supply-le}
use Rattle.strc_startup.proofs.Raising.{past_the_limit, raised, raised_serves}
use Rattle.strc_startup.proofs.prime_counts.raise_source.Goals as goal

abbrev nothing : ChannelRates
nothing = record {
  source = 0;
  enqueued = 0;
  first_push = 0;
  push = 0;
  target = 0;
  prework_window = 0;
  first_window = 0;
  first_pop = 0;
  pop = 0;
  window = 0;
}

pub returns-then-count-from-clause-served : goal.returns-then-count-from-clause-served
returns-then-count-from-clause-served c rates is =
    let counts = c.args.counts.now in
    let own = slice_index_or c.args.channels.now c.args.number nothing in
    let eq = same_Some own rates
    (sym (slice_get-get_or c.args.channels.now c.args.number nothing c.requires.number) ∙ is) in
    let count = c.least_firings-count.result in
    let enough = c.least_firings-count.ensures.enough in
    let asked = c.need.ensures.need in
    let few : count ≤ count_at counts own.source =
    omega (arith, c.if-count-from.true, c.from.ensures) in
    let more = supply-le own count (count_at counts own.source) few in
    subst (Waits counts c.args.waiting.now) eq (inl (omega (arith, enough, asked, more)))

pub returns-then-count-gt-COUNT_LIMIT-clause-unbounded :
    goal.returns-then-count-gt-COUNT_LIMIT-clause-unbounded
returns-then-count-gt-COUNT_LIMIT-clause-unbounded c is =
    let channels = c.args.channels.now in
    let own = slice_index_or channels c.args.number nothing in
    let asked = c.need.ensures.need in
    past_the_limit channels own c.args.counts.now c.least_firings-count.result
    (Contains-get_or channels c.args.number nothing c.requires.number)
    c.if-count-gt-COUNT_LIMIT.true
    (λ fewer less. omega (arith, c.least_firings-count.ensures.least fewer less, asked))

pub returns-clause-raises : goal.returns-clause-raises
returns-clause-raises c =
    let channels = c.args.channels.now in
    let counts = c.args.counts.now in
    let own = slice_index_or channels c.args.number nothing in
    let asked = c.need.ensures.need in
    let count = c.least_firings-count.result in
    let more : count_at counts own.source < count =
    omega (arith, c.if-count-from.false, c.from.ensures) in
    let ends = c.requires.ends c.args.number nothing c.requires.number in
    raised own counts count more ends.source c.args.waiting.now c.add.new.self
    c.in_ok-add.ensures channels (Contains-get_or channels c.args.number nothing c.requires.number)
    c.requires.within (omega (arith, c.if-count-gt-COUNT_LIMIT.false)) c.requires.nodes
    (λ fewer less. omega (arith, c.least_firings-count.ensures.least fewer less, asked))

pub returns-clause-served : goal.returns-clause-served
returns-clause-served c rates is =
    let channels = c.args.channels.now in
    let counts = c.args.counts.now in
    let own = slice_index_or channels c.args.number nothing in
    let eq = same_Some own rates
    (sym (slice_get-get_or channels c.args.number nothing c.requires.number) ∙ is) in
    let asked = c.need.ensures.need in
    let count = c.least_firings-count.result in
    let more : count_at counts own.source < count =
    omega (arith, c.if-count-from.false, c.from.ensures) in
    let ends = c.requires.ends c.args.number nothing c.requires.number in
    subst (Waits _ c.add.new.self) eq
    (raised_serves own counts count more ends.source c.args.waiting.now c.add.new.self
    c.in_ok-add.ensures (omega (arith, c.least_firings-count.ensures.enough, asked)))
