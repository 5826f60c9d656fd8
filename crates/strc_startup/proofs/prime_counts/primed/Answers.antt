use Rattle.std.proofs.Common.{◌∙◌, ◌<◌, ◌+◌, ◌*◌, All, Contains, length, slice_index_or, sym, subst}
use Rattle.std.proofs.Common.{arith, refl, inr, rules}
use Rattle.std.proofs.lemmas.Option.{same_Some, slice_get-get_or, slice_get_within}
use Rattle.std.proofs.lemmas.List.{with_items_is, get_or-map, length-map}
use Rattle.strc_balance.specs.NumberSets.{AllNumbers, size_below}
use Rattle.strc_startup.specs.Grouping.{IsGrouping}
use Rattle.strc_startup.specs.declared.channel_rates.ChannelRates.{ChannelRates}
use Rattle.strc_startup.specs.Raises.{Raises, room, IsUnbounded}
use Rattle.strc_startup.specs.Waiting.{HasEnds}
use Rattle.strc_startup.proofs.Nearing.{Nears, node_within, nodes_within, nearer, fewer_steps}
use Rattle.strc_startup.proofs.Nearing.{arrived, listed_within}
use Rattle.strc_startup.proofs.prime_counts.primed.Goals as goal

abbrev nothing : ChannelRates
nothing = record {
  source = 0;
  enqueued = 0;
  first_push = 0;
  push = 0;
  target = 0;
  prework_window = 0;
  first_window = 0;
  first_pop = 0;
  pop = 0;
  window = 0;
}

pub at-requires : goal.at-requires
at-requires c =
    let first = c.args.first.items in
    let channels = c.args.channels.now in
    let near = c.loop-node.invariant in
    let within = node_within first channels c.loop-node.counts.items c.loop-node.waiting
    c.take_highest.new.self c.in-Some.node near c.in-Some.ensures.there
    c.in-Some.ensures.others in
    omega (arith, within, near.each, c.in_ok-incoming.ensures.size, c.len.ensures)

pub grouping_of-requires : goal.grouping_of-requires
grouping_of-requires c =
    let channels = c.args.channels.now in
    let target = λ (rates : ChannelRates). rates.target in
    subst (All (λ n. n < c.len.result)) (sym (c.deref.ensures.value ∙ c.in_ok-targets.ensures))
    (λ k d within.
    let short : k < length channels = omega (arith, within, length-map channels target) in
    let own = slice_index_or channels k nothing in
    subst (λ n. n < c.len.result) (sym (get_or-map target channels k nothing d short))
    (let h = (c.requires.ends k nothing short).target in omega (arith, h, c.len.ensures)))

pub raise_sources-requires-clause-numbers : goal.raise_sources-requires-clause-numbers
raise_sources-requires-clause-numbers c =
    let channels = c.args.channels.now in
    let lists = c.in_ok-incoming.incoming in
    let targets = c.deref.ensures.value ∙ c.in_ok-targets.ensures in
    let groups = subst (IsGrouping lists) targets c.in_ok-incoming.ensures.groups in
    subst (All (λ n. n < length channels)) (sym c.at.ensures)
    (listed_within lists channels c.in-Some.node groups)

pub raise_sources-requires-clause-nodes : goal.raise_sources-requires-clause-nodes
raise_sources-requires-clause-nodes c =
    subst (λ l. AllNumbers (λ n. n < length l) c.take_highest.new.self)
    (sym c.deref_mut.ensures.value)
    (nodes_within c.args.first.items c.args.channels.now c.loop-node.counts.items
    c.loop-node.waiting c.take_highest.new.self c.in-Some.node c.loop-node.invariant
    c.in-Some.ensures.there c.in-Some.ensures.others)

pub loop-node-smaller : goal.loop-node-smaller
loop-node-smaller c =
    let first = c.args.first.items in
    let channels = c.args.channels.now in
    let counts = c.loop-node.counts.items in
    let raised = c.raise_sources.new.counts in
    let waiting = c.raise_sources.new.waiting in
    let raises : Raises channels counts c.take_highest.new.self raised waiting =
    subst (λ l. Raises channels l c.take_highest.new.self raised waiting)
    c.deref_mut.ensures.value c.in_ok-raise_sources.ensures.raises in
    let written = with_items_is c.loop-node.counts raised
    (c.in_ok-raise_sources.ensures.raises.each ∙ c.deref_mut.ensures.len) in
    let lists = c.in_ok-incoming.incoming in
    let targets = c.deref.ensures.value ∙ c.in_ok-targets.ensures in
    let groups = subst (IsGrouping lists) targets c.in_ok-incoming.ensures.groups in
    subst (λ l. 2 * room l + size_below waiting (length l)
    < 2 * room counts + size_below c.loop-node.waiting (length counts))
    (sym written)
    (fewer_steps first channels counts c.loop-node.waiting c.take_highest.new.self
    c.in-Some.node c.loop-node.invariant c.in-Some.ensures.there c.in-Some.ensures.others lists
    groups raised waiting raises
    (λ channel rates there is. c.in_ok-raise_sources.ensures.served channel rates
    (subst (λ l. Contains l channel) (sym c.at.ensures) there) is))

pub loop-node-preserved : goal.loop-node-preserved
loop-node-preserved c =
    let first = c.args.first.items in
    let channels = c.args.channels.now in
    let counts = c.loop-node.counts.items in
    let raised = c.raise_sources.new.counts in
    let waiting = c.raise_sources.new.waiting in
    let raises : Raises channels counts c.take_highest.new.self raised waiting =
    subst (λ l. Raises channels l c.take_highest.new.self raised waiting)
    c.deref_mut.ensures.value c.in_ok-raise_sources.ensures.raises in
    let written = with_items_is c.loop-node.counts raised
    (c.in_ok-raise_sources.ensures.raises.each ∙ c.deref_mut.ensures.len) in
    let lists = c.in_ok-incoming.incoming in
    let targets = c.deref.ensures.value ∙ c.in_ok-targets.ensures in
    let groups = subst (IsGrouping lists) targets c.in_ok-incoming.ensures.groups in
    subst (λ l. Nears first channels l waiting) (sym written)
    (nearer first channels counts c.loop-node.waiting c.take_highest.new.self
    c.in-Some.node c.loop-node.invariant c.in-Some.ensures.there c.in-Some.ensures.others lists
    groups raised waiting raises
    (λ channel rates there is. c.in_ok-raise_sources.ensures.served channel rates
    (subst (λ l. Contains l channel) (sym c.at.ensures) there) is))

pub returns-clause-least : goal.returns-clause-least
returns-clause-least c =
    arrived c.args.first.items c.args.channels.now c.loop-node.counts.items c.loop-node.waiting
    c.loop-node.invariant c.in_default.ensures.none

pub loop-node-init : goal.loop-node-init
loop-node-init c =
    let first = c.args.first.items in
    let channels = c.args.channels.now in
    record {
      each = refl;
      grown = λ node. omega arith;
      within = c.requires.within;
      below = λ other met less. less;
      served = λ channel rates is.
          let within = slice_get_within channels channel rates is in
          let same = same_Some (slice_index_or channels channel rates) rates
          (sym (slice_get-get_or channels channel rates within) ∙ is) in
          let ends = subst (HasEnds (length first)) same
          (c.requires.ends channel rates within) in
          inr (c.in_ok-waiting.ensures.all rates.target
          (omega (arith, ends.target, c.len-2.ensures)));
      nodes = λ node has. omega (
        arith,
        c.in_ok-waiting.ensures.numbers node has,
        c.len-2.ensures,
      );
    }

pub returns-in_err-raise_sources-clause-unbounded :
    goal.returns-in_err-raise_sources-clause-unbounded
returns-in_err-raise_sources-clause-unbounded c is other met less within =
    let counts = c.deref_mut.ensures.value in
    subst (IsUnbounded c.args.channels.now) counts
    (c.in_err-raise_sources.ensures.unbounded (search rules))
    other met (c.loop-node.invariant.below other met less) within
