use Rattle.std.proofs.Common.{◌≡◌, ◌∙◌, sym, ap, subst, ℕ, ◌<◌, ◌≤◌, ◌+◌, ◌-◌, [], ◌∷◌, length, All}
use Rattle.std.proofs.Common.{arith}
use Rattle.std.proofs.Common.{Contains, slice_index}
use Rattle.std.proofs.lemmas.List.{length-set}
use Rattle.strc_balance.specs.Balance.{count_at}
use Rattle.strc_sched_orders.specs.Firings.{turns_of, fired, fill}
use Rattle.strc_sched_orders.specs.Order.{after, repeated}
use Rattle.strc_sched_orders.specs.Peaks.{AreTouched}
use Rattle.strc_sched_orders.proofs.Firing.{counts_fired}
use Rattle.strc_sched_orders.proofs.Networks.{listed_within}
use Rattle.strc_sched_orders.proofs.FiringCounts.{fired_fired, firing_count_repeated, turns_add}
use Rattle.strc_sched_orders.proofs.Overflowing.{passes_if_none, turns_more}
use Rattle.strc_sched_orders.proofs.Passing.{raises_turns}
use Rattle.strc_sched_orders.proofs.Touching.{raised_turns}
use Rattle.strc_sched_orders.proofs.peaks.raise_by_turns.Goals as goal

all_turns : (turns : ℕ) → 0 < turns → 1 + (turns - 1) ≡ turns
all_turns turns some = omega (arith, some)

pub raise_at-requires-clause-numbers : goal.raise_at-requires-clause-numbers
raise_at-requires-clause-numbers c =
    let network = c.args.network.now in
    subst (All (λ number. number < length network.channels)) (sym c.outgoing.ensures.numbers)
    (listed_within network.outgoing network.channels (λ r. r.source)
    c.outgoing.ensures.network.outgoing c.args.node)

pub raise_at-requires-2-clause-numbers : goal.raise_at-requires-2-clause-numbers
raise_at-requires-2-clause-numbers c =
    let network = c.args.network.now in
    subst (All (λ number. number < length network.channels)) (sym c.outgoing-2.ensures.numbers)
    (listed_within network.outgoing network.channels (λ r. r.source)
    c.outgoing-2.ensures.network.outgoing c.args.node)

pub returns-clause-raises : goal.returns-clause-raises
returns-clause-raises c =
    let network = c.args.network.now in
    let channels = network.channels in
    let node = c.args.node in
    let turns = c.args.turns in
    let counts = c.args.counts.now in
    let inside : node < length counts = omega (arith, c.requires.each, c.requires.node) in
    let one = c.add_firings.new.counts in
    let two = c.add_firings-2.new.counts in
    let first : count_at one ≡ fired (count_at counts) 1 node =
    ap count_at c.in_ok-add_firings.ensures.counts ∙ counts_fired counts node 1 inside in
    let long : length one ≡ length counts = ap length c.in_ok-add_firings.ensures.counts
    ∙ length-set counts node (count_at counts node + 1) in
    let long_then : length two ≡ length counts = ap length c.in_ok-add_firings-2.ensures.counts
    ∙ length-set one node (count_at one node + (turns - 1)) ∙ long in
    let all = all_turns turns c.requires.some in
    let last : count_at two ≡ fired (count_at counts) turns node =
    ap count_at c.in_ok-add_firings-2.ensures.counts
    ∙ counts_fired one node (turns - 1) (omega (arith, inside, long))
    ∙ ap (λ k. fired k (turns - 1) node) first
    ∙ fired_fired (count_at counts) 1 (turns - 1) node
    ∙ ap (λ n. fired (count_at counts) n node) all in
    let touched = subst (λ k. AreTouched channels k c.args.peaks.now c.raise_at.new.peaks) first
    c.in_ok-raise_at.ensures.touched in
    let touched_then = subst (λ k. AreTouched channels k c.raise_at.new.peaks
    c.raise_at-2.new.peaks) last c.in_ok-raise_at-2.ensures.touched in
    raises_turns channels turns node counts c.args.peaks.now two c.raise_at-2.new.peaks last
    long_then (c.in_ok-raise_at-2.ensures.peaks ∙ c.in_ok-raise_at.ensures.peaks)
    (raised_turns network c.outgoing.ensures.network (count_at counts) turns node c.args.peaks.now
    c.raise_at.new.peaks c.raise_at-2.new.peaks c.requires.some c.requires.known touched
    touched_then
    (λ number rates there is. subst (λ k. fill rates k ≤ slice_index c.raise_at.new.peaks number)
    first (c.in_ok-raise_at.ensures.served number rates
    (subst (λ l. Contains l number) (sym c.outgoing.ensures.numbers) there) is))
    (λ number rates there is. subst (λ k. fill rates k ≤ slice_index c.raise_at-2.new.peaks number)
    last (c.in_ok-raise_at-2.ensures.served number rates
    (subst (λ l. Contains l number) (sym c.outgoing-2.ensures.numbers) there) is)))

pub returns-in_err-raise_at-clause-none : goal.returns-in_err-raise_at-clause-none
returns-in_err-raise_at-clause-none c =
    let node = c.args.node in
    let turns = c.args.turns in
    let counts = c.args.counts.now in
    let inside : node < length counts = omega (arith, c.requires.each, c.requires.node) in
    let first = ap count_at c.in_ok-add_firings.ensures.counts ∙ counts_fired counts node 1 inside
    in
    passes_if_none c.from_residual-in_err-raise_at.result (count_at c.add_firings.new.counts)
    (after (count_at counts) (repeated turns (node ∷ [])))
    (λ other. omega (
      arith,
      ap (λ k. k other) first,
      firing_count_repeated turns node other,
      turns_more 1 turns node other (omega (arith, c.requires.some)),
    ))
    c.in_err-raise_at.ensures.none

pub returns-in_err-raise_at-2-clause-none : goal.returns-in_err-raise_at-2-clause-none
returns-in_err-raise_at-2-clause-none c =
    let node = c.args.node in
    let turns = c.args.turns in
    let counts = c.args.counts.now in
    let one = c.add_firings.new.counts in
    let inside : node < length counts = omega (arith, c.requires.each, c.requires.node) in
    let first = ap count_at c.in_ok-add_firings.ensures.counts ∙ counts_fired counts node 1 inside
    in
    let long = ap length c.in_ok-add_firings.ensures.counts
    ∙ length-set counts node (count_at counts node + 1) in
    let last = ap count_at c.in_ok-add_firings-2.ensures.counts
    ∙ counts_fired one node (turns - 1) (omega (arith, inside, long)) in
    passes_if_none c.from_residual-in_err-raise_at-2.result (count_at c.add_firings-2.new.counts)
    (after (count_at counts) (repeated turns (node ∷ [])))
    (λ other. omega (
      arith,
      ap (λ k. k other) first,
      ap (λ k. k other) last,
      firing_count_repeated turns node other,
      turns_add 1 (turns - 1) node other,
      ap (λ n. turns_of n node other) (all_turns turns c.requires.some),
    ))
    c.in_err-raise_at-2.ensures.none
