-- The units of a greedy order: they fire a node each, and are the only ones.
use Rattle.std.proofs.Common.{◌≡◌, ◌∙◌, refl, sym, ap, subst, ℕ, ◌+◌, List, [], ◌∷◌}
use Rattle.std.proofs.Common.{length, arith}
use Rattle.strc_startup.specs.declared.channel_rates.ChannelRates.{ChannelRates}
use Rattle.strc_sched_orders.specs.declared.unit as units
use Rattle.strc_sched_orders.specs.Firings.{Firings, fired}
use Rattle.strc_sched_orders.specs.Greedy.{firings_of, less_turns, IsNext, IsGreedy, IsGreedyOrder}
use Rattle.strc_sched_orders.specs.Order.{firing_count, repeated}
use Rattle.strc_sched_orders.proofs.FiringCounts.{firing_count_append}
use Rattle.strc_sched_orders.proofs.Deciding.{same_node, same_turns, fires}
use Rattle.strc_elab_dataflow.specs.FusedUnits.{RoundUnit}
use Rattle.strc_fuse.specs.Laws.{AllFireNodes}
use Rattle.strc_fuse.specs.Units.{round_unit, round_units}

pub greedy_fires : (channels : List ChannelRates) (counts left : Firings)
    (order : List units.Unit.Unit) → IsGreedy channels counts left order
    → AllFireNodes (round_units order)
greedy_fires channels counts left [] is = tt
greedy_fires channels counts left (unit ∷ order) (node, single, next, later) = (
  record { turns = next.some; nodes = omega (arith, ap length single) },
  greedy_fires channels (fired counts unit.turns node) (less_turns left unit.turns node) order
      later,
)

-- how often a unit's node fires in it, and in those after it
unit_count : (unit : units.Unit.Unit) (rest : List units.Unit.Unit) (node other : ℕ)
    → unit.nodes.items ≡ node ∷ []
    → firing_count (firings_of (unit ∷ rest)) other
    ≡ firing_count (repeated unit.turns (node ∷ [])) other + firing_count (firings_of rest) other
unit_count unit rest node other single =
    firing_count_append (repeated unit.turns unit.nodes.items) (firings_of rest) other
    ∙ ap (λ (l : List ℕ). firing_count (repeated unit.turns l) other
    + firing_count (firings_of rest) other) single

same_units : (channels : List ChannelRates) (counts left : Firings)
    (order other : List units.Unit.Unit) → IsGreedy channels counts left order
    → IsGreedy channels counts left other
    → ((node : ℕ) → firing_count (firings_of order) node ≡ firing_count (firings_of other) node)
    → round_units order ≡ round_units other
same_units channels counts left [] [] one two same = refl
same_units channels counts left [] (unit ∷ rest) one (node, single, next, later) same =
    absurd (omega (arith, same node, fires channels counts left unit rest node single next))
same_units channels counts left (unit ∷ rest) [] (node, single, next, later) two same =
    absurd (omega (arith, same node, fires channels counts left unit rest node single next))
same_units channels counts left (a ∷ as_rest) (b ∷ bs_rest) (v, v_is, one, as_later)
    (w, w_is, two, bs_later) same =
    let node : v ≡ w = omega (
      arith,
      same_node channels counts left a.turns b.turns v w one two,
      same_node channels counts left b.turns a.turns w v two one,
    ) in
    let two_here = subst (λ n. IsNext channels counts left b.turns n) (sym node) two in
    let turns : a.turns ≡ b.turns = omega (
      arith,
      same_turns channels counts left a.turns b.turns v one two_here,
      same_turns channels counts left b.turns a.turns v two_here one,
    ) in
    let nodes : a.nodes.items ≡ b.nodes.items = v_is ∙ ap (λ n. n ∷ []) node ∙ sym w_is in
    let unit_is : round_unit a ≡ round_unit b =
    ap (λ (t : ℕ). record { turns = t; nodes = a.nodes.items }) turns
    ∙ ap (λ (l : List ℕ). record { turns = b.turns; nodes = l }) nodes in
    let counts_is = ap (λ t. fired counts t v) turns ∙ ap (fired counts b.turns) node in
    let left_is = ap (λ t. less_turns left t v) turns ∙ ap (less_turns left b.turns) node in
    let later = subst (λ k. IsGreedy channels k (less_turns left b.turns w) as_rest) counts_is
    (subst (λ l. IsGreedy channels (fired counts a.turns v) l as_rest) left_is as_later) in
    let rest = same_units channels (fired counts b.turns w) (less_turns left b.turns w) as_rest
    bs_rest later bs_later (λ other. omega (
      arith,
      same other,
      unit_count a as_rest v other v_is,
      unit_count b bs_rest w other w_is,
      ap (λ (t : ℕ). firing_count (repeated t (v ∷ [])) other) turns,
      ap (λ (n : ℕ). firing_count (repeated b.turns (n ∷ [])) other) node,
    )) in
    ap (λ (u : RoundUnit). u ∷ round_units as_rest) unit_is
    ∙ ap (λ (l : List RoundUnit). round_unit b ∷ l) rest

pub one_greedy : (channels : List ChannelRates) (counts firings : Firings)
    (order other : List units.Unit.Unit) → IsGreedyOrder channels counts firings order
    → IsGreedyOrder channels counts firings other → round_units order ≡ round_units other
one_greedy channels counts firings order other one two =
    same_units channels counts firings order other one.greedy two.greedy
    (λ node. omega (arith, one.all node, two.all node))
