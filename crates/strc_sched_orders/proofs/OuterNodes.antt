-- Outside feedback loops all firings of a node are one unit of a greedy order.
use Rattle.std.proofs.Common.{◌≡◌, ◌≢◌, ◌∙◌, refl, sym, ap, subst, ℕ, zero, suc, ◌<◌, ◌≤◌}
use Rattle.std.proofs.Common.{List, [], ◌∷◌, ◌++◌, All, arith}
use Rattle.strc_startup.specs.declared.channel_rates.ChannelRates.{ChannelRates}
use Rattle.strc_sched_orders.specs.declared.unit as units
use Rattle.strc_sched_orders.specs.Firings.{Firings, fired, FindsWindows}
use Rattle.strc_sched_orders.specs.Greedy.{firings_of, less_turns, IsGreedy}
use Rattle.strc_sched_orders.specs.Order.{firing_count, repeated}
use Rattle.strc_sched_orders.specs.Peaks.{HasNodes}
use Rattle.strc_sched_orders.specs.Ranges.{IsClosedBelow, HasNodesFrom, IsOuter}
use Rattle.strc_sched_orders.specs.Ranges.{HasOneUnit, OuterNodesHaveOneUnit}
use Rattle.strc_sched_orders.proofs.FiringCounts.{turns_same, turns_other, fired_none}
use Rattle.strc_sched_orders.proofs.FiringCounts.{firing_count_append}
use Rattle.strc_sched_orders.proofs.Ranges.{unit_fires, firings_joined, first_units, split_at}
use Rattle.strc_sched_orders.proofs.Ranges.{Split}

-- nothing leads down to an outer node, nor to lower ones
closed_to : (channels : List ChannelRates) (node : ℕ) → IsOuter channels node
    → IsClosedBelow channels node
closed_to channels node outer k d within less = outer k d within (omega (arith, less))

closed_past : (channels : List ChannelRates) (node : ℕ) → IsOuter channels node
    → IsClosedBelow channels (suc node)
closed_past channels node outer k d within less =
    omega (arith, outer k d within (omega (arith, less)))

-- units of other nodes have no firings of a node
no_firings : (nodes : List ℕ) (node : ℕ) → All (λ n. n ≢ node) nodes
    → firing_count nodes node ≡ 0
no_firings [] node others = refl
no_firings (first ∷ nodes) node others =
    omega (
      arith,
      turns_other 1 first node (λ same. others 0 first (omega arith) (sym same)),
      no_firings nodes node (λ k d within. others (suc k) d (omega (arith, within))),
    )

no_turns : (turns : ℕ) (nodes : List ℕ) (node : ℕ) → All (λ n. n ≢ node) nodes
    → firing_count (repeated turns nodes) node ≡ 0
no_turns zero nodes node others = refl
no_turns (suc turns) nodes node others =
    omega (
      arith,
      firing_count_append nodes (repeated turns nodes) node,
      no_firings nodes node others,
      no_turns turns nodes node others,
    )

no_units : (order : List units.Unit.Unit) (node : ℕ)
    → All (λ (unit : units.Unit.Unit). All (λ n. n ≢ node) unit.nodes.items) order
    → firing_count (firings_of order) node ≡ 0
no_units [] node others = refl
no_units (unit ∷ order) node others =
    omega (
      arith,
      firing_count_append (repeated unit.turns unit.nodes.items) (firings_of order) node,
      no_turns unit.turns unit.nodes.items node (others 0 unit (omega arith)),
      no_units order node (λ k d within. others (suc k) d (omega (arith, within))),
    )

none_below : (bound node : ℕ) (order : List units.Unit.Unit) → All (HasNodes bound) order
    → bound ≤ node → firing_count (firings_of order) node ≡ 0
none_below bound node order below high =
    no_units order node (λ k d within j e inside same.
    omega (arith, below k d within j e inside, same, high))

none_from : (bound node : ℕ) (order : List units.Unit.Unit) → All (HasNodesFrom bound) order
    → node < bound → firing_count (firings_of order) node ≡ 0
none_from bound node order from low =
    no_units order node (λ k d within j e inside same.
    omega (arith, from k d within j e inside, same, low))

-- units of one node at the front of a greedy order are one unit
record IsFirstUnit (left : Firings) (node : ℕ) (low : List units.Unit.Unit) : Type 0 where
  unit : units.Unit.Unit
  only : low ≡ unit ∷ []
  nodes : unit.nodes.items ≡ node ∷ []

-- the node of a unit that has it alone
node_is : (unit : units.Unit.Unit) (node own : ℕ) → unit.nodes.items ≡ own ∷ []
    → HasNodesFrom node unit → HasNodes (suc node) unit → own ≡ node
node_is unit node own single from below =
    let a = subst (All (λ n. node ≤ n)) single from 0 0 (omega arith) in
    let b = subst (All (λ n. n < suc node)) single below 0 0 (omega arith) in
    omega (arith, a, b)

one_unit : (channels : List ChannelRates) (counts left : Firings) (node : ℕ)
    (low high : List units.Unit.Unit) → IsGreedy channels counts left (low ++ high)
    → All (HasNodesFrom node) low → All (HasNodes (suc node)) low
    → 0 < firing_count (firings_of low) node → IsFirstUnit left node low
one_unit channels counts left node [] high is from below some = absurd (omega (arith, some))
one_unit channels counts left node (unit ∷ []) high (own, single, next, later) from below some =
    let same = node_is unit node own single (from 0 unit (omega arith))
    (below 0 unit (omega arith)) in
    record { unit = unit; only = refl; nodes = single ∙ ap (λ n. n ∷ []) same }
one_unit channels counts left node (unit ∷ second ∷ rest) high
    (own, single, next, (other, alone, then_next, later)) from below some =
    let same = node_is unit node own single (from 0 unit (omega arith))
    (below 0 unit (omega arith)) in
    let again = node_is second node other alone (from 1 second (omega arith))
    (below 1 second (omega arith)) in
    let twice : other ≡ own = again ∙ sym same in
    let finds = subst (λ n. FindsWindows channels (fired counts unit.turns own) n) twice
    (subst (λ k. FindsWindows channels k other) (fired_none (fired counts unit.turns own) other)
    (then_next.finds 0 then_next.some)) in
    let more : unit.turns < left own =
    omega (
      arith,
      then_next.some,
      then_next.within,
      ap (less_turns left unit.turns own) twice,
      turns_same unit.turns own own refl,
    ) in
    absurd (next.most more finds)

-- the firings of a node in an order that is split at it, and then past it
module _ (channels : List ChannelRates) (counts firings : Firings) (order : List units.Unit.Unit)
    (node : ℕ) (all : (other : ℕ) → firing_count (firings_of order) other ≡ firings other)
    (first : Split channels counts firings node order) where
  fires_before : (other : ℕ) → other < node
      → firing_count (firings_of first.low) other ≡ firings other
  fires_before other less =
      omega (
        arith,
        all other,
        ap (λ l. firing_count (firings_of l) other) first.whole,
        firings_joined first.low first.high other,
        none_from node other first.high first.from less,
      )

  fires_middle : (low high : List units.Unit.Unit) → first.high ≡ low ++ high
      → All (HasNodesFrom (suc node)) high → firing_count (firings_of low) node ≡ firings node
  fires_middle low high whole from =
      omega (
        arith,
        all node,
        ap (λ l. firing_count (firings_of l) node) first.whole,
        firings_joined first.low first.high node,
        none_below node node first.low first.below (omega arith),
        ap (λ l. firing_count (firings_of l) node) whole,
        firings_joined low high node,
        none_from (suc node) node high from (omega arith),
      )

  -- the units between are one
  module _ (second : Split channels first.counts_then first.left_over (suc node) first.high)
      (own : IsFirstUnit first.left_over node second.low) where
    own_turns : own.unit.turns ≡ firings node
    own_turns =
        omega (
          arith,
          ap (λ l. firing_count (firings_of l) node) own.only,
          unit_fires own.unit [] node own.nodes node,
          turns_same own.unit.turns node node refl,
          fires_middle second.low second.high second.whole second.from,
        )

    has_one_unit : HasOneUnit firings order node
    has_one_unit = record {
      before = first.low;
      unit = own.unit;
      later = second.high;
      whole = first.whole
          ∙ ap (λ l. first.low ++ l) (second.whole ∙ ap (λ l. l ++ second.high) own.only);
      turns = own_turns;
      nodes = own.nodes;
      lower = first.below;
      higher = second.from;
      done = fires_before;
    }

  first_unit : (second : Split channels first.counts_then first.left_over (suc node) first.high)
      → 0 < firings node → IsFirstUnit first.left_over node second.low
  first_unit second some =
      one_unit channels first.counts_then first.left_over node second.low second.high
      (subst (IsGreedy channels first.counts_then first.left_over) second.whole first.greedy)
      (first_units (HasNodesFrom node) second.low second.high
      (subst (All (HasNodesFrom node)) second.whole first.from))
      second.below
      (omega (arith, some, fires_middle second.low second.high second.whole second.from))

pub outer_nodes_have_one_unit : OuterNodesHaveOneUnit
outer_nodes_have_one_unit channels counts firings order node is outer some =
    let first = split_at channels counts firings node order (closed_to channels node outer)
    is.greedy is.all in
    let second = split_at channels first.counts_then first.left_over (suc node) first.high
    (closed_past channels node outer) first.greedy first.all in
    has_one_unit channels counts firings order node is.all first second
    (first_unit channels counts firings order node is.all first second some)
