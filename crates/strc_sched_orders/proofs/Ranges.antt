-- Closed ranges of nodes fire one after the other in greedy orders.
use Rattle.std.proofs.Common.{◌≡◌, ◌∙◌, refl, sym, ap, subst, ℕ, zero, suc, ◌+◌, ◌<◌, ◌≤◌}
use Rattle.std.proofs.Common.{List, [], ◌∷◌, ◌++◌, get_or, All, inl, inr, arith}
use Rattle.std.proofs.Common.{append_assoc, append-nil}
use Rattle.std.proofs.lemmas.Bool.{cases_lt}
use Rattle.std.proofs.lemmas.List.Elements.{All-cons, All-nil}
use Rattle.strc_startup.specs.Startup.{supply}
use Rattle.strc_startup.specs.declared.channel_rates.ChannelRates.{ChannelRates}
use Rattle.strc_sched_orders.specs.declared.unit as units
use Rattle.strc_sched_orders.specs.Firings.{Firings, turns_of, fired, reach, FindsWindows}
use Rattle.strc_sched_orders.specs.Greedy.{firings_of, less_turns, IsNext, IsGreedy}
use Rattle.strc_sched_orders.specs.Order.{firing_count, repeated}
use Rattle.strc_sched_orders.specs.Peaks.{HasNodes}
use Rattle.strc_sched_orders.specs.Ranges.{IsClosedBelow, HasNodesFrom, IsRange, joined_units}
use Rattle.strc_sched_orders.specs.Ranges.{IsInRanges, LowNodesFireFirst, RangesFireInTurn}
use Rattle.strc_sched_orders.proofs.FiringCounts.{turns_other, fired_none}
use Rattle.strc_sched_orders.proofs.FiringCounts.{firing_count_append, firing_count_repeated}

-- all of one node
one_node : (P : ℕ → Type 0) (nodes : List ℕ) (node : ℕ) → nodes ≡ node ∷ [] → P node → All P nodes
one_node P nodes node single is =
    subst (All P) (sym single) (All-cons P node [] is (All-nil P))

-- a unit's firings are those of its node
pub unit_fires : (unit : units.Unit.Unit) (rest : List units.Unit.Unit) (node : ℕ)
    → unit.nodes.items ≡ node ∷ [] → (other : ℕ)
    → firing_count (firings_of (unit ∷ rest)) other
    ≡ turns_of unit.turns node other + firing_count (firings_of rest) other
unit_fires unit rest node single other =
    firing_count_append (repeated unit.turns unit.nodes.items) (firings_of rest) other
    ∙ ap (λ n. n + firing_count (firings_of rest) other)
    (ap (λ l. firing_count (repeated unit.turns l) other) single
    ∙ firing_count_repeated unit.turns node other)

-- units, and then others
pub firings_joined : (low high : List units.Unit.Unit) (node : ℕ)
    → firing_count (firings_of (low ++ high)) node
    ≡ firing_count (firings_of low) node + firing_count (firings_of high) node
firings_joined [] high node = omega arith
firings_joined (unit ∷ low) high node =
    let own = repeated unit.turns unit.nodes.items in
    let a = firing_count_append own (firings_of (low ++ high)) node in
    let b = firing_count_append own (firings_of low) node in
    omega (arith, a, b, firings_joined low high node)

-- what a greedy order leaves to its later units
pub left_then : (left : Firings) (unit : units.Unit.Unit) (rest : List units.Unit.Unit) (node : ℕ)
    → unit.nodes.items ≡ node ∷ []
    → ((other : ℕ) → firing_count (firings_of (unit ∷ rest)) other ≡ left other) → (other : ℕ)
    → firing_count (firings_of rest) other ≡ less_turns left unit.turns node other
left_then left unit rest node single all other =
    omega (arith, all other, unit_fires unit rest node single other)

-- a node that finds its windows, and has firings left
record IsFound (channels : List ChannelRates) (counts left : Firings) (bound : ℕ) : Type 0 where
  node : ℕ
  below : node < bound
  some : 0 < left node
  finds : FindsWindows channels counts node

module _ (channels : List ChannelRates) (bound : ℕ) (closed : IsClosedBelow channels bound) where
  -- firings of nodes that aren't below give a lower node nothing
  found_before : (counts : Firings) (turns above node : ℕ) → bound ≤ above → node < bound
      → FindsWindows channels (fired counts turns above) node → FindsWindows channels counts node
  found_before counts turns above node high low finds k d within target =
      let rates : ChannelRates = get_or channels k d in
      let source = closed k d within (omega (arith, target, low)) in
      let s : fired counts turns above rates.source ≡ counts rates.source =
      omega (
        arith,
        turns_other turns above rates.source
            (λ same. omega (arith, same, source, high)),
      )
      in
      let t : fired counts turns above rates.target ≡ counts rates.target =
      omega (
        arith,
        turns_other turns above rates.target
            (λ same. omega (arith, same, target, low, high)),
      ) in
      let has = finds k d within target in
      omega (arith, has, ap (supply rates) s, ap (reach rates) t)

  -- where a lower node has firings left, one finds its windows
  first_below : (counts left : Firings) (order : List units.Unit.Unit) (lower : ℕ)
      → IsGreedy channels counts left order
      → ((node : ℕ) → firing_count (firings_of order) node ≡ left node)
      → lower < bound → 0 < left lower → IsFound channels counts left bound
  first_below counts left [] lower is all less some = absurd (omega (arith, all lower, some))
  first_below counts left (unit ∷ rest) lower (node, single, next, later) all less some =
      elim (cases_lt node bound) [
        | inl below ↦ record {
          node = node;
          below = below;
          some = omega (arith, next.some, next.within);
          finds = subst (λ k. FindsWindows channels k node) (fired_none counts node)
              (next.finds 0 next.some);
        }
        | inr above ↦
            let other = turns_other unit.turns node lower
            (λ same. omega (arith, same, less, above)) in
            let own = first_below (fired counts unit.turns node) (less_turns left unit.turns node)
            rest lower later (left_then left unit rest node single all) less
            (omega (arith, other, some)) in
            record {
              node = own.node;
              below = own.below;
              some = omega (arith, own.some);
              finds = found_before counts unit.turns node own.node above own.below own.finds;
            }
      ]

  -- so a greedy order that begins at or above the bound stays there
  none_below : (counts left : Firings) (turns above : ℕ) (order : List units.Unit.Unit)
      → IsGreedy channels counts left order
      → ((node : ℕ) → firing_count (firings_of order) node ≡ left node)
      → IsNext channels counts left turns above → bound ≤ above
      → (lower : ℕ) → lower < bound → left lower ≡ 0
  none_below counts left turns above order is all next high lower less =
      elim (cases_lt 0 (left lower)) [
        | inl some ↦
            let own = first_below counts left order lower is all less some in
            absurd (next.lowest own.node (omega (arith, own.below, high)) own.some own.finds)
        | inr none ↦ omega (arith, none)
      ]

  stays_above : (counts left : Firings) (order : List units.Unit.Unit)
      → IsGreedy channels counts left order
      → ((lower : ℕ) → lower < bound → left lower ≡ 0) → All (HasNodesFrom bound) order
  stays_above counts left [] is none = All-nil (HasNodesFrom bound)
  stays_above counts left (unit ∷ rest) (node, single, next, later) none =
      All-cons (HasNodesFrom bound) unit rest
      (one_node (λ n. bound ≤ n) unit.nodes.items node single
      (elim (cases_lt node bound) [
        | inl below ↦ absurd (omega (arith, none node below, next.some, next.within))
        | inr above ↦ above
      ]))
      (stays_above (fired counts unit.turns node) (less_turns left unit.turns node) rest later
      (λ lower less. omega (arith, none lower less)))

-- a greedy order, split at a bound: what comes after is greedy again
pub record Split (channels : List ChannelRates) (counts left : Firings) (bound : ℕ)
    (order : List units.Unit.Unit) : Type 0 where
  pub low : List units.Unit.Unit
  pub high : List units.Unit.Unit
  pub whole : order ≡ low ++ high
  pub below : All (HasNodes bound) low
  pub from : All (HasNodesFrom bound) high
  pub counts_then : Firings
  pub left_over : Firings
  pub greedy : IsGreedy channels counts_then left_over high
  pub all : (node : ℕ) → firing_count (firings_of high) node ≡ left_over node

pub split_at : (channels : List ChannelRates) (counts left : Firings) (bound : ℕ)
    (order : List units.Unit.Unit) → IsClosedBelow channels bound
    → IsGreedy channels counts left order
    → ((node : ℕ) → firing_count (firings_of order) node ≡ left node)
    → Split channels counts left bound order
split_at channels counts left bound [] closed is all = record {
  low = [];
  high = [];
  whole = refl;
  below = All-nil (HasNodes bound);
  from = All-nil (HasNodesFrom bound);
  counts_then = counts;
  left_over = left;
  greedy = is;
  all = all;
}
split_at channels counts left bound (unit ∷ rest) closed (node, single, next, later) all =
    elim (cases_lt node bound) [
      | inl below ↦
          let own = split_at channels (fired counts unit.turns node)
          (less_turns left unit.turns node) bound rest closed later
          (left_then left unit rest node single all) in
          record {
            low = unit ∷ own.low;
            high = own.high;
            whole = ap (λ l. unit ∷ l) own.whole;
            below = All-cons (HasNodes bound) unit own.low
                (one_node (λ n. n < bound) unit.nodes.items node single below) own.below;
            from = own.from;
            counts_then = own.counts_then;
            left_over = own.left_over;
            greedy = own.greedy;
            all = own.all;
          }
      | inr above ↦
          let is : IsGreedy channels counts left (unit ∷ rest) = (node, single, next, later) in
          record {
            low = [];
            high = unit ∷ rest;
            whole = refl;
            below = All-nil (HasNodes bound);
            from = stays_above channels bound closed counts left (unit ∷ rest) is
                (none_below channels bound closed counts left unit.turns node (unit ∷ rest) is all
                next above);
            counts_then = counts;
            left_over = left;
            greedy = is;
            all = all;
          }
    ]

pub low_nodes_fire_first : LowNodesFireFirst
low_nodes_fire_first channels counts firings order bound is closed =
    let own = split_at channels counts firings bound order closed is.greedy is.all in
    record {
      low = own.low;
      high = own.high;
      whole = own.whole;
      below = own.below;
      from = own.from;
    }

-- the first of so many lists, and then the others
abbrev then_parts : List units.Unit.Unit → (later : (part : ℕ) → List units.Unit.Unit) → (part : ℕ)
    → List units.Unit.Unit
then_parts first later zero = first
then_parts first later (suc part) = later part

joined_from : (first : List units.Unit.Unit) (later : (part : ℕ) → List units.Unit.Unit)
    (count : ℕ)
    → joined_units (then_parts first later) (suc count) ≡ first ++ joined_units later count
joined_from first later zero = sym (append-nil first)
joined_from first later (suc count) =
    ap (λ l. l ++ later count) (joined_from first later count)
    ∙ append_assoc first (joined_units later count) (later count)

-- two bounds between which nodes would lie that have no firings
none_between : (bound : ℕ) (order : List units.Unit.Unit) (counts left : Firings)
    (channels : List ChannelRates) → IsGreedy channels counts left order
    → ((node : ℕ) → 0 < left node → node < bound) → All (HasNodesFrom bound) order → order ≡ []
none_between bound [] counts left channels is below from = refl
none_between bound (unit ∷ rest) counts left channels (node, single, next, later) below from =
    let here = subst (All (λ n. bound ≤ n)) single (from 0 unit (omega arith)) 0 0 (omega arith) in
    absurd (omega (arith, here, below node (omega (arith, next.some, next.within))))

-- the nodes of what comes after a split are those that had firings before
left_of : (channels : List ChannelRates) (counts left : Firings) (bound : ℕ)
    (order : List units.Unit.Unit) (own : Split channels counts left bound order)
    → ((node : ℕ) → firing_count (firings_of order) node ≡ left node) → (node : ℕ)
    → own.left_over node ≤ left node
left_of channels counts left bound order own all node =
    let e = ap (λ l. firing_count (firings_of l) node) own.whole in
    let a = firings_joined own.low own.high node in
    omega (arith, e, a, all node, own.all node)

-- what holds of all units holds of the first ones
pub first_units : (P : units.Unit.Unit → Type 0) (low high : List units.Unit.Unit)
    → All P (low ++ high)
    → All P low
first_units P [] high all = All-nil P
first_units P (unit ∷ low) high all =
    All-cons P unit low (all 0 unit (omega arith))
    (first_units P low high (λ k d within. all (suc k) d (omega (arith, within))))

ranges : (count : ℕ) (channels : List ChannelRates) (counts left : Firings)
    (order : List units.Unit.Unit) (bound : (part : ℕ) → ℕ)
    → IsGreedy channels counts left order
    → ((node : ℕ) → firing_count (firings_of order) node ≡ left node)
    → ((part : ℕ) → part ≤ count → IsClosedBelow channels (bound part))
    → All (HasNodesFrom (bound 0)) order → ((node : ℕ) → 0 < left node → node < bound count)
    → IsInRanges bound count order
ranges zero channels counts left order bound is all closed from below = record {
  parts = λ part. [];
  whole = none_between (bound 0) order counts left channels is below from;
  each = λ part less. absurd (omega (arith, less));
}
ranges (suc count) channels counts left order bound is all closed from below =
    let own = split_at channels counts left (bound 1) order (closed 1 (omega arith)) is all in
    let rest = ranges count channels own.counts_then own.left_over own.high
    (λ part. bound (suc part)) own.greedy own.all
    (λ part less. closed (suc part) (omega (arith, less))) own.from
    (λ node some. below node
    (omega (arith, some, left_of channels counts left (bound 1) order own all node))) in
    let first : IsRange (bound 0) (bound 1) own.low = record {
      from = first_units (HasNodesFrom (bound 0)) own.low own.high
          (subst (All (HasNodesFrom (bound 0))) own.whole from);
      below = own.below;
    } in
    record {
      parts = then_parts own.low rest.parts;
      whole = own.whole ∙ ap (λ l. own.low ++ l) rest.whole
          ∙ sym (joined_from own.low rest.parts count);
      each = by_part own.low rest.parts first rest.each;
    }
  where
    by_part : (low : List units.Unit.Unit) (parts : (part : ℕ) → List units.Unit.Unit)
        → IsRange (bound 0) (bound 1) low
        → ((part : ℕ) → part < count
        → IsRange (bound (suc part)) (bound (suc (suc part))) (parts part))
        → (part : ℕ) → part < suc count
        → IsRange (bound part) (bound (suc part)) (then_parts low parts part)
    by_part low parts first each zero less = first
    by_part low parts first each (suc part) less = each part (omega (arith, less))

pub ranges_fire_in_turn : RangesFireInTurn
ranges_fire_in_turn channels counts firings order bound count is closed within =
    ranges count channels counts firings order bound is.greedy is.all closed
    (stays_above channels (bound 0) (closed 0 (omega arith)) counts firings order is.greedy
    (λ lower less. elim (cases_lt 0 (firings lower)) [
      | inl some ↦ absurd (omega (arith, less, (within lower some).0))
      | inr none ↦ omega (arith, none)
    ]))
    (λ node some. (within node some).1)
