-- Firings in turn, and the numbers of items that they raise.
use Rattle.std.proofs.Common.{◌≡◌, ◌∙◌, refl, sym, ap, subst, ℕ, zero, suc, ◌+◌, ◌<◌, ◌≤◌, List, []}
use Rattle.std.proofs.Common.{◌∷◌, ◌++◌, ◌-◌, length, take, get_or, append_assoc, append-nil, arith}
use Rattle.std.proofs.lemmas.List.{take_more}
use Rattle.strc_balance.specs.Balance.{count_at}
use Rattle.strc_startup.specs.declared.channel_rates.ChannelRates.{ChannelRates}
use Rattle.strc_sched_orders.specs.declared.unit as units
use Rattle.strc_sched_orders.specs.Firings.{fired}
use Rattle.strc_sched_orders.specs.Greedy.{firings_of}
use Rattle.strc_sched_orders.specs.Order.{after, firing_count, repeated}
use Rattle.strc_sched_orders.specs.Peaks.{AreBelow, AreRaised, Raises}
use Rattle.strc_sched_orders.proofs.Greedily.{firings_push}
use Rattle.strc_sched_orders.proofs.FiringCounts.{after_append, after_none, after_repeated}
use Rattle.strc_sched_orders.proofs.FiringCounts.{firing_count_append}
use Rattle.strc_sched_orders.proofs.Units.{firing_count_take}
use Rattle.strc_sched_orders.proofs.Touching.{raised_then, raised_below}

-- no firings
pub raises_none : (channels : List ChannelRates) (counts peaks : List ℕ)
    → AreBelow channels (count_at counts) peaks → Raises channels [] counts peaks counts peaks
raises_none channels counts peaks below = record {
  counted = sym (after_none (count_at counts));
  nodes = refl;
  channel = refl;
  peak = λ number rates there. omega (arith, below number rates there);
}

-- what was raised is not below what is there
pub raises_below : (channels : List ChannelRates) (order counts peaks later raised : List ℕ)
    → Raises channels order counts peaks later raised → AreBelow channels (count_at later) raised
raises_below channels order counts peaks later raised is =
    subst (λ k. AreBelow channels k raised) (sym is.counted)
    (raised_below channels (count_at counts) order peaks raised is.peak)

-- some firings, and then some more
pub raises_then : (channels : List ChannelRates) (a b counts peaks later raised last most : List ℕ)
    → Raises channels a counts peaks later raised → Raises channels b later raised last most
    → Raises channels (a ++ b) counts peaks last most
raises_then channels a b counts peaks later raised last most first next = record {
  counted = next.counted ∙ ap (λ k. after k b) first.counted
      ∙ sym (after_append (count_at counts) a b);
  nodes = next.nodes ∙ first.nodes;
  channel = next.channel ∙ first.channel;
  peak = raised_then channels (count_at counts) a b peaks raised most first.peak
      (subst (λ k. AreRaised channels k b raised most) first.counted next.peak);
}

-- the firings of a node, so many at once
pub raises_turns : (channels : List ChannelRates) (turns node : ℕ)
    (counts peaks later raised : List ℕ)
    → count_at later ≡ fired (count_at counts) turns node → length later ≡ length counts
    → length raised ≡ length peaks
    → AreRaised channels (count_at counts) (repeated turns (node ∷ [])) peaks raised
    → Raises channels (repeated turns (node ∷ [])) counts peaks later raised
raises_turns channels turns node counts peaks later raised counted nodes each peak = record {
  counted = counted ∙ sym (after_repeated (count_at counts) turns node);
  nodes = nodes;
  channel = each;
  peak = peak;
}

-- one node more of a list
pub list_more : (nodes : List ℕ) (i : ℕ) → i < length nodes
    → take (i + 1) nodes ≡ take i nodes ++ get_or nodes i 0 ∷ []
list_more nodes i within = take_more nodes i 0 within

-- one time more
pub repeated_more : (turns : ℕ) (nodes : List ℕ)
    → repeated (turns + 1) nodes ≡ repeated turns nodes ++ nodes
repeated_more turns nodes =
    let e : turns + 1 ≡ suc turns = omega arith in ap (λ n. repeated n nodes) e ∙ go turns
  where
    go : (turns : ℕ) → nodes ++ repeated turns nodes ≡ repeated turns nodes ++ nodes
    go zero = append-nil nodes
    go (suc turns) =
        ap (λ l. nodes ++ l) (go turns) ∙ sym (append_assoc nodes (repeated turns nodes) nodes)

-- one unit more
pub units_more : (order : List units.Unit.Unit) (i : ℕ) (unit : units.Unit.Unit)
    → i < length order → unit ≡ get_or order i unit
    → firings_of (take (i + 1) order)
    ≡ firings_of (take i order) ++ repeated unit.turns unit.nodes.items
units_more order i unit within is =
    ap firings_of (take_more order i unit within)
    ∙ ap (λ u. firings_of (take i order ++ u ∷ [])) (sym is)
    ∙ firings_push (take i order) unit

-- what has fired and what is next is within all

pub list_within : (nodes : List ℕ) (i node : ℕ) → i < length nodes
    → firing_count (take i nodes) node + firing_count (get_or nodes i 0 ∷ []) node
    ≤ firing_count nodes node
list_within (first ∷ nodes) zero node within = omega arith
list_within (first ∷ nodes) (suc i) node within =
    let more = list_within nodes i node (omega (arith, within)) in omega (arith, more)
list_within [] i node within = absurd (omega (arith, within))

fewer_turns : (some more : ℕ) (nodes : List ℕ) (node : ℕ)
    → firing_count (repeated some nodes) node ≤ firing_count (repeated (some + more) nodes) node
fewer_turns zero more nodes node = omega arith
fewer_turns (suc some) more nodes node =
    let e : suc some + more ≡ suc (some + more) = omega arith in
    let f = ap (λ n. firing_count (repeated n nodes) node) e in
    let a = firing_count_append nodes (repeated some nodes) node in
    let b = firing_count_append nodes (repeated (some + more) nodes) node in
    omega (arith, f, a, b, fewer_turns some more nodes node)

pub turns_within : (turn turns : ℕ) (nodes : List ℕ) (node : ℕ) → turn < turns
    → firing_count (repeated turn nodes) node + firing_count nodes node
    ≤ firing_count (repeated turns nodes) node
turns_within turn turns nodes node less =
    let e : turn + 1 + (turns - (turn + 1)) ≡ turns = omega (arith, less) in
    let f = ap (λ n. firing_count (repeated n nodes) node) e in
    let g = ap (λ l. firing_count l node) (repeated_more turn nodes) in
    let a = firing_count_append (repeated turn nodes) nodes node in
    omega (arith, f, g, a, fewer_turns (turn + 1) (turns - (turn + 1)) nodes node)

pub units_within : (order : List units.Unit.Unit) (i node : ℕ) (unit : units.Unit.Unit)
    → i < length order → unit ≡ get_or order i unit
    → firing_count (firings_of (take i order)) node
    + firing_count (repeated unit.turns unit.nodes.items) node
    ≤ firing_count (firings_of order) node
units_within order i node unit within is =
    let e = ap (λ l. firing_count l node) (units_more order i unit within is) in
    let a = firing_count_append (firings_of (take i order)) (repeated unit.turns unit.nodes.items)
    node in
    omega (arith, e, a, firing_count_take order (i + 1) node)

-- a list of one node
pub single_node : (nodes : List ℕ) (node : ℕ) → length nodes ≡ 1 → node ≡ get_or nodes 0 node
    → nodes ≡ node ∷ []
single_node [] node one is = absurd (omega (arith, one))
single_node (first ∷ []) node one is = ap (λ n. n ∷ []) (sym is)
single_node (first ∷ second ∷ nodes) node one is = absurd (omega (arith, one))
