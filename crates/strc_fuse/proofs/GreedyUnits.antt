-- The units of a greedy round: outside feedback loops they are placed.
use Rattle.std.proofs.Common.{◌≡◌, ◌≢◌, refl, sym, ap, ◌∙◌, subst, ℕ, zero, suc, ◌+◌, ◌*◌, ◌<◌, ◌≤◌}
use Rattle.std.proofs.Common.{Bool, true, List, [], ◌∷◌, ◌++◌, get_or, length, map, All, arith}
use Rattle.std.proofs.Common.{inl, inr, ◌⊎◌}
use Rattle.std.proofs.lemmas.Bool.{cases_eq}
use Rattle.strc_startup.specs.declared.channel_rates.ChannelRates.{ChannelRates}
use Rattle.strc_sched_orders.specs.declared.unit as units
use Rattle.strc_sched_orders.specs.Firings.{Firings, turns_of, fired}
use Rattle.strc_sched_orders.specs.Greedy.{firings_of, less_turns, IsGreedy, IsGreedyOrder}
use Rattle.strc_sched_orders.specs.Order.{firing_count}
use Rattle.strc_sched_orders.specs.Peaks.{HasNodes}
use Rattle.strc_sched_orders.specs.Ranges.{HasNodesFrom, IsOuter, HasOneUnit}
use Rattle.strc_sched_orders.proofs.FiringCounts.{firing_count_append, turns_same, turns_other}
use Rattle.strc_sched_orders.proofs.OuterNodes.{outer_nodes_have_one_unit}
use Rattle.strc_sched_orders.proofs.Ranges.{unit_fires}
use Rattle.strc_elab_dataflow.specs.FusedUnits.{RoundUnit, AreFree, nodes_of}
use Rattle.strc_fuse.specs.Units.{round_unit, round_units, IsPlaced, ArePlaced}
use Rattle.strc_fuse.proofs.Counting.{occurs}

abbrev Units : Type 0
Units = List units.Unit.Unit

pub head_of : (P : units.Unit.Unit → Type 0) (unit : units.Unit.Unit) (rest : Units)
    → All P (unit ∷ rest) → P unit
head_of P unit rest all = all 0 unit (omega arith)

pub tail_of : (P : units.Unit.Unit → Type 0) (unit : units.Unit.Unit) (rest : Units)
    → All P (unit ∷ rest) → All P rest
tail_of P unit rest all k d less = all (suc k) d (omega (arith, less))

back_of : (P : units.Unit.Unit → Type 0) (front : Units) (unit : units.Unit.Unit) (rest : Units)
    → All P (front ++ unit ∷ rest) → P unit
back_of P [] unit rest all = head_of P unit rest all
back_of P (first ∷ front) unit rest all =
    back_of P front unit rest (tail_of P first (front ++ unit ∷ rest) all)

-- a list of one node that has a property
single_has : (P : ℕ → Type 0) (nodes : List ℕ) (node : ℕ) → nodes ≡ node ∷ [] → All P nodes
    → P node
single_has P nodes node single all = subst (All P) single all 0 node (omega arith)

-- nodes below a bound are in no unit with nodes from it on
none_in : (bound node : ℕ) (nodes : List ℕ) → node < bound → All (λ other. bound ≤ other) nodes
    → firing_count nodes node ≡ 0
none_in bound node [] less from = omega arith
none_in bound node (first ∷ nodes) less from =
    let here : bound ≤ first = from 0 first (omega arith) in
    omega (
      arith,
      turns_other 1 first node (λ same. omega (arith, same, here, less)),
      none_in bound node nodes less (λ k d within. from (suc k) d (omega (arith, within))),
    )

none_later : (bound node : ℕ) (later : Units) → node < bound → All (HasNodesFrom bound) later
    → firing_count (nodes_of (round_units later)) node ≡ 0
none_later bound node [] less from = omega arith
none_later bound node (unit ∷ later) less from = omega (
  arith,
  firing_count_append unit.nodes.items (nodes_of (round_units later)) node,
  none_in bound node unit.nodes.items less (head_of (HasNodesFrom bound) unit later from),
  none_later bound node later less (tail_of (HasNodesFrom bound) unit later from),
)

-- a unit of a node is the one unit that has the node
record IsSame (unit other : units.Unit.Unit) (rest later : Units) : Type 0 where
  alike : unit ≡ other
  rest_alike : rest ≡ later

module _ (node : ℕ) (unit : units.Unit.Unit) (single : unit.nodes.items ≡ node ∷ [])
    (rest : Units) (other : units.Unit.Unit) (later : Units)
    (higher : All (HasNodesFrom (suc node)) later) where
  the_same : (front before : Units) → front ++ unit ∷ rest ≡ before ++ other ∷ later
      → All (HasNodes node) before → IsSame unit other rest later
  the_same [] [] e lower = record { alike = cc; rest_alike = cc }
  the_same [] (first ∷ before) e lower =
      let own : unit ≡ first = cc in
      let less : node < node = single_has (λ n. n < node) unit.nodes.items node single
      (subst (HasNodes node) (sym own) (head_of (HasNodes node) first before lower)) in
      absurd (omega (arith, less))
  the_same (first ∷ front) [] e lower =
      let own : front ++ unit ∷ rest ≡ later = cc in
      let more : suc node ≤ node = single_has (λ n. suc node ≤ n) unit.nodes.items node single
      (back_of (HasNodesFrom (suc node)) front unit rest
      (subst (All (HasNodesFrom (suc node))) (sym own) higher)) in
      absurd (omega (arith, more))
  the_same (first ∷ front) (second ∷ before) e lower =
      let own : front ++ unit ∷ rest ≡ before ++ other ∷ later = cc in
      the_same front before own (tail_of (HasNodes node) second before lower)

module _ (channels : List ChannelRates) (counts firings : Firings) (order : Units)
    (is : IsGreedyOrder channels counts firings order) where
  -- a list of one node has no other
  only : (node v : ℕ) (nodes : List ℕ) → nodes ≡ node ∷ [] → 0 < firing_count nodes v → v ≡ node
  only node v nodes single some = elim (cases_eq v node) [
    | inl same ↦ same
    | inr apart ↦ absurd (omega (
      arith,
      some,
      ap (λ (l : List ℕ). firing_count l v) single,
      turns_other 1 node v apart,
    ))
  ]

  module _ (node : ℕ) (outer : IsOuter channels node) (unit : units.Unit.Unit) (rest : Units)
      (single : unit.nodes.items ≡ node ∷ []) (some : 0 < firings node) (front : Units)
      (whole : order ≡ front ++ unit ∷ rest) where
    abbrev one : HasOneUnit firings order node
    one = outer_nodes_have_one_unit channels counts firings order node is outer some

    same : IsSame unit one.unit rest one.later
    same = the_same node unit single rest one.unit one.later one.higher front one.before
        (sym whole ∙ one.whole) one.lower

    from : All (HasNodesFrom (suc node)) rest
    from = subst (All (HasNodesFrom (suc node))) (sym same.rest_alike) one.higher

    turns_are : unit.turns ≡ firings node
    turns_are = ap (λ (u : units.Unit.Unit). u.turns) same.alike ∙ one.turns

    count_is : firing_count unit.nodes.items node ≡ 1
    count_is = ap (λ (l : List ℕ). firing_count l node) single
        ∙ (let e : turns_of 1 node node + 0 ≡ 1 =
        omega (arith, turns_same 1 node node refl) in e)

    unit_placed : IsPlaced channels firings (round_unit unit) (round_units rest)
    unit_placed = record {
      whole = λ v there.
          let e = only node v unit.nodes.items single there in
          subst (λ (n : ℕ). unit.turns * firing_count unit.nodes.items n ≡ firings n) (sym e)
          (let f : unit.turns * firing_count unit.nodes.items node ≡ firings node =
          omega (arith, turns_are, ap (λ (n : ℕ). unit.turns * n) count_is) in f);
      not_later = λ v there.
          let e = only node v unit.nodes.items single there in
          none_later (suc node) v rest (omega (arith, e)) from;
      fed = λ k d within there.
          let rates : ChannelRates = get_or channels k d in
          let e = only node rates.target unit.nodes.items single there in
          let less = outer k d within (omega (arith, e)) in
          none_later (suc node) rates.source rest (omega (arith, less)) from;
    }

  module _ (free : ℕ → Bool) (outer : (node : ℕ) → free node ≡ true → IsOuter channels node) where
    free_node : (node : ℕ) (nodes : List ℕ) → nodes ≡ node ∷ [] → AreFree free nodes
        → free node ≡ true
    free_node node nodes single free_nodes = (subst (AreFree free) single free_nodes).0

    placed_from : (front rest : Units) → order ≡ front ++ rest → (now left : Firings)
        → IsGreedy channels now left rest
        → ((node : ℕ) → left node ≤ firings node)
        → ArePlaced channels firings free (round_units rest)
    placed_from front [] whole now left greedy less = tt
    placed_from front (unit ∷ rest) whole now left (node, single, next, later) less = (
      λ free_nodes. unit_placed node
          (outer node (free_node node unit.nodes.items single free_nodes))
          unit rest single (omega (arith, next.some, next.within, less node)) front whole,
      placed_from (front ++ unit ∷ []) rest
          (whole ∙ sym (joined_at front unit rest)) (fired now unit.turns node)
          (less_turns left unit.turns node) later
          (λ other. omega (arith, less other)),
    )
      where
        joined_at : (front : Units) (unit : units.Unit.Unit) (rest : Units)
            → (front ++ unit ∷ []) ++ rest ≡ front ++ unit ∷ rest
        joined_at [] unit rest = refl
        joined_at (first ∷ front) unit rest =
            ap (λ (l : Units). first ∷ l) (joined_at front unit rest)

    pub greedy_placed : ArePlaced channels firings free (round_units order)
    greedy_placed = placed_from [] order refl counts firings is.greedy (λ node. omega arith)
