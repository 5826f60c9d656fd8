-- Fusion of a round's units, from left to right, leaves an order, and units that are placed.
use Rattle.std.proofs.Common.{◌≡◌, refl, sym, ap, ◌∙◌, subst, ℕ, zero, suc, ◌+◌, ◌*◌, ◌<◌, ◌≤◌}
use Rattle.std.proofs.Common.{◌/◌, Bool, List, [], ◌∷◌, ◌++◌, get_or, length, All, arith}
use Rattle.std.proofs.Common.{append_assoc}
use Rattle.std.proofs.Common.{inl, inr, ◌⊎◌}
use Rattle.std.proofs.lemmas.Bool.{cases_lt}
use Rattle.std.proofs.Math.Nat.{mul-div_cancel_left}
use Rattle.strc_startup.specs.Startup.{popped, supply}
use Rattle.strc_startup.specs.declared.channel_rates.ChannelRates.{ChannelRates}
use Rattle.strc_sched_orders.specs.Firings.{Firings}
use Rattle.strc_sched_orders.specs.Order.{firing_count, IsOrder}
use Rattle.strc_sched_orders.specs.Rounds.{IsPastPrework, RoundBalances}
use Rattle.strc_sched_orders.proofs.FiringCounts.{firing_count_append}
use Rattle.strc_elab_dataflow.specs.Fused.{repeated}
use Rattle.strc_elab_dataflow.specs.FusedUnits.{RoundUnit, firings_of, nodes_of, joined_unit}
use Rattle.strc_elab_dataflow.specs.FusedUnits.{AreFree}
use Rattle.strc_elab_dataflow.specs.FusedUnits.{IsFused, AreFused}
use Rattle.strc_elab_dataflow.proofs.Merging.{fused_passes}
use Rattle.strc_elab_dataflow.proofs.Passing.{IsClear, IsForward}
use Rattle.strc_fuse.specs.Units.{IsPlaced, ArePlaced}
use Rattle.strc_fuse.proofs.Channels.{link_of, order_on, order_from, passes_from, from_passes}
use Rattle.strc_fuse.proofs.Channels.{sum_gives, sum_taken}
use Rattle.strc_fuse.proofs.Counting.{count_repeated, count_joined, occurs, times_zero, in_either}
use Rattle.strc_sched_laws.proofs.Orders.{firing_count_is}

cancel : (h x y : ℕ) → 0 < h → h * x ≡ h * y → x ≡ y
cancel h x y some e =
    sym (mul-div_cancel_left x some) ∙ ap (λ (k : ℕ). k / h) e ∙ mul-div_cancel_left y some

-- counts of units, fused or not

module _ (free : ℕ → Bool) (limit : ℕ) where
  joined_counts : (h m n : ℕ) (unit next : RoundUnit) (rest : List RoundUnit) (node : ℕ)
      → unit.turns ≡ h * m → next.turns ≡ h * n
      → firing_count (firings_of (joined_unit h m n unit next ∷ rest)) node
      ≡ firing_count (firings_of (unit ∷ next ∷ rest)) node
  joined_counts h m n unit next rest node first second = omega (
    arith,
    firing_count_append (repeated h (joined_unit h m n unit next).nodes) (firings_of rest) node,
    count_repeated h (joined_unit h m n unit next).nodes node,
    ap (λ (k : ℕ). h * k) (count_joined h m n unit next node),
    firing_count_append (repeated unit.turns unit.nodes) (firings_of (next ∷ rest)) node,
    count_repeated unit.turns unit.nodes node,
    ap (λ (k : ℕ). k * firing_count unit.nodes node) first,
    firing_count_append (repeated next.turns next.nodes) (firings_of rest) node,
    count_repeated next.turns next.nodes node,
    ap (λ (k : ℕ). k * firing_count next.nodes node) second,
  )

  counts_from : (rest : List RoundUnit) (unit : RoundUnit) (fused : List RoundUnit) (node : ℕ)
      → IsFused free limit unit rest fused
      → firing_count (firings_of fused) node ≡ firing_count (firings_of (unit ∷ rest)) node
  counts_from [] unit fused node is =
      ap (λ (l : List RoundUnit). firing_count (firings_of l) node) is
  counts_from (next ∷ rest) unit fused node (inl (h, m, n, joins, is)) =
      counts_from rest (joined_unit h m n unit next) fused node is
      ∙ joined_counts h m n unit next rest node joins.first_turns joins.second_turns
  counts_from (next ∷ rest) unit fused node (inr (apart, (others, same, is))) = omega (
    arith,
    ap (λ (l : List RoundUnit). firing_count (firings_of l) node) same,
    firing_count_append (repeated unit.turns unit.nodes) (firings_of others) node,
    firing_count_append (repeated unit.turns unit.nodes) (firings_of (next ∷ rest)) node,
    counts_from rest next others node is,
  )

  -- each node fires as often
  pub fused_counts_are : (units fused : List RoundUnit) (node : ℕ) → AreFused free limit units fused
      → firing_count (firings_of fused) node ≡ firing_count (firings_of units) node
  fused_counts_are [] fused node is =
      ap (λ (l : List RoundUnit). firing_count (firings_of l) node) is
  fused_counts_are (unit ∷ rest) fused node is = counts_from rest unit fused node is

  -- a node that is in no list is in no fused one
  absent_from : (rest : List RoundUnit) (unit : RoundUnit) (fused : List RoundUnit) (node : ℕ)
      → IsFused free limit unit rest fused → firing_count (nodes_of (unit ∷ rest)) node ≡ 0
      → firing_count (nodes_of fused) node ≡ 0
  absent_from [] unit fused node is none =
      ap (λ (l : List RoundUnit). firing_count (nodes_of l) node) is ∙ none
  absent_from (next ∷ rest) unit fused node (inl (h, m, n, joins, is)) none =
      absent_from rest (joined_unit h m n unit next) fused node is (omega (
        arith,
        none,
        firing_count_append unit.nodes (nodes_of (next ∷ rest)) node,
        firing_count_append next.nodes (nodes_of rest) node,
        firing_count_append (joined_unit h m n unit next).nodes (nodes_of rest) node,
        count_joined h m n unit next node,
        times_zero m (firing_count unit.nodes node) (omega (
          arith,
          none,
          firing_count_append unit.nodes (nodes_of (next ∷ rest)) node,
        )),
        times_zero n (firing_count next.nodes node) (omega (
          arith,
          none,
          firing_count_append unit.nodes (nodes_of (next ∷ rest)) node,
          firing_count_append next.nodes (nodes_of rest) node,
        )),
      ))
  absent_from (next ∷ rest) unit fused node (inr (apart, (others, same, is))) none = omega (
    arith,
    none,
    ap (λ (l : List RoundUnit). firing_count (nodes_of l) node) same,
    firing_count_append unit.nodes (nodes_of others) node,
    firing_count_append unit.nodes (nodes_of (next ∷ rest)) node,
    absent_from rest next others node is (omega (
      arith,
      none,
      firing_count_append unit.nodes (nodes_of (next ∷ rest)) node,
    )),
  )

  pub absent_in : (units fused : List RoundUnit) (node : ℕ) → AreFused free limit units fused
      → firing_count (nodes_of units) node ≡ 0 → firing_count (nodes_of fused) node ≡ 0
  absent_in [] fused node is none =
      ap (λ (l : List RoundUnit). firing_count (nodes_of l) node) is ∙ none
  absent_in (unit ∷ rest) fused node is none = absent_from rest unit fused node is none

module _ (channels : List ChannelRates) (round : Firings) where
  module _ (h m n : ℕ) (unit next : RoundUnit) (rest : List RoundUnit)
      (first_turns : unit.turns ≡ h * m) (second_turns : next.turns ≡ h * n)
      (placed : IsPlaced channels round unit (next ∷ rest))
      (later : IsPlaced channels round next rest) where
    not_next : (node : ℕ) → 0 < firing_count unit.nodes node → firing_count next.nodes node ≡ 0
    not_next node some = omega (
      arith,
      placed.not_later node some,
      firing_count_append next.nodes (nodes_of rest) node,
    )

    not_first : (node : ℕ) → 0 < firing_count next.nodes node → firing_count unit.nodes node ≡ 0
    not_first node some = elim (occurs unit.nodes node) [
      | inl there ↦ absurd (omega (arith, not_next node there, some))
      | inr none ↦ none
    ]

    whole_by : (node : ℕ) → (0 < firing_count unit.nodes node) ⊎ (0 < firing_count next.nodes node)
        → h * firing_count (joined_unit h m n unit next).nodes node ≡ round node
    whole_by node (inl some) = omega (
      arith,
      placed.whole node some,
      ap (λ (k : ℕ). k * firing_count unit.nodes node) first_turns,
      ap (λ (k : ℕ). h * k) (count_joined h m n unit next node),
      ap (λ (k : ℕ). h * k) (times_zero n (firing_count next.nodes node) (not_next node some)),
    )
    whole_by node (inr some) = omega (
      arith,
      later.whole node some,
      ap (λ (k : ℕ). k * firing_count next.nodes node) second_turns,
      ap (λ (k : ℕ). h * k) (count_joined h m n unit next node),
      ap (λ (k : ℕ). h * k) (times_zero m (firing_count unit.nodes node) (not_first node some)),
    )

    later_by : (node : ℕ) → (0 < firing_count unit.nodes node) ⊎ (0 < firing_count next.nodes node)
        → firing_count (nodes_of rest) node ≡ 0
    later_by node (inl some) = omega (
      arith,
      placed.not_later node some,
      firing_count_append next.nodes (nodes_of rest) node,
    )
    later_by node (inr some) = later.not_later node some

    fed_by : (k : ℕ) (d : ChannelRates) → k < length channels
        → (0 < firing_count unit.nodes (get_or channels k d).target)
        ⊎ (0 < firing_count next.nodes (get_or channels k d).target)
        → firing_count (nodes_of rest) (get_or channels k d).source ≡ 0
    fed_by k d within (inl some) = omega (
      arith,
      placed.fed k d within some,
      firing_count_append next.nodes (nodes_of rest) (get_or channels k d).source,
    )
    fed_by k d within (inr some) = later.fed k d within some

    pub joined_placed : IsPlaced channels round (joined_unit h m n unit next) rest
    joined_placed = record {
      whole = λ node some. whole_by node (in_either h m n unit next node some);
      not_later = λ node some. later_by node (in_either h m n unit next node some);
      fed = λ k d within some. fed_by k d within
          (in_either h m n unit next (get_or channels k d).target some);
    }

    module _ (some_turns : 0 < h) (rates : ChannelRates) (balanced : RoundBalances round rates)
        (fed : 0 < firing_count unit.nodes rates.target
        → firing_count (nodes_of (next ∷ rest)) rates.source ≡ 0) where
      clear_of : (nodes : List ℕ) → firing_count nodes rates.target ≡ 0
          → firing_count nodes rates.source ≡ 0
          → IsClear (link_of rates) unit.nodes next.nodes m n nodes
      clear_of nodes no_target no_source = record {
        no_target = firing_count_is nodes rates.target ∙ no_target;
        no_gift = sum_gives rates nodes
            ∙ (let e : firing_count nodes rates.source * rates.push ≡ 0 =
            omega (arith, ap (λ (k : ℕ). k * rates.push) no_source) in e);
      }

      -- the first nodes give in a round what the second take
      passed_on : 0 < firing_count unit.nodes rates.source
          → 0 < firing_count next.nodes rates.target
          → m * (firing_count unit.nodes rates.source * rates.push)
          ≡ n * (firing_count next.nodes rates.target * rates.pop)
      passed_on gives takes =
          cancel h (m * (firing_count unit.nodes rates.source * rates.push))
          (n * (firing_count next.nodes rates.target * rates.pop)) some_turns (omega (
            arith,
            ap (λ (k : ℕ). k * firing_count unit.nodes rates.source * rates.push) first_turns,
            ap (λ (k : ℕ). k * firing_count next.nodes rates.target * rates.pop) second_turns,
            ap (λ (k : ℕ). k * rates.push) (placed.whole rates.source gives),
            ap (λ (k : ℕ). k * rates.pop) (later.whole rates.target takes),
            balanced,
          ))

      forward : 0 < firing_count unit.nodes rates.source
          → 0 < firing_count next.nodes rates.target
          → IsForward (link_of rates) unit.nodes next.nodes m n
      forward gives takes = record {
        no_target = firing_count_is unit.nodes rates.target ∙ not_first rates.target takes;
        no_gift = sum_gives rates next.nodes
            ∙ (let e : firing_count next.nodes rates.source * rates.push ≡ 0 =
            omega (arith, ap (λ (k : ℕ). k * rates.push) (not_next rates.source gives)) in e);
        balance = ap (λ (k : ℕ). m * k) (sum_gives rates unit.nodes)
            ∙ passed_on gives takes
            ∙ sym (ap (λ (k : ℕ). n * k) (sum_taken rates next.nodes));
      }

      abbrev Merge : Type 0
      Merge = IsClear (link_of rates) unit.nodes next.nodes m n next.nodes
          ⊎ (IsClear (link_of rates) unit.nodes next.nodes m n unit.nodes
          ⊎ IsForward (link_of rates) unit.nodes next.nodes m n)

      taking : 0 < firing_count next.nodes rates.target → Merge
      taking takes = elim (occurs unit.nodes rates.source) [
        | inl gives ↦ inr (inr (forward gives takes))
        | inr none ↦ inr (inl (clear_of unit.nodes (not_first rates.target takes) none))
      ]

      giving : firing_count next.nodes rates.target ≡ 0
          → 0 < firing_count next.nodes rates.source → Merge
      giving none gives = elim (occurs unit.nodes rates.target) [
        | inr absent ↦ inr (inl (clear_of unit.nodes absent (not_first rates.source gives)))
        | inl there ↦ absurd (omega (
          arith,
          fed there,
          firing_count_append next.nodes (nodes_of rest) rates.source,
          gives,
        ))
      ]

      merges : Merge
      merges = elim (occurs next.nodes rates.target) [
        | inl takes ↦ taking takes
        | inr none ↦ elim (occurs next.nodes rates.source) [
          | inl gives ↦ giving none gives
          | inr away ↦ inl (clear_of next.nodes none away)
        ]
      ]

  module _ (counts : Firings) (past : All (IsPastPrework counts) channels)
      (balanced : All (RoundBalances round) channels) (free : ℕ → Bool) (limit : ℕ) where
    -- where one order is valid the other is
    abbrev pub Stays : (old new : List ℕ) → Type 0
    Stays old new = IsOrder channels counts old → IsOrder channels counts new

    stays_same : (old new : List ℕ) → old ≡ new → Stays old new
    stays_same old new e is = subst (IsOrder channels counts) e is

    no_turns : (h k : ℕ) (nodes : List ℕ) → h ≡ 0 → repeated (h * k) nodes ≡ []
    no_turns h k nodes e = ap (λ (c : ℕ). repeated c nodes)
        (let f : h * k ≡ 0 = omega (arith, ap (λ (c : ℕ). c * k) e) in f)

    module _ (before : List ℕ) (unit next : RoundUnit) (rest : List RoundUnit) (h m n : ℕ)
        (first_turns : unit.turns ≡ h * m) (second_turns : next.turns ≡ h * n)
        (placed : IsPlaced channels round unit (next ∷ rest))
        (later : IsPlaced channels round next rest) where
      abbrev apart : List ℕ
      apart = before ++ (repeated (h * m) unit.nodes
          ++ (repeated (h * n) next.nodes ++ firings_of rest))

      abbrev fused_units : List ℕ
      fused_units = before ++ firings_of (joined_unit h m n unit next ∷ rest)

      some_joined : 0 < h → Stays apart fused_units
      some_joined some is = order_from channels fused_units counts (λ k d within.
          let rates : ChannelRates = get_or channels k d in
          from_passes rates fused_units counts (past k d within)
          (fused_passes before unit.nodes next.nodes (firings_of rest) h m n (link_of rates)
          (merges h m n unit next rest first_turns second_turns placed later some rates
          (balanced k d within) (placed.fed k d within))
          (supply rates (counts rates.source)) (popped rates (counts rates.target))
          (passes_from rates apart counts (past k d within)
          (order_on channels apart counts is k d within))))

      none_joined : h ≡ 0 → Stays apart fused_units
      none_joined none = stays_same apart fused_units (
          ap (λ (l : List ℕ). before ++ (l ++ (repeated (h * n) next.nodes
          ++ firings_of rest))) (no_turns h m unit.nodes none)
          ∙ ap (λ (l : List ℕ). before ++ (l ++ firings_of rest)) (no_turns h n next.nodes none)
          ∙ sym (ap (λ (l : List ℕ). before ++ (l ++ firings_of rest))
          (ap (λ (c : ℕ). repeated c (joined_unit h m n unit next).nodes) none)))

      joined_stays : Stays (before ++ firings_of (unit ∷ next ∷ rest)) fused_units
      joined_stays is =
          let parted : IsOrder channels counts apart = stays_same _ _ (
          ap (λ (k : ℕ). before ++ (repeated k unit.nodes
          ++ (repeated next.turns next.nodes ++ firings_of rest))) first_turns
          ∙ ap (λ (k : ℕ). before ++ (repeated (h * m) unit.nodes
          ++ (repeated k next.nodes ++ firings_of rest))) second_turns) is in
          elim (cases_lt 0 h) [
            | inl some ↦ some_joined some parted
            | inr none ↦ none_joined (omega (arith, none)) parted
          ]

    stays_from : (rest : List RoundUnit) (unit : RoundUnit) (before : List ℕ)
        (fused : List RoundUnit)
        → (AreFree free unit.nodes → IsPlaced channels round unit rest)
        → ArePlaced channels round free rest → IsFused free limit unit rest fused
        → Stays (before ++ firings_of (unit ∷ rest)) (before ++ firings_of fused)
    stays_from [] unit before fused placed later is valid =
        stays_same _ _ (ap (λ (l : List RoundUnit). before ++ firings_of l) (sym is)) valid
    stays_from (next ∷ rest) unit before fused placed later (inl (h, m, n, joins, is)) valid =
        let first = placed joins.first_free in
        let second = later.0 joins.second_free in
        stays_from rest (joined_unit h m n unit next) before fused
        (λ free_nodes. joined_placed h m n unit next rest joins.first_turns joins.second_turns
        first second) later.1 is
        (joined_stays before unit next rest h m n joins.first_turns joins.second_turns first second
        valid)
    stays_from (next ∷ rest) unit before fused placed later (inr (none, (others, same, is)))
        valid =
        stays_same _ _ (append_assoc before (repeated unit.turns unit.nodes) (firings_of others)
        ∙ ap (λ (l : List RoundUnit). before ++ firings_of l) (sym same))
        (stays_from rest next (before ++ repeated unit.turns unit.nodes) others later.0 later.1 is
        (stays_same _ _ (sym (append_assoc before (repeated unit.turns unit.nodes)
        (firings_of (next ∷ rest)))) valid))

    pub fused_stays : (units fused : List RoundUnit) → ArePlaced channels round free units
        → AreFused free limit units fused → Stays (firings_of units) (firings_of fused)
    fused_stays [] fused placed is valid =
        stays_same _ _ (ap firings_of (sym is)) valid
    fused_stays (unit ∷ rest) fused placed is valid =
        stays_from rest unit [] fused placed.0 placed.1 is valid

  module _ (free : ℕ → Bool) (limit : ℕ) where
    shorter : (unit : RoundUnit) (rest others : List RoundUnit) (next : RoundUnit)
        → IsFused free limit next rest others → IsPlaced channels round unit (next ∷ rest)
        → IsPlaced channels round unit others
    shorter unit rest others next is placed = record {
      whole = placed.whole;
      not_later = λ node some. absent_from free limit rest next others node is
          (placed.not_later node some);
      fed = λ k d within some. absent_from free limit rest next others
          (get_or channels k d).source is (placed.fed k d within some);
    }

    placed_from : (rest : List RoundUnit) (unit : RoundUnit) (fused : List RoundUnit)
        → (AreFree free unit.nodes → IsPlaced channels round unit rest)
        → ArePlaced channels round free rest → IsFused free limit unit rest fused
        → ArePlaced channels round free fused
    placed_from [] unit fused placed later is =
        subst (ArePlaced channels round free) (sym is) (placed, tt)
    placed_from (next ∷ rest) unit fused placed later (inl (h, m, n, joins, is)) =
        placed_from rest (joined_unit h m n unit next) fused
        (λ free_nodes. joined_placed h m n unit next rest joins.first_turns joins.second_turns
        (placed joins.first_free) (later.0 joins.second_free)) later.1 is
    placed_from (next ∷ rest) unit fused placed later (inr (none, (others, same, is))) =
        subst (ArePlaced channels round free) (sym same) (
          λ free_nodes. shorter unit rest others next is (placed free_nodes),
          placed_from rest next others later.0 later.1 is,
        )

    -- units that are placed are so after fusion
    pub fused_placed : (units fused : List RoundUnit) → ArePlaced channels round free units
        → AreFused free limit units fused → ArePlaced channels round free fused
    fused_placed [] fused placed is = subst (ArePlaced channels round free) (sym is) tt
    fused_placed (unit ∷ rest) fused placed is =
        placed_from rest unit fused placed.0 placed.1 is
