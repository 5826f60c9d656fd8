-- What fission makes of a round, for every graph.
use Rattle.std.proofs.Common.{◌≡◌, refl, sym, ap, ◌∙◌, subst, ℕ, zero, suc, ◌+◌, ◌*◌, ◌<◌, ◌≤◌}
use Rattle.std.proofs.Common.{arith, Bool, true, false, cond, eqb}
use Rattle.std.proofs.Common.{List, [], ◌∷◌, length, get_or, drop, filter}
use Rattle.std.specs.List.{list_any}
use Rattle.std.proofs.lemmas.Bool.{true≢false, or_parts}
use Rattle.strc_balance.specs.Balance.{count_at}
use Rattle.strc_elab_graph.specs.Graphs.{Graph, IsGraph}
use Rattle.strc_elab_graph.specs.NodeView.{graph_view}
use Rattle.strc_elab_graph.specs.declared.graph.Fission.{Fission}
use Rattle.strc_sched_orders.specs.Firings.{none_fired}
use Rattle.strc_sched_orders.specs.Greedy as greedy
use Rattle.strc_sched_orders.specs.Order.{firing_count, IsOrder}
use Rattle.strc_sched_orders.specs.Schedules.{ScheduleParts}
use Rattle.strc_sched_orders.specs.Sizing.{round_rates_on}
use Rattle.strc_sched_orders.proofs.FiringCounts.{firing_count_append}
use Rattle.strc_sched_laws.proofs.Orders.{firing_count_is}
use Rattle.strc_elab_dataflow.specs.Blocks.{Block, AreBlocks, old_order, new_order}
use Rattle.strc_elab_dataflow.specs.Fused.{repeated}
use Rattle.strc_elab_dataflow.specs.FusedUnits.{RoundUnit, firings_of}
use Rattle.strc_elab_dataflow.specs.Order as orders
use Rattle.strc_elab_dataflow.specs.Split.{Parts, outlet}
use Rattle.strc_elab_dataflow.proofs.Numbers.{numbers_apart}
use Rattle.strc_fuse.specs.Units.{round_units}
use Rattle.strc_fuse.proofs.Counting.{count_repeated, firings_same}
use Rattle.strc_fiss.specs.Fissions.{IsFission}
use Rattle.strc_fiss.specs.NewRounds.{KeepsRound, DealsRound}
use Rattle.strc_fiss.specs.Numbers.{is_dealt, base}
use Rattle.strc_fiss.specs.OwnUnits.{names, is_alone, dealt_counts, round_fission}
use Rattle.strc_fiss.specs.Splits.{SplitParts}
use Rattle.strc_fiss.specs.Splitting.{split_graph}
use Rattle.strc_fiss.specs.Units.{split_units}
use Rattle.strc_fiss.proofs.Each.{Each}
use Rattle.strc_fiss.proofs.KeptOrders.{keeps_order}
use Rattle.strc_fiss.proofs.OwnUnits.{dealt_own, own_unit, none_pass, units_are_own}
use Rattle.strc_fiss.proofs.PartCounts.{alls, old_count, kept_count, scatter_count, copy_count}
use Rattle.strc_fiss.proofs.PartCounts.{gather_count}
use Rattle.strc_fiss.proofs.RoundBlocks.{split_parts, numbered, blocks, are_blocks, before_is}
use Rattle.strc_fiss.proofs.RoundBlocks.{after_is}
use Rattle.strc_fiss.proofs.SplitNodes.{its, some, apart}

-- ---- how often a node fires in units

pub list_none : (v : ℕ) (nodes : List ℕ) → list_any (eqb v) nodes ≡ false → firing_count nodes v ≡ 0
list_none v [] none = refl
list_none v (node ∷ nodes) none =
    let both = or_parts (eqb v node) (list_any (eqb v) nodes) none in
    omega (
      arith,
      ap {B = ℕ} (λ (t : Bool). cond t 1 0) both.0,
      list_none v nodes both.1,
    )

list_alone : (v : ℕ) (nodes : List ℕ) → is_alone v nodes ≡ true → firing_count nodes v ≡ 1
list_alone v [] is = absurd (true≢false (sym is))
list_alone v (node ∷ []) is = omega (arith, ap {B = ℕ} (λ (t : Bool). cond t 1 0) is)
list_alone v (first ∷ (second ∷ rest)) is = absurd (true≢false (sym is))

pub unit_count : (v : ℕ) (unit : RoundUnit) (rest : List RoundUnit)
    → firing_count (firings_of (unit ∷ rest)) v
    ≡ unit.turns * firing_count unit.nodes v + firing_count (firings_of rest) v
unit_count v unit rest = omega (
  arith,
  firing_count_append (repeated unit.turns unit.nodes) (firings_of rest) v,
  count_repeated unit.turns unit.nodes v,
)

units_none : (v : ℕ) (units : List RoundUnit) → Each (λ unit. names v unit ≡ false) units
    → firing_count (firings_of units) v ≡ 0
units_none v [] none = refl
units_none v (unit ∷ rest) none = omega (
  arith,
  unit_count v unit rest,
  ap (λ (n : ℕ). unit.turns * n) (list_none v unit.nodes none.0),
  units_none v rest none.1,
)

one_count : (v : ℕ) (own : RoundUnit) (units : List RoundUnit)
    → filter (names v) units ≡ own ∷ [] → is_alone v own.nodes ≡ true
    → firing_count (firings_of units) v ≡ own.turns
one_count v own [] one alone = absurd (omega (arith, ap length one))
one_count v own (unit ∷ rest) one alone =
    by_test (λ is. one_count v own rest is alone) (names v unit) refl one
  where
    by_test : (filter (names v) rest ≡ own ∷ [] → firing_count (firings_of rest) v ≡ own.turns)
        → (t : Bool) → names v unit ≡ t
        → cond t (unit ∷ filter (names v) rest) (filter (names v) rest) ≡ own ∷ []
        → firing_count (firings_of (unit ∷ rest)) v ≡ own.turns
    by_test later true e is =
        let same : unit ≡ own = ap (λ (l : List RoundUnit). get_or l 0 unit) is in
        omega (
          arith,
          unit_count v unit rest,
          ap (λ (n : ℕ). unit.turns * n) (ap (λ (u : RoundUnit). firing_count u.nodes v) same
              ∙ list_alone v own.nodes alone),
          ap (λ (u : RoundUnit). u.turns) same,
          units_none v rest (none_pass (names v) rest (ap (drop 1) is)),
        )
    by_test later false e is = omega (
      arith,
      unit_count v unit rest,
      ap (λ (n : ℕ). unit.turns * n) (list_none v unit.nodes e),
      later is,
    )

-- as many of a number as it is, are one
one_of : (times n : ℕ) → 0 < n → times * n ≡ n → times ≡ 1
one_of zero n some e = absurd (omega (arith, some, e))
one_of (suc zero) n some e = refl
one_of (suc (suc times)) n some e = absurd (omega (arith, some, e))

module _ (old : Graph) (schedule : ScheduleParts) (counts : List ℕ) (ways : ℕ)
    (is : IsGraph old) (first : length schedule.greatest ≡ length old.channels)
    (second : length schedule.last ≡ length old.channels) where
  abbrev units : List RoundUnit
  units = round_units schedule.round

  abbrev share : ℕ → Fission
  share = round_fission old (round_units schedule.round) counts ways

  abbrev dealing : List ℕ
  dealing = dealt_counts old.outer_loops (round_units schedule.round) counts

  -- ---- the order

  pub keeps_round : (split : SplitParts)
      → IsFission (round_fission old (round_units schedule.round) counts ways) old schedule split
      → KeepsRound old schedule split
  keeps_round split fission order =
      let new = keeps_order share old schedule.greatest schedule.last is first second
      (its old dealing ways) (some old dealing ways) (apart old dealing ways) units
      (units_are_own old units counts ways)
      (subst (IsOrder (round_rates_on old schedule.last) none_fired)
      (firings_same schedule.round) order) in
      subst (IsOrder (round_rates_on (graph_view split.graph) split.schedule.last) none_fired)
      (sym (firings_same split.schedule.round ∙ ap firings_of fission.round))
      (subst (λ (g : Graph). IsOrder (round_rates_on g split.schedule.last) none_fired
      (firings_of (split_units share units))) (sym fission.graph)
      (subst (λ (l : List ℕ). IsOrder (round_rates_on
      (split_graph share old schedule.greatest schedule.last) l) none_fired
      (firings_of (split_units share units))) (sym fission.last) new))

  -- ---- the counts

  abbrev round : List Block
  round = blocks (round_fission old (round_units schedule.round) counts ways)
      (round_units schedule.round)

  abbrev parts : Parts
  parts = split_parts (round_fission old (round_units schedule.round) counts ways)

  are : AreBlocks parts round
  are = are_blocks share units (units_are_own old units counts ways)

  away : (u k v l : ℕ) → k ≤ outlet parts u → l ≤ outlet parts v
      → base share u + k ≡ base share v + l → (u ≡ v) × (k ≡ l)
  away = numbers_apart parts (base share) (numbered share)

  old_fires : (v : ℕ) → orders.firing_count (old_order parts round) v
      ≡ firing_count (greedy.firings_of schedule.round) v
  old_fires v =
      firing_count_is (old_order parts round) v
      ∙ ap (λ (order : List ℕ). firing_count order v)
      (sym (before_is share units) ∙ sym (firings_same schedule.round))

  dealt_fires : (v : ℕ)
      → is_dealt (round_fission old (round_units schedule.round) counts ways v) ≡ true
      → firing_count (greedy.firings_of schedule.round) v
      ≡ (round_fission old (round_units schedule.round) counts ways v).ways
      * (round_fission old (round_units schedule.round) counts ways v).firings
  dealt_fires v split =
      let has = dealt_own old units counts ways v split in
      let (own, is_own) = own_unit (count_at counts v) v (filter (names v) units) has.own in
      ap (λ (order : List ℕ). firing_count order v) (firings_same schedule.round)
      ∙ one_count v own units is_own.one is_own.alone ∙ is_own.turns ∙ sym has.all

  once : (v : ℕ)
      → is_dealt (round_fission old (round_units schedule.round) counts ways v) ≡ true
      → alls round v ≡ 1
  once v split = one_of (alls round v) ((share v).ways * (share v).firings)
      (some old dealing ways v split)
      (sym (old_count parts away round are v split) ∙ old_fires v ∙ dealt_fires v split)

  module _ (split : SplitParts)
      (fission : IsFission (round_fission old (round_units schedule.round) counts ways) old
      schedule split) where
    new_fires : (number : ℕ) → firing_count (greedy.firings_of split.schedule.round) number
        ≡ orders.firing_count (new_order parts round) number
    new_fires number =
        ap (λ (order : List ℕ). firing_count order number)
        (firings_same split.schedule.round ∙ ap firings_of fission.round ∙ after_is share units)
        ∙ sym (firing_count_is (new_order parts round) number)

    first_name : (v : ℕ) → firing_count (greedy.firings_of split.schedule.round) (base share v)
        ≡ orders.firing_count (new_order parts round) (base share v + 0)
    first_name v =
        let e : base share v ≡ base share v + 0 = omega arith in
        ap (firing_count (greedy.firings_of split.schedule.round)) e
        ∙ new_fires (base share v + 0)

    pub deals_round :
        DealsRound (round_fission old (round_units schedule.round) counts ways) schedule split
    deals_round =
        record {
          kept = λ v whole. first_name v ∙ kept_count parts away round are v whole
              ∙ old_fires v;
          scatter = λ v dealt. first_name v ∙ scatter_count parts away round are v dealt
              ∙ ap (λ (n : ℕ). n * 1) (once v dealt);
          copy = λ v i dealt less. new_fires (base share v + suc i)
              ∙ copy_count parts away round are v i dealt less
              ∙ ap (λ (n : ℕ). n * (share v).firings) (once v dealt)
              ∙ (let e : 1 * (share v).firings ≡ (share v).firings = omega arith in e);
          gather = λ v dealt. new_fires (base share v + suc (share v).ways)
              ∙ gather_count parts away round are v dealt
              ∙ ap (λ (n : ℕ). n * 1) (once v dealt);
          dealt = dealt_fires;
        }
