-- The reader of a plan's graph after fission.
use Rattle.std.proofs.Common.{◌≡◌, refl, sym, ap, ◌∙◌, subst, ℕ, ◌+◌, ◌*◌, ◌≤◌, arith}
use Rattle.std.proofs.Common.{List, [], false, Option, Some, slice_get, slice_index}
use Rattle.std.proofs.lemmas.Option.{get_or_from_slice_get, same_Some, slice_get_within}
use Rattle.strc_elab_dataflow.specs.Blocks.{Block, new_order, old_order}
use Rattle.strc_elab_dataflow.specs.FusedUnits.{RoundUnit, firings_of}
use Rattle.strc_elab_dataflow.specs.Split.{Parts, outlet}
use Rattle.strc_elab_dataflow.proofs.Numbers.{numbers_apart}
use Rattle.strc_elab_graph.specs.Graphs.{FileReader, Graph, Joiner, NodeCode}
use Rattle.strc_elab_graph.specs.Rates.{fires_by_rounds}
use Rattle.strc_balance.specs.Balance.{count_at}
use Rattle.strc_sched_orders.specs.Order.{firing_count}
use Rattle.strc_sched_laws.specs.Laws.{round_order}
use Rattle.strc_sched_laws.proofs.Inputs.{reader_reads}
use Rattle.strc_sched_laws.proofs.Orders.{firing_count_is}
use Rattle.strc_sched_machine.specs.Keeping.{Kept}
use Rattle.strc_fuse.specs.Units.{is_free, round_units}
use Rattle.strc_fuse.proofs.Counting.{firings_same}
use Rattle.strc_fuse.proofs.Lawful.{fused_units_count}
use Rattle.strc_fiss.specs.Laws.{AreOwn}
use Rattle.strc_fiss.specs.Numbers.{base, is_dealt}
use Rattle.strc_fiss.specs.Splitting.{code_at, new_code}
use Rattle.strc_fiss.specs.Ways.{dealt, ways_of}
use Rattle.strc_fiss.specs.declared.split.Origin.{Origin}
use Rattle.strc_fiss.proofs.PartCounts.{kept_count}
use Rattle.strc_fiss.proofs.RoundBlocks.{after_is, are_blocks, before_is, blocks, numbered}
use Rattle.strc_fiss.proofs.RoundBlocks.{split_parts}
use Rattle.strc_stage_plan.specs.Named.{old_node}
use Rattle.strc_stage_plan.specs.Plans.{PlanParts, IsPlan, graph_of, transformed_of}
use Rattle.strc_stage_plan.proofs.NewNumbers.{IsNumber, code_there, number_of, old_there, origin_is}
use Rattle.strc_stage_plan.proofs.NewNumbers.{told_whole, whole_code, whole_part}
use Rattle.strc_stage_plan.proofs.OwnUnits.{greedy_rounds_own}
use Rattle.strc_stage_steps.proofs.Own.{number_bound}
use Rattle.strc_stage_steps.proofs.Plans.{graph_is, new, origins_are, share, threshold, ways}
use Rattle.strc_live_laws.specs.Windows.{IsReader}
use Rattle.strc_live_plans.specs.Readers.{each_of, PlansReadSo}
use Rattle.strc_live_plans.proofs.Dealt.{is_dealt_out}
use Rattle.strc_live_plans.proofs.Startups.{need_is, one_input_is, startup_read}

module _ (plan : PlanParts) (is : IsPlan plan) (v : ℕ)
    (reads : IsReader (graph_of plan).nodes v) where
  abbrev codes : List NodeCode
  codes = (graph_of plan).nodes

  abbrev plain : (node : ℕ) (code : NodeCode) → slice_get (graph_of plan).nodes node ≡ Some code
      → fires_by_rounds code ≡ false
  plain = is.planned.unfissioned

  -- a reader is not split, and this is its number
  unsplit : is_dealt (share plan is v) ≡ false
  unsplit = ap (λ (found : Option NodeCode). is_dealt (dealt found (count_at plan.round_counts v)
      (ways_of (graph_of plan) plan.round_counts (ways plan is) v))) reads.there

  abbrev pub number : ℕ
  number = base (share plan is) v + 0

  its_number : IsNumber (share plan is) codes plain number v 0
  its_number = record {
    inside = slice_get_within codes v (FileReader reads.text) reads.there;
    within = omega arith;
    at = refl;
  }

  there : slice_get (new plan is).nodes number ≡ Some (FileReader reads.text)
  there = code_there (share plan is) codes plain number v 0 its_number
      ∙ ap Some (whole_code (share plan is) codes plain number v 0 its_number unsplit
      ∙ get_or_from_slice_get codes v (FileReader reads.text) (Joiner []) reads.there)

  only : (other : ℕ) (text : List ℕ) → slice_get (new plan is).nodes other ≡ Some (FileReader text)
      → other ≡ number
  only other text found =
      let (w, k, at) = number_of (share plan is) codes plain other
      (slice_get_within (new plan is).nodes other (FileReader text) found) in
      let whole = told_whole (share plan is) codes plain other w k at (FileReader text) found refl
      in
      let code : code_at codes w ≡ FileReader text =
      sym (whole_code (share plan is) codes plain other w k at whole)
      ∙ same_Some (new_code (share plan is) codes w k) (FileReader text)
      (sym (code_there (share plan is) codes plain other w k at) ∙ found) in
      let same : w ≡ v = reads.only w text
      (old_there (share plan is) codes plain other w k at ∙ ap Some code) in
      let first = whole_part (share plan is) codes plain other w k at whole in
      sym at.at ∙ ap (λ (n : ℕ). base (share plan is) n + k) same
      ∙ ap (λ (n : ℕ). base (share plan is) v + n) first

  pub new_reader : IsReader (transformed_of plan).nodes number
  new_reader = subst (λ (g : Graph). IsReader g.nodes number) (sym (graph_is plan is))
      (record { text = reads.text; there = there; only = only })

  pub old_is : old_node plan.split.origins number ≡ v
  old_is = ap (λ (l : List Origin). old_node l number) (origins_are plan is)
      ∙ origin_is (share plan is) codes plain number v 0 its_number

  -- ---- how often it fires in a round

  abbrev before : List RoundUnit
  before = round_units plan.schedule.round

  own : AreOwn (share plan is) before
  own = greedy_rounds_own (graph_of plan) is.whole.stream (count_at plan.startup_counts)
      plan.round_counts plan.schedule (ways plan is) is.whole.closed.typed is.whole.program
      is.whole.loops is.schedule.is

  abbrev parts : Parts
  parts = split_parts (share plan is)

  abbrev its_blocks : List Block
  its_blocks = blocks (share plan is) before

  away : (u k w l : ℕ) → k ≤ outlet parts u → l ≤ outlet parts w
      → base (share plan is) u + k ≡ base (share plan is) w + l → (u ≡ w) × (k ≡ l)
  away = numbers_apart parts (base (share plan is)) (numbered (share plan is))

  pub fires_as_before : firing_count (round_order plan.split.schedule) number
      ≡ firing_count (round_order plan.schedule) v
  fires_as_before =
      let done = is.transformation.transformed in
      ap (λ (l : List ℕ). firing_count l number) (firings_same plan.split.schedule.round)
      ∙ fused_units_count (is_free (transformed_of plan)) (threshold plan is)
      (round_units done.unfused.round) (round_units plan.split.schedule.round) number
      done.fusion.round
      ∙ ap (λ (l : List ℕ). firing_count l number)
      (ap firings_of done.fission.round ∙ after_is (share plan is) before)
      ∙ sym (firing_count_is (new_order parts its_blocks) number)
      ∙ kept_count parts away its_blocks (are_blocks (share plan is) before own) v unsplit
      ∙ firing_count_is (old_order parts its_blocks) v
      ∙ ap (λ (l : List ℕ). firing_count l v)
      (sym (before_is (share plan is) before) ∙ sym (firings_same plan.schedule.round))

pub reads_law : PlansReadSo
reads_law tree plan begin old circuit started program begun =
    let can = begun.can in
    let is = can.ready.is in
    let has = begun.startup in
    let reads = one_input_is plan begin old can in
    let reader = number plan is can.node reads in
    let new_is = new_reader plan is can.node reads in
    let dealt_out = is_dealt_out tree plan begin old circuit started program begun in
    let each_is : each_of plan ≡ firing_count (round_order plan.schedule) can.node =
    reader_reads (graph_of plan).nodes can.node (firing_count (round_order plan.schedule)) can.text
    is.whole.program.one_input can.reads in
    let kept = dealt_out.whole reader (FileReader new_is.text) new_is.there refl in (
      reader,
      record {
        is = subst (λ (l : List NodeCode). IsReader l reader) (sym has.circuit_is.codes) new_is;
        there = omega (
          arith,
          dealt_out.each_fired,
          slice_get_within (transformed_of plan).nodes reader (FileReader new_is.text)
              new_is.there,
        );
        begun = ap (λ (own : Kept). own.fired) kept
            ∙ ap (slice_index has.left.fired) (old_is plan is can.node reads)
            ∙ startup_read plan begin old can has.first has.is_first has.left has.went
            ∙ can.just;
        each = fires_as_before plan is can.node reads ∙ sym each_is;
        some = omega (
          arith,
          each_is,
          is.planned.schedule.round_order.all can.node,
          is.planned.least_round.balances.positive can.node
              (slice_get_within (graph_of plan).nodes can.node (FileReader can.text) can.reads),
        );
        need = λ rounds.
            let times : rounds * firing_count (round_order plan.schedule) can.node
            ≡ rounds * each_of plan = ap (λ (n : ℕ). rounds * n) (sym each_is) in
            let none : 0 * firing_count (round_order plan.schedule) can.node ≡ 0 = omega arith in
            omega (
              arith,
              need_is plan begin old can rounds,
              need_is plan begin old can 0,
              times,
              none,
            );
        within = λ rounds less.
            let startup_is = is.planned.schedule.startup_order.all can.node in
            let round_is = is.planned.schedule.round_order.all can.node in
            let times : rounds * firing_count (round_order plan.schedule) can.node
            ≡ rounds * count_at is.planned.round can.node = ap (λ (n : ℕ). rounds * n) round_is in
            let bound = number_bound (count_at is.planned.startup can.node)
            (count_at is.planned.round can.node) rounds (is.planned.startup_within can.node)
            (is.planned.round_within can.node) less in
            omega (arith, need_is plan begin old can rounds, startup_is, times, bound);
      },
    )
