-- The first round after fission, by the rates of the nodes alone: its order is valid by counts in
-- the graph restarted at the state that it begins with; and on each channel whose queue is as long
-- after it as before, it takes what it gives.
use Rattle.std.proofs.Common.{◌≡◌, refl, ap, ◌∙◌, subst, ℕ, ◌+◌, ◌<◌, ◌≤◌, arith, true}
use Rattle.std.proofs.Common.{ℤ, List, [], length, None}
use mathlib.Core.Path.{fun_ext}
use Rattle.strc_elab_dataflow.specs.Flat.{Origin.Port, Origin}
use Rattle.strc_elab_dataflow.specs.Flat as flat
use Rattle.strc_elab_dataflow.specs.Histories.{KeepsRates}
use Rattle.strc_elab_dataflow.specs.Node.{Meaning, total}
use Rattle.strc_elab_dataflow.specs.Order.{counted, firing_count, supply_of, supply, fill, IsOrder}
use Rattle.strc_elab_dataflow.specs.Queues.{Fifo, FifoProgress, FifoProgress.FifoWent, fifo_go}
use Rattle.strc_elab_dataflow.specs.Queues.{fifo_at_first, TakesWithinWindow}
use Rattle.strc_elab_dataflow.proofs.WholeRun.{counted-firing_count}
use Rattle.strc_work_meaning.specs.declared.fault.Cause.{Cause}
use Rattle.strc_work_meaning.specs.declared.word.Word.{Word}
use Rattle.strc_elab_graph.specs.Graphs.{NodeCode}
use Rattle.strc_elab_graph.specs.Meaning.{ports_in}
use Rattle.strc_elab_graph.specs.Rates.{pops_at, pushes_at}
use Rattle.strc_elab_dataflow.specs.Restart.{Restarted, restarted_meaning, restarted, taken_in}
use Rattle.strc_elab_dataflow.specs.RestartRounds.{total_from}
use Rattle.strc_elab_dataflow.proofs.RestartRates.{pushes_rates_keeps_rates}
use Rattle.strc_elab_dataflow.proofs.Restart.{go_alike, same_at_first}
use Rattle.strc_sched_laws.specs.Repeats.{IsNarrow}
use Rattle.strc_sched_laws.proofs.Repeats.{nodes_take_within}
use Rattle.strc_elab_dataflow.specs.Blocks.{Block, AreBlocks, old_order, new_order, AreFed}
use Rattle.strc_elab_dataflow.specs.Blocks.{BothCome}
use Rattle.strc_elab_dataflow.specs.Blocks.{rounds_after}
use Rattle.strc_elab_dataflow.specs.Counted.{IsCounted}
use Rattle.strc_elab_dataflow.specs.Split.{Parts, IsSplitGraph, Agree}
use Rattle.strc_elab_dataflow.proofs.Counted.{counted_first, counted_after, queue_length}
use Rattle.strc_elab_dataflow.proofs.Counted.{blocks_fed}
use Rattle.strc_elab_dataflow.proofs.Following.{round_follows}
use Rattle.strc_elab_dataflow.proofs.Orders.{covered_first, covered_on}
use Rattle.strc_stage_plan.proofs.Blank.{blank, blank_pushes, fire_goes, order_goes}
use Rattle.strc_stage_plan.proofs.ValidOrders.{GoesToo, goes_too, valid_order}

module _ (graph after : flat.Graph NodeCode) (parts : Parts)
    (split : IsSplitGraph parts blank graph after) (blocks : List Block)
    (are : AreBlocks parts blocks) (input : List ℤ) (counts : ℕ → ℕ)
    (within : TakesWithinWindow blank graph)
    (valid : IsOrder blank graph input counts (old_order parts blocks))
    (old now : Fifo (List ℤ) Cause Word) (is : IsCounted blank graph input counts old)
    (agree : Agree parts blank graph (λ v. 0) old now)
    (faultless : (node : ℕ) → (now.runs node).fault ≡ None)
    (narrow : (node : ℕ) → IsNarrow (after.code node)) where
  abbrev Here : Type 0
  Here = Fifo (List ℤ) Cause Word

  abbrev again_meaning : Meaning (Restarted NodeCode (List ℤ)) (List ℤ) Cause Word
  again_meaning = restarted_meaning blank

  abbrev again_graph : flat.Graph (Restarted NodeCode (List ℤ))
  again_graph = restarted now after

  keeps : (node : ℕ) → KeepsRates blank (graph.code node)
  keeps node = (pushes_rates_keeps_rates blank (graph.code node) (λ fields. true)
      (blank_pushes (graph.code node))).0 refl

  keeps_again : (node : ℕ) → KeepsRates (restarted_meaning blank) ((restarted now after).code node)
  unfolding restarted
  keeps_again node = (pushes_rates_keeps_rates blank (after.code node) (λ fields. true)
      (blank_pushes (after.code node))).1 (now.runs node).fired (now.runs node).state refl

  within_again : TakesWithinWindow (restarted_meaning blank) (restarted now after)
  unfolding restarted_meaning restarted
  within_again node firing port less =
      nodes_take_within (after.code node) ((now.runs node).fired + firing) port (narrow node)

  -- ---- the order is valid

  fed : AreFed parts blank graph blocks old
  fed = blocks_fed blank graph input keeps within after parts split blocks counts old are valid is

  pub order_valid : IsOrder (restarted_meaning blank) (restarted now after) [] (λ v. 0)
      (new_order parts blocks)
  order_valid = valid_order blank after now keeps_again within_again (fire_goes after)
      (new_order parts blocks) (λ v. 0) now (fifo_at_first again_meaning again_graph [])
      (same_at_first blank after now faultless)
      (counted_first again_meaning again_graph [] keeps_again within_again)
      (covered_first again_meaning again_graph [])
      (round_follows blank graph after parts split blocks (λ v. 0) old now are fed agree).1

  -- ---- the states after it

  pub record IsEnd (old_end new_end : Here) : Type 0 where
    pub old_went : fifo_go blank graph (old_order parts blocks) old ≡ FifoWent old_end
    pub new_went : fifo_go blank after (new_order parts blocks) now ≡ FifoWent new_end
    pub counted_is : IsCounted blank graph input (counted counts (old_order parts blocks)) old_end
    pub agrees : Agree parts blank graph (rounds_after parts (λ v. 0) blocks) old_end new_end

  both_went : (rounds : ℕ → ℕ) (o s : FifoProgress (List ℤ) Cause Word) (old_end new_end : Here)
      → o ≡ FifoWent old_end → s ≡ FifoWent new_end → BothCome parts blank graph rounds o s
      → Agree parts blank graph rounds old_end new_end
  both_went rounds o s old_end new_end o_went s_went both =
      subst (λ (p : FifoProgress (List ℤ) Cause Word).
      BothCome parts blank graph rounds p (FifoWent new_end)) o_went
      (subst (λ (p : FifoProgress (List ℤ) Cause Word). BothCome parts blank graph rounds o p)
      s_went both)

  pub ends : (old_end : Here) × (new_end : Here) × IsEnd old_end new_end
  ends =
      let (old_end, old_went) = order_goes graph (old_order parts blocks) old in
      let (new_end, new_went) = order_goes after (new_order parts blocks) now in (
        old_end,
        new_end,
        record {
          old_went = old_went;
          new_went = new_went;
          counted_is = counted_after blank graph input keeps within (old_order parts blocks) counts
              old old_end is valid old_went;
          agrees = both_went (rounds_after parts (λ v. 0) blocks)
              (fifo_go blank graph (old_order parts blocks) old)
              (fifo_go blank after (new_order parts blocks) now) old_end new_end old_went new_went
              (round_follows blank graph after parts split blocks (λ v. 0) old now are fed agree).0;
        },
      )

  -- ---- what it takes and gives

  module _ (old_end new_end : Here) (end : IsEnd old_end new_end) where
    too : GoesToo blank after now new_end (fifo_go again_meaning again_graph
        (new_order parts blocks) (fifo_at_first again_meaning again_graph []))
    too = goes_too blank after now new_end (fifo_go blank after (new_order parts blocks) now)
        (fifo_go again_meaning again_graph (new_order parts blocks)
        (fifo_at_first again_meaning again_graph [])) end.new_went
        (go_alike blank after now (new_order parts blocks) now
        (fifo_at_first again_meaning again_graph []) (same_at_first blank after now faultless))

    ended : ℕ → ℕ
    ended = counted (λ v. 0) (new_order parts blocks)

    first_length : (node port : ℕ) → port < ports_in (after.code node)
        → length (now.queues node port)
        ≡ fill again_meaning again_graph [] (λ v. 0) node port
    unfolding restarted_meaning restarted
    first_length node port less =
        ap (λ (items : List ℤ). length items)
        ((same_at_first blank after now faultless).queues node port)
        ∙ queue_length again_meaning again_graph [] keeps_again within_again (λ v. 0)
        (fifo_at_first again_meaning again_graph [])
        (counted_first again_meaning again_graph [] keeps_again within_again) node port less

    last_length : (node port : ℕ) → port < ports_in (after.code node)
        → length (new_end.queues node port)
        ≡ fill again_meaning again_graph [] (counted (λ v. 0) (new_order parts blocks)) node port
    unfolding restarted_meaning restarted
    last_length node port less =
        ap (λ (items : List ℤ). length items) (too.same.queues node port)
        ∙ queue_length again_meaning again_graph [] keeps_again within_again
        (counted (λ v. 0) (new_order parts blocks)) too.again
        (counted_after again_meaning again_graph [] keeps_again within_again
        (new_order parts blocks) (λ v. 0) (fifo_at_first again_meaning again_graph []) too.again
        (counted_first again_meaning again_graph [] keeps_again within_again) order_valid
        too.went) node port less

    covered : (node port : ℕ) → port < ports_in (after.code node)
        → total (again_meaning.popped (again_graph.code node))
        (counted (λ v. 0) (new_order parts blocks) node) port
        ≤ supply again_meaning again_graph [] (counted (λ v. 0) (new_order parts blocks))
        (again_graph.source node port)
    unfolding restarted_meaning restarted
    covered = covered_on again_meaning again_graph [] within_again (new_order parts blocks)
        (λ v. 0) (covered_first again_meaning again_graph []) order_valid

    by_counts : (node port source source_port : ℕ) → port < ports_in (after.code node)
        → (after.source node port).origin ≡ Port source source_port
        → length (now.queues node port) ≡ length (new_end.queues node port)
        → total_from (pops_at (after.code node)) (now.runs node).fired
        (counted (λ v. 0) (new_order parts blocks) node) port
        ≡ total_from (pushes_at (after.code source)) (now.runs source).fired
        (counted (λ v. 0) (new_order parts blocks) source) source_port
    unfolding restarted_meaning restarted fill supply supply_of taken_in total_from total
    by_counts node port source source_port less comes same = omega (
      arith,
      same,
      first_length node port less,
      last_length node port less,
      covered node port less,
      ap (λ (o : Origin). supply_of again_meaning again_graph [] (λ v. 0) (taken_in o)) comes,
      ap (λ (o : Origin). supply_of again_meaning again_graph []
          (counted (λ v. 0) (new_order parts blocks)) (taken_in o)) comes,
    )

    pub balanced_at : (node port source source_port : ℕ) → port < ports_in (after.code node)
        → (after.source node port).origin ≡ Port source source_port
        → length (now.queues node port) ≡ length (new_end.queues node port)
        → total_from (pops_at (after.code node)) (now.runs node).fired
        (firing_count (new_order parts blocks) node) port
        ≡ total_from (pushes_at (after.code source)) (now.runs source).fired
        (firing_count (new_order parts blocks) source) source_port
    balanced_at node port source source_port less comes same =
        let e : counted (λ v. 0) (new_order parts blocks) ≡ firing_count (new_order parts blocks) =
        fun_ext (λ v. omega (arith, counted-firing_count (new_order parts blocks) (λ w. 0) v)) in
        subst (λ (c : ℕ → ℕ). total_from (pops_at (after.code node)) (now.runs node).fired (c node)
        port ≡ total_from (pushes_at (after.code source)) (now.runs source).fired (c source)
        source_port) e (by_counts node port source source_port less comes same)
