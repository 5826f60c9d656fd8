-- The round after fission, by the rates of its nodes from the state that start-up left: each firing
-- finds its windows, and the channels balance.
use Rattle.std.proofs.Common.{◌≡◌, refl, sym, ap, ◌∙◌, subst, ℕ, ◌+◌, ◌<◌, ◌≤◌}
use Rattle.std.proofs.Common.{arith, true, cond, ℤ, pos, List, [], length, None, replicate}
use mathlib.Core.Path.{fun_ext}
use Rattle.std.proofs.lemmas.List.{length-replicate}
use Rattle.strc_elab_dataflow.specs.Flat.{Origin, Origin.Nowhere, Origin.Input, Origin.Port}
use Rattle.strc_elab_dataflow.specs.Histories.{KeepsRates, initial_run}
use Rattle.strc_elab_dataflow.specs.Order as orders
use Rattle.strc_elab_dataflow.specs.Queues.{FifoProgress.FifoWent, fifo_go, fifo_at_first}
use Rattle.strc_elab_dataflow.proofs.WholeRun.{counted-firing_count}
use Rattle.strc_elab_graph.specs.Meaning.{node_meaning, ports_in}
use Rattle.strc_elab_graph.specs.Rates.{window_at, pops_at, pushes_at}
use Rattle.strc_sched_laws.specs.Fits.{Queues}
use Rattle.strc_sched_laws.specs.Laws.{startup_order, counts_at}
use Rattle.strc_sched_laws.specs.Planned.{items_read}
use Rattle.strc_sched_laws.proofs.Orders.{counted_is}
use Rattle.strc_elab_dataflow.specs.Restart.{restarted_meaning, restarted}
use Rattle.strc_elab_dataflow.specs.RestartRounds.{total_from, IsBalancedByRounds}
use Rattle.strc_elab_dataflow.specs.Schedules.{fired_in}
use Rattle.strc_elab_dataflow.proofs.RestartRates.{pushes_rates_keeps_rates}
use Rattle.strc_sched_laws.specs.Repeats.{IsNarrow}
use Rattle.strc_elab_dataflow.specs.Blocks.{old_order, new_order}
use Rattle.strc_elab_dataflow.specs.Counted.{IsCounted}
use Rattle.strc_elab_dataflow.specs.Split.{Agree, renamed}
use Rattle.strc_elab_dataflow.specs.Starting.{state_dealt}
use Rattle.strc_elab_dataflow.proofs.Counted.{counted_first, counted_after, queue_length}
use Rattle.strc_elab_dataflow.proofs.Numbers.{starts_agree}
use Rattle.strc_elab_dataflow.proofs.Still.{stays_still}
use Rattle.strc_fiss.specs.Numbers.{is_dealt, base}
use Rattle.strc_stage_plan.specs.Owners.{owner}
use Rattle.strc_stage_plan.specs.Runs.{graph_before}
use Rattle.strc_stage_plan.proofs.Owners.{owner_is}
use Rattle.strc_stage_plan.proofs.Balances.{round_even}
use Rattle.strc_stage_plan.proofs.Blank.{blank, blank_pushes, order_goes}
use Rattle.strc_stage_plan.proofs.BlankSplits.{blank_split}
use Rattle.strc_stage_plan.proofs.Codes.{each_rated}
use Rattle.strc_stage_plan.proofs.Dealt.{faultless_dealt, fired_dealt, fired_from, QueuesAgree}
use Rattle.strc_stage_plan.proofs.Dealt.{lengths_alike}
use Rattle.strc_stage_plan.proofs.FirstRounds.{order_valid, IsEnd, ends, balanced_at}
use Rattle.strc_stage_plan.proofs.OwnRounds.{OwnRound, share, before, after, parts, startup}
use Rattle.strc_stage_plan.proofs.OwnRounds.{in_round, blocks, dealt, keeps, within, split}
use Rattle.strc_stage_plan.proofs.OwnRounds.{round_blocks, old_counts, startup_valid, round_valid}
use Rattle.strc_stage_plan.proofs.OwnRounds.{counted, agrees}
use Rattle.strc_stage_plan.proofs.SameRates.{AreAlike, fill_same, order_same}

module _ (run : OwnRound) where
  same_rates : AreAlike node_meaning blank (before run) (before run)
  same_rates = record {
    ports = λ v. refl;
    windows = λ v firing port. refl;
    pops = λ v firing port. refl;
    pushes = λ v firing port. refl;
    enqueued = λ v port less. refl;
    origins = λ v port less. refl;
  }

  pub narrow : (number : ℕ) → IsNarrow ((after run).code number)
  narrow number = (each_rated run.tree run.old run.schedule run.round run.ways run.program run.is
      run.planned run.known number).1

  blank_keeps : (node : ℕ) → KeepsRates blank ((before run).code node)
  blank_keeps node = (pushes_rates_keeps_rates blank ((before run).code node) (λ fields. true)
      (blank_pushes ((before run).code node))).0 refl

  -- ---- by the rates alone

  module _ (input : List ℤ) (rounds : ℕ)
      (supplied : items_read run.old.nodes (counts_at run.schedule rounds) ≤ length input)
      (some : 0 < rounds) (began : Queues)
      (went : fifo_go blank (before run) (startup_order run.schedule)
      (fifo_at_first blank (before run) input) ≡ FifoWent began) where
    abbrev blank_dealt : Queues
    blank_dealt = state_dealt (parts run) blank (before run) began
        (λ number. (owner (share run) number).node) (λ number. (owner (share run) number).part)

    blank_counted : IsCounted blank (before run) input (startup run) began
    blank_counted =
        let e : orders.counted (λ node. 0) (startup_order run.schedule) ≡ startup run =
        counted_is (λ node. 0) (startup_order run.schedule) ∙ fun_ext (λ node. omega arith) in
        subst (λ (counts : ℕ → ℕ). IsCounted blank (before run) input counts began) e
        (counted_after blank (before run) input blank_keeps (within run)
        (startup_order run.schedule) (λ node. 0) (fifo_at_first blank (before run) input) began
        (counted_first blank (before run) input blank_keeps (within run))
        (order_same node_meaning blank (before run) (before run) input same_rates
        (startup_order run.schedule) (λ node. 0) (startup_valid run input rounds supplied)) went)

    blank_agrees : Agree (parts run) blank (before run) (λ v. 0) began blank_dealt
    unfolding fifo_at_first initial_run
    blank_agrees =
        starts_agree blank (before run) (parts run) _ _ began (owner_is (share run))
        (λ v is_split.
        let still = stays_still blank (before run) ((parts run).share v) v
        ((blank_split run).split v is_split).filter (startup_order run.schedule)
        (fifo_at_first blank (before run) input) began refl refl went in
        (blank_counted.fired v, still.0, still.1))

    blank_valid : orders.IsOrder blank (before run) input (startup run)
        (old_order (parts run) (blocks run))
    unfolding orders.counts_after
    blank_valid =
        let e : orders.counts_after (startup run) (in_round run) 0 ≡ startup run =
        fun_ext (λ v. omega arith) in
        order_same node_meaning blank (before run) (before run) input same_rates
        (old_order (parts run) (blocks run)) (startup run)
        (subst (λ (counts : ℕ → ℕ). orders.IsOrder node_meaning (before run) input counts
        (old_order (parts run) (blocks run))) e (round_valid run input rounds supplied 0 some))

    blank_faultless : (number : ℕ) → (blank_dealt.runs number).fault ≡ None
    blank_faultless = faultless_dealt (parts run) blank (before run) began _ _
        blank_counted.queued.faultless

    blank_fired : (number : ℕ) → (blank_dealt.runs number).fired
        ≡ cond (is_dealt (share run (owner (share run) number).node)) 0
        (startup run (owner (share run) number).node)
    blank_fired = fired_dealt (parts run) blank (before run) began _ _ (startup run)
        blank_counted.fired

    blank_order : orders.IsOrder (restarted_meaning blank) (restarted blank_dealt (after run)) []
        (λ v. 0) (new_order (parts run) (blocks run))
    blank_order = order_valid (before run) (after run) (parts run) (blank_split run) (blocks run)
        (round_blocks run) input (startup run) (within run) blank_valid began blank_dealt
        blank_counted blank_agrees blank_faultless narrow

    blank_queues : QueuesAgree run began blank_dealt
    blank_queues = record {
      first = blank_agrees.queues;
      copies = λ v i dealt less. ((blank_agrees.idle v dealt).copy i less).empty;
      gathers = λ v i dealt less. ((blank_agrees.idle v dealt).copy i less).passed_on;
    }

    -- ---- what the round takes and gives

    abbrev Ends : (old_end new_end : Queues) → Type 0
    Ends old_end new_end = IsEnd (before run) (after run) (parts run) (blank_split run)
        (blocks run) (round_blocks run) input (startup run) (within run) blank_valid began
        blank_dealt blank_counted blank_agrees blank_faultless narrow old_end new_end

    blank_ends : (old_end : Queues) × (new_end : Queues) × Ends old_end new_end
    blank_ends = ends (before run) (after run) (parts run) (blank_split run) (blocks run)
        (round_blocks run) input (startup run) (within run) blank_valid began blank_dealt
        blank_counted blank_agrees blank_faultless narrow

    module _ (old_end new_end : Queues) (end : Ends old_end new_end) where
      end_queues : QueuesAgree run old_end new_end
      end_queues = record {
        first = end.agrees.queues;
        copies = λ v i dealt less. ((end.agrees.idle v dealt).copy i less).empty;
        gathers = λ v i dealt less. ((end.agrees.idle v dealt).copy i less).passed_on;
      }

      after_round : orders.counted (startup run) (old_order (parts run) (blocks run))
          ≡ (λ v. startup run v + in_round run v)
      after_round = fun_ext (λ v. omega (
        arith,
        counted-firing_count (old_order (parts run) (blocks run)) (startup run) v,
        old_counts run v,
      ))

      end_counted : IsCounted blank (before run) input (λ v. startup run v + in_round run v)
          old_end
      end_counted = subst (λ (counts : ℕ → ℕ). IsCounted blank (before run) input counts old_end)
          after_round end.counted_is

      -- a queue that a node feeds
      abbrev Fed : (number port : ℕ) → Type 0
      Fed number port = (source : ℕ) × (source_port : ℕ)
          × (((after run).source number port).origin ≡ Port source source_port)

      old_alike : (u port : ℕ) → port < ports_in ((before run).code u)
          → Fed (base (share run) u + 0) port
          → length (began.queues u port) ≡ length (old_end.queues u port)
      unfolding renamed orders.fill orders.supply orders.supply_of
      old_alike u port less fed = by_origin ((before run).source u port).origin refl
        where
          comes : ((after run).source (base (share run) u + 0) port).origin
              ≡ renamed (parts run) ((before run).source u port).origin
          comes = (split run).inputs u port less

          by_origin : (origin : Origin) → ((before run).source u port).origin ≡ origin
              → length (began.queues u port) ≡ length (old_end.queues u port)
          by_origin Nowhere e =
              let at : Nowhere ≡ Port fed.0 fed.1 =
              sym (comes ∙ ap (renamed (parts run)) e) ∙ fed.2 in
              absurd (cc)
          by_origin Input e =
              let at : Input ≡ Port fed.0 fed.1 =
              sym (comes ∙ ap (renamed (parts run)) e) ∙ fed.2 in
              absurd (cc)
          by_origin (Port source source_port) e = omega (
            arith,
            queue_length blank (before run) input blank_keeps (within run) (startup run) began
                blank_counted u port less,
            queue_length blank (before run) input blank_keeps (within run)
                (λ v. startup run v + in_round run v) old_end end_counted u port less,
            ap (orders.supply_of blank (before run) input (startup run)) e,
            ap (orders.supply_of blank (before run) input
                (λ v. startup run v + in_round run v)) e,
            round_even run u port source source_port e,
          )

      blank_balanced : (number port source source_port : ℕ)
          → port < ports_in ((after run).code number)
          → ((after run).source number port).origin ≡ Port source source_port
          → total_from (pops_at ((after run).code number)) (blank_dealt.runs number).fired
          (orders.firing_count (new_order (parts run) (blocks run)) number) port
          ≡ total_from (pushes_at ((after run).code source)) (blank_dealt.runs source).fired
          (orders.firing_count (new_order (parts run) (blocks run)) source) source_port
      blank_balanced number port source source_port less comes =
          balanced_at (before run) (after run) (parts run) (blank_split run) (blocks run)
          (round_blocks run) input (startup run) (within run) blank_valid began blank_dealt
          blank_counted blank_agrees blank_faultless narrow old_end new_end end number port source
          source_port less comes
          (lengths_alike run began blank_dealt old_end new_end blank_queues end_queues Fed old_alike
          number port less (source, source_port, comes))

  -- ---- from the state that start-up left

  module _ (input : List ℤ) (rounds : ℕ)
      (supplied : items_read run.old.nodes (counts_at run.schedule rounds) ≤ length input)
      (started : Queues)
      (went : fifo_go node_meaning
      (graph_before run.tree run.old run.schedule run.round run.ways)
      (startup_order run.schedule)
      (fifo_at_first node_meaning
      (graph_before run.tree run.old run.schedule run.round run.ways) input)
      ≡ FifoWent started) where
    pub new_fired : (number : ℕ) → ((dealt run started).runs number).fired
        ≡ cond (is_dealt (share run (owner (share run) number).node)) 0
        (startup run (owner (share run) number).node)
    new_fired = fired_from run started (startup run)
        (counted run input rounds supplied started went).fired

    pub new_queues : QueuesAgree run started (dealt run started)
    new_queues =
        let agree = agrees run input rounds supplied started went in
        record {
          first = agree.queues;
          copies = λ v i dealt less. ((agree.idle v dealt).copy i less).empty;
          gathers = λ v i dealt less. ((agree.idle v dealt).copy i less).passed_on;
        }

    pub new_order_valid : 0 < rounds
        → orders.IsOrder (restarted_meaning node_meaning)
        (restarted (dealt run started) (after run)) [] (λ v. 0)
        (new_order (parts run) (blocks run))
    unfolding restarted_meaning restarted
    new_order_valid some =
        let (began, blank_went) = order_goes (before run) (startup_order run.schedule)
        (fifo_at_first blank (before run) input) in
        let blank_state : Queues =
        blank_dealt input rounds supplied some began blank_went in
        let fired : (number : ℕ) → (blank_state.runs number).fired
        ≡ ((dealt run started).runs number).fired =
        λ number. blank_fired input rounds supplied some began blank_went number
        ∙ sym (new_fired number) in
        order_same (restarted_meaning blank) (restarted_meaning node_meaning)
        (restarted blank_state (after run)) (restarted (dealt run started) (after run)) []
        (record {
          ports = λ v. refl;
          windows = λ v firing port.
              ap (λ (n : ℕ). window_at ((after run).code v) (n + firing) port) (fired v);
          pops = λ v firing port.
              ap (λ (n : ℕ). pops_at ((after run).code v) (n + firing) port) (fired v);
          pushes = λ v firing port.
              ap (λ (n : ℕ). pushes_at ((after run).code v) (n + firing) port) (fired v);
          enqueued = λ v port less. lengths_alike run began blank_state started
              (dealt run started) (blank_queues input rounds supplied some began blank_went)
              new_queues (λ number at. Unit {0})
              (λ u at there any.
              queue_length blank (before run) input blank_keeps (within run) (startup run) began
              (blank_counted input rounds supplied some began blank_went) u at there
              ∙ sym (fill_same node_meaning blank (before run) (before run) input same_rates
              (startup run) u at there)
              ∙ sym (queue_length node_meaning (before run) input (keeps run) (within run)
              (startup run) started (counted run input rounds supplied started went) u at there))
              v port less tt;
          origins = λ v port less. refl;
        })
        (new_order (parts run) (blocks run)) (λ v. 0)
        (blank_order input rounds supplied some began blank_went)

    -- the rates don't depend on the input, so one that suffices for a round will do
    pub new_balanced : IsBalancedByRounds node_meaning (after run)
        (fired_in node_meaning (after run) (dealt run started))
        (orders.firing_count (new_order (parts run) (blocks run)))
    unfolding fired_in
    new_balanced number port source source_port less comes =
        let some : List ℤ = replicate (items_read run.old.nodes (counts_at run.schedule 1)) (pos 0)
        in
        let enough : items_read run.old.nodes (counts_at run.schedule 1) ≤ length some =
        let e = length-replicate (items_read run.old.nodes (counts_at run.schedule 1)) (pos 0) in
        omega (arith, e) in
        let one : 0 < 1 = omega arith in
        let (began, blank_went) = order_goes (before run) (startup_order run.schedule)
        (fifo_at_first blank (before run) some) in
        let (old_end, new_end, end) = blank_ends some 1 enough one began blank_went in
        let fired : (n : ℕ) → ((blank_dealt some 1 enough one began blank_went).runs n).fired
        ≡ ((dealt run started).runs n).fired =
        λ n. blank_fired some 1 enough one began blank_went n ∙ sym (new_fired n) in
        sym (ap (λ (n : ℕ). total_from (pops_at ((after run).code number)) n
        (orders.firing_count (new_order (parts run) (blocks run)) number) port) (fired number))
        ∙ blank_balanced some 1 enough one began blank_went old_end new_end end number port source
        source_port less comes
        ∙ ap (λ (n : ℕ). total_from (pushes_at ((after run).code source)) n
        (orders.firing_count (new_order (parts run) (blocks run)) source) source_port)
        (fired source)
