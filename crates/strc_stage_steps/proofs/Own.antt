-- A run after fission and fusion, by its units before fusion: how often its nodes fire, and at
-- which rates.
use Rattle.std.proofs.Common.{◌≡◌, refl, sym, ap, ◌∙◌, subst, ℕ, zero, suc, ◌+◌, ◌-◌, ◌*◌}
use Rattle.std.proofs.Common.{◌<◌, ◌≤◌, ◌^◌, arith, true, false, Bool, cond, List, length, inl}
use Rattle.std.proofs.Common.{inr}
use Rattle.std.proofs.lemmas.Bool.{cases_lt}
use Rattle.std.proofs.Math.Nat.{mul-le-mul_left}
use mathlib.Core.Path.{fun_ext}
use Rattle.strc_elab_dataflow.specs.Order as orders
use Rattle.strc_elab_graph.specs.Graphs.{NodeCode, Scatter, Copy, Gather, Filter, Identity}
use Rattle.strc_elab_graph.specs.Graphs.{FileReader, FileWriter, Splitter, Joiner}
use Rattle.strc_elab_graph.specs.Meaning.{node_meaning}
use Rattle.strc_elab_graph.specs.Rates.{fires_by_rounds, pops_at, pushes_at, copy_pops}
use Rattle.strc_elab_graph.specs.Rates.{rate_at_0}
use Rattle.strc_elab_graph.specs.declared.graph.Fission.{Fission}
use Rattle.strc_balance.specs.Balance.{count_at, count_limit}
use Rattle.strc_sched_orders.specs.RoundRates.{pops_in_round}
use Rattle.strc_sched_laws.proofs.Orders.{firing_count_is}
use Rattle.strc_sched_laws.proofs.Rounds.{round_nodes}
use Rattle.strc_elab_dataflow.specs.RestartRounds.{RepeatsByRounds}
use Rattle.strc_elab_dataflow.specs.Schedules.{fired_in}
use Rattle.strc_elab_dataflow.specs.FusedUnits.{firings_of}
use Rattle.strc_fuse.specs.Units.{is_free, round_units}
use Rattle.strc_fuse.proofs.Lawful.{fused_units_count}
use Rattle.strc_fiss.specs.Numbers.{is_dealt, last_part, base}
use Rattle.strc_fiss.specs.Splitting.{copied, code_at, new_code}
use Rattle.strc_fiss.specs.Units.{split_units}
use Rattle.strc_fiss.specs.Ways.{fission_of}
use Rattle.strc_fiss.proofs.Bases.{base_below, base_up}
use Rattle.strc_fiss.proofs.Lookup.{part_many}
use Rattle.strc_fiss.proofs.Renaming.{last_dealt}
use Rattle.strc_stage_plan.proofs.NewChannels.{apart}
use Rattle.strc_stage_plan.proofs.Owners.{owner_is}
use Rattle.strc_stage_plan.proofs.Runs.{own_round}
use Rattle.strc_stage_plan.specs.Fused.{FusedRun, IsFusedRun, graph_of, order_of, state_of}
use Rattle.strc_stage_plan.proofs.Balances.{settled}
use Rattle.strc_stage_plan.proofs.Codes.{old_alone, kept_code, scatter_code, copy_code}
use Rattle.strc_stage_plan.proofs.Codes.{gather_code}
use Rattle.strc_stage_plan.proofs.Codes as codes
use Rattle.strc_fiss.proofs.PartCounts.{alls, old_count, scatter_count, gather_count}
use Rattle.strc_stage_plan.proofs.NewRounds.{new_fired}
use Rattle.strc_stage_plan.proofs.Numbers.{each_number}
use Rattle.strc_stage_plan.proofs.OwnRounds.{OwnRound, before, parts, startup, in_round, blocks}
use Rattle.strc_stage_plan.proofs.OwnRounds.{round_blocks, after_is, old_counts, split}
use Rattle.strc_stage_plan.proofs.Repeats.{new_counts, kept_fires, copy_fires, rounds_repeat}
use Rattle.strc_stage_steps.specs.SplitRingsLaws.{nodes_of}

-- how often a node can fire
pub number_bound : (startup round rounds : ℕ) → startup ≤ count_limit → round ≤ count_limit
    → rounds < 2 ^ 32 → startup + rounds * round < 2 ^ 64
number_bound startup round rounds first each few =
    let most : rounds * round ≤ rounds * count_limit = mul-le-mul_left rounds each in
    omega (arith, first, most, few)

pops_alike : (code : NodeCode) (port : ℕ) → fires_by_rounds code ≡ false
    → pops_in_round code port ≡ pops_at code 1 port
pops_alike (Copy copied fission) port other = absurd (cc)
pops_alike (Filter name filter) port other = refl
pops_alike Identity port other = refl
pops_alike (FileReader text) port other = refl
pops_alike (FileWriter text) port other = refl
pops_alike (Splitter splitter) port other = refl
pops_alike (Joiner weights) port other = refl
pops_alike (Scatter fission) port other = refl
pops_alike (Gather fission) port other = refl

-- a copy takes no less than what it copies
copy_pops_least : (fission : Fission) (firing port : ℕ) → fission.pop ≤ fission.window
    → rate_at_0 fission.pop port ≤ rate_at_0 (copy_pops fission firing) port
copy_pops_least fission firing (suc port) narrow = omega arith
copy_pops_least fission firing zero narrow = by_test _
  where
    by_test : (t : Bool) → fission.pop ≤ cond t fission.window fission.pop
    by_test true = narrow
    by_test false = omega arith

module _ (run : FusedRun) (limit : ℕ) (is : IsFusedRun run limit) where
  -- the units before fusion
  abbrev pub own : OwnRound
  own = record {
    tree = run.tree;
    old = run.old;
    schedule = run.schedule;
    round = run.round;
    ways = run.ways;
    units = round_units run.schedule.round;
    program = is.program;
    is = is.is;
    planned = is.planned;
    known = is.known;
    own = is.own;
    are = own_round run.old run.schedule is.planned;
  }

  abbrev share : ℕ → Fission
  share = fission_of run.old run.round run.ways

  pub same_count : (number : ℕ)
      → orders.firing_count (order_of run) number ≡ new_counts own number
  same_count number =
      firing_count_is (order_of run) number
      ∙ fused_units_count (is_free (nodes_of run)) limit
      (split_units (fission_of run.old run.round run.ways) (round_units run.schedule.round))
      run.fused number is.fusion
      ∙ sym (firing_count_is (firings_of (split_units (fission_of run.old run.round run.ways)
      (round_units run.schedule.round))) number)

  there : (v : ℕ) → is_dealt (share v) ≡ true → v < length run.old.nodes
  there v dealt = codes.there run.tree run.old run.schedule run.round run.ways is.program is.is
      is.planned is.known v dealt

  new_many : length (nodes_of run).nodes ≡ base share (length run.old.nodes)
  new_many = part_many share (new_code share run.old.nodes) (length run.old.nodes)

  part_there : (u k : ℕ) → u < length run.old.nodes → k ≤ last_part share u
      → base share u + k < length (nodes_of run).nodes
  part_there u k less within =
      omega (arith, new_many, within, base_below share u (length run.old.nodes) less)

  node_there : (u : ℕ) → base share u + 0 < length (nodes_of run).nodes
      → u < length run.old.nodes
  node_there u less = elim (cases_lt u (length run.old.nodes)) [
    | inl inside ↦ inside
    | inr past ↦
        absurd (omega (arith, less, new_many, base_up share (length run.old.nodes) u past))
  ]

  split_there : (v k : ℕ) → is_dealt (share v) ≡ true → k ≤ suc (share v).ways
      → base share v + k < length (nodes_of run).nodes
  split_there v k dealt within = part_there v k (there v dealt)
      (omega (arith, within, last_dealt (share v) dealt))

  -- ---- nodes that fire are there

  abbrev AreThere : ℕ → Type 0
  AreThere number = 0 < new_counts own number → number < length (nodes_of run).nodes

  kept_there : (u : ℕ) → is_dealt (share u) ≡ false → AreThere (base share u + 0)
  kept_there u whole fires =
      part_there u 0 (round_nodes run.old run.schedule is.planned u
      (omega (arith, fires, kept_fires own u whole))) (omega arith)

  pub fires_there : (number : ℕ) → 0 < orders.firing_count (order_of run) number
      → number < length (nodes_of run).nodes
  fires_there number fires =
      each_number share AreThere kept_there
      (λ v dealt fires. split_there v 0 dealt (omega arith))
      (λ v i dealt less fires. split_there v (suc i) dealt (omega (arith, less)))
      (λ v dealt fires. split_there v (suc (share v).ways) dealt (omega arith)) number
      (omega (arith, fires, same_count number))

  -- ---- how often nodes have fired, and fire

  abbrev fired : ℕ → ℕ
  fired number = ((state_of run).runs number).fired

  fired_part : (v k : ℕ) → k ≤ last_part share v
      → fired (base share v + k) ≡ cond (is_dealt (share v)) 0 (startup own v)
  fired_part v k within =
      new_fired own run.input run.rounds is.supplied run.started is.went (base share v + k)
      ∙ ap (λ (u : ℕ). cond (is_dealt (share u)) 0 (startup own u))
      (owner_is share v k within).0

  fired_kept : (u : ℕ) → is_dealt (share u) ≡ false → fired (base share u + 0) ≡ startup own u
  fired_kept u whole = fired_part u 0 (omega arith)
      ∙ ap (λ (t : Bool). cond t 0 (startup own u)) whole

  fired_split : (v k : ℕ) → is_dealt (share v) ≡ true → k ≤ suc (share v).ways
      → fired (base share v + k) ≡ 0
  fired_split v k dealt within =
      fired_part v k (omega (arith, within, last_dealt (share v) dealt))
      ∙ ap (λ (t : Bool). cond t 0 (startup own v)) dealt

  module _ (few : run.rounds < 2 ^ 32) where
    abbrev Numbered : ℕ → Type 0
    Numbered number = fired number + run.rounds * new_counts own number < 2 ^ 64

    kept_numbered : (u : ℕ) → is_dealt (share u) ≡ false → Numbered (base share u + 0)
    kept_numbered u whole = omega (
      arith,
      fired_kept u whole,
      ap (λ (n : ℕ). run.rounds * n) (kept_fires own u whole),
      is.planned.schedule.startup_order.all u,
      ap (λ (n : ℕ). run.rounds * n) (is.planned.schedule.round_order.all u),
      number_bound (count_at is.planned.startup u) (count_at is.planned.round u) run.rounds
          (is.planned.startup_within u) (is.planned.round_within u) few,
    )

    -- a part fires no more often than its node did
    split_numbered : (v k weight : ℕ) → is_dealt (share v) ≡ true → k ≤ suc (share v).ways
        → weight ≤ (share v).ways * (share v).firings
        → new_counts own (base share v + k) ≡ alls (blocks own) v * weight
        → Numbered (base share v + k)
    split_numbered v k weight dealt within least counts =
        let turns : ℕ = alls (blocks own) v in
        let fires : in_round own v ≡ turns * ((share v).ways * (share v).firings) =
        sym (old_counts own v)
        ∙ old_count (parts own) (apart share) (blocks own) (round_blocks own) v dealt in
        let below : turns * weight ≤ turns * ((share v).ways * (share v).firings) =
        mul-le-mul_left turns least in
        let fewer : new_counts own (base share v + k) ≤ count_at is.planned.round v =
        omega (arith, counts, below, fires, is.planned.schedule.round_order.all v) in
        let times : run.rounds * new_counts own (base share v + k)
        ≤ run.rounds * count_at is.planned.round v = mul-le-mul_left run.rounds fewer in
        omega (
          arith,
          times,
          fired_split v k dealt within,
          number_bound (count_at is.planned.startup v) (count_at is.planned.round v) run.rounds
              (is.planned.startup_within v) (is.planned.round_within v) few,
        )

    module _ (v : ℕ) (dealt : is_dealt (share v) ≡ true) where
      firings_below : (share v).firings ≤ (share v).ways * (share v).firings
      firings_below =
          let ways : suc ((share v).ways - 1) ≡ (share v).ways =
          omega (arith, ((split own).split v dealt).some_ways) in
          let e : suc ((share v).ways - 1) * (share v).firings
          ≡ (share v).ways * (share v).firings = ap (λ (n : ℕ). n * (share v).firings) ways in
          omega (arith, e)

      one_below : 1 ≤ (share v).ways * (share v).firings
      one_below = omega (arith, firings_below, ((split own).split v dealt).some_firings)

    pub numbered : (number : ℕ)
        → fired number + run.rounds * orders.firing_count (order_of run) number < 2 ^ 64
    numbered number = omega (
      arith,
      ap (λ (n : ℕ). run.rounds * n) (same_count number),
      each_number share Numbered kept_numbered
          (λ v dealt. split_numbered v 0 1 dealt (omega arith) (one_below v dealt)
          (ap (λ (l : List ℕ). orders.firing_count l (base share v + 0)) (after_is own)
          ∙ scatter_count (parts own) (apart share) (blocks own) (round_blocks own) v dealt))
          (λ v i dealt less. split_numbered v (suc i) (share v).firings dealt
          (omega (arith, less)) (firings_below v dealt) (copy_fires own v i dealt less))
          (λ v dealt. split_numbered v (suc (share v).ways) 1 dealt (omega arith)
          (one_below v dealt)
          (ap (λ (l : List ℕ). orders.firing_count l (base share v + suc (share v).ways))
          (after_is own)
          ∙ gather_count (parts own) (apart share) (blocks own) (round_blocks own) v dealt)) number,
    )

  -- ---- rates from there on

  -- each firing pushes as the node's work does, and takes no less
  pub record IsSteady (number : ℕ) : Type 0 where
    pub pushes : (firing port : ℕ) → fired number ≤ firing
        → pushes_at ((graph_of run).code number) firing port
        ≡ pushes_at ((graph_of run).code number) 1 port
    pub pops : (firing port : ℕ) → fired number ≤ firing
        → pops_in_round ((graph_of run).code number) port
        ≤ pops_at ((graph_of run).code number) firing port

  abbrev StaysSteady : (from : ℕ) → NodeCode → Type 0
  StaysSteady from code = (firing port : ℕ) → from ≤ firing
      → (pushes_at code firing port ≡ pushes_at code 1 port)
      × (pops_in_round code port ≤ pops_at code firing port)

  steady_by : (number : ℕ) (code : NodeCode) → (graph_of run).code number ≡ code
      → StaysSteady (fired number) code → IsSteady number
  steady_by number code e stays =
      let own_stays = subst (StaysSteady (fired number)) (sym e) stays in
      record {
        pushes = λ firing port later. (own_stays firing port later).0;
        pops = λ firing port later. (own_stays firing port later).1;
      }

  abbrev AreSteady : ℕ → Type 0
  AreSteady number = number < length (nodes_of run).nodes → IsSteady number

  kept_steady : (u : ℕ) → is_dealt (share u) ≡ false → AreSteady (base share u + 0)
  kept_steady u whole within =
      let code = (before own).code u in
      let less = node_there u within in
      steady_by (base share u + 0) code
      (kept_code run.tree run.old run.schedule run.round run.ways is.program is.is is.planned
      is.known u whole)
      (λ firing port later.
      let same = settled own u less firing (omega (arith, later, fired_kept u whole)) port in (
        same.2,
        omega (
          arith,
          same.1,
          pops_alike code port (old_alone run.tree run.old run.schedule run.round run.ways
              is.program is.is is.planned is.known u),
        ),
      ))

  pub steady : (number : ℕ) → number < length (nodes_of run).nodes → IsSteady number
  steady = each_number share AreSteady kept_steady
      (λ v dealt within. steady_by (base share v + 0) (Scatter (share v))
      (scatter_code run.tree run.old run.schedule run.round run.ways is.program is.is is.planned
      is.known v dealt) (λ firing port later. (refl, omega arith)))
      (λ v i dealt less within. steady_by (base share v + suc i)
      (Copy (copied (code_at run.old.nodes v)) (share v))
      (copy_code run.tree run.old run.schedule run.round run.ways is.program is.is is.planned
      is.known v i dealt less)
      (λ firing port later. (
        refl,
        copy_pops_least (share v) firing port ((split own).split v dealt).narrow,
      )))
      (λ v dealt within. steady_by (base share v + suc (share v).ways) (Gather (share v))
      (gather_code run.tree run.old run.schedule run.round run.ways is.program is.is is.planned
      is.known v dealt) (λ firing port later. (refl, omega arith)))

  pub repeats : RepeatsByRounds node_meaning (graph_of run)
      (fired_in node_meaning (graph_of run) (state_of run)) (orders.firing_count (order_of run))
  repeats = subst (RepeatsByRounds node_meaning (graph_of run)
      (fired_in node_meaning (graph_of run) (state_of run)))
      (sym (fun_ext same_count))
      (rounds_repeat run.tree run.old run.schedule run.round run.ways run.input run.rounds
      run.started is.program is.is is.planned is.known is.own is.supplied is.went)
