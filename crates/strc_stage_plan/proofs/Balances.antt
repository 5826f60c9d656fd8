-- The channels of a planned graph balance over a round, by the rates of settled firings.
use Rattle.std.proofs.Common.{◌≡◌, refl, sym, ap, ◌∙◌, subst, ℕ, ◌+◌, ◌*◌, ◌<◌, ◌≤◌}
use Rattle.std.proofs.Common.{arith, List, length, Bool, true, false, inl, inr, Option, Some}
use Rattle.std.proofs.Common.{slice_get}
use Rattle.std.specs.Option.{option_map_or}
use Rattle.std.proofs.lemmas.Bool.{cases_lt}
use Rattle.std.proofs.lemmas.Option.{slice_get-get_or, slice_get_past}
use Rattle.strc_elab_dataflow.specs.Flat.{Origin, Origin.Nowhere, Origin.Input, Origin.Port, Source}
use Rattle.strc_elab_dataflow.specs.Node.{total}
use Rattle.strc_elab_dataflow.specs.Streams.{any_code}
use Rattle.strc_elab_dataflow.proofs.Again.{total_repeats}
use Rattle.strc_elab_graph.specs.Graphs.{NodeCode, Channel, JoinsPorts, input_ports, output_ports}
use Rattle.strc_elab_graph.specs.Graphs.{source_in}
use Rattle.strc_elab_graph.specs.Rates.{pops_at, pushes_at}
use Rattle.strc_balance.specs.Balance.{count_at}
use Rattle.strc_startup.specs.Rates.{rates_of, rates_of_channel}
use Rattle.strc_startup.specs.declared.channel_rates.ChannelRates.{ChannelRates}
use Rattle.strc_sched_orders.specs.Rounds.{RoundBalances}
use Rattle.strc_sched_laws.proofs.Rounds.{balances}
use Rattle.strc_sched_laws.specs.Repeats.{HaveSameRates}
use Rattle.strc_fiss.proofs.Each.{all_each}
use Rattle.strc_stage_plan.specs.Sources.{takes_input}
use Rattle.strc_stage_plan.proofs.Ends.{ends_there, source_none, one_or_none}
use Rattle.strc_stage_plan.proofs.Members.{In, each_in, in_map}
use Rattle.strc_stage_plan.proofs.Orders.{ends_apart}
use Rattle.strc_stage_plan.proofs.Splits.{at_reader, at_other, one_source}
use Rattle.strc_stage_plan.proofs.Codes.{old_alone}
use Rattle.strc_stage_plan.proofs.OwnRounds.{OwnRound, before, startup, in_round, least}
use Rattle.strc_stage_plan.proofs.Settled.{as_later}

-- a node with a port is there
with_port : (ports : NodeCode → ℕ) (nodes : List NodeCode) (v port : ℕ)
    → port < option_map_or ports (slice_get nodes v) 0 → v < length nodes
with_port ports nodes v port less = elim (cases_lt v (length nodes)) [
  | inl inside ↦ inside
  | inr past ↦ absurd (omega (
    arith,
    less,
    ap (λ (o : Option NodeCode). option_map_or ports o 0) (slice_get_past nodes v past),
  ))
]

port_same : (a b c d : ℕ) → ◌≡◌ {A = Origin} (Port a b) (Port c d) → (a ≡ c) × (b ≡ d)
port_same a b c d e = (cc, cc)

module _ (run : OwnRound) where
  -- firings after start-up have the rates of firing 1
  pub settled : (u : ℕ) → u < length run.old.nodes → (firing : ℕ) → startup run u ≤ firing
      → HaveSameRates ((before run).code u) firing 1
  settled u inside firing later = as_later ((before run).code u)
      (old_alone run.tree run.old run.schedule run.round run.ways run.program run.is run.planned
      run.known u) firing (omega (arith, least run u inside, later))

  pops_later : (u port : ℕ) → u < length run.old.nodes → (more : ℕ)
      → total (pops_at ((before run).code u)) (startup run u + more) port
      ≡ total (pops_at ((before run).code u)) (startup run u) port
      + more * pops_at ((before run).code u) 1 port
  pops_later u port inside more =
      total_repeats (pops_at ((before run).code u)) port (startup run u)
      (λ firing later. (settled u inside firing later port).1
      ∙ sym (settled u inside (startup run u) (omega arith) port).1) (startup run u) (omega arith)
      more
      ∙ ap (λ (n : ℕ). total (pops_at ((before run).code u)) (startup run u) port + more * n)
      (settled u inside (startup run u) (omega arith) port).1

  pushes_later : (u port : ℕ) → u < length run.old.nodes → (more : ℕ)
      → total (pushes_at ((before run).code u)) (startup run u + more) port
      ≡ total (pushes_at ((before run).code u)) (startup run u) port
      + more * pushes_at ((before run).code u) 1 port
  pushes_later u port inside more =
      total_repeats (pushes_at ((before run).code u)) port (startup run u)
      (λ firing later. (settled u inside firing later port).2
      ∙ sym (settled u inside (startup run u) (omega arith) port).2) (startup run u) (omega arith)
      more
      ∙ ap (λ (n : ℕ). total (pushes_at ((before run).code u)) (startup run u) port + more * n)
      (settled u inside (startup run u) (omega arith) port).2

  -- what a round takes of a channel, and what it gives
  record IsEven (node port source source_port : ℕ) : Type 0 where
    target_there : node < length run.old.nodes
    source_there : source < length run.old.nodes
    even : in_round run source * pushes_at ((before run).code source) 1 source_port
        ≡ in_round run node * pops_at ((before run).code node) 1 port

  code_there : (v : ℕ) → v < length run.old.nodes
      → slice_get run.old.nodes v ≡ Some ((before run).code v)
  code_there v inside = slice_get-get_or run.old.nodes v (any_code run.tree) inside

  channel_even : (own : Channel) → In own run.old.channels
      → IsEven own.target.node own.target.port own.source.node own.source.port
  channel_even own there =
      let joins = each_in (JoinsPorts run.old.nodes) own run.old.channels
      (all_each (JoinsPorts run.old.nodes) run.old.channels run.is.channels) there in
      let source_there = with_port output_ports run.old.nodes own.source.node own.source.port
      joins.source in
      let target_there = with_port input_ports run.old.nodes own.target.node own.target.port
      joins.target in
      let rates : ChannelRates = rates_of_channel run.old.nodes own in
      let even : rates.push * count_at run.planned.round own.source.node
      ≡ rates.pop * count_at run.planned.round own.target.node =
      each_in (RoundBalances (count_at run.planned.round)) rates (rates_of run.old)
      (all_each (RoundBalances (count_at run.planned.round)) (rates_of run.old)
      (balances run.old run.schedule run.planned))
      (in_map (rates_of_channel run.old.nodes) own run.old.channels there) in
      let push : rates.push ≡ pushes_at ((before run).code own.source.node) 1 own.source.port =
      ap (λ (o : Option NodeCode). option_map_or (λ c. pushes_at c 1 own.source.port) o 0)
      (code_there own.source.node source_there) in
      let pop : rates.pop ≡ pops_at ((before run).code own.target.node) 1 own.target.port =
      ap (λ (o : Option NodeCode). option_map_or (λ c. pops_at c 1 own.target.port) o 0)
      (code_there own.target.node target_there) in
      let source_fires = run.planned.schedule.round_order.all own.source.node in
      let target_fires = run.planned.schedule.round_order.all own.target.node in
      record {
        target_there = target_there;
        source_there = source_there;
        even = ap (λ (n : ℕ). n * pushes_at ((before run).code own.source.node) 1 own.source.port)
            source_fires
            ∙ ap (λ (n : ℕ). count_at run.planned.round own.source.node * n) (sym push)
            ∙ turn (count_at run.planned.round own.source.node) rates.push
            ∙ even
            ∙ turn rates.pop (count_at run.planned.round own.target.node)
            ∙ ap (λ (n : ℕ). count_at run.planned.round own.target.node * n) pop
            ∙ sym (ap (λ (n : ℕ). n
            * pops_at ((before run).code own.target.node) 1 own.target.port) target_fires);
      }
    where
      turn : (a b : ℕ) → a * b ≡ b * a
      turn a b = omega arith

  port_even : (node port source source_port : ℕ)
      → ((before run).source node port).origin ≡ Port source source_port
      → IsEven node port source source_port
  port_even node port source source_port comes =
      by_test (takes_input (slice_get run.old.nodes node)) refl
    where
      by_test : (t : Bool) → takes_input (slice_get run.old.nodes node) ≡ t
          → IsEven node port source source_port
      by_test true t =
          let at : Input ≡ Port source source_port =
          sym (ap (λ (s : Source). s.origin) (at_reader run.old node port t)) ∙ comes in
          absurd (cc)
      by_test false t =
          let at : (source_in run.old.channels node port).origin ≡ Port source source_port =
          sym (ap (λ (s : Source). s.origin) (at_other run.old node port t)) ∙ comes in
          elim (one_or_none node port run.old.channels) [
            | inl found ↦
                let own : Channel = found.0 in
                let same : Port own.source.node own.source.port ≡ Port source source_port =
                ap (λ (s : Source). s.origin) (one_source run.old
                (ends_apart run.tree run.old run.program.flat) node port own found.1 found.2)
                ∙ at in
                let ends = ends_there node port own found.2 in
                subst (λ (n : ℕ). IsEven n port source source_port) ends.0
                (subst (λ (p : ℕ). IsEven own.target.node p source source_port) ends.1
                (subst (λ (n : ℕ). IsEven own.target.node own.target.port n source_port)
                (port_same _ _ _ _ same).0
                (subst (λ (p : ℕ). IsEven own.target.node own.target.port own.source.node p)
                (port_same _ _ _ _ same).1 (channel_even own found.1))))
            | inr none ↦
                let nothing_comes : Nowhere ≡ Port source source_port =
                sym (ap (λ (s : Source). s.origin)
                (source_none node port run.old.channels none)) ∙ at in
                absurd (cc)
          ]

  pub round_even : (node port source source_port : ℕ)
      → ((before run).source node port).origin ≡ Port source source_port
      → total (pops_at ((before run).code node)) (startup run node + in_round run node) port
      + total (pushes_at ((before run).code source)) (startup run source) source_port
      ≡ total (pops_at ((before run).code node)) (startup run node) port
      + total (pushes_at ((before run).code source)) (startup run source + in_round run source)
      source_port
  round_even node port source source_port comes =
      let is = port_even node port source source_port comes in
      omega (
        arith,
        is.even,
        pops_later node port is.target_there (in_round run node),
        pushes_later source source_port is.source_there (in_round run source),
      )
