-- Where rates repeat by rounds and channels balance, each round has the fills of the first.
use Rattle.std.proofs.Common.{◌≡◌, ap, ◌∙◌, ℕ, zero, suc, ◌+◌, ◌-◌, ◌*◌, ◌<◌, List}
use Rattle.std.proofs.Common.{[], length, arith}
use mathlib.Core.Path.{fun_ext}
use Rattle.strc_elab_dataflow.specs.Flat as flat
use Rattle.strc_elab_dataflow.specs.Flat.{Origin, Origin.Port}
use Rattle.strc_elab_dataflow.specs.Node.{Meaning, total}
use Rattle.strc_elab_dataflow.specs.Order.{counted, counts_after, supply_of, supply, fill}
use Rattle.strc_elab_dataflow.specs.Queues.{Fifo}
use Rattle.strc_elab_dataflow.proofs.WholeRun.{counted-firing_count}
use Rattle.strc_elab_graph.specs.Meaning.{node_meaning}
use Rattle.strc_elab_dataflow.specs.Restart.{restarted_meaning, restarted, taken_in}
use Rattle.strc_elab_dataflow.specs.RestartRounds.{total_from, RepeatsByRounds, IsBalancedByRounds}
use Rattle.strc_elab_dataflow.specs.Schedules.{fired_in}
use Rattle.strc_stage_steps.specs.Laws.{RoundsHaveRoom}
use Rattle.strc_stage_steps.proofs.Ports.{port_inside}

-- the total of a rate that repeats, one round later
total_later : (rate : ℕ → ℕ → ℕ) (port round : ℕ)
    → ((firing : ℕ) → rate (firing + round) port ≡ rate firing port) → (n : ℕ)
    → total rate (n + round) port ≡ total rate n port + total rate round port
unfolding total
total_later rate port round repeats zero =
    let e : 0 + round ≡ round = omega arith in
    omega (arith, ap (λ (n : ℕ). total rate n port) e)
total_later rate port round repeats (suc n) =
    let e : suc n + round ≡ suc (n + round) = omega arith in
    omega (
      arith,
      ap (λ (m : ℕ). total rate m port) e,
      total_later rate port round repeats n,
      repeats n,
    )

module _ {Code State Cause Word : Type 0} (meaning : Meaning Code State Cause Word)
    (graph : flat.Graph Code) (from : Fifo State Cause Word) (round : ℕ → ℕ)
    (repeats : RepeatsByRounds meaning graph (fired_in meaning graph from) round)
    (balanced : IsBalancedByRounds meaning graph (fired_in meaning graph from) round)
    (node port source source_port : ℕ) (inside : port < meaning.ports (graph.code node))
    (origin : (graph.source node port).origin ≡ Port source source_port) where
  abbrev pops : ℕ → ℕ → ℕ
  pops n = meaning.popped (graph.code node) ((from.runs node).fired + n)

  abbrev pushes : ℕ → ℕ → ℕ
  pushes n = meaning.pushed (graph.code source) ((from.runs source).fired + n)

  pops_later : (n : ℕ) → pops (n + round node) port ≡ pops n port
  unfolding fired_in
  pops_later n =
      let first = (from.runs node).fired in
      let e : first + (n + round node) ≡ (first + n) + round node = omega arith in
      ap (λ (k : ℕ). meaning.popped (graph.code node) k port) e
      ∙ repeats.pops_repeat node (first + n) port (omega arith)

  pushes_later : (n : ℕ) → pushes (n + round source) source_port ≡ pushes n source_port
  unfolding fired_in
  pushes_later n =
      let first = (from.runs source).fired in
      let e : first + (n + round source) ≡ (first + n) + round source = omega arith in
      ap (λ (k : ℕ). meaning.pushed (graph.code source) k source_port) e
      ∙ repeats.pushes_repeat source (first + n) source_port (omega arith)

  same_totals : total pops (round node) port ≡ total pushes (round source) source_port
  unfolding fired_in total_from
  same_totals = balanced node port source source_port inside origin

  abbrev later : (ℕ → ℕ) → ℕ → ℕ
  later counts v = counts v + round v

  again_origin : ((restarted from graph).source node port).origin ≡ Port source source_port
  unfolding restarted taken_in
  again_origin = ap taken_in origin

  abbrev fills : (ℕ → ℕ) → ℕ
  fills counts = fill (restarted_meaning meaning) (restarted from graph) [] counts node port

  fill_is : (counts : ℕ → ℕ) → fill (restarted_meaning meaning) (restarted from graph) [] counts
      node port
      ≡ (length (from.queues node port) + total pushes (counts source) source_port)
      - total pops (counts node) port
  unfolding fill supply supply_of restarted_meaning restarted
  fill_is counts = ap (λ (o : Origin). (length (from.queues node port)
      + supply_of (restarted_meaning meaning) (restarted from graph) [] counts o)
      - total pops (counts node) port) again_origin

  fill_later : (counts : ℕ → ℕ) → fills (later counts) ≡ fills counts
  fill_later counts = omega (
    arith,
    fill_is (later counts),
    fill_is counts,
    total_later pops port (round node) pops_later (counts node),
    total_later pushes source_port (round source) pushes_later (counts source),
    same_totals,
  )

  abbrev rounds_later : (counts : ℕ → ℕ) → ℕ → ℕ → ℕ
  rounds_later counts q v = q * round v + counts v

  fill_rounds_later : (counts : ℕ → ℕ) (q : ℕ) → fills (rounds_later counts q) ≡ fills counts
  fill_rounds_later counts zero = ap fills (fun_ext (λ v. omega arith))
  fill_rounds_later counts (suc q) =
      ap fills (fun_ext (λ v. let e : suc q * round v + counts v
      ≡ (q * round v + counts v) + round v = omega arith in e))
      ∙ fill_later (rounds_later counts q)
      ∙ fill_rounds_later counts q

  -- after a front of an order, in any round as in the first
  pub fill_in_round : (q : ℕ) (done : List ℕ)
      → fill (restarted_meaning meaning) (restarted from graph) []
      (counted (counts_after (λ v. 0) round q) done) node port
      ≡ fill (restarted_meaning meaning) (restarted from graph) []
      (counted (counts_after (λ v. 0) round 0) done) node port
  unfolding counts_after
  fill_in_round q done =
      let first = counted (counts_after (λ v. 0) round 0) done in
      ap fills (fun_ext (λ v. let e : counted (counts_after (λ v. 0) round q) done v
      ≡ q * round v + first v = omega (
        arith,
        counted-firing_count done (counts_after (λ v. 0) round q) v,
        counted-firing_count done (counts_after (λ v. 0) round 0) v,
      ) in e))
      ∙ fill_rounds_later first q

pub rounds_have_room : RoundsHaveRoom
rounds_have_room running by_source from joins repeats balanced room round done left same number
    channel there = omega (
      arith,
      room done left same number channel there,
      fill_in_round node_meaning by_source from running.counts repeats balanced
          channel.target.node channel.target.port channel.source.node channel.source.port
          (port_inside by_source running.graph joins number channel there)
          (joins.origins number channel there) round done,
    )
