-- Where rates repeat by rounds and channels balance, what waits on a channel is the same so many
-- rounds later.
use Rattle.std.proofs.Common.{◌≡◌, ap, ◌∙◌, ℕ, zero, suc, ◌+◌, ◌-◌, ◌*◌, ◌<◌, List}
use Rattle.std.proofs.Common.{[], length, arith}
use mathlib.Core.Path.{fun_ext}
use Rattle.strc_elab_dataflow.specs.Flat.{Origin, Origin.Port, Graph}
use Rattle.strc_elab_dataflow.specs.Node.{Meaning, total}
use Rattle.strc_elab_dataflow.specs.Order.{counted, counts_after, supply_of, supply, fill}
use Rattle.strc_elab_dataflow.specs.Queues.{Fifo}
use Rattle.strc_elab_dataflow.specs.Restart.{restarted_meaning, restarted, taken_in}
use Rattle.strc_elab_dataflow.specs.RestartRounds.{total_from, RepeatsByRounds, IsBalancedByRounds}
use Rattle.strc_elab_dataflow.specs.Schedules.{fired_in}
use Rattle.strc_elab_dataflow.proofs.WholeRun.{counted-firing_count}
use Rattle.strc_batch_laws.specs.Batches.{batch_counts}
use Rattle.strc_batch_laws.specs.Fills.{BatchesFillAlike}
use Rattle.strc_batch_laws.proofs.Again.{resume_law}

-- The total of a rate that repeats, one round later.
pub total_later : (rate : ℕ → ℕ → ℕ) (port round : ℕ)
    → ((firing : ℕ) → rate (firing + round) port ≡ rate firing port) → (n : ℕ)
    → total rate (n + round) port ≡ total rate n port + total rate round port
unfolding total
total_later rate port round repeats zero =
    let e : 0 + round ≡ round = omega arith in
    omega (arith, ap (λ (n : ℕ). total rate n port) e)
total_later rate port round repeats (suc n) =
    let e : suc n + round ≡ suc (n + round) = omega arith in
    omega (
      arith,
      ap (λ (m : ℕ). total rate m port) e,
      total_later rate port round repeats n,
      repeats n,
    )

-- The counts of so many rounds more.
abbrev pub later_by : (round counts : ℕ → ℕ) → ℕ → ℕ → ℕ
later_by round counts rounds v = rounds * round v + counts v

module _ {Code State Cause Word : Type 0} (meaning : Meaning Code State Cause Word)
    (graph : Graph Code) (from : Fifo State Cause Word) (round : ℕ → ℕ)
    (repeats : RepeatsByRounds meaning graph (fired_in meaning graph from) round)
    (balanced : IsBalancedByRounds meaning graph (fired_in meaning graph from) round)
    (node port source source_port : ℕ) (inside : port < meaning.ports (graph.code node))
    (origin : (graph.source node port).origin ≡ Port source source_port) where
  abbrev pub pops : ℕ → ℕ → ℕ
  pops n = meaning.popped (graph.code node) ((from.runs node).fired + n)

  abbrev pub pushes : ℕ → ℕ → ℕ
  pushes n = meaning.pushed (graph.code source) ((from.runs source).fired + n)

  pops_later : (n : ℕ) → pops (n + round node) port ≡ pops n port
  unfolding fired_in
  pops_later n =
      let first = (from.runs node).fired in
      let e : first + (n + round node) ≡ (first + n) + round node = omega arith in
      ap (λ (k : ℕ). meaning.popped (graph.code node) k port) e
      ∙ repeats.pops_repeat node (first + n) port (omega arith)

  pub pushes_later : (n : ℕ) → pushes (n + round source) source_port ≡ pushes n source_port
  unfolding fired_in
  pushes_later n =
      let first = (from.runs source).fired in
      let e : first + (n + round source) ≡ (first + n) + round source = omega arith in
      ap (λ (k : ℕ). meaning.pushed (graph.code source) k source_port) e
      ∙ repeats.pushes_repeat source (first + n) source_port (omega arith)

  same_totals : total pops (round node) port ≡ total pushes (round source) source_port
  unfolding fired_in total_from
  same_totals = balanced node port source source_port inside origin

  abbrev pub fills : (ℕ → ℕ) → ℕ
  fills counts = fill (restarted_meaning meaning) (restarted from graph) [] counts node port

  again_origin : ((restarted from graph).source node port).origin ≡ Port source source_port
  unfolding restarted taken_in
  again_origin = ap taken_in origin

  pub fill_is : (counts : ℕ → ℕ) → fills counts
      ≡ (length (from.queues node port) + total pushes (counts source) source_port)
      - total pops (counts node) port
  unfolding fill supply supply_of restarted_meaning restarted
  fill_is counts = ap (λ (o : Origin). (length (from.queues node port)
      + supply_of (restarted_meaning meaning) (restarted from graph) [] counts o)
      - total pops (counts node) port) again_origin

  fill_next : (counts : ℕ → ℕ) → fills (λ v. counts v + round v) ≡ fills counts
  fill_next counts = omega (
    arith,
    fill_is (λ v. counts v + round v),
    fill_is counts,
    total_later pops port (round node) pops_later (counts node),
    total_later pushes source_port (round source) pushes_later (counts source),
    same_totals,
  )

  pub fill_later : (counts : ℕ → ℕ) (rounds : ℕ)
      → fills (later_by round counts rounds) ≡ fills counts
  fill_later counts zero = ap fills (fun_ext (λ v. omega arith))
  fill_later counts (suc rounds) =
      ap fills (fun_ext (λ v. let e : suc rounds * round v + counts v
      ≡ (rounds * round v + counts v) + round v = omega arith in e))
      ∙ fill_next (later_by round counts rounds)
      ∙ fill_later counts rounds

-- The firings of a front, behind m rounds and q batches.
behind : (round : ℕ → ℕ) (b m q : ℕ) (done : List ℕ) → ℕ → ℕ
behind round b m q done v =
    counted (counts_after (λ u. 0) (batch_counts b round) q) done v + m * round v

behind_is : (round : ℕ → ℕ) (b m q : ℕ) (done : List ℕ)
    → behind round b m q done ≡ later_by round (counted (λ u. 0) done) (m + q * b)
unfolding behind counts_after
behind_is round b m q done = fun_ext (λ v. at v (round v) (omega (
  arith,
  counted-firing_count done (counts_after (λ u. 0) (batch_counts b round) q) v,
  counted-firing_count done (λ u. 0) v,
)))
  where
    at : (v r : ℕ) → counted (counts_after (λ u. 0) (batch_counts b round) q) done v
        ≡ q * (b * r) + counted (λ u. 0) done v
        → counted (counts_after (λ u. 0) (batch_counts b round) q) done v + m * r
        ≡ (m + q * b) * r + counted (λ u. 0) done v
    at v r e = omega (arith, e)

pub fill_law : {Code State Cause Word : Type 0} → BatchesFillAlike Code State Cause Word
unfolding behind
fill_law meaning graph from mid stage_of segment stages round round_order b m n q done node port
    source source_port are repeats balanced inside origin =
    (resume_law meaning graph from mid stage_of segment stages round round_order b m n are).0.waits
    (counted (counts_after (λ v. 0) (batch_counts b round) q) done) node port inside
    ∙ ap (λ (c : ℕ → ℕ). fill (restarted_meaning meaning) (restarted from graph) [] c node port)
    (behind_is round b m q done)
    ∙ fill_later meaning graph from round repeats balanced node port source source_port inside
    origin (counted (λ v. 0) done) (m + q * b)
