-- An order that is valid by counts finds its windows in the queues.
use Rattle.std.proofs.Common.{◌≡◌, refl, sym, ap, ◌∙◌, subst, ℕ, zero, suc, ◌+◌, ◌-◌, ◌*◌, ◌<◌, ◌≤◌}
use Rattle.std.proofs.Common.{Bool, true, cond, leb, ℤ, List, [], ◌∷◌, length, arith}
use Rattle.std.proofs.Common.{le-leb}
use Rattle.std.proofs.lemmas.Bool.{ne_eqb}
use Rattle.strc_elab_dataflow.specs.Node.{Meaning, total}
use Rattle.strc_elab_dataflow.specs.Histories.{Run, runs, KeepsRates, all_below, initial_run}
use Rattle.strc_elab_dataflow.specs.Flat.{Origin, Origin.Nowhere, Origin.Input, Origin.Port, Graph}
use Rattle.strc_elab_dataflow.specs.Flat.{arrived}
use Rattle.strc_elab_dataflow.specs.Order.{raised, counted, supply_of, supply, fill, IsReady}
use Rattle.strc_elab_dataflow.specs.Order.{IsOrder}
use Rattle.strc_elab_dataflow.specs.Machine.{Progress, Progress.Went, Progress.Stopped, go}
use Rattle.strc_elab_dataflow.specs.Queues.{Fifo, FifoProgress, FifoProgress.FifoWent, holds}
use Rattle.strc_elab_dataflow.specs.Queues.{fifo_fire}
use Rattle.strc_elab_dataflow.specs.Queues.{FifoProgress.FifoStopped, fifo_go, fifo_then}
use Rattle.strc_elab_dataflow.specs.Queues.{IsAlike, TakesWithinWindow, fifo_at_first}
use Rattle.strc_elab_dataflow.proofs.Runs.{all_from_each}
use Rattle.strc_elab_dataflow.proofs.Invariant.{raised_here}
use Rattle.strc_elab_dataflow.proofs.Queued.{machines_alike, queued_at_first}
use Rattle.strc_elab_dataflow.proofs.Fills.{IsOwn, own_after, queue_fill}
use Rattle.strc_elab_dataflow.specs.Same.{IsValid}
use Rattle.strc_elab_dataflow.specs.Split.{Share, all_firings, reach, IsStateless, Parts}
use Rattle.strc_elab_dataflow.specs.Split.{IsSplitGraph}
use Rattle.strc_elab_dataflow.specs.Blocks.{Block, Block.One, Block.All, times, AreBlocks}
use Rattle.strc_elab_dataflow.specs.Blocks.{old_order}
use Rattle.strc_elab_dataflow.specs.Blocks.{AreFed}
use Rattle.strc_elab_dataflow.specs.Counted.{IsCounted}
use Rattle.strc_elab_dataflow.proofs.Diamond.{IsReadyNow}

module _ {Code State Cause Word : Type 0} (meaning : Meaning Code State Cause Word)
    (graph : Graph Code) (input : List ℤ)
    (keeps : (node : ℕ) → KeepsRates meaning (graph.code node))
    (within : TakesWithinWindow meaning graph) where
  abbrev Here : Type 0
  Here = Fifo State Cause Word

  pub counted_first : IsCounted meaning graph input (λ node. 0)
      (fifo_at_first meaning graph input)
  unfolding fifo_at_first runs initial_run
  counted_first = record {
    own = λ node. refl;
    fired = λ node. refl;
    queued = queued_at_first meaning graph input within;
  }

  to_own : (counts : ℕ → ℕ) (now : Here) → IsCounted meaning graph input counts now
      → IsOwn meaning graph input keeps counts now.runs
  to_own counts now is = record {
    own = is.own;
    fired = is.fired;
    faultless = is.queued.faultless;
  }

  pub queue_length : (counts : ℕ → ℕ) (now : Here) → IsCounted meaning graph input counts now
      → (node port : ℕ) → port < meaning.ports (graph.code node)
      → length (now.queues node port) ≡ fill meaning graph input counts node port
  queue_length counts now is = queue_fill meaning graph input keeps within counts now
      (to_own counts now is) is.queued

  pub ready_now : (counts : ℕ → ℕ) (now : Here) → IsCounted meaning graph input counts now
      → (node : ℕ) → IsReady meaning graph input counts node → IsReadyNow meaning graph now node
  unfolding holds fill
  ready_now counts now is node ready =
      subst (λ (n : ℕ). all_below (meaning.ports (graph.code node))
      (λ port. leb (meaning.window (graph.code node) n port) (length (now.queues node port)))
      ≡ true) (sym (is.fired node))
      (all_from_each (meaning.ports (graph.code node))
      (λ port. leb (meaning.window (graph.code node) (counts node) port)
      (length (now.queues node port)))
      (λ port less. le-leb _ _ (omega (
        arith,
        queue_length counts now is node port less,
        ready port less,
      ))))

  went_is : (a b : Here) → ◌≡◌ {A = FifoProgress State Cause Word} (FifoWent a) (FifoWent b)
      → a ≡ b
  went_is a b e = cc

  after_by : (order : List ℕ) (counts : ℕ → ℕ) (now next : Here)
      → IsCounted meaning graph input counts now → IsOrder meaning graph input counts order
      → (progress : Progress State Cause Word) → go meaning graph input order now.runs ≡ progress
      → (fifo : FifoProgress State Cause Word) → fifo ≡ FifoWent next
      → IsAlike meaning graph input progress fifo
      → IsCounted meaning graph input (counted counts order) next
  after_by order counts now next is valid (Went all) went (FifoWent fifo) e alike =
      let own = own_after meaning graph input keeps order counts now.runs all
      (to_own counts now is) valid went in
      let runs_are : fifo.runs ≡ all = alike.0 in
      subst (IsCounted meaning graph input (counted counts order)) (went_is fifo next e)
      (record {
        own = λ node. ap (λ (r : ℕ → Run State Cause Word). r node) runs_are ∙ own.own node
            ∙ ap (λ (r : ℕ → Run State Cause Word). runs meaning (graph.code node)
            (counted counts order node) (λ port. arrived input r (graph.source node port)))
            (sym runs_are);
        fired = λ node. ap (λ (r : ℕ → Run State Cause Word). (r node).fired) runs_are
            ∙ own.fired node;
        queued = alike.1;
      })
  after_by order counts now next is valid (Went all) went (FifoStopped stop) e alike =
      absurd alike
  after_by order counts now next is valid (Stopped stop) went (FifoWent fifo) e alike =
      absurd alike
  after_by order counts now next is valid (Stopped stop) went (FifoStopped other) e alike =
      absurd (grind arith)

  pub counted_after : (order : List ℕ) (counts : ℕ → ℕ) (now next : Here)
      → IsCounted meaning graph input counts now → IsOrder meaning graph input counts order
      → fifo_go meaning graph order now ≡ FifoWent next
      → IsCounted meaning graph input (counted counts order) next
  counted_after order counts now next is valid went =
      after_by order counts now next is valid (go meaning graph input order now.runs) refl
      (fifo_go meaning graph order now) went
      (machines_alike meaning graph input within order now is.queued)

  pub counted_next : (node : ℕ) (counts : ℕ → ℕ) (now next : Here)
      → IsCounted meaning graph input counts now → IsReady meaning graph input counts node
      → fifo_fire meaning graph now node ≡ FifoWent next
      → IsCounted meaning graph input (raised counts node) next
  unfolding counted fifo_go fifo_then
  counted_next node counts now next is ready went =
      counted_after (node ∷ []) counts now next is (ready, tt)
      (ap (fifo_then (fifo_go meaning graph [])) went)

  pub order_valid : (order : List ℕ) (counts : ℕ → ℕ) (now : Here)
      → IsOrder meaning graph input counts order → IsCounted meaning graph input counts now
      → IsValid meaning graph order now
  order_valid [] counts now valid is = tt
  order_valid (node ∷ order) counts now valid is = (
    ready_now counts now is node valid.0,
    λ next went. order_valid order (raised counts node) next valid.1
        (counted_next node counts now next is valid.0 went),
  )

  -- All firings of a node with constant rates that doesn't feed itself.
  module _ (share : Share) (v : ℕ) (filter : IsStateless meaning share (graph.code v))
      (no_loop : (port : ℕ) → (graph.source v 0).origin ≡ Port v port → ⊥)
      (narrow : share.pop ≤ share.window) where
    supply_same : (counts : ℕ → ℕ) (origin : Origin)
        → ((port : ℕ) → origin ≡ Port v port → ⊥)
        → supply_of meaning graph input (raised counts v) origin
        ≡ supply_of meaning graph input counts origin
    unfolding supply_of raised
    supply_same counts Nowhere apart = refl
    supply_same counts Input apart = refl
    supply_same counts (Port s q) apart =
        ap (λ (t : Bool). total (meaning.pushed (graph.code s))
        (cond t (suc (counts s)) (counts s)) q)
        (ne_eqb s v (λ e. apart q (ap (λ (x : ℕ). Port x q) e)))

    reaches : (n : ℕ) (counts : ℕ → ℕ)
        → IsOrder meaning graph input counts (times (suc n) v [])
        → total (meaning.popped (graph.code v)) (counts v) 0 + n * share.pop + share.window
        ≤ supply meaning graph input counts (graph.source v 0)
    unfolding supply total
    reaches zero counts valid = omega (
      arith,
      valid.0 0 (omega (arith, filter.one_port)),
      filter.windows (counts v),
    )
    reaches (suc n) counts valid = omega (
      arith,
      reaches n (raised counts v) valid.1,
      supply_same counts (graph.source v 0).origin no_loop,
      ap (λ (c : ℕ). total (meaning.popped (graph.code v)) c 0) (raised_here counts v),
      filter.pops (counts v),
    )

    pub reach_found : (n : ℕ) → 0 < n → (counts : ℕ → ℕ) (now : Here)
        → IsCounted meaning graph input counts now
        → IsOrder meaning graph input counts (times n v [])
        → reach share n ≤ length (now.queues v 0)
    unfolding fill
    reach_found zero some counts now is valid = absurd (omega arith)
    reach_found (suc n) some counts now is valid = omega (
      arith,
      reaches n counts valid,
      queue_length counts now is v 0 (omega (arith, filter.one_port)),
      narrow,
    )

  times_order : (n v : ℕ) (rest : List ℕ) (counts : ℕ → ℕ)
      → IsOrder meaning graph input counts (times n v rest)
      → IsOrder meaning graph input counts (times n v [])
      × IsOrder meaning graph input (counted counts (times n v [])) rest
  unfolding counted
  times_order zero v rest counts valid = (tt, valid)
  times_order (suc n) v rest counts valid =
      let parts = times_order n v rest (raised counts v) valid.1 in
      ((valid.0, parts.0), parts.1)

  pub blocks_fed : (new : Graph Code) (parts : Parts) → IsSplitGraph parts meaning graph new
      → (blocks : List Block) (counts : ℕ → ℕ) (old : Here) → AreBlocks parts blocks
      → IsOrder meaning graph input counts (old_order parts blocks)
      → IsCounted meaning graph input counts old → AreFed parts meaning graph blocks old
  blocks_fed new parts is [] counts old are valid counted_is = tt
  blocks_fed new parts is (One u ∷ rest) counts old are valid counted_is = (
    ready_now counts old counted_is u valid.0,
    λ next went. blocks_fed new parts is rest (raised counts u) next are.1 valid.1
        (counted_next u counts old next counted_is valid.0 went),
  )
  blocks_fed new parts is (All v ∷ rest) counts old are valid counted_is =
      let here = is.split v are.0 in
      let orders = times_order (all_firings (parts.share v)) v (old_order parts rest) counts valid
      in (
        reach_found (parts.share v) v here.filter here.no_loop here.narrow
            (all_firings (parts.share v))
            (some_firings (parts.share v) here.some_ways here.some_firings) counts old counted_is
            orders.0,
        λ next went. blocks_fed new parts is rest
            (counted counts (times (all_firings (parts.share v)) v [])) next are.1 orders.1
            (counted_after (times (all_firings (parts.share v)) v []) counts old next counted_is
            orders.0 went),
      )
    where
      some_firings : (share : Share) → 0 < share.ways → 0 < share.firings
          → 0 < all_firings share
      some_firings share ways firings =
          let e : share.ways ≡ suc (share.ways - 1) = omega arith in
          omega (arith, ap (λ (k : ℕ). k * share.firings) e)
