-- After the front of a valid order the next firing over queues finds its windows.
use Rattle.std.proofs.Common.{◌≡◌, sym, subst, ℕ, ◌-◌, ◌≤◌, ◌<◌, ℤ, true, List}
use Rattle.std.proofs.Common.{[], ◌∷◌, ◌++◌, length, leb, le-leb, arith}
use Rattle.strc_elab_dataflow.specs.Flat as flat
use Rattle.strc_elab_dataflow.specs.Histories.{KeepsRates}
use Rattle.strc_elab_dataflow.specs.Node.{Meaning, total}
use Rattle.strc_elab_dataflow.specs.Order.{raised, counted, supply, fill, IsReady, IsOrder}
use Rattle.strc_elab_dataflow.specs.Queues.{Fifo, FifoProgress.FifoWent, fifo_go, fifo_at_first}
use Rattle.strc_elab_dataflow.specs.Queues.{holds}
use Rattle.strc_elab_dataflow.specs.Queues.{TakesWithinWindow}
use Rattle.strc_elab_dataflow.proofs.Fills.{fills_after}
use Rattle.strc_elab_dataflow.proofs.Runs.{all_from_each}
use Rattle.strc_sched_laws.proofs.Fired.{fired_after}

module _ {Code State Cause Word : Type 0} (meaning : Meaning Code State Cause Word)
    (graph : flat.Graph Code) (input : List ℤ) where
  -- an order's front is one
  front_valid : (counts : ℕ → ℕ) (front back : List ℕ)
      → IsOrder meaning graph input counts (front ++ back)
      → IsOrder meaning graph input counts front
  front_valid counts [] back valid = tt
  front_valid counts (node ∷ front) back (ready, later) =
      (ready, front_valid (raised counts node) front back later)

  -- and after it the next node is ready
  ready_after : (counts : ℕ → ℕ) (front : List ℕ) (node : ℕ) (rest : List ℕ)
      → IsOrder meaning graph input counts (front ++ node ∷ rest)
      → IsReady meaning graph input (counted counts front) node
  unfolding counted
  ready_after counts [] node rest valid = valid.0
  ready_after counts (first ∷ front) node rest (ready, later) =
      ready_after (raised counts first) front node rest later

  module _ (keeps : (node : ℕ) → KeepsRates meaning (graph.code node))
      (within : TakesWithinWindow meaning graph) (front : List ℕ) (node : ℕ) (rest : List ℕ)
      (valid : IsOrder meaning graph input (λ v. 0) (front ++ node ∷ rest))
      (now : Fifo State Cause Word)
      (went : fifo_go meaning graph front (fifo_at_first meaning graph input) ≡ FifoWent now) where
    abbrev counts : ℕ → ℕ
    counts = counted (λ v. 0) front

    front_is : IsOrder meaning graph input (λ v. 0) front
    front_is = front_valid (λ v. 0) front (node ∷ rest) valid

    window_there : (port : ℕ) → port < meaning.ports (graph.code node)
        → meaning.window (graph.code node) (counts node) port ≤ length (now.queues node port)
    unfolding fill
    window_there port less =
        let filled : length (now.queues node port)
        ≡ supply meaning graph input counts (graph.source node port)
        - total (meaning.popped (graph.code node)) (counts node) port =
        fills_after meaning graph input keeps within front front_is now went node port less in
        let reaches = ready_after (λ v. 0) front node rest valid port less in
        omega (arith, filled, reaches)

    pub found_after : holds meaning graph node (now.runs node).fired (now.queues node) ≡ true
    unfolding holds
    found_after =
        subst (λ (firing : ℕ). holds meaning graph node firing (now.queues node) ≡ true)
        (sym (fired_after meaning graph input keeps within front front_is now went node))
        (all_from_each (meaning.ports (graph.code node))
        (λ port. leb (meaning.window (graph.code node) (counts node) port)
        (length (now.queues node port)))
        (λ port less. le-leb (meaning.window (graph.code node) (counts node) port)
        (length (now.queues node port)) (window_there port less)))
