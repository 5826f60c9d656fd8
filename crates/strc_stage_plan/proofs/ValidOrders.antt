-- Where no firing faults, an order that finds its windows in a state's queues is valid by counts in
-- the graph restarted there.
use Rattle.std.proofs.Common.{◌≡◌, refl, ap, ◌∙◌, subst, ℕ, ◌+◌, arith}
use Rattle.std.proofs.Common.{ℤ, List, [], ◌∷◌, length}
use Rattle.strc_elab_dataflow.specs.Flat.{Graph}
use Rattle.strc_elab_dataflow.specs.Histories.{KeepsRates}
use Rattle.strc_elab_dataflow.specs.Node.{Meaning}
use Rattle.strc_elab_dataflow.specs.Order.{raised, counted, fill, IsReady, IsOrder}
use Rattle.strc_elab_dataflow.specs.Queues.{Fifo, FifoProgress, FifoProgress.FifoWent, fifo_fire}
use Rattle.strc_elab_dataflow.specs.Queues.{FifoProgress.FifoStopped, fifo_then, fifo_go}
use Rattle.strc_elab_dataflow.specs.Queues.{TakesWithinWindow}
use Rattle.strc_elab_dataflow.specs.Restart.{Restarted, restarted_meaning, restarted, AreSame}
use Rattle.strc_elab_dataflow.specs.Restart.{GoAlike}
use Rattle.strc_elab_dataflow.proofs.Restart.{go_alike}
use Rattle.strc_elab_dataflow.specs.Counted.{IsCounted}
use Rattle.strc_elab_dataflow.specs.Same.{IsValid}
use Rattle.strc_elab_dataflow.proofs.Counted.{queue_length, counted_after}
use Rattle.strc_elab_dataflow.proofs.Diamond.{IsReadyNow, window_here}
use Rattle.strc_elab_dataflow.proofs.Orders.{IsCovered, covered_next}

module _ {Code State Cause Word : Type 0} (meaning : Meaning Code State Cause Word)
    (graph : Graph Code) (from : Fifo State Cause Word) where
  abbrev Here : Type 0
  Here = Fifo State Cause Word

  abbrev again_meaning : Meaning (Restarted Code State) State Cause Word
  again_meaning = restarted_meaning meaning

  abbrev again_graph : Graph (Restarted Code State)
  again_graph = restarted from graph

  -- the restarted graph goes where the graph went
  pub record GoesToo (next : Here) (progress : FifoProgress State Cause Word) : Type 0 where
    pub again : Here
    pub went : progress ≡ FifoWent again
    pub same : AreSame from next again

  pub goes_too : (next : Here) (progress other : FifoProgress State Cause Word)
      → progress ≡ FifoWent next → GoAlike from progress other → GoesToo next other
  goes_too next progress other went alike = by_other other
      (subst (λ (p : FifoProgress State Cause Word). GoAlike from p other) went alike)
    where
      by_other : (other : FifoProgress State Cause Word) → GoAlike from (FifoWent next) other
          → GoesToo next other
      by_other (FifoWent again) same = record { again = again; went = refl; same = same }
      by_other (FifoStopped stop) alike = absurd alike

  module _ (keeps : (node : ℕ) → KeepsRates (restarted_meaning meaning)
      ((restarted from graph).code node))
      (within : TakesWithinWindow (restarted_meaning meaning) (restarted from graph)) where
    ready_again : (counts : ℕ → ℕ) (now again : Here) (node : ℕ) → AreSame from now again
        → IsCounted again_meaning again_graph [] counts again
        → IsCovered again_meaning again_graph [] counts
        → IsReadyNow meaning graph now node → IsReady again_meaning again_graph [] counts node
    unfolding restarted_meaning restarted fill
    ready_again counts now again node same is covered ready port less =
        let count : (now.runs node).fired ≡ (from.runs node).fired + counts node =
        same.fired node ∙ ap (λ (n : ℕ). (from.runs node).fired + n) (is.fired node) in
        omega (
          arith,
          window_here meaning graph now node ready port less,
          ap (λ (n : ℕ). meaning.window (graph.code node) n port) count,
          ap (λ (items : List ℤ). length items) (same.queues node port),
          queue_length again_meaning again_graph [] keeps within counts again is node port less,
          covered node port less,
        )

    module _ (goes : (now : Fifo State Cause Word) (node : ℕ)
        → (next : Fifo State Cause Word) × (fifo_fire meaning graph now node ≡ FifoWent next)) where
      pub valid_order : (order : List ℕ) (counts : ℕ → ℕ) (now again : Here)
          → AreSame from now again → IsCounted again_meaning again_graph [] counts again
          → IsCovered again_meaning again_graph [] counts → IsValid meaning graph order now
          → IsOrder again_meaning again_graph [] counts order
      unfolding fifo_go fifo_then counted
      valid_order [] counts now again same is covered valid = tt
      valid_order (node ∷ order) counts now again same is covered valid =
          let ready = ready_again counts now again node same is covered valid.0 in
          let (next, went) = goes now node in
          let too = goes_too next (fifo_go meaning graph (node ∷ []) now)
          (fifo_go again_meaning again_graph (node ∷ []) again)
          (ap (fifo_then (fifo_go meaning graph [])) went)
          (go_alike meaning graph from (node ∷ []) now again same) in (
            ready,
            valid_order order (raised counts node) next too.again too.same
                (counted_after again_meaning again_graph [] keeps within (node ∷ []) counts again
                too.again is (ready, tt) too.went)
                (covered_next again_meaning again_graph [] within counts node covered ready)
                (valid.1 next went),
          )
