-- After an order that finds its windows, each node has fired as often as the order says.
use Rattle.std.proofs.Common.{◌≡◌, refl, sym, ap, ◌∙◌, ℕ, List, ℤ, arith}
use Rattle.strc_elab_dataflow.specs.Node.{Meaning}
use Rattle.strc_elab_dataflow.specs.Histories.{Run, initial_run, runs, KeepsRates}
use Rattle.strc_elab_dataflow.specs.Flat.{Graph}
use Rattle.strc_elab_dataflow.specs.Order.{counted, IsOrder}
use Rattle.strc_elab_dataflow.specs.Machine.{Progress, Progress.Went, Progress.Stopped, at_first}
use Rattle.strc_elab_dataflow.specs.Machine.{go}
use Rattle.strc_elab_dataflow.specs.Queues.{Fifo, FifoProgress, FifoProgress.FifoWent}
use Rattle.strc_elab_dataflow.specs.Queues.{FifoProgress.FifoStopped, fifo_go, fifo_at_first}
use Rattle.strc_elab_dataflow.specs.Queues.{IsAlike}
use Rattle.strc_elab_dataflow.specs.Queues.{TakesWithinWindow}
use Rattle.strc_elab_dataflow.proofs.Fills.{IsOwn, own_after}
use Rattle.strc_elab_dataflow.proofs.Queued.{machines_alike, queued_at_first}

module _ {Code State Cause Word : Type 0} (meaning : Meaning Code State Cause Word)
    (graph : Graph Code) (input : List ℤ)
    (keeps : (node : ℕ) → KeepsRates meaning (graph.code node)) where
  own_at_first : IsOwn meaning graph input keeps (λ node. 0) (at_first meaning graph)
  unfolding at_first runs initial_run
  own_at_first = record { own = λ node. refl; fired = λ node. refl; faultless = λ node. refl }

  fifo_same : (a b : Fifo State Cause Word)
      → ◌≡◌ {A = FifoProgress State Cause Word} (FifoWent a) (FifoWent b) → a ≡ b
  fifo_same a b e = cc

  fired_by : (order : List ℕ) → IsOrder meaning graph input (λ node. 0) order
      → (progress : Progress State Cause Word)
      → go meaning graph input order (at_first meaning graph) ≡ progress
      → (fifo : FifoProgress State Cause Word) (now : Fifo State Cause Word) → fifo ≡ FifoWent now
      → IsAlike meaning graph input progress fifo → (node : ℕ)
      → (now.runs node).fired ≡ counted (λ v. 0) order node
  fired_by order is (Went next) went (FifoWent fifo) now e alike node =
      let own = own_after meaning graph input keeps order (λ v. 0) (at_first meaning graph) next
      own_at_first is went in
      ap (λ (f : Fifo State Cause Word). (f.runs node).fired) (sym (fifo_same fifo now e))
      ∙ ap (λ (all : ℕ → Run State Cause Word). (all node).fired) alike.0 ∙ own.fired node
  fired_by order is (Went next) went (FifoStopped stop) now e alike node = absurd alike
  fired_by order is (Stopped stop) went (FifoWent fifo) now e alike node = absurd alike
  fired_by order is (Stopped stop) went (FifoStopped other) now e alike node =
      absurd (grind arith)

  pub fired_after : TakesWithinWindow meaning graph → (order : List ℕ)
      → IsOrder meaning graph input (λ node. 0) order → (now : Fifo State Cause Word)
      → fifo_go meaning graph order (fifo_at_first meaning graph input) ≡ FifoWent now
      → (node : ℕ) → (now.runs node).fired ≡ counted (λ v. 0) order node
  unfolding at_first fifo_at_first
  fired_after within order is now went =
      fired_by order is (go meaning graph input order (at_first meaning graph)) refl
      (fifo_go meaning graph order (fifo_at_first meaning graph input)) now went
      (machines_alike meaning graph input within order (fifo_at_first meaning graph input)
      (queued_at_first meaning graph input within))
