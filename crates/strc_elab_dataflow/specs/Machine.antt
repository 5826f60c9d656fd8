-- The machine that fires nodes one by one on histories, and the fault that comes first in an
-- order.
use Rattle.std.specs.Prelude.{ℕ, cond, eqb, ℤ, List, [], ◌∷◌, Option, Some, None}
use Rattle.strc_elab_dataflow.specs.Node.{Meaning}
use Rattle.strc_elab_dataflow.specs.Histories.{Run, initial_run, advance}
use Rattle.strc_elab_dataflow.specs.Flat.{Graph, arrived}
use Rattle.strc_elab_dataflow.specs.Order.{raised}

-- A firing that faulted: its node, its number in the node's life, its cause.
pub record Stop (Cause : Type 0) : Type 0 where
  pub node : ℕ
  pub firing : ℕ
  pub cause : Cause

-- What firing the nodes of a list came to: all done, with each node's run; or the fault that it
-- stopped at.
pub data Progress (State Cause Word : Type 0) : Type 0 where
  Went : (ℕ → Run State Cause Word) → Progress State Cause Word
  Stopped : Stop Cause → Progress State Cause Word

-- The runs with one put anew.
unfoldable pub put : {A : Type 0} → (ℕ → A) → ℕ → A → ℕ → A
put now node run other = cond (eqb other node) run (now other)

-- What comes later, unless this run has faulted.
unfoldable pub unless_faulted : {State Cause Word : Type 0} → ℕ → Run State Cause Word
    → Option Cause → Progress State Cause Word → Progress State Cause Word
unless_faulted node run (Some cause) later =
    Stopped (record { node = node; firing = run.fired; cause = cause })
unless_faulted node run None later = later

-- No node has fired.
unfoldable pub at_first : {Code State Cause Word : Type 0} → Meaning Code State Cause Word
    → Graph Code → ℕ → Run State Cause Word
at_first meaning graph node = initial_run meaning (graph.code node)

module _ {Code State Cause Word : Type 0} (meaning : Meaning Code State Cause Word)
    (graph : Graph Code) (input : List ℤ) where
  -- A node's run after one more firing, on what has come to it.
  unfoldable pub fired_once : (ℕ → Run State Cause Word) → ℕ → Run State Cause Word
  fired_once now node = advance meaning (graph.code node)
      (λ port. arrived input now (graph.source node port)) (now node)

  -- Fires the nodes of an order one by one and stops at the first fault.
  unfoldable pub go : List ℕ → (ℕ → Run State Cause Word) → Progress State Cause Word
  go [] now = Went now
  go (node ∷ order) now = unless_faulted node (fired_once now node) (fired_once now node).fault
      (go order (put now node (fired_once now node)))

-- The fault of a node, if it has one that is at this firing.
unfoldable pub stop_at : {Cause : Type 0} → ℕ → ℕ → ℕ → Option Cause → Option (Stop Cause)
stop_at node firing fired None = None
stop_at node firing fired (Some cause) = cond (eqb fired firing)
    (Some (record { node = node; firing = firing; cause = cause })) None

-- The first of two.
unfoldable pub or_else : {A : Type 0} → Option A → Option A → Option A
or_else (Some x) other = Some x
or_else None other = other

-- The fault that comes first in an order, among those of the nodes' runs; the counts number the
-- firings before the order.
unfoldable pub first_fault : {State Cause Word : Type 0} → (ℕ → Run State Cause Word) → (ℕ → ℕ)
    → List ℕ → Option (Stop Cause)
first_fault all counts [] = None
first_fault all counts (node ∷ order) =
    or_else (stop_at node (counts node) (all node).fired (all node).fault)
    (first_fault all (raised counts node) order)
