-- Orders of firings by counts alone (Lee and Messerschmitt 1987: admissible sequential schedules).
use Rattle.std.specs.Prelude.{◌≡◌, ℕ, suc, ◌+◌, ◌-◌, ◌*◌, ◌<◌, ◌≤◌, cond, eqb, ℤ, List, [], ◌∷◌}
use Rattle.std.specs.Prelude.{length}
use Rattle.strc_elab_dataflow.specs.Node.{Meaning, total}
use Rattle.strc_elab_dataflow.specs.Flat.{Origin, Origin.Nowhere, Origin.Input, Origin.Port, Source}
use Rattle.strc_elab_dataflow.specs.Flat.{Graph}

-- Counts with one more firing of a node.
unfoldable pub raised : (ℕ → ℕ) → ℕ → ℕ → ℕ
raised counts node other = cond (eqb other node) (suc (counts other)) (counts other)

-- Counts after the firings of an order.
unfoldable pub counted : (ℕ → ℕ) → List ℕ → ℕ → ℕ
counted counts [] = counts
counted counts (node ∷ order) = counted (raised counts node) order

-- How often a node occurs in an order.
unfoldable pub firing_count : List ℕ → ℕ → ℕ
firing_count [] node = 0
firing_count (other ∷ order) node = raised (firing_count order) other node

-- Counts after start-up and k rounds.
unfoldable pub counts_after : (startup round : ℕ → ℕ) → ℕ → ℕ → ℕ
counts_after startup round k node = startup node + k * round node

module _ {Code State Cause Word : Type 0} (meaning : Meaning Code State Cause Word)
    (graph : Graph Code) (input : List ℤ) where
  -- How many items an origin has given, by counts.
  unfoldable pub supply_of : (ℕ → ℕ) → Origin → ℕ
  supply_of counts Nowhere = 0
  supply_of counts Input = length input
  supply_of counts (Port node port) = total (meaning.pushed (graph.code node)) (counts node) port

  -- How many items have come from a source, enqueued ones included.
  unfoldable pub supply : (ℕ → ℕ) → Source → ℕ
  supply counts source = length source.enqueued + supply_of counts source.origin

  -- How many items wait at an input port, by counts: those that have come without those that were
  -- taken.
  unfoldable pub fill : (ℕ → ℕ) → ℕ → ℕ → ℕ
  fill counts node port = supply counts (graph.source node port)
      - total (meaning.popped (graph.code node)) (counts node) port

  -- By counts, the node's next firing finds its windows.
  abbrev pub IsReady : (ℕ → ℕ) → ℕ → Type 0
  IsReady counts node =
      (port : ℕ)
      → port < meaning.ports (graph.code node)
      → total (meaning.popped (graph.code node)) (counts node) port
      + meaning.window (graph.code node) (counts node) port
      ≤ supply counts (graph.source node port)

  -- By counts, each firing of the order finds its windows.
  abbrev pub IsOrder : (ℕ → ℕ) → List ℕ → Type 0
  IsOrder counts [] = Unit {0}
  IsOrder counts (node ∷ order) = IsReady counts node × IsOrder (raised counts node) order

  -- Start-up and k rounds: orders with these counts in which each firing finds its windows.
  pub record IsSchedule (startup round : ℕ → ℕ) (startup_order round_order : List ℕ)
      (k : ℕ) : Type 0 where
    pub startup_counts : (node : ℕ) → firing_count startup_order node ≡ startup node
    pub round_counts : (node : ℕ) → firing_count round_order node ≡ round node
    pub startup_finds : IsOrder (λ node. 0) startup_order
    pub round_finds : (q : ℕ) → q < k → IsOrder (counts_after startup round q) round_order
