-- When an order of one round is valid in every round, where rates repeat round by round: firings of
-- one round may differ from each other.
use Rattle.std.specs.Prelude.{◌≡◌, ℕ, ◌+◌, ◌<◌, ◌≤◌, ℤ, List, []}
use Rattle.strc_elab_dataflow.specs.Node.{Meaning, total}
use Rattle.strc_elab_dataflow.specs.Flat.{Origin, Origin.Nowhere, Origin.Input, Origin.Port, Graph}
use Rattle.strc_elab_dataflow.specs.Order.{firing_count, counts_after, supply, IsOrder, IsSchedule}

-- A rate added up over so many firings from one on, at a port.
unfoldable pub total_from : (ℕ → ℕ → ℕ) → (first firings port : ℕ) → ℕ
total_from rate first firings port = total (λ i. rate (first + i)) firings port

-- An origin that is no node.
abbrev pub IsOutside : Origin → Type 0
IsOutside Nowhere = Unit {0}
IsOutside Input = Unit {0}
IsOutside (Port node port) = ⊥

module _ {Code State Cause Word : Type 0} (meaning : Meaning Code State Cause Word)
    (graph : Graph Code) where
  -- From these counts on, each firing of a node has the rates of the one a round before.
  pub record RepeatsByRounds (counts round : ℕ → ℕ) : Type 0 where
    pub windows_repeat : (node firing port : ℕ) → counts node ≤ firing
        → meaning.window (graph.code node) (firing + round node) port
        ≡ meaning.window (graph.code node) firing port
    pub pops_repeat : (node firing port : ℕ) → counts node ≤ firing
        → meaning.popped (graph.code node) (firing + round node) port
        ≡ meaning.popped (graph.code node) firing port
    pub pushes_repeat : (node firing port : ℕ) → counts node ≤ firing
        → meaning.pushed (graph.code node) (firing + round node) port
        ≡ meaning.pushed (graph.code node) firing port

  -- The balance equations: on each channel the round from these counts on takes what it gives.
  abbrev pub IsBalancedByRounds : (counts round : ℕ → ℕ) → Type 0
  IsBalancedByRounds counts round =
      (node port source source_port : ℕ)
      → port < meaning.ports (graph.code node)
      → (graph.source node port).origin ≡ Port source source_port
      → total_from (meaning.popped (graph.code node)) (counts node) (round node) port
      ≡ total_from (meaning.pushed (graph.code source)) (counts source) (round source) source_port

  -- What comes from outside reaches to the windows of the firings from these counts on to those.
  abbrev pub IsSuppliedByRounds : (input : List ℤ) (counts last : ℕ → ℕ) → Type 0
  IsSuppliedByRounds input counts last =
      (node port firing : ℕ)
      → port < meaning.ports (graph.code node)
      → IsOutside (graph.source node port).origin
      → counts node ≤ firing
      → firing < last node
      → total (meaning.popped (graph.code node)) firing port
      + meaning.window (graph.code node) firing port
      ≤ supply meaning graph input counts (graph.source node port)

-- An order of a round that is valid once is valid in each of k rounds, where the rates repeat round
-- by round, the channels balance and what comes from outside suffices; so it is a schedule without
-- start-up where nothing has fired before.
abbrev pub RoundsAreOrders : (Code State Cause Word : Type 0) → Type 0
RoundsAreOrders Code State Cause Word =
    (meaning : Meaning Code State Cause Word) (graph : Graph Code) (input : List ℤ)
    (counts round : ℕ → ℕ) (round_order : List ℕ) (k : ℕ)
    → ((node : ℕ) → firing_count round_order node ≡ round node)
    → RepeatsByRounds meaning graph counts round
    → IsBalancedByRounds meaning graph counts round
    → IsSuppliedByRounds meaning graph input counts (counts_after counts round k)
    → IsOrder meaning graph input counts round_order
    → ((q : ℕ) → q < k → IsOrder meaning graph input (counts_after counts round q) round_order)
    × (((node : ℕ) → counts node ≡ 0)
    → IsSchedule meaning graph input (λ node. 0) round [] round_order k)
