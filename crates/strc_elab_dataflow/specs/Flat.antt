-- A flat graph by sources, and its equations (Lee and Messerschmitt 1987; Kahn's equations on
-- finite lists).
use Rattle.std.specs.Prelude.{◌≡◌, ℕ, ℤ, List, [], ◌++◌}
use Rattle.strc_elab_dataflow.specs.Node.{ByPort, Meaning}
use Rattle.strc_elab_dataflow.specs.Histories.{Run, runs}

-- Where items come from: nowhere, the program's input, or what a node pushes at an output port.
pub data Origin : Type 0 where
  Nowhere : Origin
  Input : Origin
  Port : ℕ → ℕ → Origin

-- What comes to an input port: enqueued items first (delays), then the items of an origin.
pub record Source : Type 0 where
  pub enqueued : List ℤ
  pub origin : Origin

-- A graph: how many nodes, each node's code, and the source of each of its input ports.
pub record Graph (Code : Type 0) : Type 0 where
  pub size : ℕ
  pub code : ℕ → Code
  pub source : ℕ → ℕ → Source

module _ {State Cause Word : Type 0} (input : List ℤ) (now : ℕ → Run State Cause Word) where
  -- The items of an origin, where each node's run is known.
  unfoldable pub items_of : Origin → List ℤ
  items_of Nowhere = []
  items_of Input = input
  items_of (Port node port) = (now node).pushes port

  -- All that has come from a source.
  unfoldable pub arrived : Source → List ℤ
  arrived source = source.enqueued ++ items_of source.origin

module _ {Code State Cause Word : Type 0} (meaning : Meaning Code State Cause Word)
    (graph : Graph Code) where
  -- Each node's run, by its number of firings and its inputs.
  unfoldable pub runs_at : (counts : ℕ → ℕ) (inputs : ℕ → ByPort) → ℕ → Run State Cause Word
  runs_at counts inputs node = runs meaning (graph.code node) (counts node) (inputs node)

  -- The flat equations: each input is what has come to it when each node did its number of firings
  -- over its inputs.
  abbrev pub Solves : (counts : ℕ → ℕ) (input : List ℤ) (inputs : ℕ → ByPort) → Type 0
  Solves counts input inputs = (node port : ℕ)
      → inputs node port ≡ arrived input (runs_at counts inputs) (graph.source node port)
