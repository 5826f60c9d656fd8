-- Pipelines of filters with one node each, and the order that fires each node once (StreamIt
-- specification 2.1, "Pipelines").
use Rattle.std.specs.Prelude.{◌≡◌, ℕ, zero, suc, ◌<◌, ◌≤◌, cond, ltb, List, [], ◌∷◌, length, get_or}
use Rattle.strc_elab_dataflow.specs.Node.{Meaning}
use Rattle.strc_elab_dataflow.specs.Flat.{Origin.Port, Graph}
use Rattle.strc_elab_dataflow.specs.Streams.{Stream, Stream.One, Stream.Pipeline, Streams}
use Rattle.strc_elab_dataflow.specs.Streams.{Streams.Last}
use Rattle.strc_elab_dataflow.specs.Streams.{Streams.More, nothing}

-- Filters with these codes, in order.
unfoldable pub filters : {Code : Type 0} → Code → List Code → Streams Code
filters first [] = Last (One first)
filters first (next ∷ others) = More (One first) (filters next others)

-- The pipeline of a first filter and others.
unfoldable pub pipeline_of : {Code : Type 0} → Code → List Code → Stream Code
pipeline_of first others = Pipeline (filters first others)

-- So many nodes in order, from this one on.
unfoldable pub nodes_from : ℕ → ℕ → List ℕ
nodes_from node zero = []
nodes_from node (suc more) = node ∷ nodes_from (suc node) more

-- One firing for each of the first n nodes.
unfoldable pub once_each : ℕ → ℕ → ℕ
once_each n node = cond (ltb node n) 1 0

-- A pipeline's graph is a chain: its codes are those of the list, nothing comes to the first node,
-- and what a node pushes comes to the next one at the same port.
pub record IsChain {Code : Type 0} (first : Code) (others : List Code) (graph : Graph Code) : Type 0
  where
    pub size : graph.size ≡ suc (length others)
    pub codes : (node : ℕ) → graph.code node ≡ get_or (first ∷ others) node first
    pub head : (port : ℕ) → graph.source 0 port ≡ nothing
    pub links : (node port : ℕ) → node < length others
        → graph.source (suc node) port ≡ record { enqueued = []; origin = Port node port }

-- The first filter takes nothing, and each other one looks at no more, and takes no more, than the
-- one before it gives in that firing.
pub record IsMatched {Code State Cause Word : Type 0} (meaning : Meaning Code State Cause Word)
    (first : Code) (others : List Code) : Type 0 where
  pub source : meaning.ports first ≡ 0
  pub windows :
      (node firing port : ℕ)
      → node < length others
      → port < meaning.ports (get_or others node first)
      → meaning.window (get_or others node first) firing port
      ≤ meaning.pushed (get_or (first ∷ others) node first) firing port
  pub pops :
      (node firing port : ℕ)
      → node < length others
      → port < meaning.ports (get_or others node first)
      → meaning.popped (get_or others node first) firing port
      ≤ meaning.pushed (get_or (first ∷ others) node first) firing port
