-- Which streams have a flat graph that can be run (StreamIt specification 2.1, "Streams").
use Rattle.std.specs.Prelude.{ℕ, ◌<◌, ◌≤◌, List, length, count_by, Result, Ok, Err, Option, Some}
use Rattle.std.specs.Prelude.{None}
use Rattle.strc_elab_graph.specs.declared.graph.TheConstants.{NODE_LIMIT}
use Rattle.strc_elab_statements.specs.declared.error.ElabError.{ElabError}
use Rattle.strc_elab_statements.specs.declared.error.ElabErrorKind.TheVariants as refusal
use Rattle.strc_elab_stream.specs.Instances.{Stream}
use Rattle.strc_elab_stream.specs.Connections.{IsConnected}
use Rattle.strc_elab_stream.specs.Flattening.{codes_of, meaning_of}
use Rattle.strc_elab_graph.specs.Graphs.{NodeCode, reads_input}
use Rattle.strc_elab_graph.specs.Tapes.{AreTapesApart, IsFirstRepeat}

-- how many nodes a program may have
abbrev pub node_limit : ℕ
node_limit = NODE_LIMIT

-- so many nodes that not too many of them take the input, that no two write to one file, and that
-- are connected
pub record IsAccepted (nodes : List NodeCode) (Connected : Type 0) : Type 0 where
  pub few : length nodes ≤ node_limit
  pub one_input : count_by reads_input nodes ≤ 1
  pub apart : AreTapesApart nodes
  pub connected : Connected

-- the refusal is that of the first test that fails: of the number of nodes, of inputs, of tapes, of
-- connections
abbrev pub IsRefused : List NodeCode → (Connected : Type 0) → ElabError → Type 0
IsRefused nodes Connected refusal.NodeLimit = node_limit < length nodes
IsRefused nodes Connected refusal.TwoInputs =
    (length nodes ≤ node_limit) × (1 < count_by reads_input nodes)
IsRefused nodes Connected (refusal.TapeTwice node) =
    (length nodes ≤ node_limit) × (count_by reads_input nodes ≤ 1) × IsFirstRepeat nodes node
IsRefused nodes Connected refusal.Disconnected =
    (length nodes ≤ node_limit) × (count_by reads_input nodes ≤ 1)
    × AreTapesApart nodes × ¬ Connected
IsRefused nodes Connected refusal.NoMemory = Unit {0}
IsRefused nodes Connected _ = ⊥

-- a search finds the lowest writer that has the bytes of an earlier one, or that none has
abbrev pub FindsRepeat : List NodeCode → Option ℕ → Type 0
FindsRepeat nodes (Some node) = IsFirstRepeat nodes node
FindsRepeat nodes None = AreTapesApart nodes

-- the answer is the judgement's, or memory was refused
abbrev pub IsVerdict : {A : Type 0} → List NodeCode → (Connected : Type 0) → Result A ElabError
    → Type 0
IsVerdict nodes Connected (Ok accepted) = IsAccepted nodes Connected
IsVerdict nodes Connected (Err refused) = IsRefused nodes Connected refused

-- whether a stream has a graph that can be run
abbrev pub IsFlattened : {A : Type 0} → Stream → Result A ElabError → Type 0
IsFlattened stream result = IsVerdict (codes_of stream) (IsConnected (meaning_of stream)) result
