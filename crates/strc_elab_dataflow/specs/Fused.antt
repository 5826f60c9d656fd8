-- Two units of a round made one: the firings of both by turns, in place of all firings of the first
-- and then all of the second.
use Rattle.std.specs.Prelude.{◌≡◌, ℕ, zero, suc, ◌*◌, ◌<◌, ◌⊎◌, ℤ, List, [], ◌++◌}
use Rattle.strc_elab_dataflow.specs.Node.{Meaning}
use Rattle.strc_elab_dataflow.specs.Flat.{Origin, Origin.Nowhere, Origin.Input, Origin.Port, Graph}
use Rattle.strc_elab_dataflow.specs.Order.{firing_count, IsOrder}
use Rattle.strc_elab_dataflow.specs.Rounds.{RepeatsRates}

-- A list of nodes a number of times.
abbrev pub repeated : (turns : ℕ) → List ℕ → List ℕ
repeated zero nodes = []
repeated (suc turns) nodes = nodes ++ repeated turns nodes

-- None of the nodes gives to this origin's channels.
abbrev pub GivesNothing : List ℕ → Origin → Type 0
GivesNothing nodes Nowhere = Unit {0}
GivesNothing nodes Input = Unit {0}
GivesNothing nodes (Port source port) = firing_count nodes source ≡ 0

module _ {Code State Cause Word : Type 0} (meaning : Meaning Code State Cause Word)
    (graph : Graph Code) (counts : ℕ → ℕ) where
  -- What the nodes of a list, each with the rates of its next firing, give to an origin's channels.
  unfoldable pub given_by : List ℕ → Origin → ℕ
  given_by nodes Nowhere = 0
  given_by nodes Input = 0
  given_by nodes (Port source port) =
      firing_count nodes source * meaning.pushed (graph.code source) (counts source) port

  -- What they take at an input port.
  unfoldable pub taken_by : List ℕ → ℕ → ℕ → ℕ
  taken_by nodes node port =
      firing_count nodes node * meaning.popped (graph.code node) (counts node) port

  -- An input port from which the nodes take nothing, and to which they give nothing.
  abbrev pub IsAway : List ℕ → ℕ → ℕ → Type 0
  IsAway nodes node port =
      (firing_count nodes node ≡ 0) × GivesNothing nodes (graph.source node port).origin

  -- An input port to which only the first nodes give, and from which only the second take: in so
  -- many turns of each the first give what the second take.
  pub record IsPassedOn (first : List ℕ) (m : ℕ) (second : List ℕ) (n : ℕ)
      (node port : ℕ) : Type 0 where
    pub no_target : firing_count first node ≡ 0
    pub no_source : GivesNothing second (graph.source node port).origin
    pub balance : m * given_by first (graph.source node port).origin
        ≡ n * taken_by second node port

  -- At each input port m turns of the first nodes and n of the second may take turns.
  abbrev pub Merges : (first : List ℕ) (m : ℕ) (second : List ℕ) (n : ℕ) → Type 0
  Merges first m second n =
      (node port : ℕ)
      → port < meaning.ports (graph.code node)
      → IsAway second node port
      ⊎ (IsAway first node port ⊎ IsPassedOn first m second n node port)

-- Fusion of two neighbours in an order that is valid by counts leaves such an order.
abbrev pub FusedIsOrder : (Code State Cause Word : Type 0) → Type 0
FusedIsOrder Code State Cause Word =
    (meaning : Meaning Code State Cause Word) (graph : Graph Code) (input : List ℤ)
    (counts : ℕ → ℕ) (before first second after : List ℕ) (h m n : ℕ)
    → RepeatsRates meaning graph counts
    → Merges meaning graph counts first m second n
    → IsOrder meaning graph input counts
    (before ++ (repeated (h * m) first ++ (repeated (h * n) second ++ after)))
    → IsOrder meaning graph input counts
    (before ++ (repeated h (repeated m first ++ repeated n second) ++ after))

-- And the firings are the same.
abbrev pub FusedCounts : Type 0
FusedCounts =
    (before first second after : List ℕ) (h m n node : ℕ)
    → firing_count (before ++ (repeated h (repeated m first ++ repeated n second) ++ after)) node
    ≡ firing_count (before ++ (repeated (h * m) first ++ (repeated (h * n) second ++ after))) node
