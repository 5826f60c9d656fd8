-- When an order of one round is valid in every round (Lee and Messerschmitt 1987: balance
-- equations, periodic schedules).
use Rattle.std.specs.Prelude.{◌≡◌, ℕ, ◌+◌, ◌*◌, ◌<◌, ◌≤◌, ◌≢◌, ℤ, List, length}
use Rattle.strc_elab_dataflow.specs.Node.{Meaning, total}
use Rattle.strc_elab_dataflow.specs.Flat.{Origin, Origin.Nowhere, Origin.Input, Origin.Port, Graph}

module _ {Code State Cause Word : Type 0} (meaning : Meaning Code State Cause Word)
    (graph : Graph Code) where
  -- From these counts on, every firing of a node has the rates of its first one.
  pub record RepeatsRates (counts : ℕ → ℕ) : Type 0 where
    pub windows_repeat : (node firing port : ℕ) → counts node ≤ firing
        → meaning.window (graph.code node) firing port
        ≡ meaning.window (graph.code node) (counts node) port
    pub pops_repeat : (node firing port : ℕ) → counts node ≤ firing
        → meaning.popped (graph.code node) firing port
        ≡ meaning.popped (graph.code node) (counts node) port
    pub pushes_repeat : (node firing port : ℕ) → counts node ≤ firing
        → meaning.pushed (graph.code node) firing port
        ≡ meaning.pushed (graph.code node) (counts node) port

  -- What a round gives, from these counts on; the program's input isn't given by a round.
  unfoldable pub gives_in_round : (counts round : ℕ → ℕ) → Origin → ℕ
  gives_in_round counts round Nowhere = 0
  gives_in_round counts round Input = 0
  gives_in_round counts round (Port node port) =
      round node * meaning.pushed (graph.code node) (counts node) port

  -- The balance equations: on each channel a round takes what it gives.
  abbrev pub IsBalanced : (counts round : ℕ → ℕ) → Type 0
  IsBalanced counts round =
      (node port : ℕ)
      → port < meaning.ports (graph.code node)
      → (graph.source node port).origin ≢ Input
      → round node * meaning.popped (graph.code node) (counts node) port
      ≡ gives_in_round counts round (graph.source node port).origin

  -- The input reaches to the windows of the firings of these counts.
  abbrev pub IsSupplied : (input : List ℤ) (counts : ℕ → ℕ) → Type 0
  IsSupplied input counts =
      (node port firing : ℕ)
      → port < meaning.ports (graph.code node)
      → (graph.source node port).origin ≡ Input
      → firing < counts node
      → total (meaning.popped (graph.code node)) firing port
      + meaning.window (graph.code node) firing port ≤ length (graph.source node port).enqueued
      + length input
