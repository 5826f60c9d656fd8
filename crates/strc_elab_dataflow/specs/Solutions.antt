-- The equations of a graph can be solved: whatever its rates and orders, also where nodes fault or
-- lack items.
use Rattle.std.specs.Prelude.{◌≡◌, ℕ, ◌≤◌, ℤ, List}
use Rattle.strc_elab_dataflow.specs.Node.{ByPort, Meaning}
use Rattle.strc_elab_dataflow.specs.Flat.{Graph, Solves}
use Rattle.strc_elab_dataflow.specs.Order.{firing_count, counts_after}

-- Where only finitely many nodes fire, there are inputs that solve the equations.
abbrev pub EquationsHaveSolutions : (Code State Cause Word : Type 0) → Type 0
EquationsHaveSolutions Code State Cause Word =
    (meaning : Meaning Code State Cause Word) (graph : Graph Code) (input : List ℤ)
    (counts : ℕ → ℕ) (bound : ℕ)
    → ((node : ℕ) → bound ≤ node → counts node ≡ 0)
    → (inputs : ℕ → ByPort) × Solves meaning graph counts input inputs

-- So there are at the counts of start-up and any number of rounds.
abbrev pub RoundsHaveSolutions : (Code State Cause Word : Type 0) → Type 0
RoundsHaveSolutions Code State Cause Word =
    (meaning : Meaning Code State Cause Word) (graph : Graph Code) (input : List ℤ)
    (startup round : ℕ → ℕ) (startup_order round_order : List ℕ)
    → ((node : ℕ) → firing_count startup_order node ≡ startup node)
    → ((node : ℕ) → firing_count round_order node ≡ round node)
    → (inputs : ℕ → ℕ → ByPort)
    × ((t : ℕ) → Solves meaning graph (counts_after startup round t) input (inputs t))
