-- A firing of a node that only passes items on, in a program.
use Rattle.std.specs.Prelude.{◌≡◌, ℕ, ◌+◌, ℤ, pos, List, Ok}
use Rattle.strc_elab_dataflow.specs.Node.{ByPort}
use Rattle.strc_elab_graph.specs.Graphs.{NodeCode}
use Rattle.strc_elab_graph.specs.Meaning.{node_fired}
use Rattle.strc_emit_moves.specs.declared.places.Phase.{Phase}
use Rattle.strc_emit_passes.specs.Passing.{IsPassing, SeesWindows, HasInputs, ReadsNext, GivesBy}
use Rattle.strc_emit_passes.specs.Passing.{FindsItems, HasPassed, numbers_taken}
use Rattle.strc_emit_runs.specs.Running.{Program, Running, around, memory_of, node_done}

abbrev pub PassesFire : Type 0
PassesFire =
    (program : Program) (when : Phase) (node : ℕ) (code : NodeCode) (i : ℕ) (fields : List ℤ)
    (seen : ByPort) (from to : ℕ → ℕ) (running : Running)
    → IsPassing code → SeesWindows code seen → HasInputs program.network when node code
    → ReadsNext code seen program.input running.taken
    → GivesBy (node_fired code 0 fields seen) (λ pushes printed.
    FindsItems program.network when node (around program) i seen pushes from to
    (memory_of running node)
    → (after : Running)
    × (node_done program when node code (pos i) running ≡ Ok after)
    × HasPassed program.network when node pushes to printed (memory_of running node)
    (memory_of after node)
    × ((other : ℕ) → (other ≡ node → ⊥) → after.tapes other ≡ running.tapes other)
    × (after.taken ≡ running.taken + numbers_taken code)
    × (after.round ≡ running.round))
