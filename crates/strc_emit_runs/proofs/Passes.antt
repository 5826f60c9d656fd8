-- A firing of a node that only passes items on, in a program, by the law on its moves.
use Rattle.std.proofs.Common.{◌≡◌, ℕ, ◌+◌, pos, List, cond, Ok, refl, ap, ◌∙◌}
use Rattle.std.proofs.lemmas.Bool.{eq-eqb, ne_eqb}
use Rattle.strc_lex_names.specs.Results.{result_and_then}
use Rattle.strc_work_meaning.specs.declared.word.Word.{Word}
use Rattle.strc_elab_dataflow.specs.Node.{ByPort}
use Rattle.strc_elab_graph.specs.Graphs.{NodeCode}
use Rattle.strc_elab_graph.specs.Graphs as graphs
use Rattle.strc_emit_moves.specs.declared.places.Phase.{Phase}
use Rattle.strc_emit_passes.specs.Moves.{node_moves}
use Rattle.strc_emit_passes.specs.Meaning.{Passing, moves_done}
use Rattle.strc_emit_passes.specs.Passing.{HasPassed}
use Rattle.strc_emit_passes.proofs.Nodes.{passing_nodes_fire}
use Rattle.strc_emit_runs.specs.Running.{Program, Running, around, memory_of, passed_left}
use Rattle.strc_emit_runs.specs.Running.{passing_done}
use Rattle.strc_emit_runs.specs.Passes.{PassesFire}

-- what the moves leave is what the program goes on with
left : (program : Program) (when : Phase) (node : ℕ) (code : NodeCode) (i more : ℕ)
    (pushes : ByPort) (to : ℕ → ℕ) (printed : List Word) (running : Running)
    → (after : Passing) × (moves_done (around program) (pos i)
    (node_moves program.network when node code)
    (record { memory = memory_of running node; taken = running.taken }) ≡ Ok after)
    × HasPassed program.network when node pushes to printed (memory_of running node) after.memory
    × (after.taken ≡ running.taken + more)
    → (after : Running) × (passing_done program when node code (pos i) running ≡ Ok after)
    × HasPassed program.network when node pushes to printed (memory_of running node)
    (memory_of after node)
    × ((other : ℕ) → (other ≡ node → ⊥) → after.tapes other ≡ running.tapes other)
    × (after.taken ≡ running.taken + more) × (after.round ≡ running.round)
left program when node code i more pushes to printed running done = (
  passed_left running node done.0,
  ap (λ r. result_and_then r (λ passing. Ok (passed_left running node passing))) done.1,
  record {
    items = done.2.items;
    kept = done.2.kept;
    words = ap (λ t. cond t done.0.memory.words (running.tapes node)) (eq-eqb node node refl)
        ∙ done.2.words;
  },
  (λ other differ. ap (λ t. cond t done.0.memory.words (running.tapes other))
      (ne_eqb other node differ)),
  done.3,
  refl,
)

pub passes_fire : PassesFire
passes_fire program when node graphs.Identity i fields seen
    from to running is sees wired reads =
    λ finds. left program when node graphs.Identity i _ _ to _ running
    (passing_nodes_fire program.network when node
    graphs.Identity (around program) i fields seen from to
    (record { memory = memory_of running node; taken = running.taken }) is sees wired reads finds)
passes_fire program when node (graphs.FileReader text) i fields seen
    from to running is sees wired reads =
    λ finds. left program when node (graphs.FileReader text) i _ _ to _ running
    (passing_nodes_fire program.network when node
    (graphs.FileReader text) (around program) i fields seen from to
    (record { memory = memory_of running node; taken = running.taken }) is sees wired reads finds)
passes_fire program when node (graphs.FileWriter text) i fields seen
    from to running is sees wired reads =
    λ finds. left program when node (graphs.FileWriter text) i _ _ to _ running
    (passing_nodes_fire program.network when node
    (graphs.FileWriter text) (around program) i fields seen from to
    (record { memory = memory_of running node; taken = running.taken }) is sees wired reads finds)
passes_fire program when node (graphs.Splitter (graphs.Duplicate carried)) i fields seen
    from to running is sees wired reads =
    λ finds. left program when node (graphs.Splitter (graphs.Duplicate carried)) i _ _ to _ running
    (passing_nodes_fire program.network when node
    (graphs.Splitter (graphs.Duplicate carried)) (around program) i fields seen from to
    (record { memory = memory_of running node; taken = running.taken }) is sees wired reads finds)
passes_fire program when node (graphs.Splitter (graphs.Roundrobin weights)) i fields seen
    from to running is sees wired reads =
    λ finds. left program when node (graphs.Splitter (graphs.Roundrobin weights)) i _ _ to _ running
    (passing_nodes_fire program.network when node
    (graphs.Splitter (graphs.Roundrobin weights)) (around program) i fields seen from to
    (record { memory = memory_of running node; taken = running.taken }) is sees wired reads finds)
passes_fire program when node (graphs.Joiner weights) i fields seen
    from to running is sees wired reads =
    λ finds. left program when node (graphs.Joiner weights) i _ _ to _ running
    (passing_nodes_fire program.network when node
    (graphs.Joiner weights) (around program) i fields seen from to
    (record { memory = memory_of running node; taken = running.taken }) is sees wired reads finds)
passes_fire program when node (graphs.Filter name filter) i fields seen from to running
    is sees wired reads = absurd is
passes_fire program when node (graphs.Scatter fission) i fields seen from to running
    is sees wired reads = absurd is
passes_fire program when node (graphs.Copy copied fission) i fields seen from to running
    is sees wired reads = absurd is
passes_fire program when node (graphs.Gather fission) i fields seen from to running
    is sees wired reads = absurd is
