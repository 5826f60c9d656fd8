-- A firing of a filter leaves what it has to.
use Rattle.std.specs.Prelude.{◌≡◌, ℕ, ◌<◌, ◌≤◌, ◌^◌, ℤ, pos, List, length, Some, None}
use Rattle.std.specs.Prelude.{slice_index_or}
use Rattle.strc_parse_tree.specs.declared.tree.FilterTree.{FilterTree}
use Rattle.strc_work_meaning.specs.declared.body.Body.TheVariants as body
use Rattle.strc_work_meaning.specs.Filters.{filter_of}
use Rattle.strc_work_meaning.specs.Firing.{fired, turn_limit}
use Rattle.strc_elab_dataflow.specs.Node.{at_port_0}
use Rattle.strc_emit_meaning.specs.Refinement.{Refines}
use Rattle.strc_emit_bodies.specs.Spelling.{BodyFunction}
use Rattle.strc_emit_moves.specs.declared.places.Phase.{Phase}
use Rattle.strc_emit_moves.specs.declared.places.Phase.TheVariants as phase
use Rattle.strc_emit_moves.specs.Places.{taken_at, given_at}
use Rattle.strc_elab_graph.specs.Graphs.{NodeCode}
use Rattle.strc_emit_runs.specs.Running.{Program, Running, work_done, body_done, first_source}
use Rattle.strc_emit_runs.specs.Running.{first_target, code_at}
use Rattle.strc_emit_runs.specs.Works.{HasFilter}
use Rattle.strc_emit_runs.specs.Orders.{Queues, RunShows, reader_from}
use Rattle.strc_emit_runs.specs.Steps.{FiresTo, pushes_next}
use Rattle.strc_emit_runs.specs.PassingSteps.{IsWired, IsSteady, GivesRates}

-- a work's window is at the front of its node's queue, its fields are the node's, and it looks at
-- and gives as many items as the node's rates say, where there are channels at its ports
pub record WorksOn (program : Program) (when : Phase) (now : Queues) (node times : ℕ)
    (function : BodyFunction) (window : List ℤ) : Type 0 where
  pub code : NodeCode
  pub at : code_at program node ≡ Some code
  pub few : length window ≤ length (now.queues node 0)
  pub front : (k : ℕ) → k < length window
      → slice_index_or (now.queues node 0) k (pos 0) ≡ slice_index_or window k (pos 0)
  pub whole : function.function.peek ≤ length window
  pub count : length (now.runs node).state ≡ function.function.fields
  pub taken_none : taken_at program.network when node 0 ≡ None
      → function.function.peek ≡ 0
  pub given_none : given_at program.network when node 0 ≡ None
      → function.function.pushes ≡ 0
  pub pushes : pushes_next program when node times 0 ≡ function.function.pushes
  pub few_read : function.function.peek < 2 ^ 31
  pub few_written : function.function.pushes < 2 ^ 31
  pub no_reader : reader_from 0 program.network.nodes.now ≡ Some node → ⊥

-- a firing of a work gives what the filter's text gives, and leaves what it has to, or comes to the
-- same fault, where the text pushes at its rate
abbrev pub WorkFiresTo : Type 0
WorkFiresTo =
    (program : Program) (when : Phase) (round : ℕ) (times : ℕ → ℕ) (now : Queues)
    (running : Running) (node : ℕ) (filter : FilterTree) (window : List ℤ)
    → RunShows program when round times now running → IsWired program when node times
    → IsSteady program when node (times node)
    → HasFilter program node filter → turn_limit < program.fuel
    → WorksOn program when now node (times node) (program.functions node).work window
    → Refines (λ given after. GivesRates program when node (times node) (at_port_0 given.pushes)
    → FiresTo program when node times given.fields (at_port_0 given.pushes) given.words running
    after)
    (fired (filter_of filter) body.Work (now.runs node).state window)
    (work_done program when node (pos (times node)) running)

-- so does the firing of a prework, which is its node's first one
abbrev pub PreworkFiresTo : Type 0
PreworkFiresTo =
    (program : Program) (round : ℕ) (times : ℕ → ℕ) (now : Queues) (running : Running) (node : ℕ)
    (filter : FilterTree) (function : BodyFunction) (window : List ℤ)
    → RunShows program phase.Startup round times now running
    → IsWired program phase.Startup node times → times node ≡ 0
    → HasFilter program node filter → turn_limit < program.fuel
    → (program.functions node).prework ≡ Some function
    → function.function.fields ≡ (program.functions node).work.function.fields
    → WorksOn program phase.Startup now node 0 function window
    → Refines (λ given after. GivesRates program phase.Startup node 0 (at_port_0 given.pushes)
    → FiresTo program phase.Startup node times given.fields (at_port_0 given.pushes) given.words
    running after)
    (fired (filter_of filter) body.Prework (now.runs node).state window)
    (body_done program node function
    (first_source program (taken_at program.network phase.Startup node 0))
    (first_target program (given_at program.network phase.Startup node 0)) running)
