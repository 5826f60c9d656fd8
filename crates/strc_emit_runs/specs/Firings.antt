-- A firing goes in C as over queues: a filter's, and that of a node that only passes
-- items on.
use Rattle.std.specs.Prelude.{◌≡◌, ℕ, ◌<◌, List, [], ℤ, Option, Some, true, Ok}
use Rattle.strc_parse_tree.specs.declared.tree.FilterTree.{FilterTree}
use Rattle.strc_work_meaning.specs.declared.body.Body.TheVariants as body
use Rattle.strc_work_meaning.specs.Filters.{filter_of}
use Rattle.strc_work_meaning.specs.Firing.{Fired, fired, turn_limit}
use Rattle.strc_elab_dataflow.specs.Flat as flat
use Rattle.strc_elab_dataflow.specs.Node.{ByPort, at_port_0}
use Rattle.strc_elab_dataflow.specs.Queues.{holds, fronts, fifo_fire}
use Rattle.strc_elab_graph.specs.Graphs.{NodeCode, Filter}
use Rattle.strc_elab_graph.specs.Meaning.{node_meaning, node_fired}
use Rattle.strc_elab_graph.specs.Rates.{body_at}
use Rattle.strc_emit_bodies.specs.Spelling.{BodyFunction}
use Rattle.strc_emit_moves.specs.declared.places.Phase.{Phase}
use Rattle.strc_emit_moves.specs.declared.places.Phase.TheVariants as phase
use Rattle.strc_emit_moves.specs.Places.{taken_at, given_at}
use Rattle.strc_emit_passes.specs.Passing.{IsPassing, SeesWindows, HasInputs, ReadsNext, GivesBy}
use Rattle.strc_emit_runs.specs.Running.{Program, Running, firing_of, code_at, halted, body_done}
use Rattle.strc_emit_runs.specs.Running.{first_source, first_target}
use Rattle.strc_emit_runs.specs.Works.{HasFilter}
use Rattle.strc_emit_runs.specs.Orders.{Queues, Goes, RunShows, fired_on}
use Rattle.strc_emit_runs.specs.Steps.{TakesThere}
use Rattle.strc_emit_runs.specs.PassingSteps.{IsWired, IsSteady, GivesRates, SeesFronts}
use Rattle.strc_emit_runs.specs.PassingSteps.{ReadsAsReader}
use Rattle.strc_emit_runs.specs.WorkSteps.{WorksOn}

-- what a filter's firing sees
abbrev pub seen_of : flat.Graph NodeCode → Queues → (node : ℕ) → List ℤ
seen_of graph now node =
    fronts node_meaning graph node (now.runs node).fired (now.queues node) 0

-- a firing of a filter's work, whose text pushes at its rate, goes in C as over queues
abbrev pub FiltersGo : Type 0
FiltersGo =
    (graph : flat.Graph NodeCode) (program : Program) (when : Phase) (round : ℕ) (times : ℕ → ℕ)
    (now : Queues) (running : Running) (node : ℕ) (name : Option (List ℕ)) (filter : FilterTree)
    → graph.code node ≡ Filter name (filter_of filter)
    → fired (filter_of filter) (body_at (now.runs node).fired) (now.runs node).state
    (seen_of graph now node)
    ≡ fired (filter_of filter) body.Work (now.runs node).state (seen_of graph now node)
    → holds node_meaning graph node (now.runs node).fired (now.queues node) ≡ true
    → RunShows program when round times now running → IsWired program when node times
    → IsSteady program when node (times node)
    → HasFilter program node filter → turn_limit < program.fuel
    → WorksOn program when now node (times node) (program.functions node).work
    (seen_of graph now node)
    → TakesThere graph program when times now node
    → ((given : Fired)
    → fired (filter_of filter) body.Work (now.runs node).state (seen_of graph now node) ≡ Ok given
    → GivesRates program when node (times node) (at_port_0 given.pushes))
    → Goes (RunShows program when round (fired_on times node 1))
    (fifo_fire node_meaning graph now node)
    (firing_of program when node (Filter name (filter_of filter)) (times node) running)

-- so does the firing of a prework, its node's first one
abbrev pub PreworksGo : Type 0
PreworksGo =
    (graph : flat.Graph NodeCode) (program : Program) (round : ℕ) (times : ℕ → ℕ)
    (now : Queues) (running : Running) (node : ℕ) (name : Option (List ℕ)) (filter : FilterTree)
    (function : BodyFunction)
    → graph.code node ≡ Filter name (filter_of filter)
    → holds node_meaning graph node (now.runs node).fired (now.queues node) ≡ true
    → RunShows program phase.Startup round times now running
    → IsWired program phase.Startup node times → times node ≡ 0
    → HasFilter program node filter → turn_limit < program.fuel
    → (program.functions node).prework ≡ Some function
    → function.function.fields ≡ (program.functions node).work.function.fields
    → WorksOn program phase.Startup now node 0 function (seen_of graph now node)
    → TakesThere graph program phase.Startup times now node
    → ((given : Fired)
    → fired (filter_of filter) body.Prework (now.runs node).state (seen_of graph now node)
    ≡ Ok given
    → GivesRates program phase.Startup node 0 (at_port_0 given.pushes))
    → Goes (RunShows program phase.Startup round (fired_on times node 1))
    (fifo_fire node_meaning graph now node)
    (halted node 0 (body_done program node function
    (first_source program (taken_at program.network phase.Startup node 0))
    (first_target program (given_at program.network phase.Startup node 0)) running))

-- what a node's firing sees at each port
abbrev pub seen_at : flat.Graph NodeCode → Queues → (node : ℕ) → ByPort
seen_at graph now node = fronts node_meaning graph node (now.runs node).fired (now.queues node)

-- so does a firing of a node that only passes items on
abbrev pub PassingGo : Type 0
PassingGo =
    (graph : flat.Graph NodeCode) (program : Program) (when : Phase) (round : ℕ) (times : ℕ → ℕ)
    (now : Queues) (running : Running) (node : ℕ) (code : NodeCode)
    → graph.code node ≡ code
    → holds node_meaning graph node (now.runs node).fired (now.queues node) ≡ true
    → RunShows program when round times now running → IsWired program when node times
    → IsSteady program when node (times node)
    → SeesFronts now node (seen_at graph now node) → ReadsAsReader program node code
    → code_at program node ≡ Some code → IsPassing code
    → SeesWindows code (seen_at graph now node)
    → HasInputs program.network when node code
    → ReadsNext code (seen_at graph now node) program.input running.taken
    → TakesThere graph program when times now node
    → GivesBy (node_fired code 0 [] (seen_at graph now node))
    (λ pushes printed. GivesRates program when node (times node) pushes)
    → Goes (RunShows program when round (fired_on times node 1))
    (fifo_fire node_meaning graph now node)
    (firing_of program when node code (times node) running)
