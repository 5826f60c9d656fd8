-- A firing goes in C as over queues.
use Rattle.std.proofs.Common.{◌≡◌, ℕ, List, [], pos, Result, Ok, Err}
use Rattle.std.proofs.Common.{refl, sym, ap, ap₂, ◌∙◌, subst}
use Rattle.strc_work_meaning.specs.declared.body.Body.TheVariants as body
use Rattle.strc_work_meaning.specs.declared.fault.Cause.{Cause}
use Rattle.strc_work_meaning.specs.Filters.{filter_of}
use Rattle.strc_work_meaning.specs.Firing.{Fired, fired}
use Rattle.strc_elab_dataflow.specs.Flat as flat
use Rattle.strc_elab_dataflow.specs.Machine as machine
use Rattle.strc_elab_dataflow.specs.Node.{ByPort, Fired.Fires, at_port_0}
use Rattle.strc_elab_dataflow.specs.Queues.{fronts, fifo_fire, fifo_if, fifo_after}
use Rattle.strc_elab_graph.specs.Graphs.{NodeCode, Filter}
use Rattle.strc_elab_graph.specs.Graphs as graphs
use Rattle.strc_elab_graph.specs.Rates.{body_at}
use Rattle.strc_work_meaning.specs.declared.word.Word.{Word}
use Rattle.strc_elab_graph.specs.Meaning.{node_meaning, node_fired, as_fired}
use Rattle.strc_emit_c.specs.Meaning.{Stop, Faults, Undefined}
use Rattle.strc_emit_meaning.specs.Refinement.{Refines}
use Rattle.strc_emit_moves.specs.declared.places.Phase.{Phase}
use Rattle.strc_emit_moves.specs.declared.places.Phase.TheVariants as phase
use Rattle.strc_emit_moves.specs.Places.{taken_at, given_at}
use Rattle.strc_emit_runs.specs.Running.{Program, Running, Halt, firing_of, firing_number, halted}
use Rattle.strc_emit_runs.specs.Running.{work_done, node_done, body_done, first_source}
use Rattle.strc_emit_runs.specs.Running.{first_target}
use Rattle.strc_emit_runs.specs.Orders.{Queues, Goes, RunShows, fired_on}
use Rattle.strc_emit_runs.specs.Steps.{FiresTo, TakesThere}
use Rattle.strc_emit_runs.specs.PassingSteps.{GivesRates}
use Rattle.strc_emit_runs.specs.Firings.{FiltersGo, PreworksGo, seen_of, PassingGo, seen_at}
use Rattle.strc_emit_runs.proofs.Steps.{steps_show}
use Rattle.strc_emit_passes.specs.Passing.{IsPassing, GivesBy}
use Rattle.strc_emit_runs.proofs.PassingSteps.{passing_fires_to}
use Rattle.strc_emit_runs.proofs.WorkSteps.{work_fires_to, prework_fires_to}

-- a body of a filter, whose text pushes at its rate
module _ (graph : flat.Graph NodeCode) (program : Program) (when : Phase) (round : ℕ)
    (times : ℕ → ℕ) (now : Queues) (running : Running) (node number : ℕ)
    (shows : RunShows program when round times now running)
    (takes : TakesThere graph program when times now node)
    (number_is : (now.runs node).fired ≡ number) where
  abbrev stop : ℕ → Cause → machine.Stop Cause
  stop firing cause = record { node = node; firing = firing; cause = cause }

  body_goes : (did : Result Fired Cause)
      → ((given : Fired) → did ≡ Ok given
      → GivesRates program when node (times node) (at_port_0 given.pushes))
      → (out : Result Running Stop)
      → Refines (λ given after. GivesRates program when node (times node) (at_port_0 given.pushes)
      → FiresTo program when node times given.fields (at_port_0 given.pushes) given.words running
      after) did out
      → Goes (RunShows program when round (fired_on times node 1))
      (fifo_after node_meaning graph now node (as_fired did)) (halted node number out)
  unfolding fifo_after
  body_goes (Ok given) rates (Ok after) fires =
      steps_show graph program when round times now running after node given.fields
      (at_port_0 given.pushes) given.words shows takes (fires (rates given refl))
  body_goes (Ok given) rates (Err why) fires = absurd fires
  body_goes (Err why) rates (Ok after) fires = absurd fires
  body_goes (Err why) rates (Err (Faults cause)) same = ap₂ stop number_is same
  body_goes (Err why) rates (Err Undefined) fires = absurd fires

pub filters_go : FiltersGo
unfolding fifo_fire fifo_if
filters_go graph program when round times now running node name filter code work held shows wired
    steady has enough works takes rates =
    subst (λ b. Goes (RunShows program when round (fired_on times node 1))
    (fifo_if node_meaning graph now node b) gone) (sym held)
    (subst (λ c. Goes (RunShows program when round (fired_on times node 1))
    (fifo_after node_meaning graph now node (node_fired c
    (now.runs node).fired (now.runs node).state
    (fronts node_meaning graph node (now.runs node).fired (now.queues node)))) gone) (sym code)
    (subst (λ f. Goes (RunShows program when round (fired_on times node 1))
    (fifo_after node_meaning graph now node (as_fired f)) gone)
    (sym work)
    (body_goes graph program when round times now running node
    (firing_number program when node (times node) running.round) shows takes
    (shows.numbers node ∙ ap (firing_number program when node (times node)) (sym shows.round_is))
    (fired (filter_of filter) body.Work (now.runs node).state (seen_of graph now node)) rates
    (work_done program when node (pos (times node)) running)
    (work_fires_to program when round times now running node filter (seen_of graph now node) shows
    wired steady has enough works))))
  where
    gone : Result Running Halt
    gone = firing_of program when node (Filter name (filter_of filter)) (times node) running

pub preworks_go : PreworksGo
unfolding fifo_fire fifo_if
preworks_go graph program round times now running node name filter function code held shows wired
    none has enough is same works takes rates =
    subst (λ b. Goes (RunShows program phase.Startup round (fired_on times node 1))
    (fifo_if node_meaning graph now node b) gone) (sym held)
    (subst (λ c. Goes (RunShows program phase.Startup round (fired_on times node 1))
    (fifo_after node_meaning graph now node (node_fired c
    (now.runs node).fired (now.runs node).state
    (fronts node_meaning graph node (now.runs node).fired (now.queues node)))) gone) (sym code)
    (subst (λ n. Goes (RunShows program phase.Startup round (fired_on times node 1))
    (fifo_after node_meaning graph now node (as_fired (fired (filter_of filter) (body_at n)
    (now.runs node).state (seen_of graph now node)))) gone) (sym (shows.numbers node ∙ none))
    (body_goes graph program phase.Startup round times now running node 0 shows takes
    (shows.numbers node ∙ none)
    (fired (filter_of filter) body.Prework (now.runs node).state (seen_of graph now node))
    (λ given did. subst (λ n. GivesRates program phase.Startup node n (at_port_0 given.pushes))
    (sym none) (rates given did))
    (body_done program node function
    (first_source program (taken_at program.network phase.Startup node 0))
    (first_target program (given_at program.network phase.Startup node 0)) running)
    (subst (λ n. Refines (λ given after.
    GivesRates program phase.Startup node n (at_port_0 given.pushes)
    → FiresTo program phase.Startup node times given.fields (at_port_0 given.pushes) given.words
    running after)
    (fired (filter_of filter) body.Prework (now.runs node).state (seen_of graph now node))
    (body_done program node function
    (first_source program (taken_at program.network phase.Startup node 0))
    (first_target program (given_at program.network phase.Startup node 0)) running)) (sym none)
    (prework_fires_to program round times now running node filter function (seen_of graph now node)
    shows wired none has enough is same works)))))
  where
    gone : Result Running Halt
    gone = halted node 0 (body_done program node function
        (first_source program (taken_at program.network phase.Startup node 0))
        (first_target program (given_at program.network phase.Startup node 0)) running)

pub passing_go : PassingGo
unfolding fifo_fire fifo_if
passing_go graph program when round times now running node code code_is held shows wired steady
    sees_fronts reader at is sees inputs reads takes rates =
    subst (λ b. Goes (RunShows program when round (fired_on times node 1))
    (fifo_if node_meaning graph now node b)
    (firing_of program when node code (times node) running)) (sym held)
    (subst (λ c. Goes (RunShows program when round (fired_on times node 1))
    (fifo_after node_meaning graph now node (node_fired c (now.runs node).fired
    (now.runs node).state (seen_at graph now node)))
    (firing_of program when node code (times node) running)) (sym code_is)
    (by code is rates (passing_fires_to program when round times now running node code []
    (seen_at graph now node) shows wired steady sees_fronts reader at is sees inputs reads)))
  where
    finish : (code : NodeCode) (pushes : ByPort) (printed : List Word)
        → GivesRates program when node (times node) pushes
        → (GivesRates program when node (times node) pushes
        → (after : Running)
        × (node_done program when node code (pos (times node)) running ≡ Ok after)
        × FiresTo program when node times [] pushes printed running after)
        → Goes (RunShows program when round (fired_on times node 1))
        (fifo_after node_meaning graph now node (Fires [] pushes printed))
        (firing_of program when node code (times node) running)
    finish code pushes printed rates fire =
        let done = fire rates in
        subst (λ out. Goes (RunShows program when round (fired_on times node 1))
        (fifo_after node_meaning graph now node (Fires [] pushes printed))
        (halted node (firing_number program when node (times node) running.round) out))
        (sym done.1)
        (steps_show graph program when round times now running done.0 node [] pushes printed shows
        takes done.2)

    by : (code : NodeCode) → IsPassing code
        → GivesBy (node_fired code 0 [] (seen_at graph now node))
        (λ pushes printed. GivesRates program when node (times node) pushes)
        → GivesBy (node_fired code 0 [] (seen_at graph now node)) (λ pushes printed.
        GivesRates program when node (times node) pushes
        → (after : Running)
        × (node_done program when node code (pos (times node)) running ≡ Ok after)
        × FiresTo program when node times [] pushes printed running after)
        → Goes (RunShows program when round (fired_on times node 1))
        (fifo_after node_meaning graph now node (node_fired code (now.runs node).fired
        (now.runs node).state (seen_at graph now node)))
        (firing_of program when node code (times node) running)
    by graphs.Identity is rates fire = finish graphs.Identity _ _ rates fire
    by (graphs.FileReader text) is rates fire = finish (graphs.FileReader text) _ _ rates fire
    by (graphs.FileWriter text) is rates fire = finish (graphs.FileWriter text) _ _ rates fire
    by (graphs.Splitter splitter) is rates fire = finish (graphs.Splitter splitter) _ _ rates fire
    by (graphs.Joiner weights) is rates fire = finish (graphs.Joiner weights) _ _ rates fire
    by (graphs.Filter name filter) is rates fire = absurd is
    by (graphs.Scatter fission) is rates fire = absurd is
    by (graphs.Copy copied fission) is rates fire = absurd is
    by (graphs.Gather fission) is rates fire = absurd is
