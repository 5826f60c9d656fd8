-- A firing over rings comes to what the firing over queues comes to.
use Rattle.std.proofs.Common.{◌≡◌, refl, sym, ap, ◌∙◌, subst, ℕ, ◌<◌}
use Rattle.std.proofs.Common.{ℤ, Bool, true, false, List, length, Option}
use Rattle.std.proofs.Common.{Some, slice_get, slice_index}
use Rattle.strc_work_meaning.specs.declared.fault.Cause.{Cause}
use Rattle.strc_work_meaning.specs.declared.word.Word.{Word}
use Rattle.strc_elab_dataflow.specs.Machine.{Stop}
use Rattle.strc_elab_dataflow.specs.Node.{ByPort, Fired.Fires, Fired.Faults}
use Rattle.strc_elab_dataflow.specs.Node as generic
use Rattle.strc_elab_dataflow.specs.Queues.{FifoProgress, FifoProgress.FifoWent}
use Rattle.strc_elab_dataflow.specs.Queues.{holds, fronts}
use Rattle.strc_elab_dataflow.specs.Queues.{fifo_after, fifo_if, fifo_fire}
use Rattle.strc_elab_dataflow.specs.Flat as flat
use Rattle.strc_elab_graph.specs.Graphs.{NodeCode, Graph}
use Rattle.strc_sched_laws.specs.ByChannels.{IsByChannels}
use Rattle.strc_elab_graph.specs.Meaning.{node_meaning, node_fired}
use Rattle.strc_elab_graph.specs.Rates.{pops_at}
use Rattle.strc_sched_laws.specs.Circuits.{IsCircuit}
use Rattle.strc_sched_laws.specs.Fits.{Queues, FitNow, FitThen}
use Rattle.strc_sched_laws.specs.Machine.{CircuitView, MachineView, step_at, next_step}
use Rattle.strc_sched_laws.specs.Machine.{after_step}
use Rattle.strc_sched_laws.specs.NodeSteps.{ArePlaced, Matches, Shows, HasOwnWindow}
use Rattle.strc_sched_laws.specs.NodeSteps.{finds_in, sees_of}
use Rattle.strc_sched_laws.specs.Rings.{Ring, items_at}
use Rattle.strc_sched_laws.specs.Simulation.{Simulates, IsAlike}
use Rattle.strc_sched_laws.specs.Steps as steps
use Rattle.strc_sched_laws.specs.Steps.{Step, maybe_step, node_step}
use Rattle.strc_sched_laws.specs.Wiring.{ports_at}
use Rattle.strc_sched_laws.proofs.Ends.{are_placed, idle_empty, carrier_fed}
use Rattle.strc_sched_laws.proofs.NodeSteps.{node_matches}
use Rattle.strc_sched_laws.proofs.Orders.{is_reader}
use Rattle.strc_sched_laws.proofs.Advancing.{next_queues, next_machine, next_simulates}

module _ (running : flat.Graph NodeCode) (graph : Graph) (joins : IsByChannels running graph)
    (circuit : CircuitView) (is : IsCircuit graph circuit) (sizes : List ℕ) (input : List ℤ)
    (reads_it : circuit.input ≡ input) (now : Queues) (machine : MachineView)
    (simulates : Simulates graph sizes input now machine) (node : ℕ)
    (within : node < length graph.nodes)
    (there : slice_get graph.nodes node ≡ Some (running.code node)) where
  abbrev code : NodeCode
  code = running.code node

  abbrev firing : ℕ
  firing = (now.runs node).fired

  abbrev state : List ℤ
  state = (now.runs node).state

  abbrev inputs : List (Option ℕ)
  inputs = ports_at circuit.inputs node

  abbrev outputs : List (Option ℕ)
  outputs = ports_at circuit.outputs node

  abbrev count : ℕ
  count = length graph.nodes

  -- ---- what the step is

  step_is : next_step circuit machine node
      ≡ node_step code firing state inputs outputs input machine.rings
  step_is =
      ap (λ (number : ℕ). step_at circuit machine node number) (simulates.fired node within)
      ∙ ap (λ (own : List ℤ). maybe_step (slice_get circuit.codes node) firing own inputs outputs
      circuit.input machine.rings) (simulates.fields node within)
      ∙ ap (λ (found : Option NodeCode). maybe_step found firing state inputs outputs
      circuit.input machine.rings)
      (ap (λ (codes : List NodeCode). slice_get codes node) is.codes ∙ there)
      ∙ ap (λ (own : List ℤ). node_step code firing state inputs outputs own machine.rings)
      reads_it

  placed : ArePlaced inputs outputs (length machine.rings)
  placed = subst (λ (own : ℕ). ArePlaced inputs outputs own) (sym simulates.each_ring)
      (are_placed running graph joins circuit is node)

  shows : Shows inputs machine.rings (now.queues node) code
  shows = record {
    holds = λ port carries.
        let (number, channel, listed, ends, ring) =
        carrier_fed running graph joins circuit is node code there port carries in
        ap (items_at machine.rings) ring
        ∙ ap (λ (own : Ring). own.items) (simulates.rings number channel listed)
        ∙ ap (λ end. now.queues end.node end.port) ends;
    empty = idle_empty running graph joins circuit is node code there;
  }

  pub step_matches : HasOwnWindow code firing
      → Matches inputs outputs (pops_at code firing) machine.rings
      (finds_in code firing (now.queues node))
      (node_fired code firing state (sees_of code firing (now.queues node)))
      (next_step circuit machine node)
  step_matches own =
      subst (Matches inputs outputs (pops_at code firing) machine.rings
      (finds_in code firing (now.queues node))
      (node_fired code firing state (sees_of code firing (now.queues node)))) (sym step_is)
      (node_matches inputs outputs machine.rings placed (now.queues node) code firing state input
      shows
      (λ reader. let reads = is_reader code reader in
      simulates.reads node reads.0 (there ∙ ap Some reads.1)) own)

  -- a firing that finds its windows or doesn't
  abbrev pub found_progress : Bool → generic.Fired (List ℤ) Cause Word
      → FifoProgress (List ℤ) Cause Word
  found_progress true fired = fifo_after node_meaning running now node fired
  found_progress false fired = FifoWent now

  progress_is : (found : Bool) → fifo_if node_meaning running now node found
      ≡ found_progress found (node_meaning.fire code firing state
      (fronts node_meaning running node firing (now.queues node)))
  unfolding fifo_if
  progress_is true = refl
  progress_is false = refl

  pub fire_is : fifo_fire node_meaning running now node
      ≡ found_progress (finds_in code firing (now.queues node))
      (node_fired code firing state (sees_of code firing (now.queues node)))
  unfolding fifo_fire holds fronts
  fire_is = progress_is (finds_in code firing (now.queues node))

  abbrev stop_of : ℕ → Cause → Stop Cause
  stop_of number cause = record { node = node; firing = number; cause = cause }

  found_alike : (found : Bool) (fired : generic.Fired (List ℤ) Cause Word) (step : Step)
      → Matches inputs outputs (pops_at code firing) machine.rings found fired step
      → FitThen (FitNow graph.channels sizes) (found_progress found fired)
      → IsAlike graph sizes input (found_progress found fired) (after_step machine node step)
  unfolding fifo_after
  found_alike false fired steps.Stays matches fit = simulates
  found_alike true (Fires fields pushes words) (steps.Goes own after printed) matches fit =
      subst (λ (l : List ℤ). Simulates graph sizes input
      (next_queues running now node fields pushes words)
      (next_machine machine node l after printed)) (sym matches.0)
      (subst (λ (l : List Word). Simulates graph sizes input
      (next_queues running now node fields pushes words)
      (next_machine machine node fields after l)) (sym matches.1)
      (next_simulates running graph joins circuit is sizes input now machine simulates node within
      there
      fields pushes words after matches.2 fit))
  found_alike true (Faults cause) (steps.Faults own) matches fit =
      ap (λ (n : ℕ). stop_of n cause) (sym (simulates.fired node within))
      ∙ ap (stop_of (slice_index machine.fired node)) (sym matches)
  found_alike found fired step matches fit = absurd matches

  pub fire_alike : HasOwnWindow code firing
      → FitThen (FitNow graph.channels sizes) (fifo_fire node_meaning running now node)
      → IsAlike graph sizes input (fifo_fire node_meaning running now node)
      (after_step machine node (next_step circuit machine node))
  fire_alike own fit =
      subst (λ (progress : FifoProgress (List ℤ) Cause Word). IsAlike graph sizes input progress
      (after_step machine node (next_step circuit machine node))) (sym fire_is)
      (found_alike (finds_in code firing (now.queues node))
      (node_fired code firing state (sees_of code firing (now.queues node)))
      (next_step circuit machine node) (step_matches own)
      (subst (FitThen (FitNow graph.channels sizes)) fire_is fit))
