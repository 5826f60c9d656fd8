-- A step that finds its windows loses no item: each ring has room for what is pushed there.
use Rattle.std.proofs.Common.{◌≡◌, refl, sym, ap, ◌∙◌, subst, ℕ, ◌<◌, ◌≤◌, ℤ, Bool, true}
use Rattle.std.proofs.Common.{List, ◌++◌, length, drop, Option, Some, slice_get, slice_index}
use Rattle.circular_buffer.specs.Buffer.{buffer}
use Rattle.strc_work_meaning.specs.declared.fault.Cause.{Cause}
use Rattle.strc_work_meaning.specs.declared.word.Word.{Word}
use Rattle.strc_elab_dataflow.specs.Node.{ByPort, Fired.Fires, Fired.Faults}
use Rattle.strc_elab_dataflow.specs.Node as generic
use Rattle.strc_elab_dataflow.specs.Queues.{moved, holds, fronts, fifo_after, fifo_fire}
use Rattle.strc_elab_dataflow.specs.Flat as flat
use Rattle.strc_elab_graph.specs.Graphs.{NodeCode, Channel, Graph}
use Rattle.strc_sched_laws.specs.ByChannels.{IsByChannels}
use Rattle.strc_elab_graph.specs.Meaning.{node_meaning, node_fired}
use Rattle.strc_elab_graph.specs.Rates.{pops_at}
use Rattle.strc_sched_laws.specs.Circuits.{IsCircuit}
use Rattle.strc_sched_laws.specs.Fits.{Queues, FitNow, FitThen}
use Rattle.strc_sched_laws.specs.Machine.{CircuitView, MachineView, next_step}
use Rattle.strc_sched_laws.specs.RingRoom.{items_taken, items_pushed, FindsRoom}
use Rattle.strc_sched_laws.specs.Rings.{Ring, ring_at}
use Rattle.strc_sched_laws.specs.Steps as steps
use Rattle.strc_sched_laws.specs.Steps.{Step}
use Rattle.strc_sched_laws.specs.Wiring.{ports_at}
use Rattle.strc_sched_laws.proofs.FiringAlike.{step_matches, found_progress, fire_is}
use Rattle.strc_sched_laws.specs.Simulation.{Simulates}
use Rattle.strc_sched_laws.proofs.Simulation.{ring_holds, queue_moved}
use Rattle.strc_sched_laws.specs.NodeSteps.{Moves, Matches, HasOwnWindow, finds_in, sees_of}

module _ (running : flat.Graph NodeCode) (graph : Graph) (joins : IsByChannels running graph)
    (circuit : CircuitView) (is : IsCircuit graph circuit) (sizes : List ℕ) (input : List ℤ)
    (reads_it : circuit.input ≡ input) (now : Queues) (machine : MachineView)
    (simulates : Simulates graph sizes input now machine) (node : ℕ)
    (within : node < length graph.nodes)
    (there : slice_get graph.nodes node ≡ Some (running.code node)) where
  abbrev code : NodeCode
  code = running.code node

  abbrev firing : ℕ
  firing = (now.runs node).fired

  abbrev pops : ℕ → ℕ
  pops = pops_at code firing

  abbrev inputs : List (Option ℕ)
  inputs = ports_at circuit.inputs node

  abbrev outputs : List (Option ℕ)
  outputs = ports_at circuit.outputs node

  abbrev queue : Channel → List ℤ
  queue channel = now.queues channel.target.node channel.target.port

  module _ (pushes : ByPort) (after : List Ring)
      (moves : Moves inputs outputs pops pushes machine.rings after)
      (number : ℕ) (channel : Channel) (listed : slice_get graph.channels number ≡ Some channel)
    where
      abbrev size : ℕ
      size = slice_index sizes number

      -- the queue after the firing is what is left, and what is pushed
      left_and_pushed : moved node_meaning running node firing now.queues pushes
          channel.target.node channel.target.port
          ≡ drop (items_taken node pops channel) (ring_at machine.rings number).items
          ++ items_pushed node pushes channel
      left_and_pushed =
          queue_moved running graph joins circuit is node pops pushes machine.rings after moves
          number channel listed now firing
          ∙ ap (λ (ring : Ring). drop (items_taken node pops channel) ring.items
          ++ items_pushed node pushes channel) (sym (simulates.rings number channel listed))

      kept : length (moved node_meaning running node firing now.queues pushes
          channel.target.node channel.target.port) ≤ size
          → ring_at after number
          ≡ buffer (drop (items_taken node pops channel) (ring_at machine.rings number).items
          ++ items_pushed node pushes channel) size
      kept fits =
          ring_holds running graph joins circuit is node pops pushes machine.rings after moves
          number channel listed now firing size refl (simulates.rings number channel listed) fits
          ∙ ap (λ (l : List ℤ). buffer l size) left_and_pushed

  fired_finds_room : (fired : generic.Fired (List ℤ) Cause Word) (step : Step)
      → Matches inputs outputs pops machine.rings true fired step
      → FitThen (FitNow graph.channels sizes) (fifo_after node_meaning running now node fired)
      → FindsRoom graph.channels sizes node pops machine.rings fired step
  unfolding fifo_after
  fired_finds_room (Fires fields pushes words) (steps.Goes own after printed) matches fit = record {
    each = matches.2.each ∙ simulates.each_ring;
    holds = λ number channel listed.
        kept pushes after matches.2 number channel listed (fit.items number channel listed);
    room = λ number channel listed.
        subst (λ (l : List ℤ). length l ≤ slice_index sizes number)
        (left_and_pushed pushes after matches.2 number channel listed)
        (fit.items number channel listed);
  }
  fired_finds_room (Faults cause) (steps.Faults own) matches fit = matches
  fired_finds_room fired step matches fit = absurd matches

  -- where the next firing over queues finds its windows, and the queues then fit
  pub next_finds_room : HasOwnWindow code firing
      → holds node_meaning running node firing (now.queues node) ≡ true
      → FitThen (FitNow graph.channels sizes) (fifo_fire node_meaning running now node)
      → FindsRoom graph.channels sizes node pops machine.rings
      (node_fired code firing (now.runs node).state
      (fronts node_meaning running node firing (now.queues node)))
      (next_step circuit machine node)
  unfolding holds fronts
  next_finds_room own found fit =
      let fired = node_fired code firing (now.runs node).state
      (sees_of code firing (now.queues node)) in
      let finds : finds_in code firing (now.queues node) ≡ true = found in
      fired_finds_room fired (next_step circuit machine node)
      (subst (λ (test : Bool). Matches inputs outputs pops machine.rings test fired
      (next_step circuit machine node)) finds
      (step_matches running graph joins circuit is sizes input reads_it now machine simulates node
      within there own))
      (subst (FitThen (FitNow graph.channels sizes))
      (fire_is running graph joins circuit is sizes input reads_it now machine simulates node within
      there
      ∙ ap (λ (test : Bool). found_progress running graph joins circuit is sizes input reads_it now
      machine simulates node within there test fired) finds) fit)
