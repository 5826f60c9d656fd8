-- The machine over rings is as the one over queues: its rings hold the queues of the channels.
use Rattle.std.proofs.Common.{◌≡◌, refl, sym, ap, ◌∙◌, subst, ℕ, ◌≤◌, ℤ}
use Rattle.std.proofs.Common.{Bool, true, false, cond, eqb, List, [], ◌++◌, length, drop, Some}
use Rattle.std.proofs.Common.{slice_get, eqb-true}
use Rattle.std.proofs.lemmas.Bool.{ne_eqb, eqb-false}
use Rattle.circular_buffer.specs.Buffer.{buffer}
use Rattle.strc_elab_dataflow.specs.Flat.{Origin}
use Rattle.strc_elab_dataflow.specs.Flat as flat
use Rattle.strc_elab_dataflow.specs.Node.{ByPort}
use Rattle.strc_elab_dataflow.specs.Queues.{added, moved}
use Rattle.strc_elab_graph.specs.declared.graph.Port.{Port as End}
use Rattle.strc_elab_graph.specs.Graphs.{NodeCode, Channel, Graph}
use Rattle.strc_sched_laws.specs.ByChannels.{IsByChannels}
use Rattle.strc_elab_graph.specs.Meaning.{node_meaning}
use Rattle.strc_elab_graph.specs.Rates.{pops_at}
use Rattle.strc_sched_laws.specs.Circuits.{IsCircuit}
use Rattle.strc_sched_laws.specs.Fits.{Queues}
use Rattle.strc_sched_laws.specs.Machine.{CircuitView}
use Rattle.strc_sched_laws.specs.Rings.{Ring, ring_at, at_port, shortened, extended}
use Rattle.strc_sched_laws.specs.RingRoom.{items_taken, items_pushed}
use Rattle.strc_sched_laws.specs.Wiring.{ports_at}
use Rattle.strc_sched_laws.specs.NodeSteps.{Moves}
use Rattle.strc_sched_laws.proofs.Changes.{extended_none, extended_all}
use Rattle.strc_sched_laws.proofs.Ends.{input_channel, output_channel}
use Rattle.strc_sched_laws.proofs.Ends.{target_ring, source_ring}

module _ (running : flat.Graph NodeCode) (graph : Graph) (joins : IsByChannels running graph)
    (circuit : CircuitView) (is : IsCircuit graph circuit) where
  module _ (node : ℕ) (pops : ℕ → ℕ) (pushes : ByPort) (rings after : List Ring)
      (moves : Moves (ports_at circuit.inputs node) (ports_at circuit.outputs node) pops pushes
      rings after)
      (number : ℕ) (channel : Channel) (there : slice_get graph.channels number ≡ Some channel)
    where
      abbrev ring : Ring
      ring = ring_at rings number

      at_target : channel.target.node ≡ node → eqb channel.source.node node ≡ false
      at_target same =
          ne_eqb channel.source.node node
          (λ e. joins.apart number channel there (e ∙ sym same))

      no_target : (channel.target.node ≡ node → ⊥) → (port : ℕ)
          → at_port (ports_at circuit.inputs node) port ≡ Some number → ⊥
      no_target differs port e =
          let (own, listed, ends) = input_channel running graph joins circuit is node port number e
          in
          let same : own ≡ channel = cc in
          differs (ap (λ (c : Channel). c.target.node) (sym same)
          ∙ ap (λ (end : End). end.node) ends)

      no_source : (channel.source.node ≡ node → ⊥) → (port : ℕ)
          → at_port (ports_at circuit.outputs node) port ≡ Some number → ⊥
      no_source differs port e =
          let (own, listed, ends) = output_channel running graph joins circuit is node port number e
          in
          let same : own ≡ channel = cc in
          differs (ap (λ (c : Channel). c.source.node) (sym same)
          ∙ ap (λ (end : End). end.node) ends)

      ring_moved : (target source : Bool) → eqb channel.target.node node ≡ target
          → eqb channel.source.node node ≡ source
          → ring_at after number
          ≡ extended (cond source (pushes channel.source.port) [])
          (shortened (cond target (pops channel.target.port) 0) ring)
      ring_moved true true e f =
          absurd (eqb-false channel.source.node node
          (at_target (eqb-true channel.target.node node e)) (eqb-true channel.source.node node f))
      ring_moved true false e f =
          moves.takes channel.target.port number
          (subst (λ (own : ℕ). at_port (ports_at circuit.inputs own) channel.target.port
          ≡ Some number) (eqb-true channel.target.node node e)
          (target_ring running graph joins circuit is number channel there))
          ∙ sym (extended_none (shortened (pops channel.target.port) ring))
      ring_moved false true e f =
          moves.gives channel.source.port number
          (subst (λ (own : ℕ). at_port (ports_at circuit.outputs own) channel.source.port
          ≡ Some number) (eqb-true channel.source.node node f)
          (source_ring running graph joins circuit is number channel there))
      ring_moved false false e f =
          moves.stays number (no_target (eqb-false channel.target.node node e))
          (no_source (eqb-false channel.source.node node f))
          ∙ sym (extended_none ring)

      -- the queue of a channel after a firing of a node
      pub queue_moved : (now : Queues) → (firing : ℕ)
          → moved node_meaning running node firing now.queues pushes channel.target.node
          channel.target.port
          ≡ drop (items_taken node (pops_at (running.code node) firing) channel)
          (now.queues channel.target.node channel.target.port) ++ items_pushed node pushes channel
      unfolding moved added
      queue_moved now firing =
          ap (λ (origin : Origin).
          drop (items_taken node (pops_at (running.code node) firing) channel)
          (now.queues channel.target.node channel.target.port) ++ added node pushes origin)
          (joins.origins number channel there)

      -- where the queue fits, the ring holds it
      pub ring_holds : (now : Queues) (firing size : ℕ)
          → pops ≡ pops_at (running.code node) firing
          → ring ≡ buffer (now.queues channel.target.node channel.target.port) size
          → length (moved node_meaning running node firing now.queues pushes channel.target.node
          channel.target.port) ≤ size
          → ring_at after number
          ≡ buffer (moved node_meaning running node firing now.queues pushes channel.target.node
          channel.target.port) size
      ring_holds now firing size rates held fits =
          let left = items_taken node pops channel in
          let more = items_pushed node pushes channel in
          let queue = now.queues channel.target.node channel.target.port in
          let own = ap (λ (rate : ℕ → ℕ). drop (items_taken node rate channel) queue ++ more) rates
          ∙ sym (queue_moved now firing) in
          ring_moved (eqb channel.target.node node) (eqb channel.source.node node) refl refl
          ∙ ap (λ (r : Ring). extended more (shortened left r)) held
          ∙ extended_all more (buffer (drop left queue) size)
          (subst (λ (l : List ℤ). length l ≤ size) (sym own) fits)
          ∙ ap (λ (l : List ℤ). buffer l size) own
