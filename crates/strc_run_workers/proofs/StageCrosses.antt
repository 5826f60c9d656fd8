-- A stage may go to another thread.
-- Each type has a lemma of its own, since one search through all of them breaks off.
use denote.Param.Send.{IsSend, sendable}
use Rattle.std.proofs.Crossing as heap
use Rattle.std.proofs.alloc.Global.TheSendSync as global
use Rattle.std.specs.contracts.alloc.Global as Global
use Rattle.std.specs.contracts.impls.GlobalAllocator.TheImpl.{ghosts}
use denote.RattleType.{RattleType}
use Rattle.circular_buffer.proofs.Crosses.{Cells-send, Deed-send}
use Rattle.circular_buffer.specs.contracts.cells.Deed as Deed
use Rattle.strc_run_workers.proofs.CodeCrosses.{code_send}
use Rattle.strc_elab_graph.specs.contracts.instance.Instance as Instance
use Rattle.strc_elab_graph.specs.contracts.graph.Node as Node
use Rattle.strc_sched_rings.specs.contracts.circuit.Circuit as Circuit
use Rattle.strc_sched_machine.specs.contracts.batches.Order as Order
use Rattle.strc_work.specs.contracts.state.State as State
use Rattle.strc_work.specs.contracts.frame.Frame as Frame
use Rattle.strc_sched_machine.specs.contracts.actor.Actor as Actor
use Rattle.strc_sched_machine.specs.contracts.machine.Machine as Machine
use Rattle.strc_stage_steps.specs.contracts.stage.StageParts as StageParts
use Rattle.strc_stage_steps.specs.contracts.stage.Stage as Stage

instance_send : IsSend (Instance.the_field).row
instance_send = search (code_send, heap.crosses, sendable) depth 60 fits 20000

node_send : IsSend (Node.the_field).row
node_send = search (instance_send, heap.crosses, sendable) depth 60 fits 20000

circuit_send : IsSend (Circuit.the_field).row
circuit_send = search (node_send, heap.crosses, sendable) depth 60 fits 20000

order_send : IsSend (Order.the_field).row
order_send = search (heap.crosses, sendable) depth 60 fits 20000

state_send : IsSend (State.the_field).row
state_send = search (heap.crosses, sendable) depth 60 fits 20000

frame_send : IsSend (Frame.the_field).row
frame_send = search (heap.crosses, sendable) depth 60 fits 20000

actor_send : IsSend (Actor.the_field).row
actor_send = search (state_send, frame_send, heap.crosses, sendable) depth 60 fits 20000

-- at the heap, since `search` finds no allocator's ghost members in a row
deed_send : (R : RattleType) → IsSend (Deed.the_row R Global.the_row ghosts)
deed_send R = Deed-send R Global.the_row ghosts heap.frees

machine_send : IsSend (Machine.the_field).row
machine_send =
    search (actor_send, Cells-send, deed_send, global.the_send, heap.crosses, sendable)
    depth 60 fits 20000

parts_send : IsSend (StageParts.the_field).row
parts_send =
    search (circuit_send, order_send, machine_send, heap.crosses, sendable) depth 60 fits 20000

pub stage_send : IsSend Stage.the_row
stage_send = search (parts_send, heap.crosses, sendable) depth 60 fits 20000
