-- The C of lowered code does what the code does.
use Rattle.std.specs.Prelude.{ℕ, ◌<◌, ◌≤◌, Bool, List}
use Rattle.strc_work_meaning.specs.Firing.{Setting, turn_limit}
use Rattle.strc_work_code.specs.Machine.{Machine}
use Rattle.strc_work_code.specs.Nodes.{Nodes, nodes_done, nodes_room}
use Rattle.strc_emit_c.specs.declared.function.Function.{Function}
use Rattle.strc_emit_c.specs.C.{Depth}
use Rattle.strc_emit_c.specs.Meaning.{Counted, Memory, Standing, Calls, statements_done}
use Rattle.strc_emit_code.specs.Emitted.{emitted}
use Rattle.strc_emit_meaning.specs.Refinement.{Refines}
use Rattle.strc_emit_meaning.specs.Plain.{IsPlain}
use Rattle.strc_emit_meaning.specs.Showing.{Stands, Shows, CallsDoTheSame}

-- from a memory that shows the machine, the C of plain code comes to one that shows the machine
-- after the code, or to the same fault; it is never undefined, and its loops need no more turns
-- than a firing may make
abbrev pub CodesDoTheSame : Type 0
CodesDoTheSame =
    (known : List ℕ → ℕ → Bool) (function : Function) (setting : Setting) (stand : Standing)
    (start : Memory) (size fuel : ℕ) (calls : Calls)
    → Stands function setting stand start size → turn_limit < fuel
    → CallsDoTheSame known function.helpers setting.call stand.node stand.fields
    (start.cells (Counted Depth)) calls
    → (code : Nodes) → IsPlain known code → nodes_room code ≤ size
    → (lower : ℕ) (machine : Machine) (memory : Memory)
    → Shows stand setting.port start size lower machine memory
    → Refines (Shows stand setting.port start size lower) (nodes_done setting code machine)
    (statements_done fuel calls stand (emitted function code) memory)
