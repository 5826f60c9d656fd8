-- The C of plain code does what the code does.
use Rattle.std.proofs.Common.{ℕ, suc, ◌<◌, ◌≤◌, Bool, true, false, List, Result}
use Rattle.std.proofs.Common.{sym, subst, arith}
use Rattle.strc_lex_names.specs.Results.{result_and_then}
use Rattle.strc_work_meaning.specs.Arithmetic.{is_true}
use Rattle.strc_work_meaning.specs.declared.fault.Cause.{Cause}
use Rattle.strc_work_meaning.specs.Firing.{Setting, turn_limit}
use Rattle.strc_work_code.specs.Machine.{Machine, slot_value, inst_done}
use Rattle.strc_work_code.specs.Links.{place_of}
use Rattle.strc_work_code.specs.Nodes.{Nodes, End, Act, Choice, Loop, Call, chosen_by, cycled}
use Rattle.strc_work_code.specs.Nodes.{call_made, nodes_done, nodes_room}
use Rattle.strc_emit_c.specs.declared.function.Function.{Function}
use Rattle.strc_emit_c.specs.C as c
use Rattle.strc_emit_c.specs.Meaning.{Counted, Memory, Stop, Standing, Calls, slot_cell, chosen_of}
use Rattle.strc_emit_c.specs.Meaning.{loop_done, statement_done, statements_done}
use Rattle.strc_emit_code.specs.Emitted.{emitted, inst_lines, turn_lines, call_line}
use Rattle.strc_emit_meaning.specs.Refinement.{Refines, lines_done}
use Rattle.strc_emit_meaning.specs.Plain.{IsPlain}
use Rattle.strc_emit_meaning.specs.Showing.{Stands, Shows, CallsDoTheSame}
use Rattle.strc_emit_meaning.specs.Codes.{CodesDoTheSame}
use Rattle.strc_emit_meaning.proofs.Outcomes.{refines_as, refines_then, lines_before_done}
use Rattle.strc_emit_meaning.proofs.Instructions.{inst_does}
use Rattle.strc_emit_meaning.proofs.Loops.{loop_does}
use Rattle.strc_emit_meaning.proofs.CallRuns.{call_does}

-- one of two
chosen_does : (Shown : Machine → Memory → Type 0) (b : Bool)
    (f g : Machine → Result Machine Cause) (f' g' : Memory → Result Memory Stop)
    (machine : Machine) (memory : Memory) → Refines Shown (f machine) (f' memory)
    → Refines Shown (g machine) (g' memory)
    → Refines Shown (chosen_by b f g machine) (chosen_of b f' g' memory)
chosen_does Shown true f g f' g' machine memory first second = first
chosen_does Shown false f g f' g' machine memory first second = second

module _ (known : List ℕ → ℕ → Bool) (function : Function) (setting : Setting) (stand : Standing)
    (start : Memory) (size fuel : ℕ) (calls : Calls)
    (stands : Stands function setting stand start size) (enough : turn_limit < fuel)
    (same : CallsDoTheSame known function.helpers setting.call stand.node stand.fields
    (start.cells (Counted c.Depth)) calls) where
  abbrev Shown : ℕ → Machine → Memory → Type 0
  Shown lower machine memory = Shows stand setting.port start size lower machine memory

  abbrev run : Nodes → Memory → Result Memory Stop
  run code memory = statements_done fuel calls stand (emitted function code) memory

  codes_do : (code : Nodes) → IsPlain known code → nodes_room code ≤ size → (lower : ℕ)
      (machine : Machine) (memory : Memory) → Shown lower machine memory
      → Refines (Shown lower) (nodes_done setting code machine) (run code memory)
  codes_do End plain room lower machine memory shows = shows
  codes_do (Act inst rest) plain room lower machine memory shows =
      let lines = lines_done calls stand (inst_lines function inst) memory in
      refines_as (Shown lower) (nodes_done setting (Act inst rest) machine)
      (run (Act inst rest) memory) (result_and_then lines (run rest))
      (lines_before_done fuel calls stand (inst_lines function inst) (emitted function rest)
      memory)
      (refines_then (Shown lower) (Shown lower) (inst_done setting.port inst machine) lines
      (nodes_done setting rest) (run rest)
      (inst_does function setting stand start size calls stands lower inst machine memory plain.0
      (omega arith) shows)
      (λ m c s. codes_do rest plain.1 (omega arith) lower m c s))
  codes_do (Choice slot chosen other rest) plain room lower machine memory shows =
      let test = is_true (slot_value machine slot) in
      refines_then (Shown lower) (Shown lower)
      (chosen_by test (nodes_done setting chosen) (nodes_done setting other) machine)
      (chosen_of (is_true (memory.cells (slot_cell stand slot))) (run chosen) (run other) memory)
      (nodes_done setting rest) (run rest)
      (subst (λ v. Refines (Shown lower)
      (chosen_by test (nodes_done setting chosen) (nodes_done setting other) machine)
      (chosen_of (is_true v) (run chosen) (run other) memory))
      (sym (shows.slots slot (omega arith)))
      (chosen_does (Shown lower) test (nodes_done setting chosen)
      (nodes_done setting other) (run chosen) (run other) machine memory
      (codes_do chosen plain.0 (omega arith) lower machine memory shows)
      (codes_do other plain.1 (omega arith) lower machine memory shows)))
      (λ m c s. codes_do rest plain.2 (omega arith) lower m c s)
  codes_do (Loop condition slot body rest) plain room lower machine memory shows =
      let turning : Memory → Result Memory Stop = statements_done fuel calls stand
      (c.lines_before turn_lines (emitted function body)) in
      refines_then (Shown lower) (Shown lower)
      (cycled (suc turn_limit) (nodes_done setting condition) slot (nodes_done setting body)
      machine)
      (loop_done fuel (run condition) (slot_cell stand slot) turning memory)
      (nodes_done setting rest) (run rest)
      (loop_does stand setting.port start size calls (nodes_done setting condition)
      (nodes_done setting body) (run condition) (run body) turning slot (omega arith)
      (λ l m c s. codes_do condition plain.0 (omega arith) l m c s)
      (λ l m c s. codes_do body plain.1 (omega arith) l m c s)
      (λ after. lines_before_done fuel calls stand turn_lines (emitted function body) after)
      (suc turn_limit) fuel lower machine memory (omega arith) (omega (arith, enough)) shows)
      (λ m c s. codes_do rest plain.2 (omega arith) lower m c s)
  codes_do (Call name first count into rest) plain room lower machine memory shows =
      refines_then (Shown lower) (Shown lower)
      (call_made setting name first count into machine)
      (statement_done calls stand (call_line (place_of function.helpers name) first count into)
      memory)
      (nodes_done setting rest) (run rest)
      (call_does known function setting stand start size calls stands same lower name first count
      into machine memory plain.0 (omega arith) (omega arith) shows)
      (λ m c s. codes_do rest plain.1 (omega arith) lower m c s)

pub codes_do_same : CodesDoTheSame
codes_do_same known function setting stand start size fuel calls stands enough same code plain
    room lower machine memory shows =
    codes_do known function setting stand start size fuel calls stands enough same code plain room
    lower machine memory shows
