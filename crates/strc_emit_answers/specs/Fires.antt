-- The text of the function by which a node fires, and what it does.
use Rattle.std.specs.Prelude.{◌≡◌, ℕ, zero, suc, ◌+◌, ◌-◌, pos, Bool, List, [], ◌++◌, codes}
use Rattle.std.specs.Prelude.{decimal}
use Rattle.std.specs.Prelude.{Option, Some, None, Result, Ok, Err, if◌then◌else◌}
use Rattle.strc_lex_names.specs.Results.{result_and_then}
use Rattle.strc_elab_graph.specs.declared.graph.Node.{Node}
use Rattle.strc_elab_graph.specs.declared.graph.Node.TheVariants as nodes
use Rattle.strc_elab_graph.specs.NodeView.{node_view}
use Rattle.strc_emit_moves.specs.declared.places.Phase.{Phase}
use Rattle.strc_emit_moves.specs.declared.places.Phase.TheVariants as phase
use Rattle.strc_emit_moves.specs.Places.{taken_at, given_at, pointer_text}
use Rattle.strc_emit_passes.specs.Meaning.{moves_done}
use Rattle.strc_emit_passes.specs.Moves.{Move, moves_spelled}
use Rattle.strc_emit_passes.specs.Passing.{IsPassing}
use Rattle.strc_emit_bodies.specs.Spelling.{BodyFunction}
use Rattle.strc_emit_program.specs.Fires.{fire_name, fires_text, enter_text, first_enter}
use Rattle.strc_emit_program.specs.Fires.{number_text, source_text, target_text}
use Rattle.strc_emit_runs.specs.Running.{Program, Running, Halt, NoMeaning, around, memory_of}
use Rattle.strc_emit_runs.specs.Running.{work_done, body_done, passed_left, halted, firing_number}
use Rattle.strc_emit_runs.specs.Running.{first_source, first_target, call_done}
use Rattle.strc_emit_runs.specs.Works.{HasFilter}

-- what a turn of its loop does: a filter's work, or moves of items; before a work that may call
-- helper functions a statement says which firing it is
pub data Turn : Type 0 where
  Works : (enters : Bool) → Turn
  Passes : (moves : List Move) → Turn

-- the function: before the loop there may be a prework, which such a statement may precede
pub record FireFunction : Type 0 where
  pub prework : Option Bool
  pub turn : Turn

module _ (program : Program) (when : Phase) (node : ℕ) where
  -- its text
  abbrev pub turn_text : Turn → List ℕ
  turn_text (Works enters) =
      (if enters then enter_text program.network when node else [])
      ++ codes "        int cause = work" ++ decimal node ++ codes "("
      ++ pointer_text (taken_at program.network when node 0) ++ codes ", "
      ++ pointer_text (given_at program.network when node 0)
      ++ codes ");\n        if (cause != NO_FAULT) fault(cause, " ++ decimal node ++ codes ", "
      ++ number_text program.network when node ++ codes ");\n"
  turn_text (Passes moves) = moves_spelled moves

  abbrev pub first_spelled : Option Bool → List ℕ
  first_spelled None = []
  first_spelled (Some enters) =
      codes "    if (from == 0) {\n" ++ (if enters then first_enter node else [])
      ++ codes "        int cause = prework" ++ decimal node ++ codes "("
      ++ source_text (taken_at program.network phase.Startup node 0) ++ codes ", "
      ++ target_text program.network (given_at program.network phase.Startup node 0)
      ++ codes ");\n        if (cause != NO_FAULT) fault(cause, " ++ decimal node
      ++ codes ", 0);\n        from = 1;\n    }\n"

  abbrev pub function_spelled : FireFunction → List ℕ
  function_spelled function =
      codes "static void " ++ fire_name when ++ decimal node
      ++ codes "(int32_t from, int32_t to) {\n" ++ first_spelled function.prework
      ++ codes "    for (int32_t i = from; i < to; i++) {\n"
      ++ turn_text function.turn ++ codes "    }\n}\n"

  -- what it does
  abbrev pub turn_done : Turn → (i : ℕ) → Running → Result Running Halt
  turn_done (Works enters) i running =
      halted node (firing_number program when node i running.round)
      (work_done program when node (pos i) running)
  turn_done (Passes moves) i running =
      halted node (firing_number program when node i running.round)
      (result_and_then (moves_done (around program) (pos i) moves
      (record { memory = memory_of running node; taken = running.taken }))
      (λ passing. Ok (passed_left running node passing)))

  abbrev pub turns_done : Turn → (from count : ℕ) → Running → Result Running Halt
  turns_done turn from zero running = Ok running
  turns_done turn from (suc count) running =
      result_and_then (turn_done turn from running) (turns_done turn (from + 1) count)

  -- there is no meaning to a call of a prework that isn't there
  abbrev pub prework_called : Option BodyFunction → Running → Result Running Halt
  prework_called None running = Err NoMeaning
  prework_called (Some body) running = halted node 0 (body_done program node body
      (first_source program (taken_at program.network phase.Startup node 0))
      (first_target program (given_at program.network phase.Startup node 0)) running)

  abbrev pub loop_done : Option Bool → Option BodyFunction → Turn → (from count : ℕ) → Running
      → Result Running Halt
  loop_done None body turn from count running = turns_done turn from count running
  loop_done (Some enters) body turn zero count running =
      result_and_then (prework_called body running) (turns_done turn 1 (count - 1))
  loop_done (Some enters) body turn (suc from) count running =
      turns_done turn (suc from) count running

  abbrev pub function_done : FireFunction → (from count : ℕ) → Running → Result Running Halt
  function_done function from count running =
      loop_done function.prework (program.functions node).prework function.turn from count running

-- a node is a filter with its functions, or only passes items on
abbrev pub IsFired : Program → (node : ℕ) → Node → Type 0
IsFired program node (nodes.Filter instance) = HasFilter program node instance.code
IsFired program node code = IsPassing (node_view code)

-- the text of a node's function spells one that does, call by call, what the program does
abbrev pub SpellsFires : Program → Phase → (node : ℕ) → Node → Type 0
SpellsFires program when node code = (function : FireFunction)
    × (fires_text program.network when node code ≡ function_spelled program when node function)
    × ((from count : ℕ) (running : Running)
    → call_done program when node (Some (node_view code)) from count running
    ≡ function_done program when node function from count running)

abbrev pub FiresSpell : Type 0
FiresSpell =
    (program : Program) (when : Phase) (node : ℕ) (code : Node) → IsFired program node code
    → SpellsFires program when node code

-- the function of node 3, which passes nothing on
abbrev pub FireRow : Type 0
FireRow =
    (program : Program)
    → function_spelled program phase.Round 3 (record { prework = None; turn = Passes [] })
    ≡ codes "static void fire3(int32_t from, int32_t to) {\n"
    ++ codes "    for (int32_t i = from; i < to; i++) {\n    }\n}\n"
