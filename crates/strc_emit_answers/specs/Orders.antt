-- The text of an order, as functions of C, and what these do.
use Rattle.std.specs.Prelude.{◌≡◌, ℕ, zero, suc, ◌-◌, List, [], ◌∷◌, ◌++◌, length, codes, decimal}
use Rattle.std.specs.Prelude.{Result, Ok}
use Rattle.strc_lex_names.specs.Results.{result_and_then}
use Rattle.strc_sched_orders.specs.declared.unit as units
use Rattle.strc_emit_text.specs.Texts.{texts_below}
use Rattle.strc_emit_moves.specs.declared.places.Phase.{Phase}
use Rattle.strc_emit_moves.specs.declared.places.Phase.TheVariants as phase
use Rattle.strc_emit_program.specs.declared.orders.Call.{Call}
use Rattle.strc_emit_program.specs.Orders.{call_text, move_text, order_name, order_text, part_call}
use Rattle.strc_emit_runs.specs.Running.{Program, Running, Halt, call_done, code_at, slide_done}
use Rattle.strc_emit_runs.specs.Running.{order_done}
use Rattle.strc_emit_plans.specs.Calls.{calls_made}

-- a statement of an order: the call of a node's function, or the move of what is left in a channel
pub data Statement : Type 0 where
  Fires : (call : Call) → Statement
  Slides : (channel gone left : ℕ) → Statement

abbrev pub statement_text : Phase → Statement → List ℕ
statement_text when (Fires call) = call_text when call
statement_text when (Slides channel gone left) = move_text channel gone left

abbrev pub statements_text : Phase → List Statement → List ℕ
statements_text when [] = []
statements_text when (first ∷ rest) = statement_text when first ++ statements_text when rest

-- what it does
abbrev pub statement_done : Program → Phase → Statement → Running → Result Running Halt
statement_done program when (Fires call) running =
    call_done program when call.node (code_at program call.node) call.from (call.to - call.from)
    running
statement_done program when (Slides channel gone left) running =
    slide_done program channel gone left running

abbrev pub statements_done : Program → Phase → List Statement → Running → Result Running Halt
statements_done program when [] running = Ok running
statements_done program when (first ∷ rest) running =
    result_and_then (statement_done program when first running) (statements_done program when rest)

-- an order's functions: so many parts, and one that calls them in order and then does the rest
pub record OrderFunctions : Type 0 where
  pub count : ℕ
  pub parts : (number : ℕ) → List Statement
  pub rest : List Statement

-- their text
abbrev pub part_spelled : Phase → OrderFunctions → (number : ℕ) → List ℕ
part_spelled when functions number =
    codes "\nstatic APART void " ++ order_name when ++ codes "_part" ++ decimal number
    ++ codes "(void) {\n" ++ statements_text when (functions.parts number) ++ codes "}\n"

abbrev pub order_spelled : Phase → OrderFunctions → List ℕ
order_spelled when functions =
    texts_below (part_spelled when functions) functions.count ++ codes "\nstatic void "
    ++ order_name when ++ codes "(void) {\n" ++ texts_below (part_call when) functions.count
    ++ statements_text when functions.rest ++ codes "}\n"

-- what a call of the last one does
abbrev pub parts_done : Program → Phase → OrderFunctions → (count : ℕ) → Running
    → Result Running Halt
parts_done program when functions zero running = Ok running
parts_done program when functions (suc count) running =
    result_and_then (parts_done program when functions count running)
    (statements_done program when (functions.parts count))

abbrev pub functions_done : Program → Phase → OrderFunctions → Running → Result Running Halt
functions_done program when functions running =
    result_and_then (parts_done program when functions functions.count running)
    (statements_done program when functions.rest)

-- the text of an order spells functions that do what the program does in it
abbrev pub SpellsOrder : Program → Phase → List units.Unit.Unit → Type 0
SpellsOrder program when order = (functions : OrderFunctions)
    × (order_text program.network when (length program.network.nodes.now) order
    ≡ order_spelled when functions)
    × ((running : Running) → order_done program when (calls_made program order) running
    ≡ functions_done program when functions running)

-- so does that of any order
abbrev pub OrdersSpell : Type 0
OrdersSpell =
    (program : Program) (when : Phase) (order : List units.Unit.Unit)
    → SpellsOrder program when order

-- two firings of node 3, and the move of the 2 items that are left in channel 5 behind 3
abbrev pub OrderRow : Type 0
OrderRow = order_spelled phase.Round (record {
  count = 1;
  parts = λ number. Fires (record { node = 3; from = 0; to = 2 }) ∷ [];
  rest = Slides 5 3 2 ∷ [];
})
    ≡ codes "\nstatic APART void one_round_part0(void) {\n    fire3(0, 2);\n}\n"
    ++ codes "\nstatic void one_round(void) {\n    one_round_part0();\n    slide(c5, 3, 2);\n}\n"
