-- The text of helper functions.
use Rattle.std.specs.Prelude.{ℕ, zero, suc, ◌+◌, ◌==◌, List, [], ◌∷◌, ◌++◌, codes, decimal}
use Rattle.std.specs.Prelude.{if◌then◌else◌}
use Rattle.strc_work_code.specs.declared.helper.HelperCode.{HelperCode}
use Rattle.strc_emit_c.specs.declared.function.Function.{Function}
use Rattle.strc_emit_c.specs.Spelling.{helper_name, slot_text}
use Rattle.strc_emit_code.specs.Texts.{node_text}
use Rattle.strc_emit_text.specs.Texts.{texts_below}
use Rattle.strc_emit_filter.specs.Variables.{local_text}

-- a parameter, after what parts it from the one before
abbrev pub parameter_text : (at : ℕ) → List ℕ
parameter_text at = (if at == 0 then codes "int32_t a" else codes ", int32_t a") ++ decimal at

abbrev pub parameters_text : (count : ℕ) → List ℕ
parameters_text zero = codes "void"
parameters_text (suc count) = texts_below parameter_text (suc count)

-- `static int32_t helper3_0(int32_t a0, int32_t a1)`
abbrev pub head_text : (node number parameters : ℕ) → List ℕ
head_text node number parameters =
    codes "static int32_t " ++ helper_name node number ++ codes "(" ++ parameters_text parameters
    ++ codes ")"

abbrev pub declaration_text : Function → (number : ℕ) → HelperCode → List ℕ
declaration_text function number helper =
    head_text function.node number helper.parameters ++ codes ";\n"

-- what a call begins with
abbrev pub entry_text : List ℕ
entry_text =
    codes " {\n    if (depth >= CALL_LIMIT) leave(CALLS);\n"
    ++ codes "    if (turns >= TURN_LIMIT) leave(TURNS);\n"
    ++ codes "    turns = turns + 1;\n    depth = depth + 1;\n"
    ++ codes "    const int32_t *in = nothing;\n    int32_t *out = nothing;\n"
    ++ codes "    int32_t popped = 0, pushed = 0;\n"

-- an argument comes to its slot: the ones before are whether the call has returned, and its value
abbrev pub argument_text : Function → (at : ℕ) → List ℕ
argument_text function at =
    codes "    " ++ slot_text function (function.fields + 2 + at) ++ codes " = a" ++ decimal at
    ++ codes ";\n"

-- how a call ends
abbrev pub value_text : Function → List ℕ
value_text function =
    codes "    depth = depth - 1;\n    return " ++ slot_text function (function.fields + 1)
    ++ codes ";\n}\n"

abbrev pub definition_text : Function → (number : ℕ) → HelperCode → List ℕ
definition_text function number helper =
    head_text function.node number helper.parameters ++ entry_text
    ++ texts_below (local_text function) helper.slots
    ++ texts_below (argument_text function) helper.parameters
    ++ node_text function 1 helper.code ++ value_text function

-- those of all, where the first one has this number
abbrev pub declarations_from : Function → (number : ℕ) → List HelperCode → List ℕ
declarations_from function number [] = []
declarations_from function number (first ∷ rest) =
    declaration_text function number first ++ declarations_from function (number + 1) rest

abbrev pub definitions_from : Function → (number : ℕ) → List HelperCode → List ℕ
definitions_from function number [] = []
definitions_from function number (first ∷ rest) =
    definition_text function number first ++ definitions_from function (number + 1) rest

abbrev pub helpers_text : Function → List HelperCode → List ℕ
helpers_text function helpers =
    declarations_from function 0 helpers ++ definitions_from function 0 helpers
