-- The text of the C of lowered code.
use Rattle.std.specs.Prelude.{ℕ, List, [], ◌∷◌, ◌++◌}
use Rattle.strc_work_code.specs.declared.inst.Inst.{Inst}
use Rattle.strc_work_code.specs.declared.node.Node.{Node}
use Rattle.strc_work_code.specs.declared.condition.Condition.{Condition}
use Rattle.strc_work_code.specs.Code.{code_of}
use Rattle.strc_work_code.specs.Comparisons.{slot_of}
use Rattle.strc_work_code.specs.Links.{place_of}
use Rattle.strc_work_code.specs.declared.call.Call.{Call}
use Rattle.strc_emit_c.specs.declared.function.Function.{Function}
use Rattle.strc_emit_c.specs.Spelling.{line_text, lines_text, statements_text}
use Rattle.strc_emit_c.specs.Spelling.{break_line}
use Rattle.strc_emit_code.specs.Emitted.{inst_lines, condition_lines, turn_lines, call_line}
use Rattle.strc_emit_code.specs.Emitted.{emitted}

-- the text of a node
unfoldable pub node_text : Function → (depth : ℕ) → Node → List ℕ
node_text function depth node = statements_text function depth (emitted function (code_of node))

-- nodes one after another
abbrev pub nodes_text : Function → (depth : ℕ) → List Node → List ℕ
nodes_text function depth [] = []
nodes_text function depth (first ∷ rest) =
    node_text function depth first ++ nodes_text function depth rest

-- instructions one after another
abbrev pub insts_text : Function → (depth : ℕ) → List Inst → List ℕ
insts_text function depth [] = []
insts_text function depth (first ∷ rest) =
    lines_text function depth (inst_lines function first) ++ insts_text function depth rest

-- what a loop tests, how it ends, and one more turn
abbrev pub test_text : Function → (depth : ℕ) → Condition → List ℕ
test_text function depth condition =
    lines_text function depth (condition_lines condition)
    ++ break_line function depth (slot_of condition) ++ lines_text function depth turn_lines

-- the line of a call
abbrev pub line_of : Function → (depth : ℕ) → Call → List ℕ
line_of function depth call = line_text function depth
    (call_line (place_of function.helpers call.name) call.first call.count call.into)
