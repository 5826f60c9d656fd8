-- The text of nodes.
use Rattle.std.proofs.Common.{◌≡◌, ◌∙◌, ap, refl, sym, ℕ, List, [], ◌∷◌, ◌++◌, append_assoc}
use Rattle.std.proofs.Common.{append-nil, Vec, Box, Global, Result}
use Rattle.std.specs.Prelude.{OnOk}
use Rattle.std.specs.Box.{box_value}
use Rattle.strc_work_code.specs.declared.inst.Inst.{Inst}
use Rattle.strc_work_code.specs.declared.call.Call.{Call}
use Rattle.strc_work_code.specs.declared.condition.Condition.{Condition}
use Rattle.strc_work_code.specs.declared.node.Node.{Node, Seq, If, While}
use Rattle.strc_work_code.specs.declared.node.Node.TheVariants as node
use Rattle.strc_work_code.specs.Comparisons.{slot_of}
use Rattle.strc_work_code.specs.Conditions.{tested}
use Rattle.strc_work_code.specs.Nodes.{End, Choice, before}
use Rattle.strc_work_code.specs.Code.{code_of, block_before}
use Rattle.strc_work_code.proofs.Nodes.{code_of-Seq, node_before-splits}
use Rattle.strc_emit_c.specs.declared.function.Function.{Function}
use Rattle.strc_emit_c.specs.C as c
use Rattle.strc_emit_c.specs.Spelling.{lines_text, statements_text, choice_text}
use Rattle.strc_emit_c.specs.Spelling.{loop_text, loop_line, break_line, end_line, deeper}
use Rattle.strc_emit_c.proofs.Pushing.{both, last}
use Rattle.strc_emit_code.specs.Emitted.{condition_lines, turn_lines, emitted}
use Rattle.strc_emit_code.specs.Texts.{node_text, nodes_text, insts_text, test_text, line_of}
use Rattle.strc_emit_code.proofs.Lines.{tested_lines}
use Rattle.strc_emit_code.proofs.Texts.{code_text, lines_first, code_text-before, insts_first}

-- nodes one after another
block_text : (function : Function) (depth : ℕ) (nodes : List Node)
    → code_text function depth (block_before nodes End) ≡ nodes_text function depth nodes
unfolding node_text
block_text function depth [] = refl
block_text function depth (first ∷ rest) =
    ap (code_text function depth) (node_before-splits first (block_before rest End))
    ∙ code_text-before function depth (code_of first) (block_before rest End)
    ∙ ap (λ (l : List ℕ). node_text function depth first ++ l) (block_text function depth rest)

pub seq_text : (function : Function) (depth : ℕ) (n : Node) (body : Vec Node Global)
    (items : List Node) → n ≡ Seq body → items ≡ body.items
    → nodes_text function depth items ≡ node_text function depth n
unfolding node_text
seq_text function depth n body items is same =
    ap (nodes_text function depth) same ∙ sym (ap (λ m. code_text function depth (code_of m)) is
    ∙ ap (code_text function depth) (code_of-Seq body) ∙ block_text function depth body.items)

-- a block of instructions
pub insts_alone : (function : Function) (depth : ℕ) (n : Node) (insts : Vec Inst Global)
    (items : List Inst) → n ≡ node.BasicBlock insts → items ≡ insts.items
    → insts_text function depth items ≡ node_text function depth n
unfolding node_text
insts_alone function depth n insts items is same =
    ap (insts_text function depth) same ∙ sym (ap (λ m. code_text function depth (code_of m)) is
    ∙ insts_first function depth insts.items End
    ∙ append-nil (insts_text function depth insts.items))

-- a choice
pub if_text : (function : Function) (depth : ℕ) (n : Node) (condition : Condition)
    (chosen other : Box Node Global) → n ≡ If condition chosen other
    → node_text function depth n ≡ lines_text function depth (condition_lines condition)
    ++ choice_text function depth (slot_of condition)
    (node_text function (deeper depth) (box_value chosen))
    (node_text function (deeper depth) (box_value other))
unfolding node_text
if_text function depth n condition chosen other is =
    let choice = Choice (slot_of condition) (code_of (box_value chosen))
    (code_of (box_value other)) End in
    ap (λ m. code_text function depth (code_of m)) is
    ∙ ap (statements_text function depth) (tested_lines function condition choice)
    ∙ lines_first function depth (condition_lines condition) (emitted function choice)
    ∙ ap (λ (l : List ℕ). lines_text function depth (condition_lines condition) ++ l)
    (append-nil (choice_text function depth (slot_of condition)
    (node_text function (deeper depth) (box_value chosen))
    (node_text function (deeper depth) (box_value other))))

-- pieces of a loop, put together in two ways
loop_pieces : (l f t b u y e : List ℕ)
    → (((l ++ (f ++ t)) ++ b) ++ (u ++ y)) ++ e ≡ (((l ++ f) ++ ((t ++ b) ++ u)) ++ y) ++ e
loop_pieces l f t b u y e =
    ap (λ (r : List ℕ). ((r ++ b) ++ (u ++ y)) ++ e) (sym (append_assoc l f t))
    ∙ ap (λ (r : List ℕ). (r ++ (u ++ y)) ++ e) (append_assoc (l ++ f) t b)
    ∙ ap (λ (r : List ℕ). r ++ e) (sym (append_assoc ((l ++ f) ++ (t ++ b)) u y))
    ∙ ap (λ (r : List ℕ). (r ++ y) ++ e) (append_assoc (l ++ f) (t ++ b) u)

-- a loop
pub while_text : (function : Function) (depth : ℕ) (n : Node) (first : Box Node Global)
    (condition : Condition) (body : Box Node Global) (mark : ℕ)
    → n ≡ While first condition body mark
    → node_text function depth n
    ≡ (((loop_line depth ++ node_text function (deeper depth) (box_value first))
    ++ test_text function (deeper depth) condition)
    ++ node_text function (deeper depth) (box_value body)) ++ end_line depth
unfolding node_text
while_text function depth n first condition body mark is =
    let inner = deeper depth in
    let before_test = node_text function inner (box_value first) in
    let lines = lines_text function inner (condition_lines condition) in
    let turn = lines_text function inner turn_lines in
    let inside = node_text function inner (box_value body) in
    let tests : code_text function inner (before (code_of (box_value first))
    (tested condition End)) ≡ before_test ++ lines =
    code_text-before function inner (code_of (box_value first)) (tested condition End)
    ∙ ap (λ (l : List ℕ). before_test ++ l)
    (ap (statements_text function inner) (tested_lines function condition End)
    ∙ lines_first function inner (condition_lines condition) c.End ∙ append-nil lines) in
    let turns : statements_text function inner (c.lines_before turn_lines
    (emitted function (code_of (box_value body)))) ≡ turn ++ inside =
    lines_first function inner turn_lines (emitted function (code_of (box_value body))) in
    ap (λ m. code_text function depth (code_of m)) is
    ∙ append-nil (loop_text function depth (slot_of condition)
    (code_text function inner (before (code_of (box_value first)) (tested condition End)))
    (statements_text function inner (c.lines_before turn_lines
    (emitted function (code_of (box_value body))))))
    ∙ ap (λ (l : List ℕ). loop_text function depth (slot_of condition) l
    (statements_text function inner (c.lines_before turn_lines
    (emitted function (code_of (box_value body)))))) tests
    ∙ ap (loop_text function depth (slot_of condition) (before_test ++ lines)) turns
    ∙ loop_pieces (loop_line depth) before_test lines
    (break_line function inner (slot_of condition)) turn inside (end_line depth)

-- a call
pub called_text : (function : Function) (depth : ℕ) (n : Node) (call : Call) → n ≡ node.Call call
    → line_of function depth call ≡ node_text function depth n
unfolding node_text
called_text function depth n call is =
    sym (ap (λ m. code_text function depth (code_of m)) is
    ∙ append-nil (line_of function depth call))

-- a piece that is added is another one
pub as_piece : (start after piece other : List ℕ) → after ≡ start ++ piece → piece ≡ other
    → after ≡ start ++ other
as_piece start after piece other added same = added ∙ ap (λ (l : List ℕ). start ++ l) same

-- the text of a node, under another name and so deep
pub node_at : (function : Function) (depth deep : ℕ) (n m : Node) → depth ≡ deep → n ≡ m
    → node_text function depth n ≡ node_text function deep m
node_at function depth deep n m one other =
    ap (λ k. node_text function k n) one ∙ ap (node_text function deep) other

-- five pieces
pub last_of_five : {E : Type 0} (result : Result (Unit {0}) E)
    (start one two three four five a b x d e : List ℕ) → one ≡ start ++ a → two ≡ one ++ b
    → three ≡ two ++ x → four ≡ three ++ d → OnOk result (five ≡ four ++ e)
    → OnOk result (five ≡ start ++ ((((a ++ b) ++ x) ++ d) ++ e))
last_of_five result start one two three four five a b x d e first second third fourth fifth =
    last result start four five (((a ++ b) ++ x) ++ d) e
    (both start three four ((a ++ b) ++ x) d
    (both start two three (a ++ b) x (both start one two a b first second) third) fourth) fifth
