-- The text of C, by the code that it is the C of.
use Rattle.std.proofs.Common.{◌≡◌, ◌∙◌, ap, refl, sym, ℕ, List, [], ◌∷◌, ◌++◌, append_assoc}
use Rattle.std.proofs.Common.{append-nil}
use Rattle.strc_work_code.specs.declared.inst.Inst.{Inst}
use Rattle.strc_work_code.specs.Links.{place_of}
use Rattle.strc_work_code.specs.Nodes.{Nodes, End, Act, Choice, Loop, Call, before}
use Rattle.strc_work_code.specs.Code.{insts_before}
use Rattle.strc_emit_c.specs.declared.function.Function.{Function}
use Rattle.strc_emit_c.specs.C as c
use Rattle.strc_emit_c.specs.Spelling.{line_text, lines_text, statements_text, choice_text}
use Rattle.strc_emit_c.specs.Spelling.{loop_text, deeper}
use Rattle.strc_emit_code.specs.Emitted.{inst_lines, turn_lines, call_line, emitted}
use Rattle.strc_emit_code.specs.Texts.{insts_text}
use Rattle.strc_emit_code.proofs.Lines.{spelled_lines}

-- the text of code
abbrev pub code_text : Function → (depth : ℕ) → Nodes → List ℕ
code_text function depth code = statements_text function depth (emitted function code)

-- the first line apart from those after it
pub first_line : (function : Function) (depth : ℕ) (first : c.Statement) (rest : List c.Statement)
    → lines_text function depth (first ∷ rest)
    ≡ line_text function depth first ++ lines_text function depth rest
first_line function depth first [] = sym (append-nil (line_text function depth first))
first_line function depth first (second ∷ rest) = refl

-- lines before other statements
pub lines_first : (function : Function) (depth : ℕ) (lines : List c.Statement)
    (rest : c.Statements) → statements_text function depth (c.lines_before lines rest)
    ≡ lines_text function depth lines ++ statements_text function depth rest
lines_first function depth [] rest = refl
lines_first function depth (first ∷ others) rest =
    ap (λ (l : List ℕ). line_text function depth first ++ l)
    (lines_first function depth others rest)
    ∙ sym (append_assoc (line_text function depth first) (lines_text function depth others)
    (statements_text function depth rest))
    ∙ ap (λ (l : List ℕ). l ++ statements_text function depth rest)
    (sym (first_line function depth first others))

-- a piece before a text that is two
apart : (piece both one other : List ℕ) → both ≡ one ++ other
    → piece ++ both ≡ (piece ++ one) ++ other
apart piece both one other are =
    ap (λ (l : List ℕ). piece ++ l) are ∙ sym (append_assoc piece one other)

-- code after other code
pub code_text-before : (function : Function) (depth : ℕ) (a b : Nodes)
    → code_text function depth (before a b)
    ≡ code_text function depth a ++ code_text function depth b
code_text-before function depth End b = refl
code_text-before function depth (Act inst rest) b =
    let lines = inst_lines function inst in
    lines_first function depth lines (emitted function (before rest b))
    ∙ apart (lines_text function depth lines) (code_text function depth (before rest b))
    (code_text function depth rest) (code_text function depth b)
    (code_text-before function depth rest b)
    ∙ ap (λ (l : List ℕ). l ++ code_text function depth b)
    (sym (lines_first function depth lines (emitted function rest)))
code_text-before function depth (Choice slot chosen other rest) b =
    apart (choice_text function depth slot (code_text function (deeper depth) chosen)
    (code_text function (deeper depth) other)) (code_text function depth (before rest b))
    (code_text function depth rest) (code_text function depth b)
    (code_text-before function depth rest b)
code_text-before function depth (Loop condition slot body rest) b =
    apart (loop_text function depth slot (code_text function (deeper depth) condition)
    (statements_text function (deeper depth)
    (c.lines_before turn_lines (emitted function body))))
    (code_text function depth (before rest b)) (code_text function depth rest)
    (code_text function depth b) (code_text-before function depth rest b)
code_text-before function depth (Call name first count into rest) b =
    apart (line_text function depth
    (call_line (place_of function.helpers name) first count into))
    (code_text function depth (before rest b)) (code_text function depth rest)
    (code_text function depth b) (code_text-before function depth rest b)

-- instructions before other code
pub insts_first : (function : Function) (depth : ℕ) (insts : List Inst) (rest : Nodes)
    → code_text function depth (insts_before insts rest)
    ≡ insts_text function depth insts ++ code_text function depth rest
insts_first function depth [] rest = refl
insts_first function depth (first ∷ others) rest =
    let lines = inst_lines function first in
    ap (statements_text function depth) (spelled_lines function first (insts_before others rest))
    ∙ lines_first function depth lines (emitted function (insts_before others rest))
    ∙ apart (lines_text function depth lines)
    (code_text function depth (insts_before others rest)) (insts_text function depth others)
    (code_text function depth rest) (insts_first function depth others rest)
