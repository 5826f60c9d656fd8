-- What holds of each array that code works on, by the parts of the code.
use Rattle.std.proofs.Common.{◌≡◌, ℕ, ◌+◌, ◌≤◌, List, [], ◌∷◌, Vec, Box, Global, refl, sym, subst}
use Rattle.std.proofs.Common.{arith}
use Rattle.std.specs.Box.{box_value}
use Rattle.std.specs.List.{All}
use Rattle.std.proofs.lemmas.List.Elements.{All-head, All-tail}
use Rattle.strc_work_code.specs.declared.condition.Condition.{Condition}
use Rattle.strc_work_code.specs.declared.condition.Condition.TheVariants as test
use Rattle.strc_work_code.specs.declared.call.Call.{Call}
use Rattle.strc_work_code.specs.declared.inst.Inst.{Inst}
use Rattle.strc_work_code.specs.declared.inst.Inst.TheVariants as act
use Rattle.strc_work_code.specs.declared.node.Node.{Node, Seq, If, While}
use Rattle.strc_work_code.specs.declared.node.Node.TheVariants as node
use Rattle.strc_work_code.specs.Code.{block_before, code_of, insts_before, spelled}
use Rattle.strc_work_code.specs.Comparisons.{slot_of}
use Rattle.strc_work_code.specs.Conditions.{tested}
use Rattle.strc_work_code.specs.Machine.{inst_room}
use Rattle.strc_work_code.specs.Nodes.{Nodes, End, Act, Choice, Loop, Call as Calling, before}
use Rattle.strc_work_code.specs.Nodes.{nodes_room}
use Rattle.strc_work_code.proofs.Nodes.{code_of-Seq, node_before-splits}
use Rattle.strc_emit_filter.specs.Arrays.{OfCode, OfInst, Raised, Reaches}
use Rattle.strc_emit_filter.proofs.Ends.{reaches_on}

-- what follows from it
pub of_inst_weaker : (Is Also : (base count : ℕ) → Type 0)
    → ((base count : ℕ) → Is base count → Also base count)
    → (inst : Inst) → OfInst Is inst → OfInst Also inst
of_inst_weaker Is Also so (act.Load into base count index mark) is = so base count is
of_inst_weaker Is Also so (act.Store base count index from mark) is = so base count is
of_inst_weaker Is Also so (act.Clear base count) is = so base count is
of_inst_weaker Is Also so inst is = tt

pub of_code_weaker : (Is Also : (base count : ℕ) → Type 0)
    → ((base count : ℕ) → Is base count → Also base count)
    → (code : Nodes) → OfCode Is code → OfCode Also code
of_code_weaker Is Also so End is = tt
of_code_weaker Is Also so (Act inst rest) is =
    (of_inst_weaker Is Also so inst is.0, of_code_weaker Is Also so rest is.1)
of_code_weaker Is Also so (Choice slot chosen other rest) is = (
  of_code_weaker Is Also so chosen is.0,
  of_code_weaker Is Also so other is.1,
  of_code_weaker Is Also so rest is.2,
)
of_code_weaker Is Also so (Loop condition slot body rest) is = (
  of_code_weaker Is Also so condition is.0,
  of_code_weaker Is Also so body is.1,
  of_code_weaker Is Also so rest is.2,
)
of_code_weaker Is Also so (Calling name first count into rest) is =
    of_code_weaker Is Also so rest is

-- what holds of each array, and that it is within so many slots
of_inst_within : (Is : (base count : ℕ) → Type 0) (slots : ℕ) (inst : Inst)
    → inst_room inst ≤ slots → OfInst Is inst
    → OfInst (λ base count. (base + count ≤ slots) × Is base count) inst
of_inst_within Is slots (act.Load into base count index mark) fits is = (omega arith, is)
of_inst_within Is slots (act.Store base count index from mark) fits is = (omega arith, is)
of_inst_within Is slots (act.Clear base count) fits is = (fits, is)
of_inst_within Is slots inst fits is = tt

pub of_code_within : (Is : (base count : ℕ) → Type 0) (slots : ℕ) (code : Nodes)
    → nodes_room code ≤ slots → OfCode Is code
    → OfCode (λ base count. (base + count ≤ slots) × Is base count) code
of_code_within Is slots End fits is = tt
of_code_within Is slots (Act inst rest) fits is = (
  of_inst_within Is slots inst (omega arith) is.0,
  of_code_within Is slots rest (omega arith) is.1,
)
of_code_within Is slots (Choice slot chosen other rest) fits is = (
  of_code_within Is slots chosen (omega arith) is.0,
  of_code_within Is slots other (omega arith) is.1,
  of_code_within Is slots rest (omega arith) is.2,
)
of_code_within Is slots (Loop condition slot body rest) fits is = (
  of_code_within Is slots condition (omega arith) is.0,
  of_code_within Is slots body (omega arith) is.1,
  of_code_within Is slots rest (omega arith) is.2,
)
of_code_within Is slots (Calling name first count into rest) fits is =
    of_code_within Is slots rest (omega arith) is

-- code after other code
pub of_code-before : (Is : (base count : ℕ) → Type 0) (code after : Nodes) → OfCode Is code
    → OfCode Is after → OfCode Is (before code after)
of_code-before Is End after is also = also
of_code-before Is (Act inst rest) after is also = (is.0, of_code-before Is rest after is.1 also)
of_code-before Is (Choice slot chosen other rest) after is also =
    (is.0, is.1, of_code-before Is rest after is.2 also)
of_code-before Is (Loop condition slot body rest) after is also =
    (is.0, is.1, of_code-before Is rest after is.2 also)
of_code-before Is (Calling name first count into rest) after is also =
    of_code-before Is rest after is also

-- an instruction and a condition before other code
of_spelled : (Is : (base count : ℕ) → Type 0) (inst : Inst) (last : Nodes) → OfInst Is inst
    → OfCode Is last → OfCode Is (spelled inst last)
of_spelled Is (act.OrNumber into left spare number) last is also = (tt, (tt, also))
of_spelled Is (act.ExclusiveOrNumber into left spare number) last is also = (tt, (tt, also))
of_spelled Is (act.AndNumber into left spare number) last is also = (tt, (tt, also))
of_spelled Is (act.EqualNumber into left spare number) last is also = (tt, (tt, also))
of_spelled Is (act.NotEqualNumber into left spare number) last is also = (tt, (tt, also))
of_spelled Is (act.LessNumber into left spare number) last is also = (tt, (tt, also))
of_spelled Is (act.LessOrEqualNumber into left spare number) last is also = (tt, (tt, also))
of_spelled Is (act.GreaterNumber into left spare number) last is also = (tt, (tt, also))
of_spelled Is (act.GreaterOrEqualNumber into left spare number) last is also = (tt, (tt, also))
of_spelled Is (act.ShiftLeftNumber into left spare number) last is also = (tt, (tt, also))
of_spelled Is (act.ShiftRightNumber into left spare number) last is also = (tt, (tt, also))
of_spelled Is (act.AddNumber into left spare number) last is also = (tt, (tt, also))
of_spelled Is (act.SubtractNumber into left spare number) last is also = (tt, (tt, also))
of_spelled Is (act.MultiplyNumber into left spare number) last is also = (tt, (tt, also))
of_spelled Is inst last is also = (is, also)

pub of_tested : (Is : (base count : ℕ) → Type 0) (condition : Condition) (last : Nodes)
    → OfCode Is last → OfCode Is (tested condition last)
of_tested Is (test.Slot slot) last also = also
of_tested Is (test.Equal into left right) last also = (tt, also)
of_tested Is (test.NotEqual into left right) last also = (tt, also)
of_tested Is (test.Less into left right) last also = (tt, also)
of_tested Is (test.LessOrEqual into left right) last also = (tt, also)
of_tested Is (test.NoBits into left number) last also = (tt, (tt, (tt, (tt, also))))
of_tested Is (test.SomeBits into left number) last also = (tt, (tt, (tt, (tt, also))))
of_tested Is condition last also = (tt, (tt, also))

-- a block of instructions
pub of_insts : (Is : (base count : ℕ) → Type 0) (insts : List Inst) → All (OfInst Is) insts
    → OfCode Is (insts_before insts End)
of_insts Is [] is = tt
of_insts Is (first ∷ rest) is =
    of_spelled Is first (insts_before rest End) (All-head (OfInst Is) first rest is)
    (of_insts Is rest (All-tail (OfInst Is) first rest is))

pub of_block : (Is : (base count : ℕ) → Type 0) (n : Node) (insts : Vec Inst Global)
    (items : List Inst) → n ≡ node.BasicBlock insts → items ≡ insts.items
    → All (OfInst Is) items → OfCode Is (code_of n)
of_block Is n insts items at same is =
    subst (λ m. OfCode Is (code_of m)) (sym at)
    (of_insts Is insts.items (subst (All (OfInst Is)) same is))

-- nodes one after another
pub of_nodes : (Is : (base count : ℕ) → Type 0) (nodes : List Node)
    → All (λ inner. OfCode Is (code_of inner)) nodes → OfCode Is (block_before nodes End)
of_nodes Is [] is = tt
of_nodes Is (first ∷ rest) is =
    subst (OfCode Is) (sym (node_before-splits first (block_before rest End)))
    (of_code-before Is (code_of first) (block_before rest End)
    (All-head (λ inner. OfCode Is (code_of inner)) first rest is)
    (of_nodes Is rest (All-tail (λ inner. OfCode Is (code_of inner)) first rest is)))

pub of_seq : (Is : (base count : ℕ) → Type 0) (n : Node) (body : Vec Node Global)
    (items : List Node) → n ≡ Seq body → items ≡ body.items
    → All (λ inner. OfCode Is (code_of inner)) items → OfCode Is (code_of n)
of_seq Is n body items at same is =
    subst (λ m. OfCode Is (code_of m)) (sym at) (subst (OfCode Is) (sym (code_of-Seq body))
    (of_nodes Is body.items (subst (All (λ inner. OfCode Is (code_of inner))) same is)))

-- a choice, a loop and a call
pub of_if : (Is : (base count : ℕ) → Type 0) (n : Node) (condition : Condition)
    (chosen other : Box Node Global) → n ≡ If condition chosen other
    → OfCode Is (code_of (box_value chosen)) → OfCode Is (code_of (box_value other))
    → OfCode Is (code_of n)
of_if Is n condition chosen other at one also =
    subst (λ m. OfCode Is (code_of m)) (sym at)
    (of_tested Is condition (Choice (slot_of condition) (code_of (box_value chosen))
    (code_of (box_value other)) End) (one, also, tt))

pub of_while : (Is : (base count : ℕ) → Type 0) (n : Node) (first : Box Node Global)
    (condition : Condition) (body : Box Node Global) (mark : ℕ) → n ≡ While first condition body mark
    → OfCode Is (code_of (box_value first)) → OfCode Is (code_of (box_value body))
    → OfCode Is (code_of n)
of_while Is n first condition body mark at one turn =
    subst (λ m. OfCode Is (code_of m)) (sym at) (
      of_code-before Is (code_of (box_value first)) (tested condition End) one
          (of_tested Is condition End tt),
      turn,
      tt,
    )

pub of_call : (Is : (base count : ℕ) → Type 0) (n : Node) (call : Call) → n ≡ node.Call call
    → OfCode Is (code_of n)
of_call Is n call at = subst (λ m. OfCode Is (code_of m)) (sym at) tt

-- arrays that are reached stay so
pub of_inst_on : (before after : List ℕ) (inst : Inst) → Raised before after
    → OfInst (Reaches before) inst → OfInst (Reaches after) inst
of_inst_on before after inst raised =
    of_inst_weaker (Reaches before) (Reaches after)
    (λ base count. reaches_on before after base count raised) inst

pub of_code_on : (before after : List ℕ) (code : Nodes) → Raised before after
    → OfCode (Reaches before) code → OfCode (Reaches after) code
of_code_on before after code raised =
    of_code_weaker (Reaches before) (Reaches after)
    (λ base count. reaches_on before after base count raised) code

-- an instruction that works on no array
pub of_others : (Is : (base count : ℕ) → Type 0) (inst : Inst)
    → ((into base count index mark : ℕ) → inst ≡ act.Load into base count index mark → ⊥)
    → ((base count index from mark : ℕ) → inst ≡ act.Store base count index from mark → ⊥)
    → ((base count : ℕ) → inst ≡ act.Clear base count → ⊥) → OfInst Is inst
of_others Is (act.Load into base count index mark) load store clear =
    absurd (load into base count index mark refl)
of_others Is (act.Store base count index from mark) load store clear =
    absurd (store base count index from mark refl)
of_others Is (act.Clear base count) load store clear = absurd (clear base count refl)
of_others Is inst load store clear = tt
