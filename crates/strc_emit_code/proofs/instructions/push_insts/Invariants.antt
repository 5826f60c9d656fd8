use Rattle.std.proofs.Common.{◌≡◌, ◌++◌, drop}
use Rattle.strc_emit_code.specs.Texts.{insts_text}
use Rattle.strc_emit_code.proofs.instructions.push_insts.Given as goal

-- the text so far and that of the instructions left are the whole
abbrev pub invariant-loop-inst : goal.invariant-loop-inst
invariant-loop-inst l =
    l.text.items ++ insts_text l.function l.depth (drop l.inst-index l.insts)
    ≡ l.initial.text.items ++ insts_text l.function l.depth l.insts
