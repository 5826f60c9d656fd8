use Rattle.std.proofs.Common.{◌≡◌, ◌++◌, drop}
use Rattle.strc_emit_code.specs.Texts.{nodes_text}
use Rattle.strc_emit_code.proofs.nodes.+nodes.Given as goal

-- the text so far and that of the nodes left are the whole
abbrev pub invariant-push_all-loop-inner : goal.invariant-push_all-loop-inner
invariant-push_all-loop-inner l =
    l.text.items ++ nodes_text l.function l.depth (drop l.inner-index l.nodes)
    ≡ l.initial.text.items ++ nodes_text l.function l.depth l.nodes
