use Rattle.std.proofs.Common.{◌∙◌, ap, sym, ◌++◌, append_assoc}
use Rattle.strc_elab_dataflow.specs.Fused.{repeated}
use Rattle.strc_fuse.proofs.Steps.{repeated_more}
use Rattle.strc_fuse.proofs.lists.append.Goals as goal

pub loop-turn-preserved : goal.loop-turn-preserved
loop-turn-preserved c =
    let old = c.args.list.now.items in
    let nodes = c.args.nodes.now in
    let turn = c.loop-turn.turn in
    c.in_ok-extend_from_slice.ensures.items
    ∙ ap (λ l. l ++ nodes) c.loop-turn.invariant
    ∙ append_assoc old (repeated turn nodes) nodes
    ∙ ap (λ l. old ++ l) (sym (repeated_more turn nodes))
