use Rattle.std.proofs.Common.{◌<◌, ◌∙◌, ap, get_or, length, rules, subst}
use Rattle.strc_cli_pictures.proofs.Labels.{one_label_more}
use Rattle.strc_cli_pictures.proofs.parts.labels_after.Goals as goal

pub loop-number-preserved : goal.loop-number-preserved
loop-number-preserved c =
    let number = c.loop-number.number in
    let own = c.index-nodes-number.result in
    one_label_more c.args.graph.now.nodes c.args.origins.now _ number own
    c.label_after-label.result.now c.label_before-before.result.now c.in_ok-to_vec.field-0
    c.loop-number.after.items c.push.new.self.items
    (subst (λ nodes. number < length nodes) c.nodes-number-end.ensures c.loop-number-test.true)
    (c.index-nodes-number.is ∙ ap (λ nodes. get_or nodes number own) c.nodes.ensures)
    c.label_before-before.ensures c.label_after-label.ensures (search rules)
    c.loop-number.invariant c.in_ok-push.ensures.items
