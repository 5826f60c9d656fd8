use Rattle.std.proofs.Common.{◌∙◌, ap, length, replicate, rules}
use Rattle.strc_cli_output.proofs.Sums.{sums_made}
use Rattle.strc_cli_output.proofs.totals.sizes_behind.Goals as goal

pub returns : goal.returns
returns c =
    sums_made (length c.args.graph.now.nodes) c.in_ok-sums.sums.len c.args.graph.now.channels
    c.channels.result.now c.args.sizes.now c.deref_mut.result.now c.add_sizes.new.sums _
    (c.deref_mut.ensures.value
    ∙ c.in_ok-sums.ensures.items_if_clones_equal (λ y same. search rules)
    ∙ ap (λ nodes. replicate (length nodes) 0) c.nodes.ensures)
    c.channels.ensures.channels c.add_sizes.ensures.same c.add_sizes.ensures.each
    (c.in_ok-sums.ensures.len ∙ ap length c.nodes.ensures)
