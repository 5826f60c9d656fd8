use Rattle.strc_cli_pictures.specs.Parts.{round_share}
use Rattle.strc_cli_pictures.proofs.Shares.{one_share_more}
use Rattle.strc_cli_pictures.proofs.parts.round_shares.Goals as goal

pub loop-number-preserved : goal.loop-number-preserved
loop-number-preserved c =
    one_share_more round_share c.args.nodes.now c.args.origins.now c.args.counts.now
    c.loop-number.number c.index-nodes-number.result c.round_share.result
    c.count_before-count.result c.loop-number.shares.items c.push.new.self.items
    c.loop-number-test.true c.index-nodes-number.is c.count_before-count.ensures
    c.round_share.ensures c.loop-number.invariant c.in_ok-push.ensures.items
