use Rattle.std.proofs.Common.{refl, arith}
use Rattle.strc_cli_pictures.proofs.ChannelLines.{one_channel_more}
use Rattle.strc_cli_pictures.proofs.channels.push_channels.Goals as goal

pub loop-number-preserved : goal.loop-number-preserved
loop-number-preserved c =
    one_channel_more c.args.bounds.now c.args.shown.now c.args.nodes.now c.loop-number.number
    c.args.channels.now c.args.sizes.now c.index-channels-number.result _ _ _ _
    c.loop-number-test.true c.index-channels-number.is
    (omega (arith, c.loop-number-test.true, c.requires)) refl
    c.in_ok-push_channel.ensures c.loop-number.invariant
