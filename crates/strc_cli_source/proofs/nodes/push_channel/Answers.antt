use Rattle.strc_cli_source.proofs.NamedNodes.{channel_ends}
use Rattle.strc_cli_source.proofs.nodes.push_channel.Goals as goal

pub returns : goal.returns
returns c =
    channel_ends _ _ _ _ c.args.channel c.in_ok-add.ensures c.in_ok-number.ensures
    c.in_ok-push_ends.ensures
