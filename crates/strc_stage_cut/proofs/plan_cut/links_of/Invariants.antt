use Rattle.std.proofs.Common.{◌≡◌, map, take}
use Rattle.strc_balance.specs.Balance.{count_at}
use Rattle.strc_elab_graph.specs.NodeView.{channel_view}
use Rattle.strc_stage_plan.specs.Plans.{transformed_of}
use Rattle.strc_stage_cut.specs.Links.{link_of}
use Rattle.strc_stage_cut.proofs.plan_cut.links_of.Given as goal

abbrev pub invariant-loop-channel : goal.invariant-loop-channel
invariant-loop-channel l =
    l.links.items ≡ map (link_of (transformed_of l.fn.plan) (count_at l.fn.counts) l.fn.bounds)
    (map channel_view (take l.channel-index l.channels))
