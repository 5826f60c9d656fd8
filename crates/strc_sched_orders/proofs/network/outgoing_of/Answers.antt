use Rattle.std.proofs.Common.{◌∙◌, ◌<◌, sym, subst, All}
use Rattle.std.specs.Prelude.{IfOk}
use Rattle.strc_startup.specs.Grouping.{IsGrouping}
use Rattle.strc_sched_orders.proofs.Networks.{all_ends}
use Rattle.strc_sched_orders.proofs.network.outgoing_of.Goals as goal

pub grouping_of-requires : goal.grouping_of-requires
grouping_of-requires c =
    subst (All (λ node. node < c.args.size))
    (sym (c.deref.ensures.value ∙ c.in_ok-sources.ensures))
    (all_ends (λ r. r.source) c.args.channels.now c.args.size
    (λ k d within. (c.requires k d within).source))

pub returns-clause-groups : goal.returns-clause-groups
returns-clause-groups c =
    subst (λ l. IfOk c.grouping_of.result (λ groups. IsGrouping groups l))
    (c.deref.ensures.value ∙ c.in_ok-sources.ensures) c.grouping_of.ensures.groups
