use Rattle.std.proofs.Common.{subst}
use Rattle.strc_sched_orders.specs.Progress.{IsUnseen}
use Rattle.strc_sched_orders.proofs.Looking.{unseen_sound, begins}
use Rattle.strc_sched_orders.proofs.progress.Progress.new.Goals as goal

pub look_at_all-requires : goal.look_at_all-requires
look_at_all-requires c =
    unseen_sound c.args.network.now c.args.counts.now c.args.left.now c.in_ok-progress.progress
    c.requires.few (subst (λ n. IsUnseen n c.args.counts.now c.args.left.now
    c.in_ok-progress.progress) c.size.ensures.size c.in_ok-progress.ensures)

pub returns : goal.returns
returns c =
    begins c.args.network.now c.args.counts.now c.args.left.now c.size.result
    c.in_ok-progress.progress c.look_at_all.new.self c.in_ok-progress.ensures
    c.in_ok-look_at_all.ensures
