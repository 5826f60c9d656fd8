use Rattle.std.proofs.Common.{◌∙◌, ap, ℕ}
use Rattle.strc_elab_graph.specs.declared.graph.Fission.{Fission}
use Rattle.strc_fiss.specs.Numbers.{share_at, first_of, origin_of}
use Rattle.strc_fiss.specs.declared.split.Origin.{Origin}
use Rattle.strc_fiss.proofs.Bases.{share_read}
use Rattle.strc_fiss.proofs.Sequences.{next_parts}
use Rattle.strc_fiss.proofs.parts.new_origins.Goals as goal

zeros : Fission
zeros = record { ways = 0; firings = 0; pop = 0; window = 0; push = 0 }

pub loop-node-preserved : goal.loop-node-preserved
unfolding zeros
loop-node-preserved c =
    let shares = c.args.shares.now in
    let share = share_at shares in
    let node = c.loop-node.node in
    let made : Fission → ℕ → Origin = λ s part. record { node = node; first = first_of s part } in
    let own = share_read shares node zeros c.loop-node-test.true in
    c.in_ok-push_origins.ensures
    ∙ next_parts share (origin_of share) c.loop-node.origins.items node
    (made (lib.ListN.get_or shares node zeros)) (lib.ListN.get_or shares node zeros)
    c.loop-node.invariant (ap made own) own
