use Rattle.std.proofs.Common.{◌∙◌, ap, sym, ℕ, length, arith, Option, None, option_map}
use Rattle.std.proofs.lemmas.Option.{get_or_from_slice_get}
use Rattle.strc_elab_graph.specs.declared.graph.Fission.{Fission}
use Rattle.strc_fiss.specs.Numbers.{share_at}
use Rattle.strc_fiss.specs.Splitting.{new_loop, new_joiner}
use Rattle.strc_fiss.proofs.Bases.{bases_many, share_read, outer_is}
use Rattle.strc_fiss.proofs.Sequences.{next_parts}
use Rattle.strc_fiss.proofs.parts.new_loops.Goals as goal

zeros : Fission
zeros = record { ways = 0; firings = 0; pop = 0; window = 0; push = 0 }

pub new_outer-outer-requires : goal.new_outer-outer-requires
new_outer-outer-requires c = omega (
  arith,
  bases_many (share_at c.args.shares.now) c.args.bases.now
      (length c.args.shares.now) c.requires.bases,
)

pub loop-node-preserved : goal.loop-node-preserved
unfolding zeros
loop-node-preserved c =
    let shares = c.args.shares.now in
    let share = share_at shares in
    let node = c.loop-node.node in
    let loops = c.args.graph.now.outer_loops in
    let size = length c.args.graph.now.nodes in
    let each : Option ℕ → ℕ → Option ℕ = λ o part. o in
    c.in_ok-push_loops.ensures
    ∙ next_parts share (new_loop share size loops) c.loop-node.loops.items node
    (λ (part : ℕ). c.new_outer-outer.result) (lib.ListN.get_or shares node zeros)
    c.loop-node.invariant
    (ap each
    (c.new_outer-outer.ensures
    ∙ outer_is share c.args.bases.now (length shares) c.outer_loop.result c.requires.bases
    ∙ ap (λ (n : ℕ). option_map (new_joiner share n) c.outer_loop.result) c.requires.shares
    ∙ ap (option_map (new_joiner share size))
    (sym (get_or_from_slice_get loops node c.outer_loop.result None c.outer_loop.ensures))))
    (share_read shares node zeros c.loop-node-test.true)
