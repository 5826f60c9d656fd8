use Rattle.std.proofs.Common.{◌∙◌, ap, ap₂, ℕ, ℤ, List, length, arith, ◌+◌}
use Rattle.strc_elab_graph.specs.Graphs as graphs
use Rattle.strc_elab_graph.specs.declared.graph.Fission.{Fission}
use Rattle.strc_fiss.specs.Numbers.{share_at, base, last_of}
use Rattle.strc_fiss.specs.Splitting.{port}
use Rattle.strc_fiss.proofs.Bases.{bases_many, base_read, share_read, parts_within}
use Rattle.strc_fiss.proofs.channels.renamed.Goals as goal

zeros : Fission
zeros = record { ways = 0; firings = 0; pop = 0; window = 0; push = 0 }

pub bounds-bases-source : goal.bounds-bases-source
bounds-bases-source c = omega (
  arith,
  c.requires.source,
  bases_many (share_at c.args.shares.now) c.args.bases.now
      (length c.args.shares.now) c.requires.bases,
)

pub last_number-requires : goal.last_number-requires
unfolding zeros
last_number-requires c = omega (
  arith,
  c.requires.within,
  parts_within c.args.shares.now c.args.bases.now c.args.channel.now.source.node 0 zeros
      c.requires.bases c.requires.source,
)

pub bounds-bases-channel : goal.bounds-bases-channel
bounds-bases-channel c = omega (
  arith,
  c.requires.target,
  bases_many (share_at c.args.shares.now) c.args.bases.now
      (length c.args.shares.now) c.requires.bases,
)

pub returns : goal.returns
unfolding zeros
returns c =
    let shares = c.args.shares.now in
    let share = share_at shares in
    let channel = c.args.channel.now in
    let bases = c.args.bases.now in
    let size = length shares in
    let source = channel.source in
    let target = channel.target in
    let made : ℕ → ℕ → List ℤ → graphs.Channel = λ from to items. record
    { source = port from source.port; target = port to target.port; enqueued = items } in
    ap (λ (n : ℕ). made n (lib.ListN.get_or bases target.node 0) c.in_ok-from_slice.field-0.items)
    (c.last_number.ensures
    ∙ ap₂ ◌+◌ (base_read share bases size source.node 0 c.requires.bases
    (let less = c.requires.source in omega (arith, less)))
    (ap last_of (share_read shares source.node zeros c.requires.source)))
    ∙ ap₂ (made (base share source.node + last_of (share source.node)))
    (base_read share bases size target.node 0 c.requires.bases
    (let less = c.requires.target in omega (arith, less)))
    (c.in_ok-from_slice.ensures.items ∙ c.deref.ensures.value)
