-- The nodes of fission are the parts of a split node that the generic layer asks for (Gordon, Thies
-- and Amarasinghe 2006).
use Rattle.std.specs.Prelude.{◌≡◌, ℕ}
use Rattle.strc_elab_dataflow.specs.Split.{Share, IsStateless, IsScatter, IsCopy, IsGather}
use Rattle.strc_elab_graph.specs.Graphs.{CopiedCode, Identity, Scatter, Copy, Gather, original}
use Rattle.strc_elab_graph.specs.Graphs.{input_ports}
use Rattle.strc_elab_graph.specs.Meaning.{node_meaning}
use Rattle.strc_elab_graph.specs.declared.graph.Fission.{Fission}

-- how a node's firings are shared, as the generic layer has it
abbrev pub share_of : Fission → Share
share_of fission = record {
  ways = fission.ways;
  firings = fission.firings;
  pop = fission.pop;
  window = fission.window;
  push = fission.push;
}

-- A scatter deals a round's items to the copies, each copy of a node that has an input fires as the
-- node does, and a gather joins what the copies give.
abbrev pub NodesDeal : Type 0
NodesDeal =
    (copied : CopiedCode) (fission : Fission)
    → IsScatter node_meaning (share_of fission) (Scatter fission)
    × (input_ports (original copied) ≡ 1
    → IsCopy node_meaning (share_of fission) (original copied) (Copy copied fission))
    × IsGather node_meaning (share_of fission) (Gather fission)

-- so many copies of Identity, with so many firings each
abbrev pub identity_share : (ways firings : ℕ) → Share
identity_share ways firings = record
    { ways = ways; firings = firings; pop = 1; window = 1; push = 1 }

-- Identity is a stateless node of these rates.
abbrev pub IdentityIsStateless : Type 0
IdentityIsStateless =
    (ways firings : ℕ) → IsStateless node_meaning (identity_share ways firings) Identity
