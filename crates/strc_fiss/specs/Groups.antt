-- Channels in groups, by the node that they leave.
use Rattle.std.specs.Prelude.{◌≡◌, ℕ, ◌<◌, List, [], length, get_or}
use Rattle.strc_elab_graph.specs.declared.graph.Fission.{Fission}
use Rattle.strc_fiss.specs.Splitting.{Wire, leaving}

-- each of so many nodes has the channels that leave its parts
pub record AreGroups (share : ℕ → Fission) (wires : List Wire) (size : ℕ)
    (groups : List (List Wire)) : Type 0 where
  pub each : length groups ≡ size
  pub group : (node : ℕ) → node < size → get_or groups node [] ≡ leaving share wires node
