-- Which part of which node has a number after fission.
use Rattle.std.specs.Prelude.{◌≡◌, ℕ, zero, suc, ◌<◌, nat_lt, Some, slice_get, if◌then◌else◌}
use Rattle.strc_elab_graph.specs.declared.graph.Fission.{Fission}
use Rattle.strc_fiss.specs.Numbers.{last_part, base, each_part, origin_of}

-- a part of a node
pub record Owner : Type 0 where
  pub node : ℕ
  pub part : ℕ

module _ (share : ℕ → Fission) where
  -- the next part of the node, or after its last one the first part of the next node
  abbrev pub next_owner : Owner → Owner
  next_owner owner = if nat_lt owner.part (last_part share owner.node)
      then record { node = owner.node; part = suc owner.part }
      else record { node = suc owner.node; part = 0 }

  -- the part that has a number
  abbrev pub owner : (number : ℕ) → Owner
  owner zero = record { node = 0; part = 0 }
  owner (suc number) = next_owner (owner number)

-- The parts of so many nodes have the origins that fission gives.
abbrev pub OwnersAreOrigins : Type 0
OwnersAreOrigins =
    (share : ℕ → Fission) (size number : ℕ) → number < base share size
    → slice_get (each_part share (origin_of share) size) number
    ≡ Some (origin_of share (owner share number).node (owner share number).part)
