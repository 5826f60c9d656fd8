use Rattle.std.proofs.Common.{◌≡◌, ℕ, ◌<◌, slice_index}
use Rattle.strc_elab_flattening.proofs.connection.have_one_root.Given as goal

-- none of the numbers so far is a root
abbrev pub invariant-loop-node : goal.invariant-loop-node
invariant-loop-node l =
    (node : ℕ) → 0 < node → node < l.node → slice_index l.parents node ≡ node → ⊥
