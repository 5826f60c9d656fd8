-- Channels with what they hold.
use Rattle.std.proofs.Common.{ℕ, List, [], ◌∷◌}
use Rattle.strc_elab_graph.specs.Graphs.{Channel}
use Rattle.strc_fiss.specs.Splitting.{Wire, wires_of}
use Rattle.strc_fiss.proofs.Each.{Each}

-- what holds of channels holds of them with what they hold
pub each_wire : (P : Channel → Type 0) (channels : List Channel) (greatest last : List ℕ)
    → Each P channels → Each (λ (wire : Wire). P wire.channel) (wires_of channels greatest last)
each_wire P [] greatest last each = tt
each_wire P (channel ∷ channels) [] last each = tt
each_wire P (channel ∷ channels) (high ∷ greatest) [] each = tt
each_wire P (channel ∷ channels) (high ∷ greatest) (held ∷ last) each =
    (each.0, each_wire P channels greatest last each.1)
