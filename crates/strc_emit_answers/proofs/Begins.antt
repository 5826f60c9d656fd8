-- Output ports at which a channel of a list begins.
use Rattle.std.proofs.Common.{◌≡◌, ℕ, suc, Bool, true, false, List, [], ◌∷◌, ◌++◌, ◌⊎◌}
use Rattle.std.proofs.Common.{slice_get, Option, Some, None, refl, inl, inr}
use Rattle.strc_elab_graph.specs.Graphs.{Channel}
use Rattle.strc_elab_stream.specs.Wires.{Target, wire}

abbrev pub Begins : List Channel → ℕ → ℕ → Type 0
Begins [] node port = ⊥
Begins (first ∷ rest) node port =
    (first.source ≡ record { node = node; port = port }) ⊎ Begins rest node port

pub begins_former : (xs ys : List Channel) (node port : ℕ) → Begins xs node port
    → Begins (xs ++ ys) node port
begins_former [] ys node port begins = absurd begins
begins_former (x ∷ xs) ys node port (inl here) = inl here
begins_former (x ∷ xs) ys node port (inr later) = inr (begins_former xs ys node port later)

pub begins_latter : (xs ys : List Channel) (node port : ℕ) → Begins ys node port
    → Begins (xs ++ ys) node port
begins_latter [] ys node port begins = begins
begins_latter (x ∷ xs) ys node port begins = inr (begins_latter xs ys node port begins)

-- items have somewhere to go
abbrev pub HasTarget : Option Target → Type 0
HasTarget None = ⊥
HasTarget (Some target) = Unit {0}

-- then a wire begins at its port
pub wire_begins : (carries : Bool) (node port : ℕ) (target : Option Target) → carries ≡ true
    → HasTarget target → Begins (wire carries node port target) node port
wire_begins false node port target e has = absurd (cc)
wire_begins true node port None e has = absurd has
wire_begins true node port (Some target) e has = inl refl

-- the number of such a channel
pub begins_number : (channels : List Channel) (node port : ℕ) → Begins channels node port
    → (number : ℕ) × (channel : Channel) × (slice_get channels number ≡ Some channel)
    × (channel.source ≡ record { node = node; port = port })
begins_number [] node port begins = absurd begins
begins_number (first ∷ rest) node port (inl here) = (0, first, refl, here)
begins_number (first ∷ rest) node port (inr later) =
    let found = begins_number rest node port later in
    (suc found.0, found.1, found.2, found.3)
