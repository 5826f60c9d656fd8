-- Input ports at which a channel of a list ends.
use Rattle.std.proofs.Common.{◌≡◌, ℕ, suc, Bool, true, false, ◌&&◌, List, [], ◌∷◌, ◌++◌}
use Rattle.std.proofs.Common.{slice_get, Some, nat_eq, refl, ap, ◌∙◌, inl, inr}
use Rattle.std.proofs.Common.{◌⊎◌, eq-eqb}
use Rattle.strc_elab_graph.specs.Graphs.{Channel, ends_at}
use Rattle.strc_elab_stream.specs.Wires.{Target, wire}

abbrev pub Ends : List Channel → ℕ → ℕ → Type 0
Ends [] node port = ⊥
Ends (first ∷ rest) node port = (ends_at node port first ≡ true) ⊎ Ends rest node port

pub ends_former : (xs ys : List Channel) (node port : ℕ) → Ends xs node port
    → Ends (xs ++ ys) node port
ends_former [] ys node port ends = absurd ends
ends_former (x ∷ xs) ys node port (inl here) = inl here
ends_former (x ∷ xs) ys node port (inr later) = inr (ends_former xs ys node port later)

pub ends_latter : (xs ys : List Channel) (node port : ℕ) → Ends ys node port
    → Ends (xs ++ ys) node port
ends_latter [] ys node port ends = ends
ends_latter (x ∷ xs) ys node port ends = inr (ends_latter xs ys node port ends)

ends_itself : (node port : ℕ) → (nat_eq node node && nat_eq port port) ≡ true
ends_itself node port =
    ap (λ b. b && nat_eq port port) (eq-eqb node node refl) ∙ eq-eqb port port refl

-- a wire ends where its items go
pub wire_ends : (carries : Bool) (node port : ℕ) (target : Target) → carries ≡ true
    → Ends (wire carries node port (Some target)) target.port.node target.port.port
wire_ends false node port target e = absurd (cc)
wire_ends true node port target e = inl (ends_itself target.port.node target.port.port)

-- the number of such a channel
pub ends_number : (channels : List Channel) (node port : ℕ) → Ends channels node port
    → (number : ℕ) × (channel : Channel)
    × (slice_get channels number ≡ Some channel) × (ends_at node port channel ≡ true)
ends_number [] node port ends = absurd ends
ends_number (first ∷ rest) node port (inl here) = (0, first, refl, here)
ends_number (first ∷ rest) node port (inr later) =
    let found = ends_number rest node port later in
    (suc found.0, found.1, found.2, found.3)
