-- Orders of two graphs whose nodes have the same rates, wired alike.
use Rattle.std.proofs.Common.{◌≡◌, refl, ap, ℕ, zero, suc, ◌<◌, arith}
use Rattle.std.proofs.Common.{ℤ, List, [], ◌∷◌, length}
use Rattle.strc_elab_dataflow.specs.Flat.{Origin, Origin.Nowhere, Origin.Input, Origin.Port, Graph}
use Rattle.strc_elab_dataflow.specs.Node.{Meaning, total}
use Rattle.strc_elab_dataflow.specs.Order.{raised, supply_of, supply, fill, IsReady, IsOrder}

total_same : (rate other : ℕ → ℕ → ℕ)
    → ((firing port : ℕ) → rate firing port ≡ other firing port)
    → (count port : ℕ) → total rate count port ≡ total other count port
unfolding total
total_same rate other same zero port = refl
total_same rate other same (suc n) port = omega (
  arith,
  total_same rate other same n port,
  same n port,
)

module _ {Code State Cause Word : Type 0} (a b : Meaning Code State Cause Word) (g h : Graph Code)
  where
    pub record AreAlike : Type 0 where
      pub ports : (v : ℕ) → a.ports (g.code v) ≡ b.ports (h.code v)
      pub windows : (v firing port : ℕ)
          → a.window (g.code v) firing port ≡ b.window (h.code v) firing port
      pub pops : (v firing port : ℕ)
          → a.popped (g.code v) firing port ≡ b.popped (h.code v) firing port
      pub pushes : (v firing port : ℕ)
          → a.pushed (g.code v) firing port ≡ b.pushed (h.code v) firing port
      pub enqueued : (v port : ℕ) → port < a.ports (g.code v)
          → length (g.source v port).enqueued ≡ length (h.source v port).enqueued
      pub origins : (v port : ℕ) → port < a.ports (g.code v)
          → (g.source v port).origin ≡ (h.source v port).origin

    module _ (input : List ℤ) (same : AreAlike) where
      supply_of_same : (counts : ℕ → ℕ) (origin : Origin)
          → supply_of a g input counts origin ≡ supply_of b h input counts origin
      unfolding supply_of
      supply_of_same counts Nowhere = refl
      supply_of_same counts Input = refl
      supply_of_same counts (Port v port) =
          total_same (a.pushed (g.code v)) (b.pushed (h.code v)) (same.pushes v) (counts v) port

      supply_same : (counts : ℕ → ℕ) (v port : ℕ) → port < a.ports (g.code v)
          → supply a g input counts (g.source v port) ≡ supply b h input counts (h.source v port)
      unfolding supply
      supply_same counts v port less = omega (
        arith,
        same.enqueued v port less,
        supply_of_same counts (g.source v port).origin,
        ap (supply_of b h input counts) (same.origins v port less),
      )

      pub fill_same : (counts : ℕ → ℕ) (v port : ℕ) → port < a.ports (g.code v)
          → fill a g input counts v port ≡ fill b h input counts v port
      unfolding fill
      fill_same counts v port less = omega (
        arith,
        supply_same counts v port less,
        total_same (a.popped (g.code v)) (b.popped (h.code v)) (same.pops v) (counts v) port,
      )

      ready_same : (counts : ℕ → ℕ) (v : ℕ) → IsReady a g input counts v
          → IsReady b h input counts v
      ready_same counts v ready port less =
          let there : port < a.ports (g.code v) = omega (arith, less, same.ports v) in
          omega (
            arith,
            ready port there,
            supply_same counts v port there,
            total_same (a.popped (g.code v)) (b.popped (h.code v)) (same.pops v) (counts v) port,
            same.windows v (counts v) port,
          )

      pub order_same : (order : List ℕ) (counts : ℕ → ℕ) → IsOrder a g input counts order
          → IsOrder b h input counts order
      order_same [] counts valid = tt
      order_same (v ∷ order) counts valid =
          (ready_same counts v valid.0, order_same order (raised counts v) valid.1)
