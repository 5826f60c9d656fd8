-- Shares of equal size, port by port.
use Rattle.std.proofs.Common.{◌≡◌, sym, ap, ◌∙◌, ℕ, suc, ◌+◌, ◌-◌, ◌<◌, ◌≤◌, Bool, true}
use Rattle.std.proofs.Common.{false, List, ◌∷◌, length, arith, add-one, ◌&&◌}
use Rattle.std.specs.Prelude.{Option, nat_le, replicate}
use Rattle.strc_sched_laws.specs.Rings.{Ring, at_port, items_at, moved, gathered_in}
use Rattle.strc_sched_laws.specs.Steps.{finds_weights}

module _ (ways share : ℕ) where
  -- what is left from a port on
  abbrev pub shares_from : (port : ℕ) → List ℕ
  shares_from port = replicate (ways - port) share

  here : (port : ℕ) → port < ways → shares_from port ≡ share ∷ shares_from (suc port)
  here port less =
      let left : ways - port ≡ suc (ways - suc port) = omega (arith, less) in
      ap (λ (n : ℕ). replicate n share) left

  none_left : (port : ℕ) → ways ≤ port → shares_from port ≡ replicate 0 share
  none_left port past =
      let left : ways - port ≡ 0 = omega (arith, past) in
      ap (λ (n : ℕ). replicate n share) left

  module _ (inputs : List (Option ℕ)) where
    -- ---- whether they are there

    abbrev pub found_from : (port : ℕ) → List Ring → Bool
    found_from port rings = finds_weights (shares_from port) inputs port rings

    abbrev pub has_share : (port : ℕ) → List Ring → Bool
    has_share port rings = nat_le share (length (items_at rings (at_port inputs port)))

    pub found_next : (port : ℕ) (rings : List Ring) → port < ways → has_share port rings ≡ true
        → found_from (port + 1) rings ≡ found_from port rings
    found_next port rings less found =
        ap (λ (n : ℕ). found_from n rings) (add-one port)
        ∙ sym (ap (λ (l : List ℕ). finds_weights l inputs port rings) (here port less)
        ∙ ap (λ (test : Bool). test && found_from (suc port) rings) found)

    pub share_lacks : (port : ℕ) (rings : List Ring) → port < ways
        → has_share port rings ≡ false → found_from port rings ≡ false
    share_lacks port rings less lacks =
        ap (λ (l : List ℕ). finds_weights l inputs port rings) (here port less)
        ∙ ap (λ (test : Bool). test && found_from (suc port) rings) lacks

    pub found_all : (port : ℕ) (rings : List Ring) → ways ≤ port → found_from port rings ≡ true
    found_all port rings past =
        ap (λ (l : List ℕ). finds_weights l inputs port rings) (none_left port past)

    -- ---- joining them

    abbrev pub joined_from : (to : Option ℕ) → (port : ℕ) → List Ring → List Ring
    joined_from to port rings = gathered_in (shares_from port) inputs to port rings

    pub joined_next : (to : Option ℕ) (port : ℕ) (now next : List Ring) → port < ways
        → next ≡ moved (at_port inputs port) to share now
        → joined_from to (port + 1) next ≡ joined_from to port now
    joined_next to port now next less is =
        ap (λ (n : ℕ). joined_from to n next) (add-one port)
        ∙ ap (joined_from to (suc port)) is
        ∙ sym (ap (λ (l : List ℕ). gathered_in l inputs to port now) (here port less))

    pub joined_all : (to : Option ℕ) (port : ℕ) (now : List Ring) → ways ≤ port
        → now ≡ joined_from to port now
    joined_all to port now past =
        sym (ap (λ (l : List ℕ). gathered_in l inputs to port now) (none_left port past))
