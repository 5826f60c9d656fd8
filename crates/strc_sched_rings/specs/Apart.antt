-- Nodes of whose ports no two have one ring.
use Rattle.std.specs.Prelude.{◌≡◌, ℕ, List, Option, Some}
use Rattle.strc_sched_laws.specs.Rings.{at_port}
use Rattle.strc_sched_laws.specs.Wiring.{PortRings, ports_at}

-- no ring is at two ports
pub record AreApart (inputs outputs : List (Option ℕ)) : Type 0 where
  pub one_input : (port other number : ℕ) → at_port inputs port ≡ Some number
      → at_port inputs other ≡ Some number → port ≡ other
  pub one_output : (port other number : ℕ) → at_port outputs port ≡ Some number
      → at_port outputs other ≡ Some number → port ≡ other
  pub apart : (port other number : ℕ) → at_port inputs port ≡ Some number
      → at_port outputs other ≡ Some number → ⊥

-- nor at any node
abbrev pub AreAllApart : (inputs outputs : PortRings) → Type 0
AreAllApart inputs outputs = (node : ℕ) → AreApart (ports_at inputs node) (ports_at outputs node)
