-- Rates that each firing keeps by itself, from states of some kind: so a code keeps its rates
-- wherever it is restarted.
use Rattle.std.specs.Prelude.{◌≡◌, ℕ, ◌<◌, Bool, true, List, length}
use Rattle.strc_elab_dataflow.specs.Node.{ByPort, Fired.Fires, Meaning}
use Rattle.strc_elab_dataflow.specs.Histories.{KeepsRates}
use Rattle.strc_elab_dataflow.specs.Restart.{restarted_meaning}

module _ {Code State Cause Word : Type 0} (meaning : Meaning Code State Cause Word) (code : Code)
  where
    -- From a state of this kind, at whole windows, a firing that doesn't fault pushes at each port
    -- what its rate says, and leaves a state of this kind.
    pub record PushesRates (is_kept : State → Bool) : Type 0 where
      pub each :
          (firing : ℕ) (state next : State) (seen pushes : ByPort) (words : List Word)
          → is_kept state ≡ true
          → ((port : ℕ) → port < meaning.ports code
          → length (seen port) ≡ meaning.window code firing port)
          → meaning.fire code firing state seen ≡ Fires next pushes words
          → (is_kept next ≡ true)
          × ((port : ℕ) → length (pushes port) ≡ meaning.pushed code firing port)

-- A code whose single firings push at their rates keeps its rates from the beginning, and from any
-- number of firings and state of the kind that it is restarted at.
abbrev pub PushesRatesKeepsRates : (Code State Cause Word : Type 0) → Type 0
PushesRatesKeepsRates Code State Cause Word =
    (meaning : Meaning Code State Cause Word) (code : Code) (is_kept : State → Bool)
    → PushesRates meaning code is_kept
    → (is_kept (meaning.start code) ≡ true → KeepsRates meaning code)
    × ((fired : ℕ) (state : State) → is_kept state ≡ true
    → KeepsRates (restarted_meaning meaning)
    (record { code = code; fired = fired; state = state }))
