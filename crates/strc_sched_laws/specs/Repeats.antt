-- Rates that repeat round by round, the nodes of fission included; and that no firing takes more
-- than it looks at.
use Rattle.std.specs.Prelude.{◌≡◌, ℕ, suc, ◌+◌, ◌≤◌}
use Rattle.strc_elab_graph.specs.Graphs.{NodeCode, Scatter, Copy, Gather}
use Rattle.strc_elab_graph.specs.Rates.{window_at, pops_at, pushes_at}

-- two firings of a node have the same rates at each port
abbrev pub HaveSameRates : NodeCode → (firing other : ℕ) → Type 0
HaveSameRates code firing other =
    (port : ℕ)
    → (window_at code firing port ≡ window_at code other port)
    × (pops_at code firing port ≡ pops_at code other port)
    × (pushes_at code firing port ≡ pushes_at code other port)

-- how often a node may fire in the rounds from a firing on: a scatter and a gather any number of
-- times, a copy as often as its share says, and another node where that firing has the rates of the
-- next one
abbrev pub HasRound : NodeCode → (first round : ℕ) → Type 0
HasRound (Scatter fission) first round = Unit {0}
HasRound (Copy copied fission) first round = round ≡ fission.firings
HasRound (Gather fission) first round = Unit {0}
HasRound code first round = HaveSameRates code first (suc first)

-- Each firing from there on has the rates of the one a round before.
abbrev pub NodesRepeatByRounds : Type 0
NodesRepeatByRounds =
    (code : NodeCode) (first round firing : ℕ)
    → HasRound code first round
    → first ≤ firing
    → HaveSameRates code (firing + round) firing

-- a copy's share looks at what a firing pops
abbrev pub IsNarrow : NodeCode → Type 0
IsNarrow (Copy copied fission) = fission.pop ≤ fission.window
IsNarrow code = Unit {0}

-- No firing takes more than it looks at.
abbrev pub NodesTakeWithin : Type 0
NodesTakeWithin =
    (code : NodeCode) (firing port : ℕ)
    → IsNarrow code
    → pops_at code firing port ≤ window_at code firing port
