-- The items before a copy of a filter while a round fires: those by the rates of a round are right
-- until the copy's last firing, and so is their greatest number.
use Rattle.std.specs.Prelude.{◌≡◌, ◌≢◌, ℕ, zero, suc, ◌+◌, ◌-◌, ◌<◌, ◌%◌, max, List, [], ◌∷◌, ◌++◌}
use Rattle.strc_elab_graph.specs.Graphs as graphs
use Rattle.strc_elab_graph.specs.Graphs.{CopiedCode}
use Rattle.strc_elab_graph.specs.Rates.{copy_pops, pops_at}
use Rattle.strc_elab_graph.specs.declared.graph.Fission.{Fission}
use Rattle.strc_startup.specs.Startup.{supply}
use Rattle.strc_startup.specs.declared.channel_rates.ChannelRates.{ChannelRates}
use Rattle.strc_sched_orders.specs.Buffers.{peak_fill}
use Rattle.strc_sched_orders.specs.Firings.{Firings, none_fired, fired}
use Rattle.strc_sched_orders.specs.Order.{firing_count, after}
use Rattle.strc_sched_orders.specs.RoundRates.{pops_in_round}

-- how many items so many firings pop, by what each of them pops
abbrev pub total_pops : (pops : (firing : ℕ) → ℕ) → (firings : ℕ) → ℕ
total_pops pops zero = 0
total_pops pops (suc firings) = total_pops pops firings + pops firings

-- how many items are on a channel, by what each firing of its target pops
abbrev pub exact_fill : (pops : (firing : ℕ) → ℕ) → ChannelRates → Firings → ℕ
exact_fill pops rates counts =
    supply rates (counts rates.source) - total_pops pops (counts rates.target)

-- the greatest such number before, between and after the firings of an order
abbrev pub exact_peak : (pops : (firing : ℕ) → ℕ) → ChannelRates → Firings → (order : List ℕ) → ℕ
exact_peak pops rates counts [] = exact_fill pops rates counts
exact_peak pops rates counts (node ∷ order) =
    max (exact_fill pops rates counts) (exact_peak pops rates (fired counts 1 node) order)

-- with each firing of a round but its last a copy pops what it pops by the rates of a round
abbrev pub CopiesPopByRound : Type 0
CopiesPopByRound =
    (copied : CopiedCode) (fission : Fission) (firing port : ℕ)
    → suc (firing % fission.firings) < fission.firings
    → pops_at (graphs.Copy copied fission) firing port
    ≡ pops_in_round (graphs.Copy copied fission) port

-- where a copy fires at most as often as in a round, and nothing comes after its last firing
abbrev pub RoundPeaksAreExact : Type 0
RoundPeaksAreExact =
    (fission : Fission) (rates : ChannelRates) (before later : List ℕ)
    → rates.first_pop ≡ fission.pop → rates.pop ≡ fission.pop → rates.source ≢ rates.target
    → firing_count before rates.target < fission.firings
    → firing_count later rates.target ≡ 0 → firing_count later rates.source ≡ 0
    → exact_peak (copy_pops fission) rates none_fired (before ++ rates.target ∷ later)
    ≡ peak_fill rates none_fired (before ++ rates.target ∷ later)

-- a copy that looks at three items, pops one and fires twice a round, of four items that a scatter
-- gives it: there are at most four, and none when the round ends
abbrev pub two_firings : Fission
two_firings = record { ways = 2; firings = 2; pop = 1; window = 3; push = 1 }

abbrev pub before_copy : ChannelRates
before_copy = record {
  source = 1;
  enqueued = 0;
  first_push = 4;
  push = 4;
  target = 2;
  prework_window = 0;
  first_window = 3;
  first_pop = 1;
  pop = 1;
  window = 3;
}

abbrev pub CopyOfTwoFirings : Type 0
CopyOfTwoFirings =
    (exact_peak (copy_pops two_firings) before_copy none_fired (1 ∷ 2 ∷ 2 ∷ []) ≡ 4)
    × (peak_fill before_copy none_fired (1 ∷ 2 ∷ 2 ∷ []) ≡ 4)
    × (exact_fill (copy_pops two_firings) before_copy (after none_fired (1 ∷ 2 ∷ 2 ∷ [])) ≡ 0)
