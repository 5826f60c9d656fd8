-- The items before a copy of a filter, by the rates of a round and by what each firing pops.
use Rattle.std.proofs.Common.{◌≡◌, ◌≢◌, refl, ap, ℕ, zero, suc, ◌+◌, ◌*◌, ◌<◌, ◌≤◌}
use Rattle.std.proofs.Common.{◌%◌, List, [], ◌∷◌, ◌++◌, cond, arith, ne_eqb}
use Rattle.std.proofs.Math.Nat.{mod-eq_of_lt}
use Rattle.strc_elab_graph.specs.Rates.{copy_pops, rate_at_0}
use Rattle.strc_elab_graph.specs.declared.graph.Fission.{Fission}
use Rattle.strc_startup.specs.Startup.{popped, supply}
use Rattle.strc_startup.specs.declared.channel_rates.ChannelRates.{ChannelRates}
use Rattle.strc_sched_orders.specs.Buffers.{peak_fill}
use Rattle.strc_sched_orders.specs.CopyPeaks.{total_pops, exact_fill, exact_peak, CopiesPopByRound}
use Rattle.strc_sched_orders.specs.CopyPeaks.{RoundPeaksAreExact, CopyOfTwoFirings}
use Rattle.strc_sched_orders.specs.Firings.{Firings, none_fired, fired, fill}
use Rattle.strc_sched_orders.specs.Order.{firing_count}
use Rattle.strc_sched_orders.proofs.Fills.{fill_other}
use Rattle.strc_sched_orders.proofs.FiringCounts.{turns_same, turns_other}

-- a firing that isn't the last of a round
pops_before_last : (fission : Fission) (firing : ℕ)
    → suc (firing % fission.firings) < fission.firings
    → copy_pops fission firing ≡ fission.pop
pops_before_last fission firing less =
    ap (λ t. cond t fission.window fission.pop)
    (ne_eqb (firing % fission.firings + 1) fission.firings (λ same. omega (arith, same, less)))

pub copies_pop_by_round : CopiesPopByRound
copies_pop_by_round copied fission firing port less =
    ap (λ rate. rate_at_0 rate port) (pops_before_last fission firing less)

-- until the last one all pop the same
total_before_last : (fission : Fission) (n : ℕ) → n < fission.firings
    → total_pops (copy_pops fission) n ≡ fission.pop * n
total_before_last fission zero less = omega arith
total_before_last fission (suc n) less =
    let small : n % fission.firings ≡ n = mod-eq_of_lt (omega (arith, less)) in
    let own = pops_before_last fission n (omega (arith, less, small)) in
    omega (arith, own, total_before_last fission n (omega (arith, less)))

module _ (fission : Fission) (rates : ChannelRates) (first : rates.first_pop ≡ fission.pop)
    (later : rates.pop ≡ fission.pop) where
  popped_alike : (n : ℕ) → popped rates n ≡ fission.pop * n
  popped_alike zero = omega arith
  popped_alike (suc n) = omega (arith, first, ap (λ p. p * n) later)

  fill_alike : (counts : Firings) → counts rates.target < fission.firings
      → exact_fill (copy_pops fission) rates counts ≡ fill rates counts
  fill_alike counts less =
      omega (
        arith,
        total_before_last fission (counts rates.target) less,
        popped_alike (counts rates.target),
      )

  -- where neither end fires nothing changes
  still : (counts : Firings) (order : List ℕ) → firing_count order rates.target ≡ 0
      → firing_count order rates.source ≡ 0 → peak_fill rates counts order ≡ fill rates counts
  still counts [] target source = refl
  still counts (node ∷ order) target source =
      let next = fired counts 1 node in
      let t : next rates.target ≡ counts rates.target = omega (arith, target) in
      let s : next rates.source ≡ counts rates.source = omega (arith, source) in
      let rest = still next order (omega (arith, target)) (omega (arith, source)) in
      omega (arith, rest, ap (popped rates) t, ap (supply rates) s)

  exact_still : (pops : (firing : ℕ) → ℕ) (counts : Firings) (order : List ℕ)
      → firing_count order rates.target ≡ 0 → firing_count order rates.source ≡ 0
      → exact_peak pops rates counts order ≡ exact_fill pops rates counts
  exact_still pops counts [] target source = refl
  exact_still pops counts (node ∷ order) target source =
      let next = fired counts 1 node in
      let t : next rates.target ≡ counts rates.target = omega (arith, target) in
      let s : next rates.source ≡ counts rates.source = omega (arith, source) in
      let rest = exact_still pops next order (omega (arith, target)) (omega (arith, source)) in
      omega (arith, rest, ap (total_pops pops) t, ap (supply rates) s)

  -- a firing of the target leaves no more items than there were
  exact_less : (counts : Firings) → rates.source ≢ rates.target
      → exact_fill (copy_pops fission) rates (fired counts 1 rates.target)
      ≤ exact_fill (copy_pops fission) rates counts
  exact_less counts apart =
      let next = fired counts 1 rates.target in
      let t : next rates.target ≡ suc (counts rates.target) =
      omega (arith, turns_same 1 rates.target rates.target refl) in
      let s : next rates.source ≡ counts rates.source =
      omega (arith, turns_other 1 rates.target rates.source apart) in
      omega (arith, ap (total_pops (copy_pops fission)) t, ap (supply rates) s)

  peaks_alike : (counts : Firings) (before after : List ℕ) → rates.source ≢ rates.target
      → counts rates.target + firing_count before rates.target < fission.firings
      → firing_count after rates.target ≡ 0 → firing_count after rates.source ≡ 0
      → exact_peak (copy_pops fission) rates counts (before ++ rates.target ∷ after)
      ≡ peak_fill rates counts (before ++ rates.target ∷ after)
  peaks_alike counts [] after apart less target source =
      let next = fired counts 1 rates.target in
      omega (
        arith,
        fill_alike counts (omega (arith, less)),
        still next after target source,
        exact_still (copy_pops fission) next after target source,
        exact_less counts apart,
        fill_other rates counts 1 rates.target apart,
      )
  peaks_alike counts (node ∷ before) after apart less target source =
      omega (
        arith,
        fill_alike counts (omega (arith, less)),
        peaks_alike (fired counts 1 node) before after apart (omega (arith, less)) target source,
      )

pub round_peaks_are_exact : RoundPeaksAreExact
round_peaks_are_exact fission rates before after first later apart less target source =
    peaks_alike fission rates first later none_fired before after apart (omega (arith, less)) target
    source

pub copy_of_two_firings : CopyOfTwoFirings
copy_of_two_firings = (refl, refl, refl)
