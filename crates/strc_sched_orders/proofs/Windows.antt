-- Where a node finds its windows again, firing after firing.
use Rattle.std.proofs.Common.{◌≡◌, ◌≢◌, ◌∙◌, refl, sym, ap, subst, ℕ, zero, suc, ◌+◌, ◌-◌, ◌*◌, ◌/◌}
use Rattle.std.proofs.Common.{◌<◌}
use Rattle.std.proofs.Common.{◌≤◌, inl, inr, arith, mul-le-mul_right, div-mul-le_self}
use Rattle.std.proofs.Common.{div-add-mod', mod-lt}
use Rattle.std.proofs.lemmas.Bool.{cases_eq}
use Rattle.strc_startup.specs.Startup.{supply}
use Rattle.strc_startup.specs.declared.channel_rates.ChannelRates.{ChannelRates}
use Rattle.strc_sched_orders.specs.Firings.{Firings, turns_of, fired, reach, HasWindow}
use Rattle.strc_sched_orders.proofs.FiringCounts.{fired_none, turns_same, turns_other}

module _ (rates : ChannelRates) (counts : Firings) where
  -- how often a firing of the target is one of the source
  abbrev pub own : ℕ
  own = turns_of 1 rates.target rates.source

  -- how far the firing after the next sees, and what has come by then
  abbrev pub seen : ℕ
  seen = reach rates (counts rates.target + 1)

  abbrev pub come : ℕ
  come = supply rates (counts rates.source + own)

  reach_later : (more : ℕ) → reach rates (counts rates.target + suc more) ≡ seen + rates.pop * more
  reach_later more =
      let n = counts rates.target in
      let e : n + suc more ≡ suc (n + more) = omega arith in
      let f : n + 1 ≡ suc n = omega arith in
      omega (arith, ap (reach rates) e, ap (reach rates) f)

  supply_later : (more : ℕ) → rates.source ≡ rates.target
      → supply rates (counts rates.source + suc more) ≡ come + rates.push * own * more
  supply_later more same =
      let n = counts rates.source in
      let one = turns_same 1 rates.target rates.source same in
      let e : n + suc more ≡ suc (n + more) = omega arith in
      let f : n + own ≡ suc n = omega (arith, one) in
      let p : rates.push * own * more ≡ rates.push * more =
      ap (λ o. rates.push * o * more) one ∙ omega arith in
      omega (arith, ap (supply rates) e, ap (supply rates) f, p)

  supply_same : (more : ℕ) → rates.source ≢ rates.target
      → supply rates (counts rates.source) ≡ come + rates.push * own * more
  supply_same more apart =
      let none = turns_other 1 rates.target rates.source apart in
      let f : counts rates.source + own ≡ counts rates.source = omega (arith, none) in
      let p : rates.push * own * more ≡ 0 =
      ap (λ o. rates.push * o * more) none ∙ omega arith in
      omega (arith, ap (supply rates) f, p)

  -- after so many firings and one
  target_later : (more : ℕ)
      → fired counts (suc more) rates.target rates.target ≡ counts rates.target + suc more
  target_later more = omega (arith, turns_same (suc more) rates.target rates.target refl)

  come_later : (more : ℕ)
      → supply rates (fired counts (suc more) rates.target rates.source)
      ≡ come + rates.push * own * more
  come_later more =
      elim (cases_eq rates.source rates.target) [
        | inl same ↦
            let e : fired counts (suc more) rates.target rates.source
            ≡ counts rates.source + suc more =
            omega (arith, turns_same (suc more) rates.target rates.source same) in
            ap (supply rates) e ∙ supply_later more same
        | inr apart ↦
            let e : fired counts (suc more) rates.target rates.source ≡ counts rates.source =
            omega (arith, turns_other (suc more) rates.target rates.source apart) in
            ap (supply rates) e ∙ supply_same more apart
      ]

  seen_later : (more : ℕ)
      → reach rates (fired counts (suc more) rates.target rates.target) ≡ seen + rates.pop * more
  seen_later more = ap (reach rates) (target_later more) ∙ reach_later more

  -- the window is there as long as the items suffice
  pub later_has : (more : ℕ) → seen + rates.pop * more ≤ come + rates.push * own * more
      → HasWindow (fired counts (suc more) rates.target) rates
  later_has more enough = omega (arith, seen_later more, come_later more, enough)

  pub later_lacks : (more : ℕ) → come + rates.push * own * more < seen + rates.pop * more
      → ¬ HasWindow (fired counts (suc more) rates.target) rates
  later_lacks more short has = omega (arith, seen_later more, come_later more, short, has)

  -- each firing adds as many items as it takes
  pub gains_enough : (more : ℕ) → seen ≤ come → rates.pop ≤ rates.push * own
      → seen + rates.pop * more ≤ come + rates.push * own * more
  gains_enough more first gains =
      let m : rates.pop * more ≤ rates.push * own * more = mul-le-mul_right more gains in
      omega (arith, first, m)

  -- each firing takes more items than it adds
  pub loses_enough : (loss more : ℕ) → seen ≤ come → rates.pop ≡ rates.push * own + loss
      → loss * more ≤ come - seen
      → seen + rates.pop * more ≤ come + rates.push * own * more
  loses_enough loss more first is few =
      let m : rates.pop * more ≡ rates.push * own * more + loss * more =
      ap (λ p. p * more) is ∙ omega arith in
      omega (arith, first, m, few)

  pub loses_short : (loss more : ℕ) → seen ≤ come → rates.pop ≡ rates.push * own + loss
      → come - seen < loss * more
      → come + rates.push * own * more < seen + rates.pop * more
  loses_short loss more first is many =
      let m : rates.pop * more ≡ rates.push * own * more + loss * more =
      ap (λ p. p * more) is ∙ omega arith in
      omega (arith, first, m, many)

module _ (rates : ChannelRates) (counts : Firings) (has : HasWindow counts rates)
    (first : seen rates counts ≤ come rates counts) where
  -- each firing adds as many items as it takes
  pub finds_always : rates.pop ≤ rates.push * own rates counts → (earlier : ℕ)
      → HasWindow (fired counts earlier rates.target) rates
  finds_always gains zero = subst (λ k. HasWindow k rates)
      (sym (fired_none counts rates.target)) has
  finds_always gains (suc more) =
      later_has rates counts more (gains_enough rates counts more first gains)

  -- each firing takes more items than it adds: so often the rest suffices, and no more
  pub finds_some : (loss earlier : ℕ) → rates.pop ≡ rates.push * own rates counts + loss
      → 0 < loss → earlier ≤ (come rates counts - seen rates counts) / loss + 1
      → HasWindow (fired counts earlier rates.target) rates
  finds_some loss zero is some few =
      subst (λ k. HasWindow k rates) (sym (fired_none counts rates.target)) has
  finds_some loss (suc more) is some few =
      let rest = come rates counts - seen rates counts in
      let m : more * loss ≤ (rest / loss) * loss = mul-le-mul_right loss (omega (arith, few)) in
      let d : (rest / loss) * loss ≤ rest = div-mul-le_self rest loss in
      let e : loss * more ≡ more * loss = omega arith in
      later_has rates counts more
      (loses_enough rates counts loss more first is (omega (arith, m, d, e)))

  pub lacks_more : (loss : ℕ) → rates.pop ≡ rates.push * own rates counts + loss
      → 0 < loss
      → ¬ HasWindow (fired counts ((come rates counts - seen rates counts) / loss + 2)
      rates.target) rates
  lacks_more loss is some =
      let rest = come rates counts - seen rates counts in
      let next = rest / loss + 1 in
      let short : rest < loss * next = past rest loss some in
      subst (λ n. ¬ HasWindow (fired counts n rates.target) rates) (plus_two (rest / loss))
      (later_lacks rates counts next (loses_short rates counts loss next first is short))
    where
      plus_two : (n : ℕ) → suc (n + 1) ≡ n + 2
      plus_two n = omega arith

      past : (n d : ℕ) → 0 < d → n < d * (n / d + 1)
      past n d some = let e = div-add-mod' n d in let m = mod-lt n some in omega (arith, e, m)

-- how often a window is found, by numbers that are those of the rates and counts
pub finds_by : (rates : ChannelRates) (counts : Firings) (s e g earlier : ℕ)
    → HasWindow counts rates → seen rates counts ≡ s → come rates counts ≡ e
    → rates.push * own rates counts ≡ g → s ≤ e → g < rates.pop
    → earlier ≤ (e - s) / (rates.pop - g) + 1
    → HasWindow (fired counts earlier rates.target) rates
finds_by rates counts s e g earlier has se ce ge least loses few =
    let loss = rates.pop - rates.push * own rates counts in
    let d = ap (λ x. (come rates counts - x) / loss) se ∙ ap (λ x. (x - s) / loss) ce
    ∙ ap (λ x. (e - s) / (rates.pop - x)) ge in
    let first : seen rates counts ≤ come rates counts = omega (arith, se, ce, least) in
    finds_some rates counts has first loss earlier (omega (arith, ge, loses))
    (omega (arith, ge, loses)) (omega (arith, few, d))

pub lacks_by : (rates : ChannelRates) (counts : Firings) (s e g turns : ℕ)
    → HasWindow counts rates → seen rates counts ≡ s → come rates counts ≡ e
    → rates.push * own rates counts ≡ g → s ≤ e → g < rates.pop
    → turns ≡ (e - s) / (rates.pop - g) + 2
    → ¬ HasWindow (fired counts turns rates.target) rates
lacks_by rates counts s e g turns has se ce ge least loses is =
    let loss = rates.pop - rates.push * own rates counts in
    let d = ap (λ x. (come rates counts - x) / loss) se ∙ ap (λ x. (x - s) / loss) ce
    ∙ ap (λ x. (e - s) / (rates.pop - x)) ge in
    let first : seen rates counts ≤ come rates counts = omega (arith, se, ce, least) in
    let same : (come rates counts - seen rates counts) / loss + 2 ≡ turns = omega (arith, d, is) in
    subst (λ n. ¬ HasWindow (fired counts n rates.target) rates) same
    (lacks_more rates counts has first loss (omega (arith, ge, loses)) (omega (arith, ge, loses)))
