-- A count that is raised as far as a channel asks stays below all counts that prime, and what was
-- met or waits stays so.
use Rattle.std.proofs.Common.{◌≡◌, ◌≢◌, ◌∙◌, refl, sym, ap, subst, ℕ, ◌+◌, ◌-◌, ◌<◌, ◌≤◌, List}
use Rattle.std.proofs.Common.{length, set, Contains, true, inl, inr, arith}
use Rattle.std.proofs.lemmas.Bool.{cases_eq, cases_lt}
use Rattle.std.proofs.lemmas.List.{get_or-set_same, get_or-set_other, length-set}
use Rattle.std.proofs.lemmas.List.Elements.{All-contains}
use Rattle.std.proofs.lemmas.List.Sums.{sum_by-set}
use Rattle.strc_balance.specs.NumberSets.{has_number, IsWith, AllNumbers, size_below}
use Rattle.strc_balance.proofs.Membership.{with_own, with_old, with_cases, size_with}
use Rattle.strc_balance.specs.Balance.{count_at, count_limit, IsWithinLimit}
use Rattle.strc_startup.specs.Startup.{IsMet, need, supply}
use Rattle.strc_startup.specs.Waiting.{Waits}
use Rattle.strc_startup.specs.Raises.{Raises, IsBelow, room, IsUnbounded}
use Rattle.strc_startup.specs.declared.channel_rates.ChannelRates.{ChannelRates}
use Rattle.strc_startup.proofs.Counting.{supply-le, need-le}

-- nothing is raised
pub raises_none : (channels : List ChannelRates) (counts waiting : List ℕ) → IsWithinLimit counts
    → AllNumbers (λ node. node < length counts) waiting
    → Raises channels counts waiting counts waiting
raises_none channels counts waiting within nodes = record {
  each = refl;
  grown = λ node. omega arith;
  within = within;
  below = λ other met less. less;
  kept = λ rates waits. waits;
  numbers = nodes;
  steps = omega arith;
}

-- one after another
pub raises_then : (channels : List ChannelRates) (a wa b wb c wc : List ℕ)
    → Raises channels a wa b wb → Raises channels b wb c wc → Raises channels a wa c wc
raises_then channels a wa b wb c wc first next = record {
  each = next.each ∙ first.each;
  grown = λ node. omega (arith, first.grown node, next.grown node);
  within = next.within;
  below = λ other met less. next.below other met (first.below other met less);
  kept = λ rates waits. next.kept rates (first.kept rates waits);
  numbers = next.numbers;
  steps = omega (arith, first.steps, next.steps);
}

-- what the least counts are not above, those raised from them aren't either
pub unbounded_then : (channels : List ChannelRates) (a wa b wb : List ℕ)
    → Raises channels a wa b wb → IsUnbounded channels b → IsUnbounded channels a
unbounded_then channels a wa b wb first none = λ other met less.
    none other met (first.below other met less)

-- what a channel asks for, others that meet it have
asked : (rates : ChannelRates) (counts other : List ℕ) (count : ℕ) → IsMet other rates
    → IsBelow counts other
    → ((fewer : ℕ) → fewer < count
    → supply rates fewer < need rates (count_at counts rates.target))
    → count ≤ count_at other rates.source
asked rates counts other count met less least =
    elim (cases_lt (count_at other rates.source) count) [
      | inl fewer ↦
          let more = need-le rates (count_at counts rates.target) (count_at other rates.target)
          (less rates.target) in
          let short = least (count_at other rates.source) fewer in
          absurd (omega (arith, more, short, met))
      | inr enough ↦ omega (arith, enough)
    ]

pub past_the_limit : (channels : List ChannelRates) (rates : ChannelRates) (counts : List ℕ)
    (count : ℕ) → Contains channels rates → count_limit < count
    → ((fewer : ℕ) → fewer < count
    → supply rates fewer < need rates (count_at counts rates.target))
    → IsUnbounded channels counts
past_the_limit channels rates counts count there past least = λ other met less within.
    let enough = asked rates counts other count
    (All-contains (IsMet other) channels rates met there) less least in
    absurd (omega (arith, enough, past, within rates.source))

module _ (rates : ChannelRates) (counts : List ℕ) (count : ℕ)
    (more : count_at counts rates.source < count)
    (there : rates.source < length counts) where
  abbrev after : List ℕ
  after = set counts rates.source count

  at_source : count_at after rates.source ≡ count
  at_source = get_or-set_same counts rates.source count 0 there

  at_other : (node : ℕ) → node ≢ rates.source → count_at after node ≡ count_at counts node
  at_other node apart = get_or-set_other counts rates.source node count 0 apart

  raised_grown : IsBelow counts after
  raised_grown node =
      elim (cases_eq node rates.source) [
        | inl same ↦ subst (λ n. count_at counts n ≤ count_at after n) (sym same)
            (omega (arith, at_source))
        | inr apart ↦ omega (arith, at_other node apart)
      ]

  raised_within : IsWithinLimit counts → count ≤ count_limit → IsWithinLimit after
  raised_within within few node =
      elim (cases_eq node rates.source) [
        | inl same ↦ subst (λ n. count_at after n ≤ count_limit) (sym same)
            (omega (arith, at_source))
        | inr apart ↦ omega (arith, at_other node apart, within node)
      ]

  raised_below : (other : List ℕ) → IsBelow counts other → count ≤ count_at other rates.source
      → IsBelow after other
  raised_below other less enough node =
      elim (cases_eq node rates.source) [
        | inl same ↦ subst (λ n. count_at after n ≤ count_at other n) (sym same)
            (omega (arith, at_source))
        | inr apart ↦ omega (arith, at_other node apart, less node)
      ]

  -- a channel whose target isn't raised stays met
  still_met : (own : ChannelRates) → own.target ≢ rates.source → IsMet counts own
      → IsMet after own
  still_met own apart met =
      let same = ap (need own) (at_other own.target apart) in
      let grown = supply-le own (count_at counts own.source) (count_at after own.source)
      (raised_grown own.source) in
      omega (arith, same, grown, met)

  -- the channel that asked is met now, unless its target is the node that is raised
  now_met : rates.target ≢ rates.source
      → need rates (count_at counts rates.target) ≤ supply rates count → IsMet after rates
  now_met apart enough =
      let same = ap (need rates) (at_other rates.target apart) in
      let here = ap (supply rates) at_source in
      omega (arith, same, here, enough)

  raised_room : count ≤ count_limit → room after + 1 ≤ room counts
  raised_room few =
      let sums = sum_by-set (λ c. count_limit - c) counts rates.source count 0 there in
      omega (arith, sums)

  module _ (waiting queued : List ℕ) (pushed : IsWith rates.source waiting queued) where
    source_waits : has_number queued rates.source ≡ true
    source_waits = with_own rates.source waiting queued pushed

    still_kept : (own : ChannelRates) → Waits counts waiting own → Waits after queued own
    still_kept own (inr waits) = inr (with_old rates.source waiting queued pushed own.target waits)
    still_kept own (inl met) =
        elim (cases_eq own.target rates.source) [
          | inl same ↦ inr (ap (has_number queued) same ∙ source_waits)
          | inr apart ↦ inl (still_met own apart met)
        ]

    pub raised_serves : need rates (count_at counts rates.target) ≤ supply rates count
        → Waits after queued rates
    raised_serves enough =
        elim (cases_eq rates.target rates.source) [
          | inl same ↦ inr (ap (has_number queued) same ∙ source_waits)
          | inr apart ↦ inl (now_met apart enough)
        ]

    pub raised : (channels : List ChannelRates) → Contains channels rates → IsWithinLimit counts
        → count ≤ count_limit → AllNumbers (λ node. node < length counts) waiting
        → ((fewer : ℕ) → fewer < count
        → supply rates fewer < need rates (count_at counts rates.target))
        → Raises channels counts waiting after queued
    raised channels here within few nodes least = record {
      each = length-set counts rates.source count;
      grown = raised_grown;
      within = raised_within within few;
      below = λ other met less. raised_below other less (asked rates counts other count
          (All-contains (IsMet other) channels rates met here) less least);
      kept = still_kept;
      numbers = λ node waits.
          elim (with_cases rates.source waiting queued pushed node waits) [
            | inl same ↦ omega (arith, there, same, length-set counts rates.source count)
            | inr earlier ↦ omega (
              arith,
              nodes node earlier,
              length-set counts rates.source count,
            )
          ];
      steps = omega (
        arith,
        raised_room few,
        size_with rates.source waiting queued pushed (length counts),
        ap (size_below queued) (length-set counts rates.source count),
      );
    }
