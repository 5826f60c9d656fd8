-- No stage weighs more than its even share and the heaviest group: its first group has its middle
-- no earlier than the stages before it have their share, and its last one no later than it has.
use Rattle.std.proofs.Common.{◌≡◌, refl, sym, ap, ◌∙◌, subst, ℕ, zero, suc, ◌+◌, ◌-◌, ◌*◌, ◌<◌, ◌≤◌}
use Rattle.std.proofs.Common.{Bool, true, false, List, [], ◌∷◌, length, get_or, take, drop, arith}
use Rattle.std.proofs.Common.{min, leb-true, leb-false}
use Rattle.std.specs.Prelude.{sum, nat_le, if◌then◌else◌, All}
use Rattle.std.proofs.Math.Nat.{mul-le-mul_left}
use Rattle.std.proofs.lemmas.Bool.{cases_lt}
use Rattle.std.proofs.lemmas.List.Sums.{sum_by-cons}
use mathlib.Core.Logic.{inl, inr}
use Rattle.strc_batch_cut.specs.Weighed.{groups_before, least_group, weighed_group, weight_between}
use Rattle.strc_batch_cut.specs.Weighed.{WeighedStagesAreEven}
use Rattle.strc_batch_cut.proofs.Picks.{within_groups}
use Rattle.strc_batch_cut.proofs.Weighed.{before, past, rises, is_pick}

-- ---- the weight before a group

unfoldable pub total_before : List ℕ → ℕ → ℕ
total_before [] k = 0
total_before (weight ∷ weights) zero = 0
total_before (weight ∷ weights) (suc k) = weight + total_before weights k

abbrev at : List ℕ → ℕ → ℕ
at weights k = get_or weights k 0

total_next : (weights : List ℕ) (k : ℕ)
    → total_before weights (suc k) ≡ total_before weights k + at weights k
unfolding total_before
total_next [] k = omega arith
total_next (weight ∷ []) zero = omega arith
total_next (weight ∷ (next ∷ weights)) zero = omega arith
total_next (weight ∷ weights) (suc k) = omega (arith, total_next weights k)

total_grows : (weights : List ℕ) (j more : ℕ)
    → total_before weights j ≤ total_before weights (j + more)
total_grows weights j zero =
    let e : j ≡ j + 0 = omega arith in
    subst (λ (k : ℕ). total_before weights j ≤ total_before weights k) e (omega arith)
total_grows weights j (suc more) =
    let e : suc (j + more) ≡ j + suc more = omega arith in
    let step : total_before weights j ≤ total_before weights (suc (j + more))
    = omega (arith, total_grows weights j more, total_next weights (j + more)) in
    subst (λ (k : ℕ). total_before weights j ≤ total_before weights k) e step

total_taken : (weights : List ℕ) (k : ℕ) → sum (take k weights) ≡ total_before weights k
unfolding total_before
total_taken [] zero = refl
total_taken [] (suc k) = refl
total_taken (weight ∷ weights) zero = refl
total_taken (weight ∷ weights) (suc k) =
    sum_by-cons (λ x. x) weight (take k weights)
    ∙ ap (λ (n : ℕ). weight + n) (total_taken weights k)

pub total_all : (weights : List ℕ) → total_before weights (length weights) ≡ sum weights
unfolding total_before
total_all [] = refl
total_all (weight ∷ weights) =
    ap (λ (n : ℕ). weight + n) (total_all weights) ∙ sym (sum_by-cons (λ x. x) weight weights)

total_dropped : (weights : List ℕ) (a k : ℕ)
    → total_before weights a + total_before (drop a weights) k ≡ total_before weights (a + k)
unfolding total_before
total_dropped [] zero k = ap (total_before []) (let e : k ≡ 0 + k = omega arith in e)
total_dropped [] (suc a) k = omega arith
total_dropped (weight ∷ weights) zero k =
    ap (λ (n : ℕ). 0 + total_before (weight ∷ weights) n) (let e : k ≡ 0 + k = omega arith in e)
    ∙ (let f : 0 + total_before (weight ∷ weights) (0 + k)
    ≡ total_before (weight ∷ weights) (0 + k) = omega arith in f)
total_dropped (weight ∷ weights) (suc a) k =
    let e : suc (a + k) ≡ suc a + k = omega arith in
    let f : (weight + total_before weights a) + total_before (drop a weights) k
    ≡ weight + total_before weights (a + k) = omega (arith, total_dropped weights a k) in
    f ∙ ap (total_before (weight ∷ weights)) e

pub between_is : (weights : List ℕ) (a c : ℕ) → a ≤ c
    → total_before weights a + weight_between weights a c ≡ total_before weights c
between_is weights a c less =
    let e : a + (c - a) ≡ c = omega (arith, less) in
    ap (λ (n : ℕ). total_before weights a + n) (total_taken (drop a weights) (c - a))
    ∙ total_dropped weights a (c - a)
    ∙ ap (total_before weights) e

-- ---- middles

module _ (twice_share stages : ℕ) where
  abbrev count : List ℕ → ℕ → ℕ
  count weights passed = groups_before weights passed twice_share stages

  -- twice the middle of a group, where so much weight is before the list
  abbrev middle : List ℕ → (passed k : ℕ) → ℕ
  middle weights passed k = 2 * (passed + total_before weights k) + at weights k

  one_later : (weight : ℕ) (weights : List ℕ) (passed k : ℕ)
      → middle (weight ∷ weights) passed (suc k) ≡ middle weights (passed + weight) k
  unfolding total_before
  one_later weight weights passed k = omega arith

  first_middle : (weight : ℕ) (weights : List ℕ) (passed : ℕ)
      → middle (weight ∷ weights) passed 0 ≡ 2 * passed + weight
  unfolding total_before
  first_middle weight weights passed = omega arith

  counted_by : (weight : ℕ) (weights : List ℕ) (passed : ℕ) (test : Bool)
      → nat_le (stages * (2 * passed + weight)) twice_share ≡ test
      → count (weight ∷ weights) passed
      ≡ (if test then suc (count weights (passed + weight)) else 0)
  counted_by weight weights passed test e =
      ap (λ (t : Bool). if t then suc (count weights (passed + weight)) else 0) e

  -- what is counted has its middle within the share
  within_share : (weights : List ℕ) (passed k : ℕ) → k < count weights passed
      → stages * middle weights passed k ≤ twice_share
  within_share [] passed k less = absurd (omega (arith, less))
  within_share (weight ∷ weights) passed k less =
      by_test (nat_le (stages * (2 * passed + weight)) twice_share) refl k less
      (λ j below. within_share weights (passed + weight) j below)
    where
      by_test : (test : Bool) → nat_le (stages * (2 * passed + weight)) twice_share ≡ test
          → (k : ℕ) → k < count (weight ∷ weights) passed
          → ((j : ℕ) → j < count weights (passed + weight)
          → stages * middle weights (passed + weight) j ≤ twice_share)
          → stages * middle (weight ∷ weights) passed k ≤ twice_share
      by_test false e k less later =
          absurd (omega (arith, less, counted_by weight weights passed false e))
      by_test true e zero less later = omega (
        arith,
        ap (λ (n : ℕ). stages * n) (first_middle weight weights passed),
        leb-true (stages * (2 * passed + weight)) twice_share e,
      )
      by_test true e (suc k) less later = omega (
        arith,
        ap (λ (n : ℕ). stages * n) (one_later weight weights passed k),
        later k (omega (arith, less, counted_by weight weights passed true e)),
      )

  -- what isn't has it past the share
  past_share : (weights : List ℕ) (passed k : ℕ) → count weights passed ≤ k → k < length weights
      → twice_share < stages * middle weights passed k
  past_share [] passed k more inside = absurd (omega (arith, inside))
  past_share (weight ∷ weights) passed k more inside =
      by_test (nat_le (stages * (2 * passed + weight)) twice_share) refl k more inside
      (λ j above within. past_share weights (passed + weight) j above within)
    where
      by_test : (test : Bool) → nat_le (stages * (2 * passed + weight)) twice_share ≡ test
          → (k : ℕ) → count (weight ∷ weights) passed ≤ k → k < length (weight ∷ weights)
          → ((j : ℕ) → count weights (passed + weight) ≤ j → j < length weights
          → twice_share < stages * middle weights (passed + weight) j)
          → twice_share < stages * middle (weight ∷ weights) passed k
      by_test true e zero more inside later =
          absurd (omega (arith, more, counted_by weight weights passed true e))
      by_test true e (suc k) more inside later = omega (
        arith,
        ap (λ (n : ℕ). stages * n) (one_later weight weights passed k),
        later k (omega (arith, more, counted_by weight weights passed true e))
            (omega (arith, inside)),
      )
      by_test false e zero more inside later = omega (
        arith,
        ap (λ (n : ℕ). stages * n) (first_middle weight weights passed),
        leb-false (stages * (2 * passed + weight)) twice_share e,
      )
      by_test false e (suc k) more inside later =
          let least : stages * (2 * passed + weight)
          ≤ stages * middle weights (passed + weight) k
          = mul-le-mul_left stages (omega arith) in
          omega (
            arith,
            ap (λ (n : ℕ). stages * n) (one_later weight weights passed k),
            leb-false (stages * (2 * passed + weight)) twice_share e,
            least,
          )

-- ---- a stage

-- weights before and in a stage whose first and last groups have such middles
share_fits : (stages stage all first weight_first last weight_last own heaviest : ℕ)
    → 2 * (stage * all) ≤ stages * (2 * first + weight_first)
    → stages * (2 * last + weight_last) ≤ 2 * (suc stage * all)
    → first + own ≡ last + weight_last
    → weight_first ≤ heaviest → weight_last ≤ heaviest
    → stages * own ≤ all + stages * heaviest
share_fits stages stage all first weight_first last weight_last own heaviest low high same a b =
    omega (
      arith,
      low,
      high,
      ap (λ (n : ℕ). stages * n) same,
      mul-le-mul_left stages a,
      mul-le-mul_left stages b,
    )

module _ (weights : List ℕ) (groups stages heaviest stage : ℕ) (many : length weights ≡ groups)
    (few : stages ≤ groups) (light : All (λ weight. weight ≤ heaviest) weights)
    (less : stage < stages) where
  some : 0 < stages
  some = omega (arith, less)

  abbrev first : ℕ
  first = weighed_group weights groups stages stage

  abbrev next : ℕ
  next = weighed_group weights groups stages (suc stage)

  abbrev least : ℕ → ℕ
  least = least_group weights stages

  abbrev before_share : ℕ → ℕ
  before_share s = groups_before weights 0 (2 * (s * sum weights)) stages

  rising : first < next
  rising = rises weights groups stages some few stage less

  within : next ≤ groups
  within = within_groups (weighed_group weights groups stages) stages groups
      (is_pick weights groups stages some few) (suc stage) less

  weight_fits : (k : ℕ) → k < groups → at weights k ≤ heaviest
  weight_fits k inside = light k 0 (omega (arith, inside, many))

  own_is : total_before weights first + weight_between weights first next
      ≡ total_before weights next
  own_is = between_is weights first next (omega (arith, rising))

  one_group : next ≡ suc first
      → stages * weight_between weights first next ≤ sum weights + stages * heaviest
  one_group same =
      let own : weight_between weights first next ≡ at weights first
      = omega (arith, own_is, ap (total_before weights) same, total_next weights first) in
      let fits : weight_between weights first next ≤ heaviest
      = omega (arith, own, weight_fits first (omega (arith, rising, within))) in
      omega (arith, mul-le-mul_left stages fits)

  first_is : first ≡ min (least stage) (groups - (stages - stage))
  first_is = before weights groups stages some few stage less

  -- where the stage has more than one group, no other stage's need moves its bounds
  next_most : suc first < next → (first ≡ least stage)
      × ((suc stage < stages → next ≤ before_share (suc stage)) × (first < groups))
  next_most more = elim (cases_lt (suc stage) stages) [
    | inl earlier ↦
        let next_is : next ≡ min (least (suc stage)) (groups - (stages - suc stage))
        = before weights groups stages some few (suc stage) earlier in (
          omega (arith, more, first_is, next_is, less),
          (
            λ later. omega (arith, more, first_is, next_is, less),
            omega (arith, more, within),
          ),
        )
    | inr last ↦
        let same : stages ≡ suc stage = omega (arith, less, last) in (
          omega (arith, more, first_is, within, same),
          (
            λ later. absurd (omega (arith, later, last)),
            omega (arith, more, within),
          ),
        )
  ]

  low_by : (s : ℕ) → least s ≡ first → first < groups
      → 2 * (s * sum weights) ≤ stages * (2 * total_before weights first + at weights first)
  low_by zero is inside =
      let none : 2 * (0 * sum weights) ≡ 0 = omega arith in omega (arith, none)
  low_by (suc s) is inside =
      let past_it : 2 * (suc s * sum weights)
      < stages * (2 * (0 + total_before weights first) + at weights first)
      = past_share (2 * (suc s * sum weights)) stages weights 0 first (omega (arith, is))
      (omega (arith, inside, many)) in
      omega (arith, past_it)

  high_by : (last : ℕ) → next ≡ suc last → (suc stage < stages → next ≤ before_share (suc stage))
      → stages * (2 * total_before weights last + at weights last)
      ≤ 2 * (suc stage * sum weights)
  high_by last is most = elim (cases_lt (suc stage) stages) [
    | inl earlier ↦
        let inside : stages * (2 * (0 + total_before weights last) + at weights last)
        ≤ 2 * (suc stage * sum weights)
        = within_share (2 * (suc stage * sum weights)) stages weights 0 last
        (omega (arith, is, most earlier)) in
        omega (arith, inside)
    | inr ending ↦
        let same : stages ≡ suc stage = omega (arith, less, ending) in
        let all_of : next ≡ groups
        = ap (weighed_group weights groups stages) (sym same)
        ∙ past weights groups stages some few in
        let whole : total_before weights (suc last) ≡ sum weights
        = ap (total_before weights) (sym is ∙ all_of ∙ sym many) ∙ total_all weights in
        let fits : stages * (2 * total_before weights last + at weights last)
        ≤ stages * (2 * sum weights)
        = mul-le-mul_left stages (omega (arith, whole, total_next weights last)) in
        omega (arith, fits, ap (λ (n : ℕ). n * sum weights) same)
  ]

  more_groups : (last : ℕ) → next ≡ suc last → suc first < next
      → stages * weight_between weights first next ≤ sum weights + stages * heaviest
  more_groups last is more =
      let most = next_most more in
      share_fits stages stage (sum weights) (total_before weights first) (at weights first)
      (total_before weights last) (at weights last) (weight_between weights first next) heaviest
      (low_by stage (sym most.0) most.1.1)
      (high_by last is most.1.0)
      (own_is ∙ ap (total_before weights) is ∙ total_next weights last)
      (weight_fits first most.1.1)
      (weight_fits last (omega (arith, is, within)))

  pub even : stages * weight_between weights first next ≤ sum weights + stages * heaviest
  even = elim (cases_lt (suc first) next) [
    | inl more ↦ more_groups (next - 1) (omega (arith, more)) more
    | inr one ↦ one_group (omega (arith, one, rising))
  ]

pub weighed_stages_are_even : WeighedStagesAreEven
weighed_stages_are_even weights groups stages heaviest stage many few light less =
    even weights groups stages heaviest stage many few light less
