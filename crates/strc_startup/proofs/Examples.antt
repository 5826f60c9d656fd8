-- What the examples' counts are, by computing what each channel needs.
use Rattle.std.proofs.Common.{ℕ, zero, suc, ◌<◌, ◌≤◌, List, [], ◌∷◌, get_or, refl, inl, inr}
use Rattle.std.proofs.Common.{arith}
use Rattle.std.specs.Prelude.{All}
use Rattle.std.proofs.lemmas.Bool.{cases_lt}
use Rattle.std.proofs.lemmas.List.Elements.{All-cons, All-nil}
use Rattle.strc_balance.specs.Balance.{count_at}
use Rattle.strc_balance.specs.Examples.{with_prework}
use Rattle.strc_startup.specs.Startup.{IsMet, need, supply}
use Rattle.strc_startup.specs.Rates.{rates_of}
use Rattle.strc_startup.specs.Examples.{MovingSum, Delay, FarPeek, around, peeking}
use Rattle.strc_startup.specs.declared.channel_rates.ChannelRates.{ChannelRates}
use Rattle.strc_startup.proofs.Counting.{need-le, supply-le}

-- a source fires more than so often, where that isn't enough for the first firing of the target
forced : (rates : ChannelRates) (other : List ℕ) (firings : ℕ) → IsMet other rates
    → supply rates firings < need rates 0 → firings < count_at other rates.source
forced rates other firings met short =
    elim (cases_lt firings (count_at other rates.source)) [
      | inl more ↦ more
      | inr few ↦
          let least = need-le rates 0 (count_at other rates.target) (omega arith) in
          let most = supply-le rates (count_at other rates.source) firings few in
          absurd (omega (arith, met, short, least, most))
    ]

-- counts of which only the first one is above 0
first_alone : (firings : ℕ) (other : List ℕ) → firings ≤ count_at other 0 → (node : ℕ)
    → count_at (firings ∷ 0 ∷ 0 ∷ []) node ≤ count_at other node
first_alone firings other enough zero = enough
first_alone firings other enough (suc zero) = omega arith
first_alone firings other enough (suc (suc zero)) = omega arith
first_alone firings other enough (suc (suc (suc node))) = omega arith

none_past_prework : (counts : List ℕ) (node : ℕ) → count_at (0 ∷ 0 ∷ 0 ∷ []) node
    ≤ count_at counts node
none_past_prework counts zero = omega arith
none_past_prework counts (suc zero) = omega arith
none_past_prework counts (suc (suc zero)) = omega arith
none_past_prework counts (suc (suc (suc node))) = omega arith

both_met : (counts : List ℕ) (into out : ChannelRates) → IsMet counts into → IsMet counts out
    → All (IsMet counts) (into ∷ out ∷ [])
both_met counts into out first second = All-cons (IsMet counts) into (out ∷ []) first
    (All-cons (IsMet counts) out [] second (All-nil (IsMet counts)))

abbrev nothing : ChannelRates
nothing = record {
  source = 0;
  enqueued = 0;
  first_push = 0;
  push = 0;
  target = 0;
  prework_window = 0;
  first_window = 0;
  first_pop = 0;
  pop = 0;
  window = 0;
}

pub moving_sum : MovingSum
moving_sum =
    let graph = around (peeking 3) in
    let counts : List ℕ = 2 ∷ 0 ∷ 0 ∷ [] in
    let into = get_or (rates_of graph) 0 nothing in
    let out = get_or (rates_of graph) 1 nothing in
    let first : IsMet counts into = omega arith in
    let second : IsMet counts out = omega arith in
    record {
      primed = record {
        each = refl;
        past_prework = none_past_prework counts;
        met = both_met counts into out first second;
      };
      least = λ other primed. first_alone 2 other
          (forced into other 1 (primed.met 0 nothing (omega arith)) (omega arith));
    }

pub far_peek : FarPeek
far_peek =
    let graph = around (peeking 65536) in
    let counts : List ℕ = 65535 ∷ 0 ∷ 0 ∷ [] in
    let into = get_or (rates_of graph) 0 nothing in
    let out = get_or (rates_of graph) 1 nothing in
    let first : IsMet counts into = omega arith in
    let second : IsMet counts out = omega arith in
    record {
      primed = record {
        each = refl;
        past_prework = none_past_prework counts;
        met = both_met counts into out first second;
      };
      least = λ other primed. first_alone 65535 other
          (forced into other 65534 (primed.met 0 nothing (omega arith)) (omega arith));
    }

-- the least counts of a node with a prework are those that it begins with
pub delay : Delay
delay =
    let graph = around (with_prework 1 0 1 1) in
    let counts : List ℕ = 0 ∷ 1 ∷ 0 ∷ [] in
    let into = get_or (rates_of graph) 0 nothing in
    let out = get_or (rates_of graph) 1 nothing in
    let first : IsMet counts into = omega arith in
    let second : IsMet counts out = omega arith in
    record {
      primed = record {
        each = refl;
        past_prework = λ node. omega arith;
        met = both_met counts into out first second;
      };
      least = λ other primed. primed.past_prework;
    }
