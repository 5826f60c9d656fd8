-- Numbers of items that don't fit into 128 bits, and the firings that it takes to come to them.
use Rattle.std.proofs.Common.{◌≡◌, ap, ℕ, ◌+◌, ◌-◌, ◌*◌, ◌<◌, ◌≤◌, ◌^◌, Option, Some, None}
use Rattle.std.proofs.Common.{IfNone, inl, inr, arith}
use Rattle.std.specs.Prelude.{SomeIff}
use Rattle.std.proofs.lemmas.Bool.{cases_lt}
use Rattle.std.proofs.lemmas.Nat.{mul-le}
use Rattle.strc_sched_orders.specs.Firings.{Firings, turns_of}
use Rattle.strc_sched_orders.specs.Progress.{count_bound, PassesBound}
use Rattle.strc_sched_orders.proofs.FiringCounts.{turns_add}

-- a sum that doesn't fit is one of more firings than in start-up and one round
pub past_bits : (rate first firings : ℕ) → rate < 2 ^ 96 → first < 2 ^ 97
    → ¬ (rate * (firings - 1) + first < 2 ^ 128) → count_bound < firings
past_bits rate first firings few less past =
    elim (cases_lt count_bound firings) [
      | inl more ↦ more
      | inr within ↦
          let most = mul-le rate (firings - 1) (2 ^ 96) count_bound (omega (arith, few))
          (omega (arith, within)) in
          absurd (past (omega (arith, most, less)))
    ]

pub none_past : (sum : Option ℕ) (rate first firings value : ℕ) → rate < 2 ^ 96 → first < 2 ^ 97
    → SomeIff sum (rate * (firings - 1) + first < 2 ^ 128) value
    → IfNone sum (count_bound < firings)
none_past None rate first firings value few less is = past_bits rate first firings few less is
none_past (Some found) rate first firings value few less is = tt

-- where one node fires that often, one does that fires at least as often
pub passes_more : (counts later : Firings) → ((node : ℕ) → counts node ≤ later node)
    → PassesBound counts → PassesBound later
passes_more counts later more (node, past) = (node, omega (arith, past, more node))

pub passes_if_none : {A : Type 0} (some : Option A) (counts later : Firings)
    → ((node : ℕ) → counts node ≤ later node) → PassesBound counts
    → IfNone some (PassesBound later)
passes_if_none None counts later more past = passes_more counts later more past
passes_if_none (Some found) counts later more past = tt

-- no node fires less often with more turns
pub turns_more : (turns more node other : ℕ) → turns ≤ more
    → turns_of turns node other ≤ turns_of more node other
turns_more turns more node other less =
    let all : turns + (more - turns) ≡ more = omega (arith, less) in
    omega (
      arith,
      ap (λ n. turns_of n node other) all,
      turns_add turns (more - turns) node other,
    )

-- where each node fires so often at most, none fires more often
pub none_passes : (counts : Firings) → ((node : ℕ) → counts node ≤ count_bound)
    → ¬ PassesBound counts
none_passes counts few (node, past) = omega (arith, past, few node)
