-- How often nodes fire in orders.
use Rattle.std.proofs.Common.{◌≡◌, ◌≢◌, refl, sym, ap, ℕ, zero, suc, ◌+◌, cond, List}
use Rattle.std.proofs.Common.{[], ◌∷◌, ◌++◌, replicate, inl, inr, arith, eq-eqb, ne_eqb}
use Rattle.std.proofs.lemmas.Bool.{cases_eq}
use mathlib.Core.Path.{fun_ext}
use Rattle.strc_sched_orders.specs.Firings.{Firings, turns_of, fired}
use Rattle.strc_sched_orders.specs.Order.{firing_count, after, repeated}

pub turns_same : (turns node other : ℕ) → other ≡ node → turns_of turns node other ≡ turns
turns_same turns node other same = ap (λ t. cond t turns 0) (eq-eqb other node same)

pub turns_other : (turns node other : ℕ) → other ≢ node → turns_of turns node other ≡ 0
turns_other turns node other apart = ap (λ t. cond t turns 0) (ne_eqb other node apart)

pub turns_none : (node other : ℕ) → turns_of 0 node other ≡ 0
turns_none node other =
    elim (cases_eq other node) [
      | inl same ↦ turns_same 0 node other same
      | inr apart ↦ turns_other 0 node other apart
    ]

pub turns_add : (a b node other : ℕ)
    → turns_of (a + b) node other ≡ turns_of a node other + turns_of b node other
turns_add a b node other =
    elim (cases_eq other node) [
      | inl same ↦ omega (
        arith,
        turns_same (a + b) node other same,
        turns_same a node other same,
        turns_same b node other same,
      )
      | inr apart ↦ omega (
        arith,
        turns_other (a + b) node other apart,
        turns_other a node other apart,
        turns_other b node other apart,
      )
    ]

pub one_more : (n : ℕ) → 1 + n ≡ suc n
one_more n = omega arith

-- no firings
pub fired_none : (counts : Firings) (node : ℕ) → fired counts 0 node ≡ counts
fired_none counts node = fun_ext (λ other. omega (arith, turns_none node other))

-- some firings of a node, and then some more
pub fired_fired : (counts : Firings) (a b node : ℕ)
    → fired (fired counts a node) b node ≡ fired counts (a + b) node
fired_fired counts a b node = fun_ext (λ other. omega (arith, turns_add a b node other))

pub firing_count_append : (a b : List ℕ) (node : ℕ) → firing_count (a ++ b) node
    ≡ firing_count a node + firing_count b node
firing_count_append [] b node = omega arith
firing_count_append (first ∷ a) b node = omega (arith, firing_count_append a b node)

-- after an order, and after another one
pub after_append : (counts : Firings) (a b : List ℕ)
    → after counts (a ++ b) ≡ after (after counts a) b
after_append counts a b = fun_ext (λ node. omega (arith, firing_count_append a b node))

pub after_cons : (counts : Firings) (node : ℕ) (order : List ℕ)
    → after counts (node ∷ order) ≡ after (fired counts 1 node) order
after_cons counts node order = fun_ext (λ other. omega arith)

pub after_none : (counts : Firings) → after counts [] ≡ counts
after_none counts = fun_ext (λ node. omega arith)

pub repeated_single : (turns node : ℕ) → repeated turns (node ∷ []) ≡ replicate turns node
repeated_single zero node = refl
repeated_single (suc turns) node = ap (λ l. node ∷ l) (repeated_single turns node)

pub firing_count_repeated : (turns node other : ℕ)
    → firing_count (repeated turns (node ∷ [])) other ≡ turns_of turns node other
firing_count_repeated zero node other = sym (turns_none node other)
firing_count_repeated (suc turns) node other =
    let more = turns_add 1 turns node other in
    let same = ap (λ n. turns_of n node other) (one_more turns) in
    omega (arith, more, same, firing_count_repeated turns node other)

-- after a unit with a single node
pub after_repeated : (counts : Firings) (turns node : ℕ)
    → after counts (repeated turns (node ∷ [])) ≡ fired counts turns node
after_repeated counts turns node =
    fun_ext (λ other. omega (arith, firing_count_repeated turns node other))
