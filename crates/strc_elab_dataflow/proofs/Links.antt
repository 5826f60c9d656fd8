-- One channel by itself: where the firings of a list find their windows there, by what was given
-- and taken so far.
use Rattle.std.proofs.Common.{◌≡◌, refl, sym, ap, ◌∙◌, subst, ℕ, zero, suc, ◌+◌, ◌*◌, ◌≤◌}
use Rattle.std.proofs.Common.{Bool, true, false, cond, eqb, List, [], ◌∷◌, ◌++◌, arith, eqb-true}
use Rattle.std.proofs.Common.{append_assoc}
use Rattle.strc_elab_dataflow.specs.Order.{firing_count}
use Rattle.strc_elab_dataflow.specs.Fused.{repeated}
use Rattle.strc_elab_dataflow.proofs.Counts.{count_here, count_other, count_none, count_front}
use Rattle.strc_elab_dataflow.proofs.Counts.{count_append}
use Rattle.strc_elab_dataflow.proofs.Diamond.{apart_other}

-- The node that takes from a channel, how much and how much it looks at, and what a firing of each
-- node gives to it.
pub record Link : Type 0 where
  pub target : ℕ
  pub pop : ℕ
  pub window : ℕ
  pub gives : ℕ → ℕ

unfoldable pub takes : Link → ℕ → ℕ
takes link node = cond (eqb node link.target) link.pop 0

-- What the nodes of a list come to, added up.
unfoldable pub sum_of : (ℕ → ℕ) → List ℕ → ℕ
sum_of f [] = 0
sum_of f (node ∷ order) = f node + sum_of f order

pub sum_append : (f : ℕ → ℕ) (xs ys : List ℕ) → sum_of f (xs ++ ys) ≡ sum_of f xs + sum_of f ys
unfolding sum_of
sum_append f [] ys = omega arith
sum_append f (node ∷ xs) ys = omega (arith, sum_append f xs ys)

pub sum_repeated : (f : ℕ → ℕ) (n : ℕ) (xs : List ℕ)
    → sum_of f (repeated n xs) ≡ n * sum_of f xs
unfolding sum_of
sum_repeated f zero xs = omega arith
sum_repeated f (suc n) xs = omega (
  arith,
  sum_append f xs (repeated n xs),
  sum_repeated f n xs,
)

pub repeated_add : (m k : ℕ) (xs : List ℕ)
    → repeated (m + k) xs ≡ repeated m xs ++ repeated k xs
repeated_add zero k xs = ap (λ (n : ℕ). repeated n xs) (let e : 0 + k ≡ k = omega arith in e)
repeated_add (suc m) k xs =
    ap (λ (n : ℕ). repeated n xs) (let e : suc m + k ≡ suc (m + k) = omega arith in e)
    ∙ ap (λ (l : List ℕ). xs ++ l) (repeated_add m k xs)
    ∙ sym (append_assoc xs (repeated m xs) (repeated k xs))

pub count_repeated : (n : ℕ) (xs : List ℕ) (v : ℕ)
    → firing_count (repeated n xs) v ≡ n * firing_count xs v
count_repeated zero xs v = omega (arith, count_none v)
count_repeated (suc n) xs v = omega (
  arith,
  count_append xs (repeated n xs) v,
  count_repeated n xs v,
)

pub sum_takes : (link : Link) (xs : List ℕ)
    → sum_of (takes link) xs ≡ firing_count xs link.target * link.pop
unfolding sum_of takes
sum_takes link [] = omega (
  arith,
  count_none link.target,
  ap (λ (n : ℕ). n * link.pop) (count_none link.target),
)
sum_takes link (node ∷ xs) =
    by_test (sum_takes link xs) (eqb node link.target) refl
  where
    by_test : sum_of (takes link) xs ≡ firing_count xs link.target * link.pop → (t : Bool)
        → eqb node link.target ≡ t
        → cond t link.pop 0 + sum_of (takes link) xs
        ≡ firing_count (node ∷ xs) link.target * link.pop
    by_test ih true e =
        let same : node ≡ link.target = eqb-true node link.target e in
        let here : firing_count (node ∷ xs) link.target ≡ suc (firing_count xs link.target) =
        subst (λ (v : ℕ). firing_count (v ∷ xs) link.target
        ≡ suc (firing_count xs link.target)) (sym same) (count_here link.target xs) in
        omega (arith, ih, ap (λ (k : ℕ). k * link.pop) here)
    by_test ih false e =
        let here : firing_count (node ∷ xs) link.target ≡ firing_count xs link.target =
        count_other node link.target xs (apart_other node link.target e) in
        omega (arith, ih, ap (λ (k : ℕ). k * link.pop) here)

module _ (link : Link) where
  -- Each firing of the target finds its window.
  abbrev pub Passes : (given taken : ℕ) → List ℕ → Type 0
  Passes given taken [] = Unit {0}
  Passes given taken (node ∷ order) =
      (node ≡ link.target → taken + link.window ≤ given)
      × Passes (given + link.gives node) (taken + takes link node) order

  -- With no fewer items there the same order passes.
  pub easier : (order : List ℕ) (g t more less : ℕ) → g + less ≤ more + t
      → Passes g t order → Passes more less order
  easier [] g t more less at_least passes = tt
  easier (node ∷ order) g t more less at_least passes = (
    λ e. omega (arith, passes.0 e),
    easier order (g + link.gives node) (t + takes link node) (more + link.gives node)
        (less + takes link node) (omega arith) passes.1,
  )

  pub join : (xs ys : List ℕ) (g t : ℕ) → Passes g t xs
      → Passes (g + sum_of link.gives xs) (t + sum_of (takes link) xs) ys
      → Passes g t (xs ++ ys)
  unfolding sum_of
  join [] ys g t front back = easier ys (g + 0) (t + 0) g t (omega arith) back
  join (node ∷ xs) ys g t front back = (
    front.0,
    join xs ys (g + link.gives node) (t + takes link node) front.1
        (easier ys _ _ _ _ (omega arith) back),
  )

  pub passes_front : (xs ys : List ℕ) (g t : ℕ) → Passes g t (xs ++ ys) → Passes g t xs
  passes_front [] ys g t passes = tt
  passes_front (node ∷ xs) ys g t passes = (
    passes.0,
    passes_front xs ys (g + link.gives node) (t + takes link node) passes.1,
  )

  pub passes_back : (xs ys : List ℕ) (g t : ℕ) → Passes g t (xs ++ ys)
      → Passes (g + sum_of link.gives xs) (t + sum_of (takes link) xs) ys
  unfolding sum_of
  passes_back [] ys g t passes = easier ys g t (g + 0) (t + 0) (omega arith) passes
  passes_back (node ∷ xs) ys g t passes =
      easier ys _ _ _ _ (omega arith)
      (passes_back xs ys (g + link.gives node) (t + takes link node) passes.1)

  -- Nodes without the target pass.
  pub untouched : (xs : List ℕ) (g t : ℕ) → firing_count xs link.target ≡ 0 → Passes g t xs
  untouched [] g t none = tt
  untouched (node ∷ xs) g t none = (
    λ e. absurd (omega (
      arith,
      subst (λ (v : ℕ). firing_count (v ∷ xs) link.target ≡ 0) e none,
      count_here link.target xs,
    )),
    untouched xs (g + link.gives node) (t + takes link node)
        (omega (arith, none, count_front node link.target xs)),
  )
