-- Two units in turns pass one channel where they passed it one after the other.
use Rattle.std.proofs.Common.{◌≡◌, ap, ◌∙◌, subst, ℕ, zero, suc, ◌+◌, ◌*◌}
use Rattle.std.proofs.Common.{List, ◌++◌, arith}
use mathlib.Core.Logic.{inl, inr, ◌⊎◌}
use Rattle.strc_elab_dataflow.specs.Order.{firing_count}
use Rattle.strc_elab_dataflow.specs.Fused.{repeated}
use Rattle.strc_elab_dataflow.proofs.Links.{Link, takes, sum_of, sum_append, sum_repeated}
use Rattle.strc_elab_dataflow.proofs.Links.{repeated_add}
use Rattle.strc_elab_dataflow.proofs.Links.{count_repeated, sum_takes, Passes, easier, join}
use Rattle.strc_elab_dataflow.proofs.Links.{passes_front, passes_back, untouched}

module _ (link : Link) (first second : List ℕ) (m n : ℕ) where
  abbrev block : List ℕ
  block = repeated m first ++ repeated n second

  abbrev gives_of : List ℕ → ℕ
  gives_of = sum_of link.gives

  abbrev takes_of : List ℕ → ℕ
  takes_of = sum_of (takes link)

  -- No node of a list is at an end of the channel.
  pub record IsClear (nodes : List ℕ) : Type 0 where
    pub no_target : firing_count nodes link.target ≡ 0
    pub no_gift : gives_of nodes ≡ 0

  -- The first nodes give, and the second take as much.
  pub record IsForward : Type 0 where
    pub no_target : firing_count first link.target ≡ 0
    pub no_gift : gives_of second ≡ 0
    pub balance : m * gives_of first ≡ n * takes_of second

  clear_takes : (nodes : List ℕ) → firing_count nodes link.target ≡ 0 → takes_of nodes ≡ 0
  clear_takes nodes none = omega (
    arith,
    sum_takes link nodes,
    ap (λ (k : ℕ). k * link.pop) none,
  )

  clear_repeated : (k : ℕ) (nodes : List ℕ) → firing_count nodes link.target ≡ 0
      → firing_count (repeated k nodes) link.target ≡ 0
  clear_repeated k nodes none = omega (
    arith,
    count_repeated k nodes link.target,
    ap (λ (c : ℕ). k * c) none,
  )

  zero_repeated : (f : ℕ → ℕ) (k : ℕ) (nodes : List ℕ) → sum_of f nodes ≡ 0
      → sum_of f (repeated k nodes) ≡ 0
  zero_repeated f k nodes none = omega (
    arith,
    sum_repeated f k nodes,
    ap (λ (c : ℕ). k * c) none,
  )

  turns_more : (h k : ℕ) (nodes : List ℕ)
      → repeated (suc h * k) nodes ≡ repeated k nodes ++ repeated (h * k) nodes
  turns_more h k nodes =
      ap (λ (c : ℕ). repeated c nodes) (let e : suc h * k ≡ k + h * k = omega arith in e)
      ∙ repeated_add k (h * k) nodes

  turns_less : (h k : ℕ) (nodes : List ℕ)
      → repeated (suc h * k) nodes ≡ repeated (h * k) nodes ++ repeated k nodes
  turns_less h k nodes =
      ap (λ (c : ℕ). repeated c nodes) (let e : suc h * k ≡ h * k + k = omega arith in e)
      ∙ repeated_add (h * k) k nodes

  second_away : IsClear second → (h g t : ℕ) → Passes link g t (repeated (h * m) first)
      → Passes link g t (repeated h block)
  second_away clear zero g t passes = tt
  second_away clear (suc h) g t passes =
      let split = subst (Passes link g t) (turns_more h m first) passes in
      join link block (repeated h block) g t
      (join link (repeated m first) (repeated n second) g t
      (passes_front link (repeated m first) (repeated (h * m) first) g t split)
      (untouched link (repeated n second) _ _ (clear_repeated n second clear.no_target)))
      (second_away clear h _ _ (easier link (repeated (h * m) first) _ _ _ _ (omega (
        arith,
        sum_append link.gives (repeated m first) (repeated n second),
        sum_append (takes link) (repeated m first) (repeated n second),
        zero_repeated link.gives n second clear.no_gift,
        zero_repeated (takes link) n second (clear_takes second clear.no_target),
      )) (passes_back link (repeated m first) (repeated (h * m) first) g t split)))

  first_away : IsClear first → (h g t : ℕ) → Passes link g t (repeated (h * n) second)
      → Passes link g t (repeated h block)
  first_away clear zero g t passes = tt
  first_away clear (suc h) g t passes =
      let split = subst (Passes link g t) (turns_more h n second) passes in
      join link block (repeated h block) g t
      (join link (repeated m first) (repeated n second) g t
      (untouched link (repeated m first) _ _ (clear_repeated m first clear.no_target))
      (easier link (repeated n second) g t _ _ (omega (
        arith,
        zero_repeated link.gives m first clear.no_gift,
        zero_repeated (takes link) m first (clear_takes first clear.no_target),
      )) (passes_front link (repeated n second) (repeated (h * n) second) g t split)))
      (first_away clear h _ _ (easier link (repeated (h * n) second) _ _ _ _ (omega (
        arith,
        sum_append link.gives (repeated m first) (repeated n second),
        sum_append (takes link) (repeated m first) (repeated n second),
        zero_repeated link.gives m first clear.no_gift,
        zero_repeated (takes link) m first (clear_takes first clear.no_target),
      )) (passes_back link (repeated n second) (repeated (h * n) second) g t split)))

  -- Where one turn of the second nodes passes after one of the first, any number of turns does.
  each_turn : IsForward → (h g t : ℕ)
      → Passes link (g + m * gives_of first) t (repeated n second)
      → Passes link g t (repeated h block)
  each_turn forward zero g t passes = tt
  each_turn forward (suc h) g t passes =
      join link block (repeated h block) g t
      (join link (repeated m first) (repeated n second) g t
      (untouched link (repeated m first) _ _ (clear_repeated m first forward.no_target))
      (easier link (repeated n second) _ _ _ _ (omega (
        arith,
        sum_repeated link.gives m first,
        zero_repeated (takes link) m first (clear_takes first forward.no_target),
      )) passes))
      (each_turn forward h _ _ (easier link (repeated n second) _ _ _ _ (omega (
        arith,
        sum_append link.gives (repeated m first) (repeated n second),
        sum_append (takes link) (repeated m first) (repeated n second),
        sum_repeated link.gives m first,
        sum_repeated (takes link) n second,
        zero_repeated link.gives n second forward.no_gift,
        zero_repeated (takes link) m first (clear_takes first forward.no_target),
        forward.balance,
      )) passes))

  forward_turns : IsForward → (h g t : ℕ)
      → Passes link (g + gives_of (repeated (h * m) first))
      (t + takes_of (repeated (h * m) first)) (repeated (h * n) second)
      → Passes link g t (repeated h block)
  forward_turns forward zero g t passes = tt
  forward_turns forward (suc h) g t passes =
      each_turn forward (suc h) g t (easier link (repeated n second) _ _ _ _ (omega (
        arith,
        sum_repeated link.gives (suc h * m) first,
        zero_repeated (takes link) (suc h * m) first (clear_takes first forward.no_target),
        zero_repeated link.gives (h * n) second forward.no_gift,
        sum_repeated (takes link) (h * n) second,
        ap (λ (c : ℕ). h * c) forward.balance,
      )) (passes_back link (repeated (h * n) second) (repeated n second) _ _
      (subst (Passes link _ _) (turns_less h n second) passes)))

  -- All turns of both.
  pub merged : IsClear second ⊎ (IsClear first ⊎ IsForward) → (h g t : ℕ)
      → Passes link g t (repeated (h * m) first ++ repeated (h * n) second)
      → Passes link g t (repeated h block)
  merged (inl clear) h g t passes = second_away clear h g t
      (passes_front link (repeated (h * m) first) (repeated (h * n) second) g t passes)
  merged (inr (inl clear)) h g t passes = first_away clear h g t
      (easier link (repeated (h * n) second) _ _ g t (omega (
        arith,
        zero_repeated link.gives (h * m) first clear.no_gift,
        zero_repeated (takes link) (h * m) first (clear_takes first clear.no_target),
      )) (passes_back link (repeated (h * m) first) (repeated (h * n) second) g t passes))
  merged (inr (inr forward)) h g t passes = forward_turns forward h g t
      (passes_back link (repeated (h * m) first) (repeated (h * n) second) g t passes)

  -- They give and take as much.
  pub same_sum : (f : ℕ → ℕ) (h : ℕ) → sum_of f (repeated h block)
      ≡ sum_of f (repeated (h * m) first ++ repeated (h * n) second)
  same_sum f h = omega (
    arith,
    sum_repeated f h block,
    sum_append f (repeated m first) (repeated n second),
    sum_repeated f m first,
    sum_repeated f n second,
    sum_append f (repeated (h * m) first) (repeated (h * n) second),
    sum_repeated f (h * m) first,
    sum_repeated f (h * n) second,
    ap (λ (c : ℕ). h * c) (sum_append f (repeated m first) (repeated n second)),
    ap (λ (c : ℕ). h * c) (sum_repeated f m first),
    ap (λ (c : ℕ). h * c) (sum_repeated f n second),
  )
