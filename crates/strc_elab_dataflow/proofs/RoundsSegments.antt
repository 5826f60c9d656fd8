-- The blocks of a round in segments, and what they come to on one channel.
use Rattle.std.proofs.Common.{◌≡◌, refl, sym, ap, ◌∙◌, ℕ, zero, suc, ◌+◌, ◌-◌, ◌*◌, ◌<◌, ◌≤◌}
use Rattle.std.proofs.Common.{false, eqb, List, [], ◌∷◌, ◌++◌, arith, append_assoc}
use Rattle.strc_elab_dataflow.specs.Order.{firing_count}
use Rattle.strc_elab_dataflow.specs.Split.{Parts}
use Rattle.strc_elab_dataflow.specs.Blocks.{times, copies}
use Rattle.strc_elab_dataflow.proofs.Counts.{count_none, count_other, count_append}
use Rattle.strc_elab_dataflow.proofs.Links.{sum_of, sum_append}

pub times_append : (n v : ℕ) (later : List ℕ) → times n v later ≡ times n v [] ++ later
times_append zero v later = refl
times_append (suc n) v later = ap (λ (l : List ℕ). v ∷ l) (times_append n v later)

pub sum_times : (f : ℕ → ℕ) (n v : ℕ) → sum_of f (times n v []) ≡ n * f v
unfolding sum_of
sum_times f zero v = omega arith
sum_times f (suc n) v = omega (arith, sum_times f n v)

pub count_times : (n v u : ℕ) → eqb u v ≡ false → firing_count (times n v []) u ≡ 0
count_times zero v u apart = count_none u
count_times (suc n) v u apart =
    count_other v u (times n v []) apart ∙ count_times n v u apart

module _ (parts : Parts) (v : ℕ) where
  abbrev firings : ℕ
  firings = (parts.share v).firings

  pub copies_append : (left i : ℕ) (later : List ℕ)
      → copies parts v i left later ≡ copies parts v i left [] ++ later
  copies_append zero i later = refl
  copies_append (suc left) i later =
      ap (times firings (parts.name v (suc i))) (copies_append left (suc i) later)
      ∙ times_append firings (parts.name v (suc i)) (copies parts v (suc i) left [] ++ later)
      ∙ sym (append_assoc (times firings (parts.name v (suc i)) [])
      (copies parts v (suc i) left []) later)
      ∙ ap (λ (l : List ℕ). l ++ later)
      (sym (times_append firings (parts.name v (suc i)) (copies parts v (suc i) left [])))

  pub copies_split : (a left i : ℕ) (later : List ℕ)
      → copies parts v i (a + left) later ≡ copies parts v i a (copies parts v (i + a) left later)
  copies_split zero left i later =
      ap (λ (n : ℕ). copies parts v i n later) (let e : 0 + left ≡ left = omega arith in e)
      ∙ ap (λ (n : ℕ). copies parts v n left later) (let e : i ≡ i + 0 = omega arith in e)
  copies_split (suc a) left i later =
      ap (λ (n : ℕ). copies parts v i n later)
      (let e : suc a + left ≡ suc (a + left) = omega arith in e)
      ∙ ap (times firings (parts.name v (suc i))) (copies_split a left (suc i) later)
      ∙ ap (λ (n : ℕ). times firings (parts.name v (suc i)) (copies parts v (suc i) a
      (copies parts v n left later))) (let e : suc i + a ≡ i + suc a = omega arith in e)

  pub count_copies : (left i u : ℕ)
      → ((l : ℕ) → i ≤ l → l < i + left → eqb u (parts.name v (suc l)) ≡ false)
      → firing_count (copies parts v i left []) u ≡ 0
  count_copies zero i u apart = count_none u
  count_copies (suc left) i u apart = omega (
    arith,
    ap (λ (l : List ℕ). firing_count l u)
        (times_append firings (parts.name v (suc i)) (copies parts v (suc i) left [])),
    count_append (times firings (parts.name v (suc i)) []) (copies parts v (suc i) left []) u,
    count_times firings (parts.name v (suc i)) u (apart i (omega arith) (omega arith)),
    count_copies left (suc i) u (λ l more less. apart l (omega (arith, more))
        (omega (arith, less))),
  )

  pub sum_copies : (f : ℕ → ℕ) (left i : ℕ)
      → ((l : ℕ) → i ≤ l → l < i + left → f (parts.name v (suc l)) ≡ 0)
      → sum_of f (copies parts v i left []) ≡ 0
  unfolding sum_of
  sum_copies f zero i none = refl
  sum_copies f (suc left) i none = omega (
    arith,
    ap (sum_of f) (times_append firings (parts.name v (suc i)) (copies parts v (suc i) left [])),
    sum_append f (times firings (parts.name v (suc i)) []) (copies parts v (suc i) left []),
    sum_times f firings (parts.name v (suc i)),
    ap (λ (k : ℕ). firings * k) (none i (omega arith) (omega arith)),
    sum_copies f left (suc i) (λ l more less. none l (omega (arith, more)) (omega (arith, less))),
  )

  -- The copies before one, its firings, and those after it.
  pub copies_around : (i : ℕ) → i < (parts.share v).ways
      → copies parts v 0 (parts.share v).ways []
      ≡ copies parts v 0 i [] ++ (times firings (parts.name v (suc i)) []
      ++ copies parts v (suc i) ((parts.share v).ways - suc i) [])
  copies_around i less =
      ap (λ (n : ℕ). copies parts v 0 n [])
      (let e : (parts.share v).ways ≡ i + suc ((parts.share v).ways - suc i) =
      omega (arith, less) in e)
      ∙ copies_split i (suc ((parts.share v).ways - suc i)) 0 []
      ∙ ap (λ (n : ℕ). copies parts v 0 i (times firings (parts.name v (suc n))
      (copies parts v (suc n) ((parts.share v).ways - suc i) [])))
      (let e : 0 + i ≡ i = omega arith in e)
      ∙ copies_append i 0 (times firings (parts.name v (suc i))
      (copies parts v (suc i) ((parts.share v).ways - suc i) []))
      ∙ ap (λ (l : List ℕ). copies parts v 0 i [] ++ l)
      (times_append firings (parts.name v (suc i))
      (copies parts v (suc i) ((parts.share v).ways - suc i) []))
