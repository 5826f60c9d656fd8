-- What the firings of a stateless node give over a list of items, and how far they reach.
use Rattle.std.proofs.Common.{◌≡◌, sym, ap, ◌∙◌, ℕ, zero, suc, ◌+◌, ◌-◌, ◌*◌, ◌<◌, ◌≤◌}
use Rattle.std.proofs.Common.{ℤ, List, [], ◌++◌, length, arith, length-append}
use Rattle.std.proofs.Common.{append_assoc, append-nil}
use Rattle.strc_elab_dataflow.specs.Node.{ByPort, Fired, Fired.Fires, Fired.Faults}
use Rattle.strc_elab_dataflow.specs.Split.{Share, all_firings, reach, joined}

-- A firing before the n-th of a row finds its window in the items that n firings look at.
pub fits : (share : Share) → share.pop ≤ share.window → (t n : ℕ) → t < n
    → t * share.pop + share.window ≤ reach share n
fits share narrow t n less =
    let e : n ≡ suc t + (n - suc t) = omega arith in
    omega (arith, narrow, ap (λ (k : ℕ). k * share.pop) e)

-- The items of copy i are among those of all.
pub part_fits : (share : Share) → (i : ℕ) → i < share.ways
    → i * share.firings * share.pop + reach share share.firings ≤ reach share (all_firings share)
part_fits share i less =
    let e : share.ways ≡ suc i + (share.ways - suc i) = omega arith in
    omega (arith, ap (λ (k : ℕ). k * share.firings * share.pop) e)

-- The firing j of copy i is among all.
pub place_fits : (share : Share) (i j : ℕ) → i < share.ways → j < share.firings
    → i * share.firings + j < all_firings share
place_fits share i j less inside =
    let e : share.ways ≡ suc i + (share.ways - suc i) = omega arith in
    omega (arith, ap (λ (k : ℕ). k * share.firings) e)

-- What a firing pushes at port 0.
unfoldable pub pushed_of : {State Cause Word : Type 0} → Fired State Cause Word → List ℤ
pushed_of (Fires state pushes words) = pushes 0
pushed_of (Faults cause) = []

module _ {State Cause Word : Type 0} (gives : ℕ → Fired State Cause Word) where
  -- What firings a to a + n - 1 push.
  unfoldable pub outs : ℕ → ℕ → List ℤ
  outs a zero = []
  outs a (suc n) = outs a n ++ pushed_of (gives (a + n))

  pub outs_add : (a n k : ℕ) → outs a (n + k) ≡ outs a n ++ outs (a + n) k
  unfolding outs
  outs_add a n zero =
      ap (outs a) (let e : n + 0 ≡ n = omega arith in e) ∙ sym (append-nil (outs a n))
  outs_add a n (suc k) =
      ap (outs a) (let e : n + suc k ≡ suc (n + k) = omega arith in e)
      ∙ ap (λ (l : List ℤ). l ++ pushed_of (gives (a + (n + k)))) (outs_add a n k)
      ∙ append_assoc (outs a n) (outs (a + n) k) (pushed_of (gives (a + (n + k))))
      ∙ ap (λ (m : ℕ). outs a n ++ (outs (a + n) k ++ pushed_of (gives m)))
      (let e : a + (n + k) ≡ a + n + k = omega arith in e)

  pub outs_length : (size bound : ℕ) → ((t : ℕ) → t < bound → length (pushed_of (gives t)) ≡ size)
      → (a n : ℕ) → a + n ≤ bound → length (outs a n) ≡ n * size
  unfolding outs
  outs_length size bound each a zero less = omega arith
  outs_length size bound each a (suc n) less = omega (
    arith,
    length-append (outs a n) (pushed_of (gives (a + n))),
    outs_length size bound each a n (omega arith),
    each (a + n) (omega arith),
  )

  -- Joined, the copies' outputs are the node's.
  pub joined_outs : (lists : ByPort) (firings ways : ℕ)
      → ((i : ℕ) → i < ways → lists i ≡ outs (i * firings) firings)
      → joined lists ways ≡ outs 0 (ways * firings)
  unfolding joined outs
  joined_outs lists firings zero each =
      sym (ap (outs 0) (let e : 0 * firings ≡ 0 = omega arith in e))
  joined_outs lists firings (suc ways) each =
      ap (λ (l : List ℤ). l ++ lists ways)
      (joined_outs lists firings ways (λ i less. each i (omega arith)))
      ∙ ap (λ (l : List ℤ). outs 0 (ways * firings) ++ l) (each ways (omega arith))
      ∙ ap (λ (k : ℕ). outs 0 (ways * firings) ++ outs k firings)
      (let e : ways * firings ≡ 0 + ways * firings = omega arith in e)
      ∙ sym (outs_add 0 (ways * firings) firings)
      ∙ ap (outs 0) (let e : ways * firings + firings ≡ suc ways * firings = omega arith in e)
