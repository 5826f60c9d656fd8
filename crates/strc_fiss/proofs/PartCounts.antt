-- How often each part fires in a round after fission.
use Rattle.std.proofs.Common.{◌≡◌, refl, sym, ap, ◌∙◌, ℕ, zero, suc, ◌+◌, ◌*◌, ◌<◌, ◌≤◌, arith}
use Rattle.std.proofs.Common.{List, [], ◌∷◌, Bool, true, false, cond, inl, inr}
use Rattle.std.proofs.lemmas.Bool.{true≢false, eq-eqb, ne_eqb, cases_lt, cases_order}
use Rattle.strc_elab_dataflow.specs.Order.{firing_count}
use Rattle.strc_elab_dataflow.specs.Blocks.{Block, Block.One, Block.All, times, copies, AreBlocks}
use Rattle.strc_elab_dataflow.specs.Blocks.{old_order, new_order}
use Rattle.strc_elab_dataflow.specs.Split.{Parts, outlet, all_firings}
use Rattle.strc_elab_dataflow.proofs.Counts.{one, count_front, count_none}
use Rattle.strc_elab_dataflow.proofs.RoundsParts.{outlet_split}

same : (node v : ℕ) → v ≡ node → one node v ≡ 1
unfolding one
same node v e = ap (λ (t : Bool). cond t 1 0) (eq-eqb v node e)

other : (node v : ℕ) → (v ≡ node → ⊥) → one node v ≡ 0
unfolding one
other node v apart = ap (λ (t : Bool). cond t 1 0) (ne_eqb v node apart)

count_times : (n node : ℕ) (later : List ℕ) (x : ℕ)
    → firing_count (times n node later) x ≡ n * one node x + firing_count later x
count_times zero node later x = omega arith
count_times (suc n) node later x = omega (
  arith,
  count_front node x (times n node later),
  count_times n node later x,
)

-- how often a round has all firings of a node in a block
pub alls : List Block → ℕ → ℕ
alls [] v = 0
alls (One u ∷ rest) v = alls rest v
alls (All w ∷ rest) v = one w v + alls rest v

module _ (parts : Parts) where
  -- so many copies, from copy i on
  copied_count : (v i left x : ℕ) → ℕ
  copied_count v i zero x = 0
  copied_count v i (suc left) x =
      (parts.share v).firings * one (parts.name v (suc i)) x + copied_count v (suc i) left x

  count_copies : (v i left : ℕ) (later : List ℕ) (x : ℕ)
      → firing_count (copies parts v i left later) x
      ≡ copied_count v i left x + firing_count later x
  unfolding copied_count
  count_copies v i zero later x = omega arith
  count_copies v i (suc left) later x = omega (
    arith,
    count_times (parts.share v).firings (parts.name v (suc i))
        (copies parts v (suc i) left later) x,
    count_copies v (suc i) left later x,
  )

  copies_none : (v i left x : ℕ)
      → ((j : ℕ) → i ≤ j → j < i + left → x ≡ parts.name v (suc j) → ⊥)
      → copied_count v i left x ≡ 0
  unfolding copied_count
  copies_none v i zero x away = refl
  copies_none v i (suc left) x away =
      let none = other (parts.name v (suc i)) x (away i (omega arith) (omega arith)) in
      omega (
        arith,
        ap (λ (n : ℕ). (parts.share v).firings * n) none,
        copies_none v (suc i) left x
            (λ j more less. away j (omega (arith, more)) (omega (arith, less))),
      )

  copies_one : (v i left j : ℕ) → i ≤ j → j < i + left
      → ((a : ℕ) → a < i + left → parts.name v (suc j) ≡ parts.name v (suc a) → j ≡ a)
      → copied_count v i left (parts.name v (suc j)) ≡ (parts.share v).firings
  unfolding copied_count
  copies_one v i zero j more less own = absurd (omega (arith, more, less))
  copies_one v i (suc left) j more less own = elim (cases_lt i j) [
    | inl lower ↦
        let none = other (parts.name v (suc i)) (parts.name v (suc j))
        (λ e. omega (arith, lower, own i (omega arith) e)) in
        omega (
          arith,
          ap (λ (n : ℕ). (parts.share v).firings * n) none,
          copies_one v (suc i) left j (omega (arith, lower)) (omega (arith, less))
              (λ a inside e. own a (omega (arith, inside)) e),
        )
    | inr past ↦
        let e : j ≡ i = omega (arith, past, more) in
        let first = same (parts.name v (suc i)) (parts.name v (suc j))
        (ap (λ (n : ℕ). parts.name v (suc n)) e) in
        omega (
          arith,
          ap (λ (n : ℕ). (parts.share v).firings * n) first,
          copies_none v (suc i) left (parts.name v (suc j))
              (λ a above inside f. omega (arith, above, past, own a (omega (arith, inside)) f)),
        )
  ]

  -- the parts of a node in their block
  block_count : (w x : ℕ) → ℕ
  block_count w x = one (parts.name w 0) x + (copied_count w 0 (parts.share w).ways x
      + one (parts.name w (suc (parts.share w).ways)) x)

  count_block : (w : ℕ) (rest : List Block) (x : ℕ)
      → firing_count (new_order parts (All w ∷ rest)) x
      ≡ block_count w x + firing_count (new_order parts rest) x
  unfolding block_count
  count_block w rest x =
      let gather : List ℕ = parts.name w (suc (parts.share w).ways) ∷ new_order parts rest in
      omega (
        arith,
        count_front (parts.name w 0) x (copies parts w 0 (parts.share w).ways gather),
        count_copies w 0 (parts.share w).ways gather x,
        count_front (parts.name w (suc (parts.share w).ways)) x (new_order parts rest),
      )

  block_none : (w x : ℕ)
      → ((k : ℕ) → k ≤ suc (parts.share w).ways → x ≡ parts.name w k → ⊥)
      → block_count w x ≡ 0
  unfolding block_count
  block_none w x away = omega (
    arith,
    other (parts.name w 0) x (away 0 (omega arith)),
    copies_none w 0 (parts.share w).ways x
        (λ j more less. away (suc j) (omega (arith, less))),
    other (parts.name w (suc (parts.share w).ways)) x
        (away (suc (parts.share w).ways) (omega arith)),
  )

  module _ (apart : (u k v l : ℕ) → k ≤ outlet parts u → l ≤ outlet parts v
      → parts.name u k ≡ parts.name v l → (u ≡ v) × (k ≡ l)) where
    -- a node that is split is none that isn't
    differ : (u v : ℕ) → parts.is_split u ≡ false → parts.is_split v ≡ true → v ≡ u → ⊥
    differ u v kept split e = true≢false (sym split ∙ ap parts.is_split e ∙ kept)

    within : (v k : ℕ) → parts.is_split v ≡ true → k ≤ suc (parts.share v).ways
        → k ≤ outlet parts v
    within v k split less = omega (arith, less, outlet_split parts v split)

    no_part : (w v k : ℕ) → parts.is_split w ≡ true → (v ≡ w → ⊥) → k ≤ outlet parts v
        → block_count w (parts.name v k) ≡ 0
    no_part w v k split away less = block_none w (parts.name v k)
        (λ l inside e. away (apart v k w l less (within w l split inside) e).0)

    -- ---- before fission

    all_of : (w v : ℕ) → all_firings (parts.share w) * one w v
        ≡ one w v * all_firings (parts.share v)
    all_of w v = elim (cases_order v w) [
      | inl e ↦
          let first = same w v e in
          ap (λ (n : ℕ). all_firings (parts.share w) * n) first
          ∙ ap (λ (node : ℕ). all_firings (parts.share node) * 1) (sym e)
          ∙ (let turn : all_firings (parts.share v) * 1 ≡ 1 * all_firings (parts.share v)
          = omega arith in turn)
          ∙ sym (ap (λ (n : ℕ). n * all_firings (parts.share v)) first)
      | inr unlike ↦
          let none = other w v (λ e. elim unlike [
            | inl lower ↦ omega (arith, lower, e)
            | inr above ↦ omega (arith, above, e)
          ]) in
          ap (λ (n : ℕ). all_firings (parts.share w) * n) none
          ∙ (let turn : all_firings (parts.share w) * 0 ≡ 0 * all_firings (parts.share v)
          = omega arith in turn)
          ∙ sym (ap (λ (n : ℕ). n * all_firings (parts.share v)) none)
    ]

    pub old_count : (blocks : List Block) → AreBlocks parts blocks → (v : ℕ)
        → parts.is_split v ≡ true
        → firing_count (old_order parts blocks) v ≡ alls blocks v * all_firings (parts.share v)
    unfolding alls
    old_count [] are v split = omega (arith, count_none v)
    old_count (One u ∷ rest) are v split = omega (
      arith,
      count_front u v (old_order parts rest),
      other u v (differ u v are.0 split),
      old_count rest are.1 v split,
    )
    old_count (All w ∷ rest) are v split = omega (
      arith,
      count_times (all_firings (parts.share w)) w (old_order parts rest) v,
      all_of w v,
      old_count rest are.1 v split,
    )

    -- ---- nodes that aren't split

    ones : (w u : ℕ) → one (parts.name w 0) (parts.name u 0) ≡ one w u
    ones w u = elim (cases_order u w) [
      | inl e ↦ same (parts.name w 0) (parts.name u 0) (ap (λ (n : ℕ). parts.name n 0) e)
          ∙ sym (same w u e)
      | inr unlike ↦
          let away : u ≡ w → ⊥ = λ e. elim unlike [
            | inl lower ↦ omega (arith, lower, e)
            | inr above ↦ omega (arith, above, e)
          ] in
          other (parts.name w 0) (parts.name u 0)
          (λ e. away (apart u 0 w 0 (omega arith) (omega arith) e).0)
          ∙ sym (other w u away)
    ]

    pub kept_count : (blocks : List Block) → AreBlocks parts blocks → (u : ℕ)
        → parts.is_split u ≡ false
        → firing_count (new_order parts blocks) (parts.name u 0)
        ≡ firing_count (old_order parts blocks) u
    kept_count [] are u kept = omega (arith, count_none u, count_none (parts.name u 0))
    kept_count (One w ∷ rest) are u kept = omega (
      arith,
      count_front (parts.name w 0) (parts.name u 0) (new_order parts rest),
      count_front w u (old_order parts rest),
      ones w u,
      kept_count rest are.1 u kept,
    )
    kept_count (All w ∷ rest) are u kept =
        let away : u ≡ w → ⊥ = λ e. differ u w kept are.0 (sym e) in
        omega (
          arith,
          count_block w rest (parts.name u 0),
          no_part w u 0 are.0 away (omega arith),
          count_times (all_firings (parts.share w)) w (old_order parts rest) u,
          ap (λ (n : ℕ). all_firings (parts.share w) * n) (other w u away),
          kept_count rest are.1 u kept,
        )

    -- ---- parts

    module _ (v : ℕ) (split : parts.is_split v ≡ true) (k : ℕ)
        (less : k ≤ suc (parts.share v).ways) (weight : ℕ)
        (own : block_count v (parts.name v k) ≡ weight) where
      in_block : (w : ℕ) → parts.is_split w ≡ true
          → block_count w (parts.name v k) ≡ one w v * weight
      in_block w is = elim (cases_order v w) [
        | inl e ↦ ap (λ (node : ℕ). block_count node (parts.name v k)) (sym e) ∙ own
            ∙ (let turn : weight ≡ 1 * weight = omega arith in turn)
            ∙ sym (ap (λ (n : ℕ). n * weight) (same w v e))
        | inr unlike ↦
            let away : v ≡ w → ⊥ = λ e. elim unlike [
              | inl lower ↦ omega (arith, lower, e)
              | inr above ↦ omega (arith, above, e)
            ] in
            no_part w v k is away (within v k split less)
            ∙ (let turn : 0 ≡ 0 * weight = omega arith in turn)
            ∙ sym (ap (λ (n : ℕ). n * weight) (other w v away))
      ]

      part_count : (blocks : List Block) → AreBlocks parts blocks
          → firing_count (new_order parts blocks) (parts.name v k) ≡ alls blocks v * weight
      unfolding alls
      part_count [] are = omega (arith, count_none (parts.name v k))
      part_count (One u ∷ rest) are = omega (
        arith,
        count_front (parts.name u 0) (parts.name v k) (new_order parts rest),
        other (parts.name u 0) (parts.name v k) (λ e. differ u v are.0 split
            (apart v k u 0 (within v k split less) (omega arith) e).0),
        part_count rest are.1,
      )
      part_count (All w ∷ rest) are = omega (
        arith,
        count_block w rest (parts.name v k),
        in_block w are.0,
        part_count rest are.1,
      )

    inner : (v k l : ℕ) → parts.is_split v ≡ true → k ≤ suc (parts.share v).ways
        → l ≤ suc (parts.share v).ways → parts.name v k ≡ parts.name v l → k ≡ l
    inner v k l split k_less l_less e =
        (apart v k v l (within v k split k_less) (within v l split l_less) e).1

    pub scatter_count : (blocks : List Block) → AreBlocks parts blocks → (v : ℕ)
        → parts.is_split v ≡ true
        → firing_count (new_order parts blocks) (parts.name v 0) ≡ alls blocks v * 1
    unfolding block_count
    scatter_count blocks are v split = part_count v split 0 (omega arith) 1
        (omega (
          arith,
          same (parts.name v 0) (parts.name v 0) refl,
          copies_none v 0 (parts.share v).ways (parts.name v 0) (λ j more inside e.
              omega (arith, inner v 0 (suc j) split (omega arith) (omega (arith, inside)) e)),
          other (parts.name v (suc (parts.share v).ways)) (parts.name v 0) (λ e. omega (
            arith,
            inner v 0 (suc (parts.share v).ways) split (omega arith) (omega arith) e,
          )),
        )) blocks are

    pub copy_count : (blocks : List Block) → AreBlocks parts blocks → (v i : ℕ)
        → parts.is_split v ≡ true → i < (parts.share v).ways
        → firing_count (new_order parts blocks) (parts.name v (suc i))
        ≡ alls blocks v * (parts.share v).firings
    unfolding block_count
    copy_count blocks are v i split less = part_count v split (suc i) (omega (arith, less))
        (parts.share v).firings
        (omega (
          arith,
          other (parts.name v 0) (parts.name v (suc i)) (λ e. omega (
            arith,
            inner v (suc i) 0 split (omega (arith, less)) (omega arith) e,
          )),
          copies_one v 0 (parts.share v).ways i (omega arith) (omega (arith, less))
              (λ a inside e.
              let f = inner v (suc i) (suc a) split (omega (arith, less)) (omega (arith, inside))
              e in omega (arith, f)),
          other (parts.name v (suc (parts.share v).ways)) (parts.name v (suc i)) (λ e.
              omega (
                arith,
                less,
                inner v (suc i) (suc (parts.share v).ways) split
                    (omega (arith, less)) (omega arith) e,
              )),
        )) blocks are

    pub gather_count : (blocks : List Block) → AreBlocks parts blocks → (v : ℕ)
        → parts.is_split v ≡ true
        → firing_count (new_order parts blocks) (parts.name v (suc (parts.share v).ways))
        ≡ alls blocks v * 1
    unfolding block_count
    gather_count blocks are v split = part_count v split (suc (parts.share v).ways) (omega arith) 1
        (omega (
          arith,
          other (parts.name v 0) (parts.name v (suc (parts.share v).ways)) (λ e. omega (
            arith,
            inner v (suc (parts.share v).ways) 0 split (omega arith) (omega arith) e,
          )),
          copies_none v 0 (parts.share v).ways (parts.name v (suc (parts.share v).ways))
              (λ j more inside e. omega (
                arith,
                inside,
                inner v (suc (parts.share v).ways) (suc j)
                    split (omega arith) (omega (arith, inside)) e,
              )),
          same (parts.name v (suc (parts.share v).ways))
              (parts.name v (suc (parts.share v).ways)) refl,
        )) blocks are
