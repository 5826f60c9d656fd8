-- The numbers of the first parts of nodes.
use Rattle.std.proofs.Common.{◌≡◌, refl, sym, ap, ◌∙◌, subst, ℕ, zero, suc, ◌+◌, ◌<◌, ◌≤◌, arith}
use Rattle.std.proofs.Common.{List, length, get_or, inl, inr, cond, nat_lt, Bool, false}
use Rattle.std.proofs.Common.{Option, Some, None, option_map}
use Rattle.std.proofs.lemmas.Bool.{cases_lt}
use borrow.Author.Tests.{le-ltb}
use Rattle.std.proofs.lemmas.List.{get_or_default}
use Rattle.strc_elab_graph.specs.declared.graph.Fission.{Fission}
use Rattle.strc_fiss.specs.Numbers.{up_to, last_of, last_part, base, share_at, node_limit}
use Rattle.strc_fiss.specs.Splitting.{new_joiner}
use Rattle.strc_fiss.specs.Ways.{whole}
use Rattle.strc_fiss.proofs.Sequences.{get_up_to, length_up_to}

module _ (share : ℕ → Fission) where
  -- the parts of a node come before those of a later one
  pub base_below : (u v : ℕ) → u < v → base share u + suc (last_part share u) ≤ base share v
  base_below u zero less = absurd (omega (arith, less))
  base_below u (suc v) less = elim (cases_lt u v) [
    | inl lower ↦ omega (arith, base_below u v lower)
    | inr other ↦
        let e : u ≡ v = omega (arith, less, other) in
        subst (λ (x : ℕ). base share u + suc (last_part share u)
        ≤ base share x + suc (last_part share x)) e (omega arith)
  ]

  pub base_up : (u v : ℕ) → u ≤ v → base share u ≤ base share v
  base_up u v less = elim (cases_lt u v) [
    | inl lower ↦ omega (arith, base_below u v lower)
    | inr other ↦ let e : u ≡ v = omega (arith, less, other) in omega (arith, ap (base share) e)
  ]

  -- there are no fewer parts than nodes
  pub base_many : (v : ℕ) → v ≤ base share v
  base_many zero = omega arith
  base_many (suc v) = omega (arith, base_many v)

  pub base_more : (v : ℕ) → base share (v + 1) ≡ base share v + suc (last_part share v)
  base_more v = let e : v + 1 ≡ suc v = omega arith in ap (base share) e

-- what was read of them
pub share_read : (shares : List Fission) (node : ℕ) (d : Fission) → node < length shares
    → get_or shares node d ≡ share_at shares node
share_read shares node d less = get_or_default shares node d whole less

pub base_read : (share : ℕ → Fission) (bases : List ℕ) (size node d : ℕ)
    → bases ≡ up_to (base share) (suc size) → node ≤ size → get_or bases node d ≡ base share node
base_read share bases size node d are less =
    ap (λ (l : List ℕ). get_or l node d) are
    ∙ get_up_to (base share) (suc size) node d (omega (arith, less))

pub bases_many : (share : ℕ → Fission) (bases : List ℕ) (size : ℕ)
    → bases ≡ up_to (base share) (suc size) → length bases ≡ suc size
bases_many share bases size are = ap length are ∙ length_up_to (base share) (suc size)

-- the parts of each node have numbers of 32 bits where all have
pub parts_within : (shares : List Fission) (bases : List ℕ) (node d : ℕ) (other : Fission)
    → bases ≡ up_to (base (share_at shares)) (suc (length shares)) → node < length shares
    → get_or bases node d + suc (last_of (get_or shares node other))
    ≤ base (share_at shares) (length shares)
parts_within shares bases node d other are less = omega (
  arith,
  base_read (share_at shares) bases (length shares) node d are (omega (arith, less)),
  ap last_of (share_read shares node other less),
  base_below (share_at shares) node (length shares) less,
)

-- where the parts of the first nodes pass the limit, all parts do
pub limit_passed : (shares : List Fission) (node next : ℕ) (other : Fission) → node < length shares
    → next ≡ base (share_at shares) node
    → node_limit < next + suc (last_of (get_or shares node other))
    → node_limit < base (share_at shares) (length shares)
limit_passed shares node next other less is passes = omega (
  arith,
  is,
  passes,
  ap last_of (share_read shares node other less),
  base_below (share_at shares) node (length shares) less,
)

-- joiners by their new numbers
joiner_is : (share : ℕ → Fission) (bases : List ℕ) (size node : ℕ)
    → bases ≡ up_to (base share) (suc size)
    → cond (nat_lt node size) (get_or bases node 0) node ≡ new_joiner share size node
joiner_is share bases size node are = elim (cases_lt node size) [
  | inl lower ↦ ap (λ (n : ℕ). cond (nat_lt node size) n node)
      (base_read share bases size node 0 are (omega (arith, lower)))
  | inr other ↦
      let past : nat_lt node size ≡ false = le-ltb node size (omega (arith, other)) in
      ap (λ (t : Bool). cond t (get_or bases node 0) node) past
      ∙ sym (ap (λ (t : Bool). cond t (base share node) node) past)
]

pub outer_is : (share : ℕ → Fission) (bases : List ℕ) (size : ℕ) (outer : Option ℕ)
    → bases ≡ up_to (base share) (suc size)
    → option_map (λ (node : ℕ). cond (nat_lt node size) (get_or bases node 0) node) outer
    ≡ option_map (new_joiner share size) outer
outer_is share bases size None are = refl
outer_is share bases size (Some node) are = ap Some (joiner_is share bases size node are)
