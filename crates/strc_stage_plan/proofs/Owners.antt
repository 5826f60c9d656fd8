-- The part that has a number.
use Rattle.std.proofs.Common.{◌≡◌, refl, sym, ap, ap₂, ◌∙◌, ℕ, zero, suc, ◌+◌, ◌<◌, ◌≤◌, arith}
use Rattle.std.proofs.Common.{Bool, cond, Some, slice_get, inl, inr}
use Rattle.std.proofs.lemmas.Bool.{lt-ltb, le-ltb, cases_lt}
use Rattle.strc_elab_graph.specs.declared.graph.Fission.{Fission}
use Rattle.strc_elab_dataflow.proofs.Numbers as numbers
use Rattle.strc_fiss.specs.Numbers.{last_part, base, each_part, origin_of, parts_after}
use Rattle.strc_fiss.proofs.Bases.{base_up}
use Rattle.strc_fiss.proofs.Lookup.{part_there}
use Rattle.strc_stage_plan.specs.Owners.{Owner, next_owner, owner, OwnersAreOrigins}

module _ (share : ℕ → Fission) where
  abbrev part : (v k : ℕ) → Owner
  part v k = record { node = v; part = k }

  next_part : (v k : ℕ) → k < last_part share v → next_owner share (part v k) ≡ part v (suc k)
  next_part v k less =
      ap (λ (t : Bool). cond t (part v (suc k)) (part (suc v) 0))
      (lt-ltb k (last_part share v) less)

  next_node : (v : ℕ) → next_owner share (part v (last_part share v)) ≡ part (suc v) 0
  next_node v =
      ap (λ (t : Bool). cond t (part v (suc (last_part share v))) (part (suc v) 0))
      (le-ltb (last_part share v) (last_part share v) (omega arith))

  -- from a node's first part on
  parts_from : (v k : ℕ) → k ≤ last_part share v → owner share (base share v) ≡ part v 0
      → owner share (base share v + k) ≡ part v k
  parts_from v zero within first =
      let e : base share v + 0 ≡ base share v = omega arith in ap (owner share) e ∙ first
  parts_from v (suc k) within first =
      let e : base share v + suc k ≡ suc (base share v + k) = omega arith in
      ap (owner share) e
      ∙ ap (next_owner share) (parts_from v k (omega (arith, within)) first)
      ∙ next_part v k (omega (arith, within))

  first_part : (v : ℕ) → owner share (base share v) ≡ part v 0
  first_part zero = refl
  first_part (suc v) =
      let e : base share v + suc (last_part share v) ≡ suc (base share v + last_part share v) =
      omega arith in
      ap (owner share) e
      ∙ ap (next_owner share) (parts_from v (last_part share v) (omega arith) (first_part v))
      ∙ next_node v

  pub owner_is : (v k : ℕ) → k ≤ last_part share v
      → ((owner share (base share v + k)).node ≡ v)
      × ((owner share (base share v + k)).part ≡ k)
  owner_is v k within =
      let e = parts_from v k within (first_part v) in
      (ap (λ (o : Owner). o.node) e, ap (λ (o : Owner). o.part) e)

pub owners_have_origins : OwnersAreOrigins
owners_have_origins share size number less =
    let (v, k, is) = numbers.owner (parts_after share (λ w. 0)) (base share)
    (record { first = refl; next = λ w. refl; names = λ w j. refl }) number in
    let at : base share v + k ≡ number = is.is in
    let there = owner_is share v k is.within in
    let inside : v < size = inside_is v k at in
    ap (slice_get (each_part share (origin_of share) size)) (sym at)
    ∙ part_there share (origin_of share) size v k inside is.within
    ∙ sym (ap (λ (n : ℕ). Some (origin_of share (owner share n).node (owner share n).part))
    (sym at)
    ∙ ap₂ (λ (node part : ℕ). Some (origin_of share node part)) there.0 there.1)
  where
    inside_is : (v k : ℕ) → base share v + k ≡ number → v < size
    inside_is v k at = elim (cases_lt v size) [
      | inl inside ↦ inside
      | inr past ↦ absurd (omega (arith, at, less, base_up share size v past))
    ]
