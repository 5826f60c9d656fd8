-- What holds of each part of each node holds of each number after fission.
use Rattle.std.proofs.Common.{◌≡◌, refl, subst, ℕ, zero, suc, ◌+◌, ◌<◌, ◌≤◌, arith}
use Rattle.std.proofs.Common.{Bool, true, false, cond, inl, inr}
use Rattle.std.proofs.lemmas.Bool.{cases_lt}
use Rattle.strc_elab_graph.specs.declared.graph.Fission.{Fission}
use Rattle.strc_elab_dataflow.proofs.Numbers as numbers
use Rattle.strc_fiss.specs.Numbers.{is_dealt, last_part, base, parts_after}

module _ (share : ℕ → Fission) (P : ℕ → Type 0)
    (kept : (u : ℕ) → is_dealt (share u) ≡ false → P (base share u + 0))
    (scatter : (v : ℕ) → is_dealt (share v) ≡ true → P (base share v + 0))
    (copy : (v i : ℕ) → is_dealt (share v) ≡ true → i < (share v).ways
    → P (base share v + suc i))
    (gather : (v : ℕ) → is_dealt (share v) ≡ true → P (base share v + suc (share v).ways)) where
  by_part : (v k : ℕ) → k ≤ last_part share v → P (base share v + k)
  by_part v k within = by_test (is_dealt (share v)) refl k within
    where
      by_test : (t : Bool) → is_dealt (share v) ≡ t → (part : ℕ)
          → part ≤ cond t (suc (share v).ways) 0 → P (base share v + part)
      by_test false whole part less =
          let first : 0 ≡ part = omega (arith, less) in
          subst (λ (n : ℕ). P (base share v + n)) first (kept v whole)
      by_test true dealt zero less = scatter v dealt
      by_test true dealt (suc i) less = elim (cases_lt i (share v).ways) [
        | inl inside ↦ copy v i dealt inside
        | inr past ↦
            let last : (share v).ways ≡ i = omega (arith, less, past) in
            subst (λ (n : ℕ). P (base share v + suc n)) last (gather v dealt)
      ]

  pub each_number : (number : ℕ) → P number
  each_number number =
      let (v, k, is) = numbers.owner (parts_after share (λ w. 0)) (base share)
      (record { first = refl; next = λ w. refl; names = λ w j. refl }) number in
      subst P is.is (by_part v k is.within)
