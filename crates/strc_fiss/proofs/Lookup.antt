-- The value of a part by its number.
use Rattle.std.proofs.Common.{◌≡◌, refl, ap, ◌∙◌, ℕ, zero, suc, ◌+◌, ◌<◌, ◌≤◌, arith}
use Rattle.std.proofs.Common.{length, get_or, inl, inr, slice_get, Some}
use Rattle.std.proofs.lemmas.Bool.{cases_lt}
use Rattle.std.proofs.lemmas.List.{get_or_append_left, get_or-append-add, length-append}
use Rattle.std.proofs.lemmas.Option.{slice_get-get_or}
use Rattle.strc_elab_graph.specs.declared.graph.Fission.{Fission}
use Rattle.strc_fiss.specs.Numbers.{up_to, base, last_part, each_part}
use Rattle.strc_fiss.proofs.Bases.{base_below}
use Rattle.strc_fiss.proofs.Sequences.{get_up_to, length_up_to}

module _ {A : Type 0} (share : ℕ → Fission) (value : ℕ → ℕ → A) where
  pub part_many : (n : ℕ) → length (each_part share value n) ≡ base share n
  part_many zero = refl
  part_many (suc n) = omega (
    arith,
    length-append (each_part share value n) (up_to (value n) (suc (last_part share n))),
    length_up_to (value n) (suc (last_part share n)),
    part_many n,
  )

  pub part_value : (n u k : ℕ) (d : A) → u < n → k ≤ last_part share u
      → get_or (each_part share value n) (base share u + k) d ≡ value u k
  part_value zero u k d less within = absurd (omega (arith, less))
  part_value (suc n) u k d less within = elim (cases_lt u n) [
    | inl lower ↦
        get_or_append_left (each_part share value n) (up_to (value n) (suc (last_part share n))) d
        (base share u + k)
        (omega (arith, part_many n, within, base_below share u n lower))
        ∙ part_value n u k d lower within
    | inr last ↦
        let e : n ≡ u = omega (arith, less, last) in
        let at : base share u + k ≡ length (each_part share value n) + k =
        omega (arith, part_many n, ap (base share) e) in
        let inside : k < suc (last_part share n) = omega (arith, within, ap (last_part share) e) in
        ap (λ (i : ℕ). get_or (each_part share value (suc n)) i d) at
        ∙ get_or-append-add (each_part share value n)
        (up_to (value n) (suc (last_part share n))) k d
        ∙ get_up_to (value n) (suc (last_part share n)) k d inside
        ∙ ap (λ (v : ℕ). value v k) e
  ]

  -- a part is there
  pub part_there : (n u k : ℕ) → u < n → k ≤ last_part share u
      → slice_get (each_part share value n) (base share u + k) ≡ Some (value u k)
  part_there n u k less within =
      slice_get-get_or (each_part share value n) (base share u + k) (value u k)
      (omega (arith, part_many n, within, base_below share u n less))
      ∙ ap Some (part_value n u k (value u k) less within)
