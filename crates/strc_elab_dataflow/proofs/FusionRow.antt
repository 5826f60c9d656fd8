-- The row of fused units.
use Rattle.std.proofs.Common.{◌≡◌, refl, ℕ, zero, suc, ◌*◌, List, [], ◌∷◌}
use Rattle.std.proofs.Common.{length, arith, length-append, Bool, true}
use mathlib.Core.Logic.{inl, inr}
use Rattle.std.proofs.lemmas.Nat.Gcd.{dvd_refl}
use Rattle.strc_elab_dataflow.specs.Fused.{repeated}
use Rattle.strc_elab_dataflow.specs.FusedUnits.{Joins}
use Rattle.strc_elab_dataflow.specs.Pieces.{unit_of}
use Rattle.strc_elab_dataflow.specs.RoundRows.{FusionRow}

length_repeated : (n : ℕ) (xs : List ℕ) → length (repeated n xs) ≡ n * length xs
length_repeated zero xs = omega arith
length_repeated (suc n) xs = omega (
  arith,
  length-append xs (repeated n xs),
  length_repeated n xs,
)

abbrev all_free : ℕ → Bool
all_free node = true

apart : (h m n : ℕ) → ¬ Joins all_free 2 (record { turns = 3; nodes = 0 ∷ 1 ∷ [] })
    (unit_of 2 2) h m n
apart h zero n joins = omega (arith, joins.first_turns)
apart h (suc m) zero joins = omega (arith, joins.second_turns)
apart h (suc m) (suc n) joins = omega (
  arith,
  joins.short,
  length-append (repeated (suc m) (0 ∷ 1 ∷ [])) (repeated (suc n) (2 ∷ [])),
  length_repeated (suc m) (0 ∷ 1 ∷ []),
  length_repeated (suc n) (2 ∷ []),
)

pub fusion_row : FusionRow
fusion_row = record {
  fused = inl (
    3,
    1,
    1,
    record {
      divides = (dvd_refl 3, dvd_refl 3, λ d x y. x);
      first_turns = refl;
      second_turns = refl;
      first_free = (refl, tt);
      second_free = (refl, tt);
      short = omega arith;
    },
    inr (
      apart,
      (
        record { turns = 2; nodes = 2 ∷ 3 ∷ [] } ∷ [],
        refl,
        inl (
          2,
          1,
          1,
          record {
            divides = (dvd_refl 2, dvd_refl 2, λ d x y. x);
            first_turns = refl;
            second_turns = refl;
            first_free = (refl, tt);
            second_free = (refl, tt);
            short = omega arith;
          },
          refl,
        ),
      ),
    ),
  );
  firings = refl;
}
