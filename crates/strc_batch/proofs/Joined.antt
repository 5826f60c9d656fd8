-- Units of groups, one after another.
use Rattle.std.proofs.Common.{◌≡◌, refl, sym, ap, ap₂, ◌∙◌, ℕ, zero, suc, List, [], ◌∷◌, ◌++◌}
use Rattle.std.proofs.Common.{map, add-one, append-nil, arith}
use Rattle.std.specs.List.{flat_map, range_with_len}
use Rattle.std.proofs.lemmas.List.Concat.{flat_map-append}
use Rattle.std.proofs.lemmas.List.FromFn.{map-range_with_len_more}
use Rattle.strc_elab_dataflow.specs.FusedUnits.{RoundUnit}
use Rattle.strc_batch_laws.specs.Units.{joined_units}

pub joined_so : (f : List RoundUnit → List RoundUnit) (g : ℕ → List RoundUnit) (n : ℕ)
    → flat_map f (map g (range_with_len 0 n)) ≡ joined_units (λ (a : ℕ). f (g a)) n
joined_so f g zero = refl
joined_so f g (suc n) =
    ap (λ (k : ℕ). flat_map f (map g (range_with_len 0 k))) (sym (add-one n))
    ∙ ap (flat_map f) (map-range_with_len_more g 0 n n (omega arith))
    ∙ flat_map-append f (map g (range_with_len 0 n)) (g n ∷ [])
    ∙ ap₂ ◌++◌ (joined_so f g n) (append-nil (f (g n)))
