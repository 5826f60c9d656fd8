-- The items of splitters' and joiners' ports.
use Rattle.std.proofs.Common.{◌≡◌, ℕ, zero, suc, ◌+◌, ◌<◌, ◌≤◌, ℤ, pos, List, [], ◌∷◌, ◌++◌, length}
use Rattle.std.proofs.Common.{get_or, take, drop, sum, refl, sym, ap, ◌∙◌, arith}
use Rattle.std.proofs.Common.{length-take, length-drop, length-append}
use Rattle.std.specs.Prelude.{slice_index}
use Rattle.std.proofs.lemmas.List.{get_or-take, get_or-drop, get_or_append_left, get_or-append-add}
use Rattle.std.proofs.lemmas.List.Sums.{sum_by_more, sum_by-take-le, sum_by-cons}
use Rattle.strc_elab_dataflow.specs.Node.{ByPort}
use Rattle.strc_elab_dataflow.specs.RoundRobin.{one_cycle}

-- a port's share ends within all weights
pub share_within : (weights : List ℕ) (port : ℕ) → port < length weights
    → sum (take port weights) + slice_index weights port ≤ sum weights
share_within weights port lt =
    omega (
      arith,
      sum_by_more (λ x. x) weights port 0 lt,
      sum_by-take-le (λ x. x) weights (port + 1),
    )

pub share_grows : (weights : List ℕ) (port : ℕ) → port < length weights
    → sum (take (suc port) weights) ≡ sum (take port weights) + slice_index weights port
share_grows weights port lt =
    let next : suc port ≡ port + 1 = omega arith in
    ap (λ p. sum (take p weights)) next ∙ sum_by_more (λ x. x) weights port 0 lt

pub span_length : (items : List ℤ) (start count : ℕ) → start + count ≤ length items
    → length (take count (drop start items)) ≡ count
span_length items start count fits =
    omega (arith, length-take count (drop start items), length-drop start items, fits)

pub span_at : (items : List ℤ) (start count k : ℕ) → k < count
    → get_or (take count (drop start items)) k (pos 0) ≡ get_or items (start + k) (pos 0)
span_at items start count k lt =
    get_or-take count (drop start items) k (pos 0) lt ∙ get_or-drop start items k (pos 0)

-- one cycle of a joiner
module _ (seen : ByPort) where
  pub cycle_length : (weights : List ℕ) (first : ℕ)
      → ((port : ℕ) → port < length weights
      → length (seen (first + port)) ≡ slice_index weights port)
      → length (one_cycle weights first seen) ≡ sum weights
  unfolding one_cycle
  cycle_length [] first sizes = refl
  cycle_length (weight ∷ weights) first sizes =
      let here : first + 0 ≡ first = omega arith in
      length-append (seen first) (one_cycle weights (suc first) seen)
      ∙ ap (λ n. n + length (one_cycle weights (suc first) seen))
      (ap (λ p. length (seen p)) (sym here) ∙ sizes 0 (omega arith))
      ∙ ap (λ n. weight + n) (cycle_length weights (suc first) (λ port lt.
      let next : suc first + port ≡ first + suc port = omega arith in
      ap (λ p. length (seen p)) next ∙ sizes (suc port) (omega (arith, lt))))
      ∙ sym (sum_by-cons (λ x. x) weight weights)

  pub cycle_at : (weights : List ℕ) (first : ℕ)
      → ((port : ℕ) → port < length weights
      → length (seen (first + port)) ≡ slice_index weights port)
      → (port k : ℕ) → port < length weights → k < slice_index weights port
      → get_or (one_cycle weights first seen) (sum (take port weights) + k) (pos 0)
      ≡ get_or (seen (first + port)) k (pos 0)
  unfolding one_cycle
  cycle_at [] first sizes port k lt less = absurd (omega (arith, lt))
  cycle_at (weight ∷ weights) first sizes zero k lt less =
      let here : first + 0 ≡ first = omega arith in
      let number : 0 + k ≡ k = omega arith in
      let size : length (seen first) ≡ weight =
      ap (λ p. length (seen p)) (sym here) ∙ sizes 0 lt in
      ap (λ n. get_or (seen first ++ one_cycle weights (suc first) seen) n (pos 0)) number
      ∙ get_or_append_left (seen first) (one_cycle weights (suc first) seen) (pos 0) k
      (omega (arith, less, size))
      ∙ ap (λ p. get_or (seen p) k (pos 0)) (sym here)
  cycle_at (weight ∷ weights) first sizes (suc port) k lt less =
      let here : first + 0 ≡ first = omega arith in
      let next : suc first + port ≡ first + suc port = omega arith in
      let size : length (seen first) ≡ weight =
      ap (λ p. length (seen p)) (sym here) ∙ sizes 0 (omega arith) in
      let number : sum (weight ∷ take port weights) + k
      ≡ length (seen first) + (sum (take port weights) + k) =
      omega (arith, sum_by-cons (λ x. x) weight (take port weights), size) in
      ap (λ n. get_or (seen first ++ one_cycle weights (suc first) seen) n (pos 0)) number
      ∙ get_or-append-add (seen first) (one_cycle weights (suc first) seen)
      (sum (take port weights) + k) (pos 0)
      ∙ cycle_at weights (suc first) (λ port' lt'.
      let after : suc first + port' ≡ first + suc port' = omega arith in
      ap (λ p. length (seen p)) after ∙ sizes (suc port') (omega (arith, lt'))) port k
      (omega (arith, lt)) less
      ∙ ap (λ p. get_or (seen p) k (pos 0)) next
