-- Names by how many are outside them.
use Rattle.std.proofs.Common.{◌≡◌, ℕ, zero, suc, ◌-◌, ◌<◌, List, [], ◌∷◌, length, reverse, get_or}
use Rattle.std.proofs.Common.{Some, sym, ap, ◌∙◌, arith}
use Rattle.std.specs.Prelude.{slice_get}
use Rattle.std.proofs.lemmas.List.{get_or-reverse, length-reverse}
use Rattle.std.proofs.lemmas.Option.{slice_get-get_or}
use Rattle.strc_lex_names.specs.declared.scope.Declared.{Declared}
use Rattle.strc_lex_names.specs.Scopes.{names_in}

-- an item of a list, counted from its end
pub numbered : {X : Type 0} (xs : List X) (i : ℕ) (x : X) → i < length xs → x ≡ get_or xs i x
    → slice_get (reverse xs) (length xs - suc i) ≡ Some x
numbered xs i x below at =
    let k : ℕ = length xs - suc i in
    let inside : k < length xs = omega arith in
    let within : k < length (reverse xs) = omega (arith, length-reverse xs) in
    let same : length xs - 1 - k ≡ i = omega arith in
    slice_get-get_or (reverse xs) k x within
    ∙ ap Some (get_or-reverse xs k x inside ∙ ap (λ n. get_or xs n x) same ∙ sym at)

pub numbered_name : (declared : List Declared) (i : ℕ) (one : Declared)
    → slice_get declared i ≡ Some one → slice_get (names_in declared) i ≡ Some one.name.items
numbered_name [] i one e = cc
numbered_name (first ∷ rest) zero one e = cc
numbered_name (first ∷ rest) (suc i) one e = numbered_name rest i one e
