-- Types of streams in a row, from the first and the last one.
use Rattle.std.proofs.Common.{◌≡◌, suc, ◌-◌, ◌≤◌, List, [], ◌∷◌, length, get_or, Some}
use Rattle.std.proofs.Common.{refl, ap, ◌∙◌, arith}
use Rattle.strc_parse_tree.specs.declared.tree.StreamType.{StreamType}
use Rattle.strc_elab_statements.specs.Sides.{last_given, row_types}

last_given-is : (first : StreamType) (rest : List StreamType) (other : StreamType)
    → (get_or (first ∷ rest) (length (first ∷ rest) - 1) other).output
    ≡ last_given first.output rest
last_given-is first [] other = refl
last_given-is first (second ∷ rest) other =
    let same : length (first ∷ second ∷ rest) - 1 ≡ suc (length (second ∷ rest) - 1) =
    omega arith in
    ap (λ k. (get_or (first ∷ second ∷ rest) k other).output) same
    ∙ last_given-is second rest other

pub row_types-ends : (types : List StreamType) (other : StreamType) → 2 ≤ length types
    → Some (record {
      input = (get_or types 0 other).input;
      output = (get_or types (length types - 1) other).output;
    }) ≡ row_types types
row_types-ends [] other some = absurd (omega arith)
row_types-ends (first ∷ rest) other some =
    ap (λ given. Some (record { input = first.input; output = given }))
    (last_given-is first rest other)
