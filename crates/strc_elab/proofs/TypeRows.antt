-- What a child that is added follows.
use Rattle.std.proofs.Common.{◌≡◌, suc, ◌-◌, ◌≤◌, List, [], ◌∷◌, length, get_or}
use Rattle.std.proofs.Common.{refl, ap, ◌∙◌, arith}
use Rattle.strc_parse_tree.specs.declared.tree.StreamType.{StreamType}
use Rattle.strc_elab.specs.Elaboration.{follows}
use Rattle.strc_elab_statements.specs.Written.{same_item}

-- one more takes what the last one gives
pub follows_last : (types : List StreamType) (next other : StreamType) → 1 ≤ length types
    → follows types next ≡ same_item (get_or types (length types - 1) other).output next.input
follows_last [] next other some = absurd (omega arith)
follows_last (last ∷ []) next other some = refl
follows_last (first ∷ second ∷ rest) next other some =
    let inner : 1 ≤ length (second ∷ rest) = omega arith in
    let same : suc (length (second ∷ rest) - 1) ≡ length (first ∷ second ∷ rest) - 1 =
    omega arith in
    follows_last (second ∷ rest) next other inner
    ∙ ap (λ k. same_item (get_or (first ∷ second ∷ rest) k other).output next.input) same
