-- How many cells the names of a scope take, in whatever order.
use Rattle.std.proofs.Common.{◌≡◌, ◌+◌, [], ◌∷◌, ◌++◌, reverse, refl, ap, ◌∙◌, arith}
use Rattle.std.proofs.lemmas.List.{reverse-append}
use Rattle.strc_work_meaning.specs.Scoping.{Scope, total}

total-append : (first rest : Scope) → total (first ++ rest) ≡ total first + total rest
total-append [] rest = omega arith
total-append (field ∷ fields) rest = omega (arith, total-append fields rest)

pub total-reverse : (fields : Scope) → total (reverse fields) ≡ total fields
total-reverse [] = refl
total-reverse (field ∷ fields) =
    ap total (reverse-append (field ∷ []) fields)
    ∙ omega (arith, total-append (reverse fields) (field ∷ []), total-reverse fields)
