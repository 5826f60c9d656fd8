-- Lists that grew part by part.
use Rattle.std.proofs.Common.{◌≡◌, List, [], ◌∷◌, ◌++◌, length, replicate, map, refl, ap, ◌∙◌}
use Rattle.std.proofs.Common.{append_assoc}

-- by what is the same
pub append_as : {A : Type 0} (before one x y : List A) → one ≡ before ++ x → x ≡ y
    → one ≡ before ++ y
append_as {A} before one x y first same = first ∙ ap (λ (l : List A). before ++ l) same

-- by three parts
pub append_three : {A : Type 0} (before one two three : List A) (x y z : List A)
    → one ≡ before ++ x → two ≡ one ++ y → three ≡ two ++ z → three ≡ before ++ (x ++ y ++ z)
append_three {A} before one two three x y z first second third =
    third
    ∙ ap (λ (l : List A). l ++ z) (second ∙ ap (λ (l : List A). l ++ y) first
    ∙ append_assoc before x y)
    ∙ append_assoc before (x ++ y) z

-- by two more
pub append_five : {A : Type 0} (before one two three four five : List A) (v w x y z : List A)
    → one ≡ before ++ v → two ≡ one ++ w → three ≡ two ++ x → four ≡ three ++ y
    → five ≡ four ++ z → five ≡ before ++ (v ++ w ++ x ++ y ++ z)
append_five {A} before one two three four five v w x y z first second third fourth fifth =
    fifth
    ∙ ap (λ (l : List A). l ++ z)
    (fourth
    ∙ ap (λ (l : List A). l ++ y) (append_three before one two three v w x first second third)
    ∙ append_assoc before (v ++ w ++ x) y)
    ∙ append_assoc before (v ++ w ++ x ++ y) z

-- so many times the same
pub replicate_map : {A B : Type 0} (value : B) (list : List A)
    → replicate (length list) value ≡ map (λ item. value) list
replicate_map value [] = refl
replicate_map {A} {B} value (first ∷ rest) =
    ap (λ (l : List B). value ∷ l) (replicate_map value rest)
