-- Names and what they mean, the innermost first.
use Rattle.std.specs.Prelude.{ℕ, Bool, false, ◌||◌, List, [], ◌∷◌, length, map, Option, Some, None}
use Rattle.std.specs.Prelude.{if◌then◌else◌, bytes_eq}

-- whether a name is among these
abbrev pub has_name : List (List ℕ) → List ℕ → Bool
has_name [] name = false
has_name (first ∷ rest) name = bytes_eq first name || has_name rest name

-- names beside as many values
abbrev pub with_values : {T : Type 0} → List (List ℕ) → List T → List (List ℕ × T)
with_values [] values = []
with_values (name ∷ names) [] = []
with_values (name ∷ names) (value ∷ values) =
    record { 0 = name; 1 = value } ∷ with_values names values

-- the names alone
abbrev pub plain_names : {T : Type 0} → List (List ℕ × T) → List (List ℕ)
plain_names {T = T} names = map (λ (named : List ℕ × T). named.0) names

-- the value beside the innermost declaration of a name
abbrev pub value_named : {T : Type 0} → List (List ℕ × T) → List ℕ → Option T
value_named [] name = None
value_named (first ∷ rest) name = if bytes_eq first.0 name then Some first.1
    else value_named rest name

-- the innermost declaration of a name gets another value
abbrev pub with_value : {T : Type 0} → List (List ℕ × T) → List ℕ → T → List (List ℕ × T)
with_value [] name value = []
with_value (first ∷ rest) name value =
    if bytes_eq first.0 name then record { 0 = first.0; 1 = value } ∷ rest else first
    ∷ with_value rest name value

-- the number of the innermost of these names that is this one: how many are outside it
abbrev pub number_named : List (List ℕ) → List ℕ → Option ℕ
number_named [] name = None
number_named (first ∷ rest) name = if bytes_eq first name then Some (length rest)
    else number_named rest name
