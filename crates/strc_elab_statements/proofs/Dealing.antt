-- Weights dealt to ports, port by port.
use Rattle.std.proofs.Common.{◌≡◌, ℕ, suc, ◌+◌, ◌<◌, ◌≤◌, ℤ, List, [], ◌∷◌, ◌++◌, length}
use Rattle.std.proofs.Common.{drop}
use Rattle.std.proofs.Common.{get_or, Option, Some, None, option_map, refl, sym, ap, ◌∙◌}
use Rattle.std.proofs.Common.{append_assoc}
use Rattle.std.proofs.lemmas.List.{at_drop_more, at_drop_all}
use Rattle.strc_parse_tree.specs.declared.tree.ItemType.{ItemType}
use Rattle.strc_elab_statements.specs.Weights.{port_weight, put_before, port_weights}

-- weights that are dealt already, before those of the ports that are left
abbrev pub dealt_before : List ℕ → Option (List ℕ) → Option (List ℕ)
dealt_before dealt rest = option_map (λ weights. dealt ++ weights) rest

-- a wrong number of weights
pub port_weights-wrong : (weights : List ℤ) (sides : List ItemType)
    → (length weights ≡ length sides → ⊥) → port_weights weights sides ≡ None
port_weights-wrong [] [] differs = absurd (differs refl)
port_weights-wrong [] (side ∷ sides) differs = refl
port_weights-wrong (weight ∷ weights) [] differs = refl
port_weights-wrong (weight ∷ weights) (side ∷ sides) differs =
    ap (put_before (port_weight weight side))
    (port_weights-wrong weights sides (λ same. differs (ap suc same)))
    ∙ put_none (port_weight weight side)
  where
    put_none : (first : Option ℕ) → put_before first None ≡ None
    put_none None = refl
    put_none (Some w) = refl

-- the port that is next
port_next : (weights : List ℤ) (sides : List ItemType) (port : ℕ) (weight : ℤ) (side : ItemType)
    → port < length weights → port < length sides
    → port_weights (drop port weights) (drop port sides)
    ≡ put_before (port_weight (get_or weights port weight) (get_or sides port side))
    (port_weights (drop (port + 1) weights) (drop (port + 1) sides))
port_next weights sides port weight side below within =
    at_drop_more (λ l. port_weights l (drop port sides)) weights port weight below
    ∙ at_drop_more (λ l. port_weights
    (get_or weights port weight ∷ drop (port + 1) weights) l) sides port side within

put_on : (dealt : List ℕ) (weight : ℕ) (rest : Option (List ℕ))
    → dealt_before (dealt ++ weight ∷ []) rest
    ≡ dealt_before dealt (put_before (Some weight) rest)
put_on dealt weight None = refl
put_on dealt weight (Some weights) = ap (λ l. Some l) (append_assoc dealt (weight ∷ []) weights)

-- one port more
pub dealt_more : (weights : List ℤ) (sides : List ItemType) (port : ℕ) (weight : ℤ)
    (side : ItemType) (dealt dealt' : List ℕ) (found : ℕ)
    → port < length weights → port < length sides
    → Some found ≡ port_weight (get_or weights port weight) (get_or sides port side)
    → dealt' ≡ dealt ++ found ∷ []
    → dealt_before dealt' (port_weights (drop (port + 1) weights) (drop (port + 1) sides))
    ≡ dealt_before dealt (port_weights (drop port weights) (drop port sides))
dealt_more weights sides port weight side dealt dealt' found below within is more =
    let left = port_weights (drop (port + 1) weights) (drop (port + 1) sides) in
    ap (λ l. dealt_before l left) more
    ∙ put_on dealt found left
    ∙ ap (λ w. dealt_before dealt (put_before w left)) is
    ∙ sym (ap (dealt_before dealt) (port_next weights sides port weight side below within))

-- a weight that its port can't have
pub dealt_refused : (weights : List ℤ) (sides : List ItemType) (port : ℕ) (weight : ℤ)
    (side : ItemType) (dealt : List ℕ) → port < length weights → port < length sides
    → None ≡ port_weight (get_or weights port weight) (get_or sides port side)
    → dealt_before dealt (port_weights (drop port weights) (drop port sides)) ≡ None
dealt_refused weights sides port weight side dealt below within none =
    let left = port_weights (drop (port + 1) weights) (drop (port + 1) sides) in
    ap (dealt_before dealt) (port_next weights sides port weight side below within)
    ∙ ap (λ w. dealt_before dealt (put_before w left)) (sym none)

append_none : (l : List ℕ) → l ++ [] ≡ l
append_none [] = refl
append_none (first ∷ rest) = ap (λ l. first ∷ l) (append_none rest)

-- no port is left
pub dealt_all : (weights : List ℤ) (sides : List ItemType) (port : ℕ) (dealt : List ℕ)
    → length weights ≤ port → length sides ≤ port
    → dealt_before dealt (port_weights (drop port weights) (drop port sides)) ≡ Some dealt
dealt_all weights sides port dealt past over =
    at_drop_all (λ l. dealt_before dealt (port_weights l (drop port sides))) weights port past
    ∙ at_drop_all (λ l. dealt_before dealt (port_weights [] l)) sides port over
    ∙ ap (λ l. Some l) (append_none dealt)
