-- How units name nodes, found unit by unit.
use Rattle.std.proofs.Common.{◌≡◌, refl, sym, ap, ◌∙◌, ℕ}
use Rattle.std.proofs.Common.{Bool, true, false, cond, ◌&&◌, ◌||◌, eqb, List, [], ◌∷◌, length}
use Rattle.std.proofs.Common.{filter}
use Rattle.std.specs.List.{list_any}
use Rattle.strc_elab_dataflow.specs.FusedUnits.{RoundUnit}
use Rattle.strc_fiss.specs.Namings.{named_by, together, naming_of, is_all}
use Rattle.strc_fiss.specs.OwnUnits.{names, is_alone, are_own, has_own_unit}
use Rattle.strc_fiss.specs.declared.own_units.Naming.{Naming}
use Rattle.strc_fiss.specs.declared.own_units.Naming.TheVariants.{Never, Alone, Shared}

pub in_turn : (a b c : Naming) → together (together a b) c ≡ together a (together b c)
in_turn Never b c = refl
in_turn (Alone turns) Never c = refl
in_turn (Alone turns) (Alone others) Never = refl
in_turn (Alone turns) (Alone others) (Alone more) = refl
in_turn (Alone turns) (Alone others) Shared = refl
in_turn (Alone turns) Shared c = refl
in_turn Shared b c = refl

pub never_later : (a : Naming) → together a Never ≡ a
never_later Never = refl
never_later (Alone turns) = refl
never_later Shared = refl

pub shared_later : (a : Naming) → together a Shared ≡ Shared
shared_later Never = refl
shared_later (Alone turns) = refl
shared_later Shared = refl

-- ---- what a naming tells of the units that name a node

-- the units that name it
named : (node : ℕ) → List RoundUnit → Naming
named node [] = Never
named node (unit ∷ []) = cond (is_alone node unit.nodes) (Alone unit.turns) Shared
named node (first ∷ (second ∷ rest)) = Shared

named_more : (node : ℕ) (unit : RoundUnit) (rest : List RoundUnit)
    → together (cond (is_alone node unit.nodes) (Alone unit.turns) Shared) (named node rest)
    ≡ named node (unit ∷ rest)
unfolding named
named_more node unit [] = never_later (cond (is_alone node unit.nodes) (Alone unit.turns) Shared)
named_more node unit (second ∷ []) =
    by_test (is_alone node unit.nodes) (is_alone node second.nodes)
  where
    by_test : (a b : Bool)
        → together (cond a (Alone unit.turns) Shared) (cond b (Alone second.turns) Shared) ≡ Shared
    by_test true true = refl
    by_test true false = refl
    by_test false b = refl
named_more node unit (second ∷ (third ∷ rest)) =
    shared_later (cond (is_alone node unit.nodes) (Alone unit.turns) Shared)

naming_is : (node : ℕ) (units : List RoundUnit)
    → naming_of node units ≡ named node (filter (names node) units)
unfolding named
naming_is node [] = refl
naming_is node (unit ∷ rest) =
    ap (together (named_by node unit)) (naming_is node rest) ∙ by_test (names node unit)
  where
    by_test : (t : Bool)
        → together (cond t (cond (is_alone node unit.nodes) (Alone unit.turns) Shared) Never)
        (named node (filter (names node) rest))
        ≡ named node (cond t (unit ∷ filter (names node) rest) (filter (names node) rest))
    by_test true = named_more node unit (filter (names node) rest)
    by_test false = refl

named_own : (count node : ℕ) (units : List RoundUnit)
    → is_all count (named node units) ≡ are_own count node units
unfolding named
named_own count node [] = refl
named_own count node (unit ∷ []) = by_test (is_alone node unit.nodes)
  where
    by_test : (t : Bool)
        → is_all count (cond t (Alone unit.turns) Shared) ≡ (t && eqb unit.turns count)
    by_test true = refl
    by_test false = refl
named_own count node (first ∷ (second ∷ rest)) = refl

-- a node's naming tells whether it has a unit of its own
pub naming_tells : (count node : ℕ) (units : List RoundUnit)
    → is_all count (naming_of node units) ≡ has_own_unit units count node
naming_tells count node units =
    ap (is_all count) (naming_is node units) ∙ named_own count node (filter (names node) units)

-- ---- units of one node, and others

pub named_alone : (node own turns : ℕ) (before : Naming)
    → cond (eqb node own) (together before (Alone turns)) before
    ≡ together before (named_by node (record { turns = turns; nodes = own ∷ [] }))
named_alone node own turns before = by_test (eqb node own)
  where
    by_test : (t : Bool) → cond t (together before (Alone turns)) before
        ≡ together before (cond (t || false) (cond t (Alone turns) Shared) Never)
    by_test true = refl
    by_test false = sym (never_later before)

not_alone : (node : ℕ) (nodes : List ℕ) → (length nodes ≡ 1 → ⊥) → is_alone node nodes ≡ false
not_alone node [] many = refl
not_alone node (only ∷ []) many = absurd (many refl)
not_alone node (first ∷ (second ∷ rest)) many = refl

pub named_beside : (node turns : ℕ) (nodes : List ℕ) (before : Naming) → (length nodes ≡ 1 → ⊥)
    → cond (list_any (eqb node) nodes) Shared before
    ≡ together before (named_by node (record { turns = turns; nodes = nodes }))
named_beside node turns nodes before many =
    by_test (list_any (eqb node) nodes)
    ∙ ap (λ (t : Bool). together before
    (cond (list_any (eqb node) nodes) (cond t (Alone turns) Shared) Never))
    (sym (not_alone node nodes many))
  where
    by_test : (t : Bool) → cond t Shared before ≡ together before (cond t Shared Never)
    by_test true = sym (shared_later before)
    by_test false = sym (never_later before)
