-- A part of a graph's nodes that runs alone, over the same graph: its nodes have their counts, all
-- others none.
use Rattle.std.specs.Prelude.{◌≡◌, ℕ, Bool, true, cond, List, [], ◌∷◌, Some, None}
use Rattle.strc_elab_dataflow.specs.Histories.{Run}
use Rattle.strc_elab_dataflow.specs.Flat.{Origin, Origin.Nowhere, Origin.Input, Origin.Port, Graph}

-- The counts of a part's nodes; 0 outside it.
unfoldable pub cut : (part : ℕ → Bool) → (counts : ℕ → ℕ) → ℕ → ℕ
cut part counts node = cond (part node) (counts node) 0

-- The firings of a part's nodes, in their order.
unfoldable pub kept : (part : ℕ → Bool) → List ℕ → List ℕ
kept part [] = []
kept part (node ∷ order) = cond (part node) (node ∷ kept part order) (kept part order)

-- An origin that is no node outside a part.
abbrev pub IsFrom : (part : ℕ → Bool) → Origin → Type 0
IsFrom part Nowhere = Unit {0}
IsFrom part Input = Unit {0}
IsFrom part (Port node port) = part node ≡ true

-- What comes to a part's nodes comes from its own nodes, or from none.
abbrev pub IsClosed : {Code : Type 0} → Graph Code → (part : ℕ → Bool) → Type 0
IsClosed graph part = (node port : ℕ) → part node ≡ true
    → IsFrom part (graph.source node port).origin

-- Each node of an order is in a part.
abbrev pub AllIn : (part : ℕ → Bool) → List ℕ → Type 0
AllIn part [] = Unit {0}
AllIn part (node ∷ order) = (part node ≡ true) × AllIn part order

module _ {State Cause Word : Type 0} (part : ℕ → Bool) (all : ℕ → Run State Cause Word) where
  -- Some node of a part has a fault.
  pub record HasFaultIn : Type 0 where
    pub node : ℕ
    pub cause : Cause
    pub inside : part node ≡ true
    pub is : (all node).fault ≡ Some cause

  -- No node of a part has one.
  abbrev pub IsFaultlessIn : Type 0
  IsFaultlessIn = (node : ℕ) → part node ≡ true → (all node).fault ≡ None
