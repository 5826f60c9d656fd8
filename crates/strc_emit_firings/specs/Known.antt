-- Which calls of a filter are known: those with as many arguments as the helper function of their
-- name has parameters.
use Rattle.std.specs.Prelude.{ℕ, Bool, true, List, [], ◌∷◌, length, Option, Some, None, ◌==◌}
use Rattle.strc_parse_tree.specs.Tree as tree
use Rattle.strc_work_meaning.specs.Filters.{Helper, helper_named}
use Rattle.strc_emit_meaning.specs.Known.{AreKnown}

-- a call of no helper function is known to fault
abbrev pub takes : Option Helper → (count : ℕ) → Bool
takes None count = true
takes (Some helper) count = count == length helper.parameters

abbrev pub is_known : List tree.Member → List ℕ → (count : ℕ) → Bool
is_known members name count = takes (helper_named members name) count

-- the calls in the blocks of these members are known
abbrev pub AreKnownBlocks : (known : List ℕ → ℕ → Bool) → List tree.Member → Type 0
AreKnownBlocks known [] = Unit {0}
AreKnownBlocks known (tree.Fields kind variables ∷ rest) = AreKnownBlocks known rest
AreKnownBlocks known (tree.Init block ∷ rest) = AreKnownBlocks known rest
AreKnownBlocks known (tree.Prework rates block ∷ rest) =
    AreKnown known block × AreKnownBlocks known rest
AreKnownBlocks known (tree.Work rates block ∷ rest) =
    AreKnown known block × AreKnownBlocks known rest
AreKnownBlocks known (tree.Helper kind name parameters block ∷ rest) =
    AreKnown known block × AreKnownBlocks known rest

-- a filter calls its helper functions with as many arguments as they take
abbrev pub CallsFit : List tree.Member → Type 0
CallsFit members = AreKnownBlocks (is_known members) members
