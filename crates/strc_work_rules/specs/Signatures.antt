-- The helper functions of a filter, by name: what a call of each gives, and what it takes.
use Rattle.std.specs.Prelude.{ℕ, suc, List, [], ◌∷◌, length, Option, Some, None, if◌then◌else◌}
use Rattle.strc_parse_tree.specs.Tree as tree
use Rattle.strc_parse_tree.specs.declared.tree.HelperType.{HelperType}
use Rattle.strc_parse_tree.specs.declared.tree.HelperType.TheVariants as helper
use Rattle.strc_lex_names.specs.Names.{has_name, plain_names}
use Rattle.strc_work_meaning.specs.declared.types.ValueType.{ValueType}
use Rattle.strc_work_meaning.specs.declared.types.ValueType.TheVariants.{Int, Boolean}
use Rattle.strc_work_meaning.specs.Typing.{TypedNames}
use Rattle.strc_work_rules.specs.declared.signatures.Signature.{Signature}

-- names of helper functions with their signatures
abbrev pub Signatures : Type 0
Signatures = List (List ℕ × Signature)

abbrev pub signature_of : HelperType → (parameters : List (List ℕ)) → Signature
signature_of kind parameters = record { kind = kind; parameters = length parameters }

-- one more helper function: of several of one name the first is called
abbrev pub with_signature : Signatures → List ℕ → Signature → Signatures
with_signature helpers name signature =
    if has_name (plain_names helpers) name then helpers
    else record { 0 = name; 1 = signature } ∷ helpers

-- the helper functions of these members, with those before them
abbrev pub signatures_after : Signatures → List tree.Member → Signatures
signatures_after helpers [] = helpers
signatures_after helpers (tree.Fields kind variables ∷ rest) = signatures_after helpers rest
signatures_after helpers (tree.Init block ∷ rest) = signatures_after helpers rest
signatures_after helpers (tree.Prework rates block ∷ rest) = signatures_after helpers rest
signatures_after helpers (tree.Work rates block ∷ rest) = signatures_after helpers rest
signatures_after helpers (tree.Helper kind name parameters block ∷ rest) =
    signatures_after (with_signature helpers name (signature_of kind parameters)) rest

-- the type of what a helper function gives, if it gives a value
abbrev pub given_type : HelperType → Option ValueType
given_type helper.Int = Some Int
given_type helper.Boolean = Some Boolean
given_type helper.Void = None

-- the names that can be seen after parameters, which are numbers, the last one innermost
abbrev pub with_parameters : TypedNames → List (List ℕ) → TypedNames
with_parameters names [] = names
with_parameters names (first ∷ rest) =
    with_parameters (record { 0 = first; 1 = Int } ∷ names) rest
