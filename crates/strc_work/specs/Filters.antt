-- Which filters are well typed.
use Rattle.std.specs.Prelude.{◌≡◌, ℕ, ◌≤◌, ℤ, pos, ◌<ℤ◌, List, [], ◌∷◌, length, IsTrue, IsFalse}
use Rattle.strc_lex_names.specs.Names.{has_name}
use Rattle.strc_parse_tree.specs.Tree as tree
use Rattle.strc_parse_tree.specs.declared.tree.ItemType.{ItemType}
use Rattle.strc_work_meaning.specs.Filters.{Filter, work_count}
use Rattle.strc_work_meaning.specs.declared.types.ValueType.{ValueType}
use Rattle.strc_work_meaning.specs.Typing.{TypedNames, type_of, names_after_fields}
use Rattle.strc_work_rules.specs.Resolution.{Context, carries_items, side_of, start_context}
use Rattle.strc_work_rules.specs.Resolution.{is_field_taken}
use Rattle.strc_work_rules.specs.Resolution.{helper_context, body_context, is_taken, known_after}
use Rattle.strc_work_rules.specs.Signatures.{Signatures, signatures_after, with_parameters}
use Rattle.strc_work_meaning.specs.declared.types.ValueType.TheVariants.{Int}
use Rattle.strc_work_rules.specs.Resolution.{fields_after, prework_count, init_count}
use Rattle.strc_work.specs.Expressions.{InitialHasType}
use Rattle.strc_work.specs.Numbers.{HasNumber}
use Rattle.strc_work.specs.Statements.{IsDeclarable, AreWellFormed}

-- a rate is a constant expression, above 0 only on a side where items flow
abbrev pub IsRate : List (List ℕ × ℤ) → (fields : TypedNames) → ItemType → ItemType → tree.Rate
    → Type 0
IsRate constants fields input output rate =
    (number : ℤ) × (HasNumber constants fields rate.rate number
    × (pos 0 <ℤ number → IsTrue (carries_items (side_of input output rate.kind))))

abbrev pub AreRates : List (List ℕ × ℤ) → (fields : TypedNames) → ItemType → ItemType
    → List tree.Rate → Type 0
AreRates constants fields input output [] = Unit {0}
AreRates constants fields input output (first ∷ rest) =
    IsRate constants fields input output first × AreRates constants fields input output rest

-- fields of this type: none has a name that is taken, and an initialiser, which sees all fields,
-- has their type
abbrev pub AreFields : Context → (fields : TypedNames) (before : List (List ℕ)) → ValueType
    → List tree.Variable → Type 0
AreFields context fields before kind [] = Unit {0}
AreFields context fields before kind (first ∷ rest) =
    IsFalse (is_field_taken before first.name) × InitialHasType context fields first.initial kind
    × AreFields context fields (first.name ∷ before) kind rest

-- the parameters of a helper function, which are numbers: none has a name that is taken
abbrev pub AreParameters : TypedNames → (outer : ℕ) → List (List ℕ) → Type 0
AreParameters names outer [] = Unit {0}
AreParameters names outer (first ∷ rest) =
    IsFalse (is_taken names outer first)
    × AreParameters (record { 0 = first; 1 = Int } ∷ names) outer rest

-- a member, with the fields and helper functions before it; it sees all of them, and `init`,
-- initialisers and helper functions may neither pop nor push nor print
abbrev pub IsWellFormedMember : (constants : List (List ℕ × ℤ)) (helpers : Signatures)
    (input output : ItemType) (fields : TypedNames) (before known : List (List ℕ)) → tree.Member
    → Type 0
IsWellFormedMember constants helpers input output fields before known (tree.Fields kind variables) =
    IsDeclarable constants fields kind
    × AreFields (start_context constants helpers) fields before (type_of kind) variables
IsWellFormedMember constants helpers input output fields before known (tree.Init block) =
    AreWellFormed (start_context constants helpers) fields (length fields) block
IsWellFormedMember constants helpers input output fields before known (tree.Prework rates block) =
    AreRates constants fields input output rates
    × AreWellFormed (body_context constants helpers input output) fields (length fields) block
IsWellFormedMember constants helpers input output fields before known (tree.Work rates block) =
    AreRates constants fields input output rates
    × AreWellFormed (body_context constants helpers input output) fields (length fields) block
IsWellFormedMember constants helpers input output fields before known
    (tree.Helper kind name parameters block) =
    let names = with_parameters fields parameters in
    IsFalse (has_name known name) × AreParameters fields (length fields) parameters
    × AreWellFormed (helper_context constants helpers kind) names (length names) block

abbrev pub AreWellFormedMembers : (constants : List (List ℕ × ℤ)) (helpers : Signatures)
    (input output : ItemType) (fields : TypedNames) (before known : List (List ℕ))
    → List tree.Member → Type 0
AreWellFormedMembers constants helpers input output fields before known [] = Unit {0}
AreWellFormedMembers constants helpers input output fields before known (first ∷ rest) =
    IsWellFormedMember constants helpers input output fields before known first
    × AreWellFormedMembers constants helpers input output fields (fields_after before first)
    (known_after known first) rest

-- a filter has one work, at most one prework and one `init`, and its members are well formed
pub record IsWellTyped (constants : List (List ℕ × ℤ)) (filter : Filter) : Type 0 where
  pub work : work_count filter.members ≡ 1
  pub prework : prework_count filter.members ≤ 1
  pub init : init_count filter.members ≤ 1
  pub members : AreWellFormedMembers constants (signatures_after [] filter.members) filter.input
      filter.output (names_after_fields [] filter.members) [] [] filter.members
