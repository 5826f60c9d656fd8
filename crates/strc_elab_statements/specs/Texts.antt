-- What is to be elaborated: the texts of streams, and the places where they are.
use Rattle.std.specs.Prelude.{ℕ, ◌+◌, ℤ, pos, Bool, false, ◌||◌, List, [], ◌∷◌, Option, Some, None}
use Rattle.std.specs.Prelude.{unwrap_or, if◌then◌else◌, nat_eq, slice_index_or}
use Rattle.std.specs.Cmp.Lexicographic.{pointwise}
use Rattle.strc_parse_tree.specs.Tree as tree
use Rattle.strc_parse_tree.specs.Tree.{Declaration}
use Rattle.strc_parse_tree.specs.declared.tree.StreamType.{StreamType}
use Rattle.strc_parse_tree.specs.declared.tree.CompositeKind.{CompositeKind}
use Rattle.strc_work_meaning.specs.Filters.{Filter}
use Rattle.strc_work_meaning.specs.Firing.{Variables}
use Rattle.strc_lex_names.specs.Names.{has_name}
use Rattle.strc_work_meaning.specs.Typing.{TypedNames}
use Rattle.strc_work_meaning.specs.declared.types.ValueType.{ValueType}
use Rattle.strc_work_meaning.specs.declared.types.ValueType.TheVariants as kind

-- names with their values; the first of a name counts
abbrev pub Constants : Type 0
Constants = List (List ℕ × ℤ)

-- where a text is: the number of the declaration that holds it, and the constants that it sees
pub record Place : Type 0 where
  pub declaration : ℕ
  pub constants : Constants

-- the text of a stream
pub data Text : Type 0 where
  FilterText : (name : Option (List ℕ)) (filter : Filter) → Text
  CompositeText : (written : Option StreamType) (kind : CompositeKind) (block : tree.Stmts) → Text
  IdentityText : Text
  ReaderText : (text : List ℕ) → Text
  WriterText : (text : List ℕ) → Text

-- members in a row as a list
abbrev pub listed : tree.Members → List tree.Member
listed tree.NoMember = []
listed (tree.And first rest) = first ∷ listed rest

-- a filter without a name
abbrev pub anonymous : StreamType → tree.Members → Filter
anonymous types members = record {
  input = types.input;
  output = types.output;
  members =
      listed members;
}

-- the text of a declared stream
abbrev pub text_of : List ℕ → tree.Stream → Text
text_of name (tree.Filter input output members) =
    FilterText (Some name) (record { input = input; output = output; members = members })
text_of name (tree.Composite types kind block) = CompositeText (Some types) kind block

-- the parameters of a declared stream
abbrev pub parameters_of : Declaration → List (List ℕ)
parameters_of declaration = unwrap_or declaration.parameters []

-- whether a name occurs twice among these
abbrev pub is_doubled : List (List ℕ) → Bool
is_doubled [] = false
is_doubled (first ∷ rest) = has_name rest first || is_doubled rest

-- the number of the first declaration of a name, and the declaration
abbrev pub declared_from : ℕ → List Declaration → List ℕ → Option (ℕ × Declaration)
declared_from number [] name = None
declared_from number (first ∷ others) name =
    if pointwise nat_eq name first.name then Some (number, first) else declared_from
    (number + 1) others name

-- the constants whose names aren't shadowed
abbrev pub unshadowed : (hidden : List (List ℕ)) → Constants → Constants
unshadowed hidden [] = []
unshadowed hidden (first ∷ rest) = if has_name hidden first.0 then unshadowed hidden rest else first
    ∷ unshadowed hidden rest

-- a variable as a constant, where it is a number
abbrev pub as_constant : List ℕ → ValueType → List ℤ → Constants → Constants
as_constant name kind.Int cells outer = record { 0 = name; 1 = slice_index_or cells 0 (pos 0) }
    ∷ outer
as_constant name kind.Boolean cells outer = outer
as_constant name kind.Array cells outer = outer

-- what an anonymous stream sees of its surroundings, from the innermost variable outwards: the
-- numbers, with their values at that moment; a variable shadows the outer ones of its name, and the
-- constants, even where it can't be seen itself
abbrev pub captures_after : (hidden : List (List ℕ)) → TypedNames → Variables → Constants
    → Constants
captures_after hidden [] variables constants = unshadowed hidden constants
captures_after hidden (name ∷ names) [] constants = unshadowed hidden constants
captures_after hidden (name ∷ names) (variable ∷ variables) constants =
    if has_name hidden name.0
    then captures_after hidden names variables constants
    else as_constant name.0 name.1 variable.1
    (captures_after (name.0 ∷ hidden) names variables constants)

abbrev pub captures : TypedNames → Variables → Constants → Constants
captures names variables constants = captures_after [] names variables constants
