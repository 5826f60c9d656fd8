-- A program's declarations: no two of one name, and the main stream among them.
use Rattle.std.specs.Prelude.{ℕ, ◌+◌, nat_eq, Bool, ◌&&◌, List, [], ◌∷◌, ◌++◌, length, Option, Some}
use Rattle.std.specs.Prelude.{None, Result, Ok, Err, if◌then◌else◌}
use Rattle.std.specs.List.{list_any}
use Rattle.std.specs.Cmp.Lexicographic.{pointwise}
use Rattle.strc_parse_tree.specs.Tree as tree
use Rattle.strc_parse_tree.specs.Tree.{Declaration}
use Rattle.strc_parse_tree.specs.declared.tree.ItemType.TheVariants as item
use Rattle.strc_parse_tree.specs.declared.tree.StreamType.{StreamType}
use Rattle.strc_elab_statements.specs.Texts.{parameters_of, declared_from}
use Rattle.strc_elab_statements.specs.declared.error.ElabError.{ElabError}
use Rattle.strc_elab_statements.specs.declared.error.ElabErrorKind.TheVariants as refused
use Rattle.strc_elab_statements.specs.Written.{is_as_written}

-- the number of the first declaration whose name an earlier one has
abbrev pub doubled_from : (earlier : List (List ℕ)) → ℕ → List Declaration → Option ℕ
doubled_from earlier number [] = None
doubled_from earlier number (first ∷ others) =
    if list_any (λ name. pointwise nat_eq first.name name) earlier then Some number
    else doubled_from (earlier ++ first.name ∷ []) (number + 1) others

abbrev pub not_doubled : Option ℕ → Result (Unit {0}) ElabError
not_doubled None = Ok tt
not_doubled (Some number) = Err (refused.TypeMismatch number)

-- what a declared stream takes and gives
abbrev pub types_of : tree.Stream → StreamType
types_of (tree.Filter input output members) = record { input = input; output = output }
types_of (tree.Composite types kind block) = types

-- whether a declaration can be the main stream: it takes and gives nothing, and has no parameters
abbrev pub can_be_main : Declaration → Bool
can_be_main declaration =
    is_as_written (Some (record { input = item.Void; output = item.Void }))
    (types_of declaration.stream)
    && nat_eq (length (parameters_of declaration)) 0

-- the declarations that can be the main stream, with their numbers
abbrev pub mains_from : ℕ → List Declaration → List (ℕ × Declaration)
mains_from number [] = []
mains_from number (first ∷ others) =
    if can_be_main first then (number, first)
    ∷ mains_from (number + 1) others else mains_from (number + 1) others

-- the only one
abbrev pub only_main : List (ℕ × Declaration) → Result (ℕ × Declaration) ElabError
only_main [] = Err refused.NoMain
only_main (one ∷ []) = Ok one
only_main (one ∷ other ∷ others) = Err refused.ManyMains

-- the named one
abbrev pub named_main : Option (ℕ × Declaration) → Result (ℕ × Declaration) ElabError
named_main None = Err refused.NoMain
named_main (Some found) = if can_be_main found.1 then Ok found else Err refused.NoMain

abbrev pub main_of : List Declaration → Option (List ℕ) → Result (ℕ × Declaration) ElabError
main_of program None = only_main (mains_from 0 program)
main_of program (Some name) = named_main (declared_from 0 program name)
