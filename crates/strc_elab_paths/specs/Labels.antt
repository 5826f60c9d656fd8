-- What a stream is called: its name with the values of its parameters, or its kind.
use Rattle.std.specs.Prelude.{ℕ, ℤ, List, [], ◌∷◌, ◌++◌, codes, flat_map, Option, Some, None}
use Rattle.std.specs.Fmt.{signed_decimal}
use Rattle.strc_elab_stream.specs.declared.added.Added.{Added}

-- a value after another one
abbrev pub later_text : ℤ → List ℕ
later_text value = codes ", " ++ signed_decimal value

-- `(31, 4)`; nothing where there are no parameters
abbrev pub arguments_text : List ℤ → List ℕ
arguments_text [] = []
arguments_text (first ∷ later) =
    codes "(" ++ signed_decimal first ++ flat_map later_text later ++ codes ")"

-- `LowPass(31, 4)`; nothing where a stream has no name
abbrev pub named_text : Option (List ℕ) → (arguments : List ℤ) → List ℕ
named_text None arguments = []
named_text (Some name) arguments = name ++ arguments_text arguments

abbrev pub name_of : Added → List ℕ
name_of added = named_text added.name added.arguments.items

-- a name, or a kind where there is none
abbrev pub named_or : (name kind : List ℕ) → List ℕ
named_or [] kind = kind
named_or (first ∷ rest) kind = first ∷ rest
