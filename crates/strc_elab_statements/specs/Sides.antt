-- What streams take and give: items or nothing, side by side, and in a row.
use Rattle.std.specs.Prelude.{Bool, ◌&&◌, List, [], ◌∷◌, map, Option, Some, None}
use Rattle.std.specs.List.{list_any}
use Rattle.strc_parse_tree.specs.declared.tree.ItemType.{ItemType}
use Rattle.strc_parse_tree.specs.declared.tree.StreamType.{StreamType}
use Rattle.strc_elab_stream.specs.Types.{side, is_int}

-- items come in and go out
abbrev pub passes_items : StreamType → Bool
passes_items types = is_int types.input && is_int types.output

-- what streams side by side take, and what they give: items where one of them does
abbrev pub inputs_in : List StreamType → List ItemType
inputs_in types = map (λ (t : StreamType). t.input) types

abbrev pub outputs_in : List StreamType → List ItemType
outputs_in types = map (λ (t : StreamType). t.output) types

abbrev pub any_side : List ItemType → ItemType
any_side sides = side (list_any is_int sides)

-- what streams in a row give, after one that gives this
abbrev pub last_given : ItemType → List StreamType → ItemType
last_given given [] = given
last_given given (next ∷ rest) = last_given next.output rest

-- what streams in a row take and give, where there is one
abbrev pub row_types : List StreamType → Option StreamType
row_types [] = None
row_types (first ∷ rest) = Some (record
    { input = first.input; output = last_given first.output rest })
