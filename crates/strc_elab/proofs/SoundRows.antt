-- Sound streams: well typed, of the types that are stated, and of instances; and several of them,
-- in a row or side by side.
use Rattle.std.proofs.Common.{◌≡◌, List, [], ◌∷◌, ◌++◌, true, refl, sym, ap, ◌∙◌}
use Rattle.std.specs.List.{AllByRecursion}
use Rattle.strc_parse_tree.specs.declared.tree.ItemType.{ItemType}
use Rattle.strc_parse_tree.specs.declared.tree.ItemType.TheVariants as item
use Rattle.strc_parse_tree.specs.declared.tree.StreamType.{StreamType}
use Rattle.strc_elab_graph.specs.Graphs as graphs
use Rattle.strc_elab_stream.specs.Flattening.{nodes_of, row_nodes}
use Rattle.strc_elab_stream.specs.Instances.{Stream, in_a_row}
use Rattle.strc_elab_stream.specs.Types.{IsWellTyped, AreWellTyped, AreEach, input_of}
use Rattle.strc_elab_stream.specs.Types.{output_of}
use Rattle.strc_elab_stream.specs.Types.{inputs_of, outputs_of, last_output}
use Rattle.strc_elab.specs.Elaboration.{follows}
use Rattle.strc_elab_statements.specs.Written.{same_item}
use Rattle.strc_elab_statements.specs.Sides.{last_given, inputs_in, outputs_in}
use Rattle.strc_elab.specs.Sound.{IsInstance}

-- what is made: a well-typed stream of instances, with its types
pub record IsSoundStream (stream : Stream) (types : StreamType) : Type 0 where
  pub typed : IsWellTyped stream
  pub input : input_of stream ≡ types.input
  pub output : output_of stream ≡ types.output
  pub instances : AllByRecursion IsInstance (nodes_of stream)

-- children, each with its types
abbrev pub AreSound : List Stream → List StreamType → Type 0
AreSound [] [] = Unit {0}
AreSound (first ∷ rest) (types ∷ others) = IsSoundStream first types × AreSound rest others
AreSound [] (types ∷ others) = ⊥
AreSound (first ∷ rest) [] = ⊥

-- each type takes what the one before gives
abbrev pub InARow : List StreamType → Type 0
InARow [] = Unit {0}
InARow (first ∷ []) = Unit {0}
InARow (first ∷ second ∷ rest) = (first.output ≡ second.input) × InARow (second ∷ rest)

pub items_same : (one other : ItemType) → same_item one other ≡ true → one ≡ other
items_same item.Int item.Int e = refl
items_same item.Void item.Void e = refl
items_same item.Int item.Void e = absurd (cc)
items_same item.Void item.Int e = absurd (cc)

-- one child more
pub one_more_sound : (children : List Stream) (types : List StreamType) (next : Stream)
    (found : StreamType) → AreSound children types → IsSoundStream next found
    → AreSound (children ++ next ∷ []) (types ++ found ∷ [])
one_more_sound [] [] next found sound h = (h, tt)
one_more_sound (first ∷ rest) (one ∷ others) next found sound h =
    (sound.0, one_more_sound rest others next found sound.1 h)
one_more_sound [] (one ∷ others) next found sound h = absurd sound
one_more_sound (first ∷ rest) [] next found sound h = absurd sound

pub one_more_in_a_row : (types : List StreamType) (next : StreamType) → InARow types
    → follows types next ≡ true → InARow (types ++ next ∷ [])
one_more_in_a_row [] next row e = tt
one_more_in_a_row (last ∷ []) next row e = (items_same last.output next.input e, tt)
one_more_in_a_row (first ∷ second ∷ rest) next row e =
    (row.0, one_more_in_a_row (second ∷ rest) next row.1 e)

-- nodes
pub append_instances : (xs ys : List graphs.NodeCode) → AllByRecursion IsInstance xs
    → AllByRecursion IsInstance ys → AllByRecursion IsInstance (xs ++ ys)
append_instances [] ys h g = g
append_instances (x ∷ xs) ys h g = (h.0, append_instances xs ys h.1 g)

pub row_instances : (children : List Stream) (types : List StreamType) → AreSound children types
    → AllByRecursion IsInstance (row_nodes (in_a_row children))
row_instances [] types sound = tt
row_instances (first ∷ rest) (one ∷ others) sound =
    append_instances (nodes_of first) (row_nodes (in_a_row rest)) sound.0.instances
    (row_instances rest others sound.1)
row_instances (first ∷ rest) [] sound = absurd sound

-- types
pub row_typed : (children : List Stream) (types : List StreamType) → AreSound children types
    → InARow types → AreWellTyped (in_a_row children)
row_typed [] types sound row = tt
row_typed (first ∷ rest) [] sound row = absurd sound
row_typed (first ∷ []) (one ∷ others) sound row = (sound.0.typed, tt, tt)
row_typed (first ∷ second ∷ rest) (one ∷ []) sound row = absurd sound.1
row_typed (first ∷ second ∷ rest) (one ∷ other ∷ others) sound row = (
  sound.0.typed,
  sound.1.0.input ∙ sym row.0 ∙ sym sound.0.output,
  row_typed (second ∷ rest) (other ∷ others) sound.1 row.1,
)

pub row_gives : (given : ItemType) (children : List Stream) (known : ItemType)
    (types : List StreamType) → AreSound children types → given ≡ known
    → last_output given (in_a_row children) ≡ last_given known types
row_gives given [] known [] sound e = e
row_gives given [] known (one ∷ others) sound e = absurd sound
row_gives given (first ∷ rest) known [] sound e = absurd sound
row_gives given (first ∷ rest) known (one ∷ others) sound e =
    row_gives (output_of first) rest one.output others sound.1 sound.0.output

pub each_typed : (children : List Stream) (types : List StreamType) → AreSound children types
    → AreEach (in_a_row children)
each_typed [] types sound = tt
each_typed (first ∷ rest) (one ∷ others) sound = (sound.0.typed, each_typed rest others sound.1)
each_typed (first ∷ rest) [] sound = absurd sound

pub inputs_are : (children : List Stream) (types : List StreamType) → AreSound children types
    → inputs_in types ≡ inputs_of (in_a_row children)
inputs_are [] [] sound = refl
inputs_are [] (one ∷ others) sound = absurd sound
inputs_are (first ∷ rest) [] sound = absurd sound
inputs_are (first ∷ rest) (one ∷ others) sound =
    ap (λ (l : List ItemType). one.input ∷ l) (inputs_are rest others sound.1)
    ∙ ap (λ (t : ItemType). t ∷ inputs_of (in_a_row rest)) (sym sound.0.input)

pub outputs_are : (children : List Stream) (types : List StreamType) → AreSound children types
    → outputs_in types ≡ outputs_of (in_a_row children)
outputs_are [] [] sound = refl
outputs_are [] (one ∷ others) sound = absurd sound
outputs_are (first ∷ rest) [] sound = absurd sound
outputs_are (first ∷ rest) (one ∷ others) sound =
    ap (λ (l : List ItemType). one.output ∷ l) (outputs_are rest others sound.1)
    ∙ ap (λ (t : ItemType). t ∷ outputs_of (in_a_row rest)) (sym sound.0.output)
