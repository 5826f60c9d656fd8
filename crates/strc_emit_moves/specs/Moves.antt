-- The text of a firing of a node that only passes items on.
use Rattle.std.specs.Prelude.{ℕ, zero, suc, ◌+◌, Bool, true, false, List, [], ◌++◌, length, codes}
use Rattle.std.specs.Prelude.{decimal, sum, take, slice_index, slice_index_or, Option, Some, None}
use Rattle.std.specs.Prelude.{if◌then◌else◌}
use Rattle.std.specs.Option.{option_map}
use Rattle.strc_elab_graph.specs.Graphs.{SplitterCode, Duplicate, Roundrobin}
use Rattle.strc_emit_text.specs.Texts.{texts_below}
use Rattle.strc_emit_moves.specs.declared.places.Network.{Network}
use Rattle.strc_emit_moves.specs.declared.places.Items.{Items}
use Rattle.strc_emit_moves.specs.declared.places.Phase.{Phase}
use Rattle.strc_emit_moves.specs.Places.{taken_at, given_at, place_text}

-- `c5[2 + 3 * i]`
abbrev pub item_text : Items → List ℕ
item_text items =
    codes "c" ++ decimal items.channel ++ codes "[" ++ place_text items ++ codes "]"

-- items after so many more
abbrev pub later : (count : ℕ) → Items → Items
later count items = record items { after = items.after + count }

-- a move of one item, and of several
abbrev pub one_text : (to from : Items) → List ℕ
one_text to from =
    codes "        " ++ item_text to ++ codes " = " ++ item_text from ++ codes ";\n"

abbrev pub count_text : (count : ℕ) → List ℕ
count_text count = codes ", " ++ decimal count ++ codes ");\n"

abbrev pub many_text : (to from : Items) → (count : ℕ) → List ℕ
many_text to from count =
    codes "        copy_items(&" ++ item_text to ++ codes ", &" ++ item_text from
    ++ count_text count

abbrev pub move_text : (to from : Items) → (count : ℕ) → List ℕ
move_text to from zero = []
move_text to from (suc zero) = one_text to from
move_text to from (suc (suc more)) = many_text to from (suc (suc more))

-- where there are channels on both sides
abbrev pub between_text : (to from : Option Items) → (count : ℕ) → List ℕ
between_text (Some to) (Some from) count = move_text to from count
between_text _ _ count = []

-- an identity passes its item on
abbrev pub identity_text : Network → Phase → (node : ℕ) → List ℕ
identity_text network phase node =
    between_text (given_at network phase node 0) (taken_at network phase node 0) 1

-- a reader passes the next number of the input on
abbrev pub next_text : Items → List ℕ
next_text given = codes "        " ++ item_text given ++ codes " = input[taken];\n"

abbrev pub read_text : Option Items → List ℕ
read_text None = []
read_text (Some given) = next_text given

abbrev pub reader_text : Network → Phase → (node : ℕ) → List ℕ
reader_text network phase node =
    read_text (given_at network phase node 0) ++ codes "        taken = taken + 1;\n"

-- a writer prints a line for its item
abbrev pub written_text : (node : ℕ) → Option Items → List ℕ
written_text node None = []
written_text node (Some taken) =
    codes "        print(" ++ decimal node ++ codes ", " ++ item_text taken ++ codes ", 1);\n"

abbrev pub writer_text : Network → Phase → (node : ℕ) → List ℕ
writer_text network phase node = written_text node (taken_at network phase node 0)

-- a splitter passes its item on to each port that carries items, or so many to each port in turn
abbrev pub copy_text : Network → Phase → (node : ℕ) → List Bool → (port : ℕ) → List ℕ
copy_text network phase node carried port = if slice_index_or carried port false
    then between_text (given_at network phase node port) (taken_at network phase node 0) 1 else []

abbrev pub share_text : Network → Phase → (node : ℕ) → List ℕ → (port : ℕ) → List ℕ
share_text network phase node weights port = between_text (given_at network phase node port)
    (option_map (later (sum (take port weights))) (taken_at network phase node 0))
    (slice_index weights port)

abbrev pub splitter_text : Network → Phase → (node : ℕ) → SplitterCode → List ℕ
splitter_text network phase node (Duplicate carried) =
    texts_below (copy_text network phase node carried) (length carried)
splitter_text network phase node (Roundrobin weights) =
    texts_below (share_text network phase node weights) (length weights)

-- a joiner takes so many of each port in turn
abbrev pub joined_text : Network → Phase → (node : ℕ) → List ℕ → (port : ℕ) → List ℕ
joined_text network phase node weights port = between_text
    (option_map (later (sum (take port weights))) (given_at network phase node 0))
    (taken_at network phase node port) (slice_index weights port)
