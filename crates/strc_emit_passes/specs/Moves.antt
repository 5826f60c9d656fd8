-- The C of a firing of a node that only passes items on: its moves, and their text.
use Rattle.std.specs.Prelude.{ℕ, zero, suc, Bool, false, List, [], ◌∷◌, ◌++◌, length}
use Rattle.std.specs.Prelude.{codes, decimal, sum, take, slice_index, slice_index_or, Option, Some}
use Rattle.std.specs.Prelude.{None, if◌then◌else◌}
use Rattle.std.specs.Option.{option_map}
use Rattle.strc_elab_graph.specs.Graphs.{SplitterCode, Duplicate, Roundrobin, NodeCode}
use Rattle.strc_elab_graph.specs.Graphs as graphs
use Rattle.strc_emit_moves.specs.declared.places.Network.{Network}
use Rattle.strc_emit_moves.specs.declared.places.Items.{Items}
use Rattle.strc_emit_moves.specs.declared.places.Phase.{Phase}
use Rattle.strc_emit_moves.specs.Places.{taken_at, given_at}
use Rattle.strc_emit_moves.specs.Moves.{item_text, later, move_text, next_text}

-- so many items are copied from one array to another, the next number of the input is read, the
-- input is taken one further, and an item is printed in a line
pub data Move : Type 0 where
  Pass : (to from : Items) (count : ℕ) → Move
  Read : (to : Items) → Move
  Take : Move
  Line : (tape : ℕ) (from : Items) → Move

abbrev pub move_spelled : Move → List ℕ
move_spelled (Pass to from count) = move_text to from count
move_spelled (Read to) = next_text to
move_spelled Take = codes "        taken = taken + 1;\n"
move_spelled (Line tape from) =
    codes "        print(" ++ decimal tape ++ codes ", " ++ item_text from ++ codes ", 1);\n"

abbrev pub moves_spelled : List Move → List ℕ
moves_spelled [] = []
moves_spelled (only ∷ []) = move_spelled only
moves_spelled (first ∷ second ∷ rest) = move_spelled first ++ moves_spelled (second ∷ rest)

-- between channels, where there are some on both sides
abbrev pub between_moves : (to from : Option Items) → (count : ℕ) → List Move
between_moves (Some to) (Some from) zero = []
between_moves (Some to) (Some from) (suc count) = Pass to from (suc count) ∷ []
between_moves _ _ count = []

-- the moves of the numbers below one, one after another
abbrev pub moves_below : (moves : ℕ → List Move) → (count : ℕ) → List Move
moves_below moves zero = []
moves_below moves (suc count) = moves_below moves count ++ moves count

module _ (network : Network) (phase : Phase) (node : ℕ) where
  abbrev pub identity_moves : List Move
  identity_moves =
      between_moves (given_at network phase node 0) (taken_at network phase node 0) 1

  abbrev pub read_moves : Option Items → List Move
  read_moves None = Take ∷ []
  read_moves (Some given) = Read given ∷ Take ∷ []

  abbrev pub line_moves : Option Items → List Move
  line_moves None = []
  line_moves (Some taken) = Line node taken ∷ []

  abbrev pub copy_moves : (carried : List Bool) → (port : ℕ) → List Move
  copy_moves carried port = if slice_index_or carried port false
      then between_moves (given_at network phase node port) (taken_at network phase node 0) 1
      else []

  abbrev pub share_moves : (weights : List ℕ) → (port : ℕ) → List Move
  share_moves weights port = between_moves (given_at network phase node port)
      (option_map (later (sum (take port weights))) (taken_at network phase node 0))
      (slice_index weights port)

  abbrev pub join_moves : (weights : List ℕ) → (port : ℕ) → List Move
  join_moves weights port = between_moves
      (option_map (later (sum (take port weights))) (given_at network phase node 0))
      (taken_at network phase node port) (slice_index weights port)

  abbrev pub splitter_moves : SplitterCode → List Move
  splitter_moves (Duplicate carried) = moves_below (copy_moves carried) (length carried)
  splitter_moves (Roundrobin weights) = moves_below (share_moves weights) (length weights)

  -- the moves of a firing of a node that only passes items on
  abbrev pub node_moves : NodeCode → List Move
  node_moves graphs.Identity = identity_moves
  node_moves (graphs.FileReader text) = read_moves (given_at network phase node 0)
  node_moves (graphs.FileWriter text) = line_moves (taken_at network phase node 0)
  node_moves (graphs.Splitter splitter) = splitter_moves splitter
  node_moves (graphs.Joiner weights) = moves_below (join_moves weights) (length weights)
  node_moves _ = []
