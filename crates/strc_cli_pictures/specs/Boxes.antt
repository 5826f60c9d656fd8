-- The boxes of composite streams, with the lines of their nodes, and the whole picture.
use Rattle.std.specs.Prelude.{ℕ, ◌+◌, ◌-◌, ◌^◌, zero, suc, List, [], ◌∷◌, ◌++◌, codes, decimal, min}
use Rattle.std.specs.Prelude.{Bool, nat_le, nat_lt, nat_eq, if◌then◌else◌, Option, Some, None}
use Rattle.std.specs.Prelude.{is_some, length, not, take, drop}
use Rattle.strc_elab_graph.specs.NodeView.{GraphParts}
use Rattle.strc_elab_graph.specs.declared.graph.Channel.{Channel}
use Rattle.strc_elab_stream.specs.declared.stream.Stream.{Stream}
use Rattle.strc_elab_paths.specs.Outlines.{outline}
use Rattle.strc_elab_paths.specs.Paths.{labels_of}
use Rattle.strc_elab_paths.specs.declared.outline.Part.{Part}
use Rattle.strc_elab_paths.specs.declared.outline.Part.TheVariants as part
use Rattle.strc_cli_pictures.specs.Legends.{legend}
use Rattle.strc_cli_pictures.specs.Pictures.{Nodes, channel_lines, close_line, counted_nodes}
use Rattle.strc_cli_pictures.specs.Pictures.{end_words, node_line}
use Rattle.strc_cli_pictures.specs.declared.boxes.Position.{Position}

-- before any part
abbrev pub beginning : Position
beginning = record { node = 0; number = 0; level = 0 }

-- the greatest number of a machine
abbrev pub most : ℕ
most = 2 ^ 64 - 1

abbrev pub next : ℕ → ℕ
next number = min (number + 1) most

-- after a part
abbrev pub after : Position → Part → Position
after position (part.Node label) = record position { node = next position.node }
after position (part.Open label) =
    record position { number = next position.number; level = next position.level }
after position part.Close = record position { level = position.level - 1 }

-- the lines that open the box of a composite stream
abbrev pub open_lines : (box : ℕ) → (label : List ℕ) → List ℕ
open_lines box label =
    codes "  subgraph cluster_" ++ decimal box ++ codes " {\n  label=\"" ++ label
    ++ codes "\";\n"

-- how many nodes are in the composite stream whose parts these are, in so many others that began
-- among them
abbrev pub count_within : (level : ℕ) → List Part → ℕ
count_within level [] = 0
count_within level (part.Node label ∷ parts) = min (suc (count_within level parts)) most
count_within level (part.Open label ∷ parts) = count_within (suc level) parts
count_within zero (part.Close ∷ parts) = 0
count_within (suc level) (part.Close ∷ parts) = count_within level parts

-- a sum of shares with one more, up to all of the time
abbrev pub with_share : (sum more : Option ℕ) → Option ℕ
with_share (Some sum) (Some more) = Some (min (sum + more) 1000)
with_share None (Some share) = Some (min share 1000)
with_share sum None = sum

abbrev pub with_shares : (sum : Option ℕ) → List (Option ℕ) → Option ℕ
with_shares sum [] = sum
with_shares sum (share ∷ shares) = with_shares (with_share sum share) shares

-- the shares of so many nodes together
abbrev pub share_within : (shares : List (Option ℕ)) → (first count : ℕ) → Option ℕ
share_within shares first count = with_shares None (take count (drop first shares))

-- the line of a composite stream that is a single box
abbrev pub folded_line : Nodes → (label : List ℕ) → (first count : ℕ) → List ℕ
folded_line nodes label first count =
    codes "  n" ++ decimal first ++ codes " [label=\"" ++ label ++ codes "\\nnodes "
    ++ decimal first ++ codes " to " ++ decimal (min (first + count) most - 1)
    ++ end_words (codes ", shape=component") (share_within nodes.shares first count)

-- the lines of a part before others: those of what is in more than so many composite streams are
-- left out, and one in just so many is a single box
abbrev pub lines_of : Nodes → (depth : ℕ) → Position → Part → (later : List Part) → List ℕ
lines_of nodes depth position (part.Node label) later =
    if nat_le position.level depth then node_line nodes position.node else []
lines_of nodes depth position (part.Open label) later =
    if nat_lt position.level depth then open_lines position.number label
    else if nat_eq position.level depth
    then folded_line nodes label position.node (count_within 0 later) else []
lines_of nodes depth position part.Close later =
    if nat_le position.level depth then close_line else []

abbrev pub part_lines : Nodes → (depth : ℕ) → Position → List Part → List ℕ
part_lines nodes depth position [] = []
part_lines nodes depth position (part ∷ later) =
    lines_of nodes depth position part later
    ++ part_lines nodes depth (after position part) later

-- the node that stands for the next ones in a single box, by the part before them
abbrev pub first_after : (depth : ℕ) → Position → (first : ℕ) → Part → ℕ
first_after depth position first (part.Open label) =
    if nat_eq position.level depth then position.node else first
first_after depth position first part = first

-- the node whose line stands for that of a part, where it is a node
abbrev pub shown_of : (depth : ℕ) → Position → (first : ℕ) → Part → List ℕ
shown_of depth position first (part.Node label) =
    (if nat_le position.level depth then position.node else first) ∷ []
shown_of depth position first part = []

-- for each node the one whose line stands for it
abbrev pub shown_nodes : (depth : ℕ) → Position → (first : ℕ) → List Part → List ℕ
shown_nodes depth position first [] = []
shown_nodes depth position first (part ∷ parts) =
    shown_of depth position first part
    ++ shown_nodes depth (after position part) (first_after depth position first part) parts

-- in how many others a composite stream is a single box: in no number of them where none is given
abbrev pub depth_shown : Option ℕ → ℕ
depth_shown None = most
depth_shown (Some depth) = depth

abbrev pub has_shares : List (Option ℕ) → Bool
has_shares shares = not (nat_eq (length shares) 0)

-- a picture of parts, by what is written of their nodes, and of channels with buffers of these
-- sizes: no stages part it
abbrev pub parts_picture : Nodes → List Part → List Channel → (sizes : List ℕ) → (depth : Option ℕ)
    → List ℕ
parts_picture nodes parts channels sizes depth =
    codes "digraph strc {\n  node [shape=box];\n"
    ++ part_lines nodes (depth_shown depth) beginning parts
    ++ channel_lines [] (shown_nodes (depth_shown depth) beginning 0 parts) nodes.kinds channels
    sizes
    ++ legend (is_some depth) (has_shares nodes.shares) ++ codes "}\n"

-- the picture of a stream's flat graph with its counts and the sizes of its buffers
abbrev pub picture_text : Stream → GraphParts → (startup round sizes : List ℕ)
    → (depth : Option ℕ) → (shares : List (Option ℕ)) → List ℕ
picture_text stream graph startup round sizes depth shares =
    let parts = outline [] stream in
    parts_picture (counted_nodes graph (labels_of parts) startup round shares) parts graph.channels
    sizes depth
