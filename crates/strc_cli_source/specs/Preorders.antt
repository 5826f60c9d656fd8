-- The nodes of a program's stream in preorder, and which of them channels join.
use Rattle.std.specs.Prelude.{◌≡◌, ℕ, ◌+◌, Bool, true, false, List, [], ◌∷◌, ◌++◌, length, map}
use Rattle.std.specs.Prelude.{codes, Option, Some, None, is_some}
use Rattle.std.specs.Option.{option_map, option_or}
use Rattle.std.specs.List.{flat_map}
use Rattle.strc_lex_names.specs.declared.place.Span.{Span}
use Rattle.strc_work_rules.specs.declared.site.Part.{Part}
use Rattle.strc_work_rules.specs.declared.site.Part.TheVariants as part
use Rattle.strc_elab_graph.specs.Carriers.{carries_in, splitter_carries}
use Rattle.strc_elab_graph.specs.Graphs.{Joiner, filter_name}
use Rattle.strc_elab_graph.specs.NodeView.{splitter_view}
use Rattle.strc_elab_stream.specs.Types.{is_int}
use Rattle.strc_elab_stream.specs.declared.stream.Stream.{Stream, Row_of-Stream, end_of-Stream}
use Rattle.strc_elab_stream.specs.declared.stream.Stream.{more_of-Stream}
use Rattle.strc_elab_stream.specs.declared.stream.Stream.TheVariants as stream
use Rattle.strc_cli_source.specs.declared.preorder.Ends.{Ends}
use Rattle.strc_cli_source.specs.declared.preorder.Preorder.{Preorder}
use Rattle.strc_cli_source.specs.declared.preorder.Seen.{Seen}

-- a node as contracts see it, without the place of its name: whether it takes the program's input,
-- what a writer has between its quotes, the statement that adds it, and which part of a composite
-- stream it is
pub record SeenView : Type 0 where
  pub name : List ℕ
  pub reads : Bool
  pub file : Option (List ℕ)
  pub added : Option Span
  pub part : Option Part

abbrev pub seen_view : Seen → SeenView
seen_view seen = record {
  name = seen.name.items;
  reads = seen.reads;
  file = option_map (λ file. file.items) seen.file;
  added = seen.origin.added;
  part = seen.origin.part;
}

-- streams by their nodes

mutual
  pub data Tree : Type 0 where
    -- one node, and whether it takes items and gives some
    Node : (name : List ℕ) (reads : Bool) (file : Option (List ℕ)) (takes gives : Bool) → Tree
    -- streams in a row
    Row : (children : Trees) → Tree
    -- streams side by side, and whether there are a splitter and a joiner
    Sides : (splits : Bool) (children : Trees) (joins : Bool) → Tree
    -- a feedback loop: whether its joiner takes items from before it, its body, whether its
    -- splitter gives items to what follows it, and its loop
    Loop : (takes : Bool) (body : Tree) (gives : Bool) (back : Tree) → Tree
    -- a stream and the statement that adds it, where there is one
    Added : (place : Option Span) (inner : Tree) → Tree

  pub data Trees : Type 0 where
    Done : Trees
    More : (first : Tree) (rest : Trees) → Trees

abbrev mutual
  pub tree_of : Stream → Tree
  tree_of (stream.Filter instance) = Node (filter_name instance.name) false None
      (is_int instance.code.input) (is_int instance.code.output)
  tree_of stream.Identity = Node (codes "Identity") false None true true
  tree_of (stream.FileReader text) = Node (codes "FileReader") true None false true
  tree_of (stream.FileWriter text) = Node (codes "FileWriter") false (Some text) true false
  tree_of (stream.Pipeline' shape children) = Row (row_of children)
  tree_of (stream.SplitJoin' splitter shape children joiner) =
      Sides (is_some splitter) (row_of children) (is_some joiner)
  tree_of (stream.FeedbackLoop' joiner at body splitter at' loop enqueued) =
      Loop (carries_in (Joiner joiner.items) 0) (tree_of body)
      (splitter_carries (splitter_view splitter) 0) (tree_of loop)
  tree_of (stream.Placed' by at inner) = Added by.place (tree_of inner)

  pub row_of : {m : _} → Row_of-Stream m → Trees
  row_of end_of-Stream = Done
  row_of (more_of-Stream first rest) = More (tree_of first) (row_of rest)

-- streams in a row
abbrev pub trees_of : List Stream → Trees
trees_of [] = Done
trees_of (first ∷ rest) = More (tree_of first) (trees_of rest)

-- nodes

-- a splitter or a joiner
abbrev pub part_name : Part → List ℕ
part_name part.Split = codes "split"
part_name _ = codes "join"

abbrev pub part_node : Part → (added : Option Span) → SeenView
part_node part added = record
    { name = part_name part; reads = false; file = None; added = added; part = Some part }

-- one where there is one
abbrev pub part_nodes : (is : Bool) → Part → (added : Option Span) → List SeenView
part_nodes false part added = []
part_nodes true part added = part_node part added ∷ []

abbrev mutual
  -- the nodes of a stream in preorder; this statement adds those that none within the stream adds
  pub nodes_of : (added : Option Span) → Tree → List SeenView
  nodes_of added (Node name reads file takes gives) =
      record { name = name; reads = reads; file = file; added = added; part = None } ∷ []
  nodes_of added (Row children) = row_nodes added children
  nodes_of added (Sides splits children joins) = part_nodes splits part.Split added
      ++ row_nodes added children ++ part_nodes joins part.Join added
  nodes_of added (Loop takes body gives back) = part_node part.Join added ∷ nodes_of added body
      ++ part_node part.Split added ∷ nodes_of added back
  nodes_of added (Added place inner) = nodes_of (option_or place added) inner

  pub row_nodes : (added : Option Span) → Trees → List SeenView
  row_nodes added Done = []
  row_nodes added (More first rest) = nodes_of added first ++ row_nodes added rest

-- how many nodes there are

abbrev pub one_if : Bool → ℕ
one_if false = 0
one_if true = 1

abbrev mutual
  pub size_of : Tree → ℕ
  size_of (Node name reads file takes gives) = 1
  size_of (Row children) = row_size children
  size_of (Sides splits children joins) = one_if splits + row_size children + one_if joins
  size_of (Loop takes body gives back) = 2 + size_of body + size_of back
  size_of (Added place inner) = size_of inner

  pub row_size : Trees → ℕ
  row_size Done = 0
  row_size (More first rest) = size_of first + row_size rest

-- at which nodes a stream's items come and go; its first node has the number that is given

-- the joiner of streams side by side
abbrev pub joiner_at : (first : ℕ) → (splits : Bool) → Trees → ℕ
joiner_at first splits children = first + one_if splits + row_size children

-- the splitter of a feedback loop
abbrev pub splitter_at : (first : ℕ) → (body : Tree) → ℕ
splitter_at first body = first + 1 + size_of body

abbrev pub node_if : Bool → (node : ℕ) → Option ℕ
node_if false node = None
node_if true node = Some node

abbrev mutual
  -- the node at which they come, where there are some
  pub entry_of : (first : ℕ) → Tree → Option ℕ
  entry_of first (Node name reads file takes gives) = node_if takes first
  entry_of first (Row children) = row_entry first children
  entry_of first (Sides splits children joins) = node_if splits first
  entry_of first (Loop takes body gives back) = node_if takes first
  entry_of first (Added place inner) = entry_of first inner

  pub row_entry : (first : ℕ) → Trees → Option ℕ
  row_entry first Done = None
  row_entry first (More child rest) = entry_of first child

abbrev mutual
  -- the node from which they go, where there are some
  pub exit_of : (first : ℕ) → Tree → Option ℕ
  exit_of first (Node name reads file takes gives) = node_if gives first
  exit_of first (Row children) = row_exit None first children
  exit_of first (Sides splits children joins) =
      node_if joins (joiner_at first splits children)
  exit_of first (Loop takes body gives back) = node_if gives (splitter_at first body)
  exit_of first (Added place inner) = exit_of first inner

  -- that of streams in a row, after a stream whose items go from this node
  pub row_exit : (before : Option ℕ) (first : ℕ) → Trees → Option ℕ
  row_exit before first Done = before
  row_exit before first (More child rest) =
      row_exit (exit_of first child) (first + size_of child) rest

abbrev pub ends_of : (first : ℕ) → Tree → Ends
ends_of first tree = record { entry = entry_of first tree; exit = exit_of first tree }

-- the nodes from which those of streams side by side go
abbrev pub side_exits : (first : ℕ) → Trees → List (Option ℕ)
side_exits first Done = []
side_exits first (More child rest) =
    exit_of first child ∷ side_exits (first + size_of child) rest

-- channels

-- one, where it has a node at both of its ends
abbrev pub link : (source target : Option ℕ) → List (ℕ × ℕ)
link None target = []
link (Some source) None = []
link (Some source) (Some target) = (source, target) ∷ []

-- one from each of these nodes
abbrev pub links_to : (target : Option ℕ) → (sources : List (Option ℕ)) → List (ℕ × ℕ)
links_to target sources = flat_map (λ source. link source target) sources

abbrev mutual
  -- the pairs of nodes that a stream's channels join, source before target
  pub links_of : (first : ℕ) → Tree → List (ℕ × ℕ)
  links_of first (Node name reads file takes gives) = []
  links_of first (Row children) = row_links None first children
  links_of first (Sides splits children joins) =
      side_links (node_if splits first) (first + one_if splits) children
      ++ links_to (node_if joins (joiner_at first splits children))
      (side_exits (first + one_if splits) children)
  links_of first (Loop takes body gives back) =
      links_of (first + 1) body ++ link (Some first) (entry_of (first + 1) body)
      ++ link (exit_of (first + 1) body) (Some (splitter_at first body))
      ++ links_of (splitter_at first body + 1) back
      ++ link (Some (splitter_at first body)) (entry_of (splitter_at first body + 1) back)
      ++ link (exit_of (splitter_at first body + 1) back) (Some first)
  links_of first (Added place inner) = links_of first inner

  -- those of streams in a row, after a stream whose items go from this node
  pub row_links : (before : Option ℕ) (first : ℕ) → Trees → List (ℕ × ℕ)
  row_links before first Done = []
  row_links before first (More child rest) =
      links_of first child ++ link before (entry_of first child)
      ++ row_links (exit_of first child) (first + size_of child) rest

  -- those of streams side by side, after this splitter
  pub side_links : (splitter : Option ℕ) (first : ℕ) → Trees → List (ℕ × ℕ)
  side_links splitter first Done = []
  side_links splitter first (More child rest) =
      links_of first child ++ link splitter (entry_of first child)
      ++ side_links splitter (first + size_of child) rest

-- orders of nodes

abbrev pub node_count : Preorder → ℕ
node_count order = length order.nodes.items

-- these nodes are added
abbrev pub AddsNodes : (old new : Preorder) → List SeenView → Type 0
AddsNodes old new nodes =
    map seen_view new.nodes.items ≡ map seen_view old.nodes.items ++ nodes

-- and these pairs of them
abbrev pub AddsLinks : (old new : Preorder) → List (ℕ × ℕ) → Type 0
AddsLinks old new links = new.links.items ≡ old.links.items ++ links

-- the nodes and the channels of a program's stream, which no statement adds
pub record IsPreorderOf (stream : Stream) (order : Preorder) : Type 0 where
  pub nodes : map seen_view order.nodes.items ≡ nodes_of None (tree_of stream)
  pub links : order.links.items ≡ links_of 0 (tree_of stream)
