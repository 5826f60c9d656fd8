-- A stream as a row of its parts.
use Rattle.std.specs.Prelude.{ℕ, Bool, true, false, List, [], ◌∷◌, ◌++◌, codes, is_some, flat_map}
use Rattle.strc_elab_stream.specs.declared.stream.Stream.{Stream, Row_of-Stream, end_of-Stream}
use Rattle.strc_elab_stream.specs.declared.stream.Stream.{more_of-Stream}
use Rattle.strc_elab_stream.specs.declared.stream.Stream.TheVariants as stream
use Rattle.strc_elab_paths.specs.Labels.{name_of, named_or}
use Rattle.strc_elab_paths.specs.declared.outline.Part.{Part}
use Rattle.strc_elab_paths.specs.declared.outline.Part.TheVariants as part

-- a node of this kind, where there is one
abbrev pub node_if : Bool → (kind : List ℕ) → List Part
node_if false kind = []
node_if true kind = part.Node kind ∷ []

-- a composite stream of this name, or of this kind where it has none, around its parts
abbrev pub within : (name kind : List ℕ) → List Part → List Part
within name kind parts = part.Open (named_or name kind) ∷ (parts ++ part.Close ∷ [])

abbrev mutual
  -- the parts of a stream of this name: its nodes in preorder, and each composite stream around
  -- its own; splitters and joiners are named for what they are
  pub outline : (name : List ℕ) → Stream → List Part
  outline name (stream.Filter instance) = part.Node (named_or name (codes "filter")) ∷ []
  outline name stream.Identity = part.Node (named_or name (codes "Identity")) ∷ []
  outline name (stream.FileReader text) = part.Node (named_or name (codes "FileReader")) ∷ []
  outline name (stream.FileWriter text) = part.Node (named_or name (codes "FileWriter")) ∷ []
  outline name (stream.Pipeline' shape children) =
      within name (codes "pipeline") (row_outline children)
  outline name (stream.SplitJoin' splitter shape children joiner) =
      within name (codes "split-join") (node_if (is_some splitter) (codes "split")
      ++ row_outline children ++ node_if (is_some joiner) (codes "join"))
  outline name (stream.FeedbackLoop' joiner at body splitter at' loop enqueued) =
      within name (codes "feedback loop") (part.Node (codes "join") ∷ outline [] body
      ++ part.Node (codes "split") ∷ outline [] loop)
  outline name (stream.Placed' added at inner) = outline (name_of added) inner

  -- those of streams one after another
  pub row_outline : {m : _} → Row_of-Stream m → List Part
  row_outline end_of-Stream = []
  row_outline (more_of-Stream first rest) = outline [] first ++ row_outline rest

abbrev pub streams_outline : List Stream → List Part
streams_outline streams = flat_map (outline []) streams
