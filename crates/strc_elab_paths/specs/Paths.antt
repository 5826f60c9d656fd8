-- The labels and the paths of the nodes of an outline.
use Rattle.std.specs.Prelude.{ℕ, ◌-◌, List, [], ◌∷◌, ◌++◌, codes, length, slice_index_or, take}
use Rattle.strc_elab_paths.specs.declared.outline.Part.{Part}
use Rattle.strc_elab_paths.specs.declared.outline.Part.TheVariants as part

-- the labels of nodes
abbrev pub labels_of : List Part → List (List ℕ)
labels_of [] = []
labels_of (part.Node label ∷ parts) = label ∷ labels_of parts
labels_of (part.Open label ∷ parts) = labels_of parts
labels_of (part.Close ∷ parts) = labels_of parts

-- what is before a part, in composite streams that have these texts before theirs, the outermost
-- first
abbrev pub before : (around : List (List ℕ)) → List ℕ
before around = slice_index_or around (length around - 1) []

-- the paths of nodes in these composite streams
abbrev pub paths_in : (around : List (List ℕ)) → List Part → List (List ℕ)
paths_in around [] = []
paths_in around (part.Node label ∷ parts) =
    (before around ++ label) ∷ paths_in around parts
paths_in around (part.Open label ∷ parts) =
    paths_in (around ++ (before around ++ label ++ codes " / ") ∷ []) parts
paths_in around (part.Close ∷ parts) = paths_in (take (length around - 1) around) parts

-- `Main / Bands / LowPass(31, 4)` for each node
abbrev pub paths_of : List Part → List (List ℕ)
paths_of parts = paths_in [] parts
