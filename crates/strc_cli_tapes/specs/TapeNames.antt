-- The names of a program's tapes, by which a tape is told from the others.
use Rattle.std.specs.Prelude.{ℕ, suc, ◌+◌, Bool, List, [], ◌∷◌, ◌++◌, codes, nat_lt, None, Option}
use Rattle.std.specs.Prelude.{Some, count_by, decimal, if◌then◌else◌}
use Rattle.std.specs.Str.{bytes_eq}
use Rattle.strc_elab_graph.specs.Graphs.{NodeCode, FileWriter, Filter, Copy, copied_name}
use Rattle.strc_elab_graph.specs.Graphs.{filter_name, gives_words}

-- whether the tape of a node has a name
abbrev pub has_name : (name : List ℕ) → ℕ × List ℕ → Bool
has_name name tape = bytes_eq tape.1 name

-- what a writer has between its quotes, or the name of a filter; no other node has a tape
abbrev pub own_name : NodeCode → List ℕ
own_name (FileWriter text) = text
own_name (Filter name filter) = filter_name name
own_name (Copy copied fission) = copied_name copied
own_name code = []

-- the nodes that give words, each with the name of its own, where the first node has this number
abbrev pub own_tapes : (node : ℕ) → List NodeCode → List (ℕ × List ℕ)
own_tapes node [] = []
own_tapes node (code ∷ codes) =
    if gives_words code then (node, own_name code) ∷ own_tapes (suc node) codes
    else own_tapes (suc node) codes

-- the name of the tape of this number among those that have the name: the second one is NAME.2
abbrev pub numbered_name : (name : List ℕ) → (number : ℕ) → List ℕ
numbered_name name number =
    if nat_lt 1 number then name ++ codes "." ++ decimal number else name

-- a tape told apart from these earlier ones
abbrev pub told : (earlier : List (ℕ × List ℕ)) → ℕ × List ℕ → ℕ × List ℕ
told earlier tape = (tape.0, numbered_name tape.1 (count_by (has_name tape.1) earlier + 1))

-- tapes told apart from each other and from these earlier ones
abbrev pub told_apart : (earlier tapes : List (ℕ × List ℕ)) → List (ℕ × List ℕ)
told_apart earlier [] = []
told_apart earlier (tape ∷ tapes) =
    told earlier tape ∷ told_apart (earlier ++ tape ∷ []) tapes

-- a program's tapes in order, by their nodes and names
abbrev pub named_tapes : List NodeCode → List (ℕ × List ℕ)
named_tapes codes = told_apart [] (own_tapes 0 codes)

-- the node of the first of these tapes that has a name
abbrev pub node_in : List (ℕ × List ℕ) → (name : List ℕ) → Option ℕ
node_in [] name = None
node_in (tape ∷ tapes) name = if has_name name tape then Some tape.0 else node_in tapes name
