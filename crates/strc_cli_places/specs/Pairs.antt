-- The first two nodes of a program that don't go together.
use Rattle.std.specs.Prelude.{◌≡◌, ℕ, ◌+◌, Bool, false, bytes_eq, List, drop, position, slice_get}
use Rattle.std.specs.Prelude.{Option, Some, None}
use Rattle.std.specs.Option.{option_map, option_and_then}
use Rattle.strc_cli_source.specs.declared.preorder.Preorder.{Preorder}
use Rattle.strc_cli_source.specs.declared.preorder.Seen.{Seen}
use Rattle.strc_cli_source.specs.Joined.{IsFirstApart}

-- a node takes the program's input
abbrev pub takes_input : Seen → Bool
takes_input seen = seen.reads

-- a node, and the first one after it that takes the program's input
abbrev pub with_next : List Seen → ℕ → Option (ℕ × ℕ)
with_next nodes first = option_map (λ more. (first, first + 1 + more))
    (position takes_input (drop (first + 1) nodes))

-- the first two nodes that take the program's input
abbrev pub first_readers : List Seen → Option (ℕ × ℕ)
first_readers nodes = option_and_then (with_next nodes) (position takes_input nodes)

-- what a writer has between its quotes
abbrev pub file_of : Seen → Option (List ℕ)
file_of seen = option_map (λ file. file.items) seen.file

-- the file is this one
abbrev pub is_file : List ℕ → Option (List ℕ) → Bool
is_file file None = false
is_file file (Some other) = bytes_eq other file

-- a node writes to a file
abbrev pub writes_to : List ℕ → Seen → Bool
writes_to file seen = is_file file (file_of seen)

-- the first node that writes to the file of a node, and that node
abbrev pub first_writer : List Seen → ℕ → Option (ℕ × ℕ)
first_writer nodes node = option_and_then
    (λ file. option_map (λ first. (first, node)) (position (writes_to file) nodes))
    (option_and_then file_of (slice_get nodes node))

-- node 0, and the first that no channels join with it
abbrev pub AreApart : Preorder → Option (ℕ × ℕ) → Type 0
AreApart order None = IsFirstApart order None
AreApart order (Some pair) = (pair.0 ≡ 0) × IsFirstApart order (Some pair.1)
