-- Nodes and channels in words, piece by piece.
use Rattle.std.proofs.Common.{◌≡◌, ◌∙◌, ap, refl, sym, subst, ℕ, List, [], ◌++◌, Option, Some, None}
use Rattle.std.specs.Prelude.{codes, decimal, map, slice_get}
use Rattle.std.specs.Option.{option_map}
use Rattle.std.proofs.Common.{Vec, Global, length, ◌≤◌}
use Rattle.std.proofs.lemmas.List.{length-map}
use Rattle.std.proofs.lemmas.Option.{slice_get_past}
use Rattle.strc_elab_graph.specs.Graphs.{node_name}
use Rattle.strc_elab_graph.specs.NodeView.{node_view}
use Rattle.strc_elab_graph.specs.declared.graph.Node.{Node}
use Rattle.strc_cli_diagnostics.proofs.Messages.{more_in_two, no_more}
use Rattle.strc_cli_diagnostics.specs.Messages.{MessageView, with_more}
use Rattle.strc_cli_source.specs.NodeWords.{Adds, BeginsWith, channel_words, name_at, named_words}
use Rattle.strc_cli_source.specs.NodeWords.{node_words, path_words, quoted, seen_words}
use Rattle.strc_cli_source.specs.declared.preorder.Preorder.{Preorder}
use Rattle.strc_cli_source.specs.declared.preorder.Seen.{Seen}

-- words in two pieces
pub in_two : (old between new : MessageView) (more rest : List ℕ)
    → between ≡ with_more old more → new ≡ with_more between rest
    → new ≡ with_more old (more ++ rest)
in_two old between new more rest first second =
    more_in_two old between new more rest first second

-- a path of a row of paths, and none past them
pub path_found : (paths : List (Vec ℕ Global)) (node : ℕ) (path : Vec ℕ Global)
    → slice_get paths node ≡ Some path
    → codes ", " ++ path.items ≡ path_words (option_map (λ p. p.items) (slice_get paths node))
path_found paths node path at =
    ap (λ (found : Option (Vec ℕ Global)). path_words (option_map (λ p. p.items) found)) (sym at)

pub path_missing : (old : MessageView) (paths : List (Vec ℕ Global)) (node : ℕ)
    → slice_get paths node ≡ None
    → old ≡ with_more old (path_words (option_map (λ p. p.items) (slice_get paths node)))
path_missing old paths node at = sym (no_more old)
    ∙ ap (λ (found : Option (Vec ℕ Global)).
    with_more old (path_words (option_map (λ p. p.items) found))) (sym at)

-- a node by its name, where it has one
pub node_named : (nodes : List Node) (path : Option (List ℕ)) (node : ℕ) (name : List ℕ)
    → name_at nodes node ≡ Some name → named_words (Some name) path node ≡ node_words nodes path node
node_named nodes path node name at =
    ap (λ (found : Option (List ℕ)). named_words found path node) (sym at)

pub node_unnamed : (nodes : List Node) (path : Option (List ℕ)) (node : ℕ) → length nodes ≤ node
    → named_words None None node ≡ node_words nodes path node
node_unnamed nodes path node past =
    let none : name_at nodes node ≡ None =
    slice_get_past (map (λ found. node_name (node_view found)) nodes) node
    (simp length-map past) in
    ap (λ (found : Option (List ℕ)). named_words found path node) (sym none)

-- a node of a stream, where there is one
pub node_seen : (order : Preorder) (path : Option (List ℕ)) (node : ℕ) (seen : Seen)
    → slice_get order.nodes.items node ≡ Some seen
    → named_words (Some seen.name.items) path node ≡ seen_words order path node
node_seen order path node seen at = ap (λ (found : Option Seen).
    named_words (option_map (λ seen. seen.name.items) found) path node) (sym at)

pub node_unseen : (order : Preorder) (path : Option (List ℕ)) (node : ℕ)
    → slice_get order.nodes.items node ≡ None
    → named_words None None node ≡ seen_words order path node
node_unseen order path node at = ap (λ (found : Option Seen).
    named_words (option_map (λ seen. seen.name.items) found) path node) (sym at)

-- a node that has a name, in five pieces
pub named : (old one two three four new : MessageView) (name path : List ℕ) (node : ℕ)
    → one ≡ with_more old (quoted name) → two ≡ with_more one (codes " (node ")
    → three ≡ with_more two (decimal node) → four ≡ with_more three path
    → new ≡ with_more four (codes ")")
    → new ≡ with_more old (quoted name ++ codes " (node " ++ decimal node ++ path ++ codes ")")
named old one two three four new name path node first second third fourth fifth =
    let head = quoted name ++ codes " (node " in
    more_in_two old four new (head ++ decimal node ++ path) (codes ")")
    (more_in_two old three four (head ++ decimal node) path
    (more_in_two old two three head (decimal node)
    (more_in_two old one two (quoted name) (codes " (node ") first second) third) fourth) fifth

-- nothing more is said
pub adds_nothing : (old : MessageView) → Adds (BeginsWith []) old old
adds_nothing old = record { words = []; are_so = ([], refl); goes_on = sym (no_more old) }

-- these words are said
pub adds_these : (old new : MessageView) (words : List ℕ) → new ≡ with_more old words
    → Adds (BeginsWith []) old new
adds_these old new words is = record { words = words; are_so = (words, refl); goes_on = is }

-- words after others
pub adds_after : (old between new : MessageView) (words : List ℕ)
    → Adds (BeginsWith []) old between → new ≡ with_more between words
    → Adds (BeginsWith []) old new
adds_after old between new words first later = record {
  words = first.words ++ words;
  are_so = (first.words ++ words, refl);
  goes_on = more_in_two old between new first.words words first.goes_on later;
}

pub adds_both : (old between new : MessageView)
    → Adds (BeginsWith []) old between → Adds (BeginsWith []) between new
    → Adds (BeginsWith []) old new
adds_both old between new first later =
    adds_after old between new later.words first later.goes_on

-- a channel by its number, and its ends
pub channel_ends : (old one two new : MessageView) (channel : ℕ)
    → one ≡ with_more old (codes "channel ") → two ≡ with_more one (decimal channel)
    → Adds (BeginsWith []) two new → Adds (BeginsWith (channel_words channel)) old new
channel_ends old one two new channel first second later = record {
  words = channel_words channel ++ later.words;
  are_so = (later.words, refl);
  goes_on = more_in_two old two new (channel_words channel) later.words
      (more_in_two old one two (codes "channel ") (decimal channel) first second) later.goes_on;
}

-- or no words
pub adds_same : (old between new : MessageView) → Adds (BeginsWith []) old between
    → new ≡ between → Adds (BeginsWith []) old new
adds_same old between new first same = record {
  words = first.words;
  are_so = (first.words, refl);
  goes_on = same ∙ first.goes_on;
}
