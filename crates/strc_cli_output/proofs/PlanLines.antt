-- The lines of a plan, one node after another.
use Rattle.std.proofs.Common.{◌≡◌, ◌∙◌, ◌<◌, ◌+◌, refl, ℕ, List, ◌∷◌, ◌++◌, Some, length}
use Rattle.std.proofs.Common.{drop, sym, ap, append_assoc, slice_get, slice_index, get_or}
use Rattle.std.proofs.lemmas.List.{drop_more}
use Rattle.std.proofs.lemmas.Option.{get_or_from_slice_get, slice_get_within}
use Rattle.strc_elab_graph.specs.declared.graph.Channel.{Channel}
use Rattle.strc_cli_output.specs.Output.{node_line, node_lines, start_line, start_lines}
use Rattle.strc_cli_output.specs.Output.{channel_line, channel_lines}

-- names from a node on: its own and those after it
names_at : (names : List (List ℕ)) (node : ℕ) (name : List ℕ) → slice_get names node ≡ Some name
    → drop node names ≡ name ∷ drop (node + 1) names
names_at names node name is =
    drop_more names node name (slice_get_within names node name is)
    ∙ ap (λ (n : List ℕ). n ∷ drop (node + 1) names) (get_or_from_slice_get names node name name is)

-- the line of a node is written, and those after it are left
pub one_line_more : (node : ℕ) (names : List (List ℕ)) (counts : List ℕ) (name : List ℕ) (count : ℕ)
    (text more whole : List ℕ)
    → slice_get names node ≡ Some name → node < length counts → count ≡ slice_index counts node
    → more ≡ text ++ node_line node name count
    → text ++ node_lines node (drop node names) (drop node counts) ≡ whole
    → more ++ node_lines (node + 1) (drop (node + 1) names) (drop (node + 1) counts) ≡ whole
one_line_more node names counts name count text more whole named counted is written before =
    let rest = node_lines (node + 1) (drop (node + 1) names) (drop (node + 1) counts) in
    let next : drop node counts ≡ count ∷ drop (node + 1) counts =
    drop_more counts node 0 counted ∙ ap (λ (n : ℕ). n ∷ drop (node + 1) counts) (sym is) in
    let first : node_lines node (drop node names) (drop node counts) ≡ node_line node name count
    ++ rest =
    rw (names_at names node name named, next) refl in
    ap (λ (l : List ℕ). l ++ rest) written ∙ append_assoc text (node_line node name count) rest
    ∙ ap (λ (l : List ℕ). text ++ l) (sym first) ∙ before

-- the line of a node's start-up is written, and those after it are left
pub one_start_more : (node : ℕ) (counts : List ℕ) (count : ℕ) (text more whole : List ℕ)
    → node < length counts → count ≡ slice_index counts node → more ≡ text ++ start_line node count
    → text ++ start_lines node (drop node counts) ≡ whole
    → more ++ start_lines (node + 1) (drop (node + 1) counts) ≡ whole
one_start_more node counts count text more whole counted is written before =
    let rest = start_lines (node + 1) (drop (node + 1) counts) in
    let next : drop node counts ≡ count ∷ drop (node + 1) counts =
    drop_more counts node 0 counted ∙ ap (λ (n : ℕ). n ∷ drop (node + 1) counts) (sym is) in
    let first = ap (start_lines node) next in
    ap (λ (l : List ℕ). l ++ rest) written ∙ append_assoc text (start_line node count) rest
    ∙ ap (λ (l : List ℕ). text ++ l) (sym first) ∙ before

-- the line of a channel is written, and those after it are left
pub one_channel_more : (number : ℕ) (channels : List Channel) (sizes : List ℕ) (channel : Channel)
    (size : ℕ) (text more whole : List ℕ)
    → number < length channels → channel ≡ get_or channels number channel
    → number < length sizes → size ≡ slice_index sizes number
    → more ≡ text ++ channel_line number channel.source.node channel.target.node size
    → text ++ channel_lines number (drop number channels) (drop number sizes) ≡ whole
    → more ++ channel_lines (number + 1) (drop (number + 1) channels) (drop (number + 1) sizes)
    ≡ whole
one_channel_more number channels sizes channel size text more whole there same sized is written
    before =
    let line = channel_line number channel.source.node channel.target.node size in
    let rest = channel_lines (number + 1) (drop (number + 1) channels) (drop (number + 1) sizes) in
    let next : drop number sizes ≡ size ∷ drop (number + 1) sizes =
    drop_more sizes number 0 sized ∙ ap (λ (n : ℕ). n ∷ drop (number + 1) sizes) (sym is) in
    let own : drop number channels ≡ channel ∷ drop (number + 1) channels =
    drop_more channels number channel there
    ∙ ap (λ (c : Channel). c ∷ drop (number + 1) channels) (sym same) in
    let first : channel_lines number (drop number channels) (drop number sizes) ≡ line ++ rest =
    rw (own, next) refl in
    ap (λ (l : List ℕ). l ++ rest) written ∙ append_assoc text line rest
    ∙ ap (λ (l : List ℕ). text ++ l) (sym first) ∙ before
