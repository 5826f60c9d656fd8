-- The lines of channels, one more.
use Rattle.std.proofs.Common.{◌≡◌, ◌∙◌, ◌<◌, ◌+◌, ◌++◌, ◌∷◌, ℕ, List, ap, sym, drop, length, get_or}
use Rattle.std.proofs.Common.{slice_index, refl}
use Rattle.std.proofs.lemmas.List.{drop_more}
use Rattle.strc_elab_graph.specs.declared.graph.Channel.{Channel}
use Rattle.strc_elab_graph.specs.declared.graph.Node.{Node}
use Rattle.strc_cli_output.proofs.Texts.{piece_more}
use Rattle.strc_cli_pictures.specs.Pictures.{channel_line, channel_lines}

-- the line of a channel is written, and those after it are left
pub one_channel_more : (bounds shown : List ℕ) (nodes : List Node) (number : ℕ)
    (channels : List Channel) (sizes : List ℕ) (channel : Channel) (size : ℕ)
    (text later whole : List ℕ) → number < length channels
    → channel ≡ get_or channels number channel
    → number < length sizes → size ≡ slice_index sizes number
    → later ≡ text ++ channel_line bounds shown nodes channel size
    → text ++ channel_lines bounds shown nodes (drop number channels) (drop number sizes) ≡ whole
    → later ++ channel_lines bounds shown nodes (drop (number + 1) channels)
    (drop (number + 1) sizes)
    ≡ whole
one_channel_more bounds shown nodes number channels sizes channel size text later whole there same
    sized is written before =
    let line = channel_line bounds shown nodes channel size in
    let rest = channel_lines bounds shown nodes (drop (number + 1) channels)
    (drop (number + 1) sizes) in
    let next : drop number sizes ≡ size ∷ drop (number + 1) sizes =
    drop_more sizes number 0 sized ∙ ap (λ (n : ℕ). n ∷ drop (number + 1) sizes) (sym is) in
    let own : drop number channels ≡ channel ∷ drop (number + 1) channels =
    drop_more channels number channel there
    ∙ ap (λ (c : Channel). c ∷ drop (number + 1) channels) (sym same) in
    let first : channel_lines bounds shown nodes (drop number channels) (drop number sizes)
    ≡ line ++ rest = rw (own, next) refl in
    piece_more text line later rest _ whole written first before
