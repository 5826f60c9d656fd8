-- The text that is written is that of moves.
use Rattle.std.proofs.Common.{◌≡◌, ℕ, zero, suc, Bool, true, false, List, [], ◌∷◌, ◌++◌, length}
use Rattle.std.proofs.Common.{sum, take, slice_index_or, Option, Some, None, refl, sym, ap, ◌∙◌}
use Rattle.std.proofs.Common.{append_assoc, append-nil, cond}
use Rattle.std.specs.Prelude.{slice_index}
use Rattle.std.specs.Option.{option_map}
use Rattle.strc_elab_graph.specs.Graphs.{SplitterCode, Duplicate, Roundrobin}
use Rattle.strc_emit_text.specs.Texts.{texts_below}
use Rattle.strc_emit_moves.specs.declared.places.Network.{Network}
use Rattle.strc_emit_moves.specs.declared.places.Items.{Items}
use Rattle.strc_emit_moves.specs.declared.places.Phase.{Phase}
use Rattle.strc_emit_moves.specs.Places.{taken_at, given_at}
use Rattle.strc_emit_moves.specs.Moves.{between_text, later, reader_text, read_text, written_text}
use Rattle.strc_emit_moves.specs.Moves.{copy_text, share_text, splitter_text, joined_text}
use Rattle.strc_emit_passes.specs.Moves.{Move, move_spelled, moves_spelled, between_moves}
use Rattle.strc_emit_passes.specs.Moves.{moves_below, copy_moves, share_moves, join_moves}
use Rattle.strc_emit_passes.specs.Moves.{splitter_moves, read_moves, line_moves}
use Rattle.strc_emit_passes.specs.Texts.{MovesAreSpelled}

first_spelled : (first : Move) (rest : List Move)
    → moves_spelled (first ∷ rest) ≡ move_spelled first ++ moves_spelled rest
first_spelled first [] = sym (append-nil (move_spelled first))
first_spelled first (second ∷ rest) = refl

joined_spelled : (front back : List Move)
    → moves_spelled (front ++ back) ≡ moves_spelled front ++ moves_spelled back
joined_spelled [] back = refl
joined_spelled (first ∷ rest) back =
    first_spelled first (rest ++ back)
    ∙ ap (λ l. move_spelled first ++ l) (joined_spelled rest back)
    ∙ sym (append_assoc (move_spelled first) (moves_spelled rest) (moves_spelled back))
    ∙ ap (λ l. l ++ moves_spelled back) (sym (first_spelled first rest))

below_spelled : (text : ℕ → List ℕ) (moves : ℕ → List Move)
    → ((port : ℕ) → text port ≡ moves_spelled (moves port)) → (count : ℕ)
    → texts_below text count ≡ moves_spelled (moves_below moves count)
below_spelled text moves same zero = refl
below_spelled text moves same (suc count) =
    ap (λ l. l ++ text count) (below_spelled text moves same count)
    ∙ ap (λ l. moves_spelled (moves_below moves count) ++ l) (same count)
    ∙ sym (joined_spelled (moves_below moves count) (moves count))

between_spelled : (to from : Option Items) (count : ℕ)
    → between_text to from count ≡ moves_spelled (between_moves to from count)
between_spelled (Some to) (Some from) zero = refl
between_spelled (Some to) (Some from) (suc zero) = refl
between_spelled (Some to) (Some from) (suc (suc count)) = refl
between_spelled None (Some from) count = refl
between_spelled None None count = refl
between_spelled (Some to) None count = refl

module _ (network : Network) (phase : Phase) (node : ℕ) where
  copy_spelled : (carried : List Bool) (port : ℕ)
      → copy_text network phase node carried port
      ≡ moves_spelled (copy_moves network phase node carried port)
  copy_spelled carried port = by (slice_index_or carried port false)
    where
      by : (t : Bool) → cond t (between_text (given_at network phase node port)
          (taken_at network phase node 0) 1) []
          ≡ moves_spelled (cond t (between_moves (given_at network phase node port)
          (taken_at network phase node 0) 1) [])
      by true = between_spelled (given_at network phase node port)
          (taken_at network phase node 0) 1
      by false = refl

  share_spelled : (weights : List ℕ) (port : ℕ) → share_text network phase node weights port
      ≡ moves_spelled (share_moves network phase node weights port)
  share_spelled weights port =
      between_spelled (given_at network phase node port)
      (option_map (later (sum (take port weights))) (taken_at network phase node 0))
      (slice_index weights port)

  join_spelled : (weights : List ℕ) (port : ℕ) → joined_text network phase node weights port
      ≡ moves_spelled (join_moves network phase node weights port)
  join_spelled weights port =
      between_spelled
      (option_map (later (sum (take port weights))) (given_at network phase node 0))
      (taken_at network phase node port) (slice_index weights port)

  splitter_spelled : (splitter : SplitterCode) → splitter_text network phase node splitter
      ≡ moves_spelled (splitter_moves network phase node splitter)
  splitter_spelled (Duplicate carried) =
      below_spelled (copy_text network phase node carried) (copy_moves network phase node carried)
      (copy_spelled carried) (length carried)
  splitter_spelled (Roundrobin weights) =
      below_spelled (share_text network phase node weights)
      (share_moves network phase node weights) (share_spelled weights) (length weights)

  reader_spelled : reader_text network phase node
      ≡ moves_spelled (read_moves network phase node (given_at network phase node 0))
  reader_spelled = by (given_at network phase node 0)
    where
      by : (o : Option Items) → read_text o ++ move_spelled Move.Take
          ≡ moves_spelled (read_moves network phase node o)
      by None = refl
      by (Some given) = refl

  writer_spelled : (o : Option Items) → written_text node o
      ≡ moves_spelled (line_moves network phase node o)
  writer_spelled None = refl
  writer_spelled (Some taken) = refl

pub moves_are_spelled : MovesAreSpelled
moves_are_spelled network phase node = record {
  identity = between_spelled (given_at network phase node 0) (taken_at network phase node 0) 1;
  reader = λ text. reader_spelled network phase node;
  writer = λ text. writer_spelled network phase node (taken_at network phase node 0);
  splitter = splitter_spelled network phase node;
  joiner = λ weights. below_spelled (joined_text network phase node weights)
      (join_moves network phase node weights) (join_spelled network phase node weights)
      (length weights);
}
