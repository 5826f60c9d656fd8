-- The text that is written for nodes that only pass items on is that of their moves.
use Rattle.std.specs.Prelude.{◌≡◌, ℕ, List, length}
use Rattle.strc_elab_graph.specs.Graphs.{SplitterCode}
use Rattle.strc_elab_graph.specs.Graphs as graphs
use Rattle.strc_emit_text.specs.Texts.{texts_below}
use Rattle.strc_emit_moves.specs.declared.places.Network.{Network}
use Rattle.strc_emit_moves.specs.declared.places.Phase.{Phase}
use Rattle.strc_emit_moves.specs.Moves.{identity_text, reader_text, writer_text, splitter_text}
use Rattle.strc_emit_moves.specs.Moves.{joined_text}
use Rattle.strc_emit_passes.specs.Moves.{moves_spelled, node_moves}

pub record TextsAreMoves (network : Network) (phase : Phase) (node : ℕ) : Type 0 where
  pub identity : identity_text network phase node
      ≡ moves_spelled (node_moves network phase node graphs.Identity)
  pub reader : (text : List ℕ) → reader_text network phase node
      ≡ moves_spelled (node_moves network phase node (graphs.FileReader text))
  pub writer : (text : List ℕ) → writer_text network phase node
      ≡ moves_spelled (node_moves network phase node (graphs.FileWriter text))
  pub splitter : (splitter : SplitterCode) → splitter_text network phase node splitter
      ≡ moves_spelled (node_moves network phase node (graphs.Splitter splitter))
  pub joiner : (weights : List ℕ)
      → texts_below (joined_text network phase node weights) (length weights)
      ≡ moves_spelled (node_moves network phase node (graphs.Joiner weights))

abbrev pub MovesAreSpelled : Type 0
MovesAreSpelled = (network : Network) (phase : Phase) (node : ℕ) → TextsAreMoves network phase node
