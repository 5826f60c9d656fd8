-- The end of a channel that is marked where the counts of a round become too large.
use Rattle.std.proofs.Common.{◌≡◌, ℕ, ◌<◌, List, length, get_or, Option, Some, None, refl, sym}
use Rattle.std.proofs.Common.{subst, inl, inr, slice_get}
use Rattle.std.proofs.lemmas.Option.{slice_get_read}
use Rattle.strc_lex_names.specs.declared.place.Span.{Span}
use Rattle.strc_lex.specs.declared.token.Token.{Token}
use Rattle.strc_parse_tree.specs.declared.tree.Program.{Program}
use Rattle.strc_elab_graph.specs.NodeView.{GraphParts}
use Rattle.strc_elab_graph.specs.declared.graph.Channel.{Channel}
use Rattle.strc_cli_source.specs.declared.preorder.Preorder.{Preorder}
use Rattle.strc_cli_places.specs.Large.{heavier, MarksHeavier, MarksLarge}
use Rattle.strc_cli_places.specs.Nodes.{MarksNodeOf, MarksChannel}
use Rattle.strc_cli_places.specs.Parts.{ends_of}

module _ (text : List ℕ) (tokens : List Token) (asked : Option (List ℕ)) (program : Option Program)
    (order : Option Preorder) (there : Option GraphParts) (graph : GraphParts)
    (same : there ≡ Some graph) (channels : List Channel) (are : channels ≡ graph.channels)
    (number : ℕ) (channel : Channel) (within : number < length channels)
    (at : channel ≡ get_or channels number channel) (node : ℕ) (is : node ≡ heavier graph channel)
    (place : Option Span) where
  of_channel : MarksHeavier text tokens asked program order graph number channel place
      → MarksLarge text tokens asked program order there place
  of_channel marks = subst (λ g. MarksLarge text tokens asked program order g place) (sym same)
      (inr (
        number,
        channel,
        subst (λ l. slice_get l number ≡ Some channel) are
            (slice_get_read channels (length channels) number channel refl within at),
        marks,
      ))

  -- its place
  pub end_marked : MarksNodeOf text tokens asked program order node place
      → MarksLarge text tokens asked program order there place
  end_marked marks = of_channel (inl
      (subst (λ n. MarksNodeOf text tokens asked program order n place) is marks))

  -- without one that of the channel
  pub channel_marked : MarksNodeOf text tokens asked program order node None
      → MarksChannel text tokens asked program order (ends_of there number) place
      → MarksLarge text tokens asked program order there place
  channel_marked none marks = of_channel (inr (
    subst (λ n. MarksNodeOf text tokens asked program order n None) is none,
    subst (λ g. MarksChannel text tokens asked program order (ends_of g number) place) same marks,
  ))
