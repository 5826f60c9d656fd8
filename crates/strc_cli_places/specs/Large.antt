-- What is marked where the counts of a round become too large: of a channel the node that moves
-- more items on it.
use Rattle.std.specs.Prelude.{◌≡◌, ◌⊎◌, ℕ, nat_lt, if◌then◌else◌, List, slice_get}
use Rattle.std.specs.Prelude.{Option, Some, None}
use Rattle.strc_lex_names.specs.declared.place.Span.{Span}
use Rattle.strc_lex.specs.declared.token.Token.{Token}
use Rattle.strc_parse_tree.specs.declared.tree.Program.{Program}
use Rattle.strc_elab_graph.specs.NodeView.{GraphParts}
use Rattle.strc_elab_graph.specs.declared.graph.Channel.{Channel}
use Rattle.strc_cli_source.specs.declared.preorder.Preorder.{Preorder}
use Rattle.strc_cli_source.specs.Rates.{channel_rates}
use Rattle.strc_cli_places.specs.Nodes.{MarksNodeOf, MarksChannel}
use Rattle.strc_cli_places.specs.Parts.{ends_of}

-- of two nodes the second where it moves more items, or else the first
abbrev pub heavier_by : Option (ℕ × ℕ) → (first second : ℕ) → ℕ
heavier_by None first second = first
heavier_by (Some moved) first second = if nat_lt moved.0 moved.1 then second else first

-- the node at the end of a channel that moves more items a firing; its source, where both move as
-- many
abbrev pub heavier : GraphParts → Channel → ℕ
heavier graph channel =
    heavier_by (channel_rates graph channel) channel.source.node channel.target.node

-- this node is marked, or where it has no place its channel
abbrev pub MarksHeavier : List ℕ → List Token → (asked : Option (List ℕ)) → Option Program
    → Option Preorder → GraphParts → (number : ℕ) → Channel → Option Span → Type 0
MarksHeavier text tokens asked program order graph number channel place =
    MarksNodeOf text tokens asked program order (heavier graph channel) place
    ⊎ (MarksNodeOf text tokens asked program order (heavier graph channel) None
    × MarksChannel text tokens asked program order (ends_of (Some graph) number) place)

-- of some channel of the graph, or nothing
abbrev pub MarksLarge : List ℕ → List Token → (asked : Option (List ℕ)) → Option Program
    → Option Preorder → Option GraphParts → Option Span → Type 0
MarksLarge text tokens asked program order None place = place ≡ None
MarksLarge text tokens asked program order (Some graph) place = (place ≡ None)
    ⊎ ((number : ℕ) × (channel : Channel) × (slice_get graph.channels number ≡ Some channel)
    × MarksHeavier text tokens asked program order graph number channel place)
