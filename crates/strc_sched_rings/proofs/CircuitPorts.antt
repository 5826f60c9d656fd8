-- The ports at which a graph's channels begin and end.
use Rattle.std.proofs.Common.{◌∙◌, sym, ◌+◌, ◌++◌, length, take, get_or}
use Rattle.std.proofs.lemmas.List.{take_more, map-append}
use Rattle.std.proofs.Common.{◌≡◌, refl, ap, ℕ, zero, suc, ◌<◌, List, [], ◌∷◌, map, arith}
use Rattle.std.specs.Prelude.{All, Option, Some, None, slice_get}
use Rattle.std.specs.Option.{option_map_or}
use Rattle.strc_elab_graph.specs.Graphs as graphs
use Rattle.strc_elab_graph.specs.Graphs.{NodeCode, JoinsPorts}
use Rattle.strc_elab_graph.specs.NodeView.{node_view, channel_view}
use Rattle.strc_elab_graph.specs.declared.graph.Channel.{Channel}
use Rattle.strc_elab_graph.specs.declared.graph.Node.{Node}
use Rattle.strc_elab_graph.specs.declared.graph.Port.{Port}
use Rattle.strc_sched_laws.specs.Wiring.{HasPort, IsWired, PortRings}
use Rattle.strc_sched_rings.specs.Apart.{AreAllApart}
use Rattle.strc_sched_rings.specs.Circuits.{IsBetween, source_of, target_of}

-- the values of one more item
pub map_more : {A B : Type 0} (value : A → B) (all : List A) (i : ℕ) (one : A) (items : List B)
    → i < length all → one ≡ get_or all i one → items ≡ map value (take i all)
    → items ++ value one ∷ [] ≡ map value (take (i + 1) all)
map_more value all i one items within here is =
    ap (λ l. l ++ value one ∷ []) is
    ∙ ap (λ x. map value (take i all) ++ value x ∷ []) here
    ∙ sym (ap (map value) (take_more all i one within)
    ∙ map-append value (take i all) (get_or all i one ∷ []))

-- a port of a node by its number
port_there : (ports : NodeCode → ℕ) (nodes : List Node) (node port : ℕ)
    → port < option_map_or ports (slice_get (map node_view nodes) node) 0
    → HasPort (map (λ n. ports (node_view n)) nodes) (record { node = node; port = port })
port_there ports [] node port less = absurd (omega arith)
port_there ports (first ∷ nodes) zero port less = record { node = omega arith; port = less }
port_there ports (first ∷ nodes) (suc node) port less =
    let there = port_there ports nodes node port less in
    record { node = let h = there.node in omega arith; port = there.port }

-- and those of all channels
pub ends_there : (ports : NodeCode → ℕ) (nodes : List Node) (end_of : Channel → Port)
    (channels : List Channel)
    → ((channel : Channel) → JoinsPorts (map node_view nodes) (channel_view channel)
    → (end_of channel).port < option_map_or ports (slice_get (map node_view nodes)
    (end_of channel).node) 0)
    → All (JoinsPorts (map node_view nodes)) (map channel_view channels)
    → All (HasPort (map (λ n. ports (node_view n)) nodes)) (map end_of channels)
ends_there ports nodes end_of [] one all k d less = absurd (omega arith)
ends_there ports nodes end_of (channel ∷ channels) one all zero d less =
    port_there ports nodes (end_of channel).node (end_of channel).port
    (one channel (all 0 (channel_view channel) (omega arith)))
ends_there ports nodes end_of (channel ∷ channels) one all (suc k) d less =
    ends_there ports nodes end_of channels one
    (λ i e within. all (suc i) e (omega arith)) k d (omega arith)

-- the ends of channels as the definitions see them
pub ends_of_views : (channels : List Channel)
    → (map target_of channels
    ≡ map (λ (channel : graphs.Channel). channel.target) (map channel_view channels))
    × (map source_of channels
    ≡ map (λ (channel : graphs.Channel). channel.source) (map channel_view channels))
ends_of_views [] = (refl, refl)
ends_of_views (channel ∷ channels) =
    let rest = ends_of_views channels in (
      ap (λ (l : List Port). channel.target ∷ l) rest.0,
      ap (λ (l : List Port). channel.source ∷ l) rest.1,
    )

-- ---- ports of one node are apart

same_port : (ends : List Port) (number node port other : ℕ)
    → slice_get ends number ≡ Some (record { node = node; port = port })
    → slice_get ends number ≡ Some (record { node = node; port = other }) → port ≡ other
same_port ends number node port other h k =
    ap (λ (found : Option Port). option_map_or (λ (end : Port). end.port) found 0) (sym h ∙ k)

node_of : (end : Port) (node port : ℕ)
    → Some end ≡ Some (record { node = node; port = port }) → end.node ≡ node
node_of end node port h =
    ap (λ (found : Option Port). option_map_or (λ (e : Port). e.node) found 0) h

-- no channel begins and ends there
meets : (channels : List Channel) (number node port other : ℕ)
    → slice_get (map target_of channels) number ≡ Some (record { node = node; port = port })
    → slice_get (map source_of channels) number ≡ Some (record { node = node; port = other })
    → All IsBetween channels → ⊥
meets [] number node port other h k between = nowhere h
  where
    nowhere : ◌≡◌ {A = Option Port} None (Some (record { node = node; port = port })) → ⊥
    nowhere e = cc
meets (channel ∷ channels) zero node port other h k between =
    between 0 channel (omega arith)
    (node_of channel.source node other k ∙ sym (node_of channel.target node port h))
meets (channel ∷ channels) (suc number) node port other h k between =
    meets channels number node port other h k (λ i d less. between (suc i) d (omega arith))

pub all_apart : (channels : List Channel) (inputs outputs : PortRings)
    → IsWired (map target_of channels) inputs → IsWired (map source_of channels) outputs
    → All IsBetween channels → AreAllApart inputs outputs
all_apart channels inputs outputs into out between node = record {
  one_input = λ port other number h k. same_port (map target_of channels) number node port other
      (into.sound node port number h) (into.sound node other number k);
  one_output = λ port other number h k. same_port (map source_of channels) number node port other
      (out.sound node port number h) (out.sound node other number k);
  apart = λ port other number h k. meets channels number node port other
      (into.sound node port number h) (out.sound node other number k) between;
}
