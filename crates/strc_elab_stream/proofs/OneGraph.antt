-- A stream has one flat graph: its channels are those of the tree, in one order.
use Rattle.std.proofs.Common.{◌≡◌, ℕ, suc, ◌⊎◌, List, [], ◌∷◌, true, false, Bool, refl}
use Rattle.std.proofs.Common.{sym}
use Rattle.std.proofs.Common.{ap, ◌∙◌, subst, inl, inr, arith, eqb-true}
use Rattle.std.specs.Prelude.{All, AllPairs, nat_eq, ◌&&◌, if◌then◌else◌}
use Rattle.strc_elab_dataflow.specs.Flat.{Source, Origin}
use Rattle.strc_elab_dataflow.specs.Streams.{nothing}
use Rattle.strc_elab_graph.specs.Carriers.{JoinsCarriers}
use Rattle.strc_elab_graph.specs.FlatGraphs.{IsBefore}
use Rattle.strc_elab_graph.specs.Graphs.{Channel, Graph, source_of, source_in, ends_at}
use Rattle.strc_elab_graph.specs.declared.graph.Port.{Port}
use Rattle.strc_elab_stream.specs.Instances.{Stream}
use Rattle.strc_elab_stream.specs.Flattening.{IsFlat, meaning_of}
use Rattle.strc_elab_stream.specs.OneGraph.{HasOneGraph}

-- a channel is one of these
abbrev In : Channel → List Channel → Type 0
In channel [] = ⊥
In channel (first ∷ rest) = (channel ≡ first) ⊎ In channel rest

-- what holds of all holds of it
all_in : (P : Channel → Type 0) (channels : List Channel) (channel : Channel) → All P channels
    → In channel channels → P channel
all_in P [] channel all none = absurd none
all_in P (first ∷ rest) channel all (inl is) = subst P (sym is) (all 0 channel (omega arith))
all_in P (first ∷ rest) channel all (inr later) =
    all_in P rest channel (λ k d within. all (suc k) d (omega (arith, within))) later

-- the pairs past the first, and those of the first
rest_ordered : (first : Channel) (rest : List Channel) → AllPairs IsBefore (first ∷ rest)
    → AllPairs IsBefore rest
rest_ordered first rest ordered = λ i j d before within. ordered (suc i) (suc j) d
    (omega (arith, before)) (omega (arith, within))

first_before : (first : Channel) (rest : List Channel) → AllPairs IsBefore (first ∷ rest)
    → All (IsBefore first) rest
first_before first rest ordered = λ k d within. ordered 0 (suc k) d (omega arith)
    (omega (arith, within))

-- no channel is before one that is before it
one_way : (one other : Channel) → IsBefore one other → IsBefore other one → ⊥
one_way one other (inl node) (inl back) = absurd (omega (arith, node, back))
one_way one other (inl node) (inr back) = absurd (omega (arith, node, back.0))
one_way one other (inr same) (inl back) = absurd (omega (arith, same.0, back))
one_way one other (inr same) (inr back) = absurd (omega (arith, same.1, back.1))

-- channels in order with the same members are the same
same_first : (one other : Channel) (rest others : List Channel)
    → AllPairs IsBefore (one ∷ rest) → AllPairs IsBefore (other ∷ others)
    → In one (other ∷ others) → In other (one ∷ rest) → one ≡ other
same_first one other rest others h k (inl is) there = is
same_first one other rest others h k (inr later) (inl is) = sym is
same_first one other rest others h k (inr later) (inr late) =
    absurd (one_way one other (all_in (IsBefore one) rest other (first_before one rest h) late)
    (all_in (IsBefore other) others one (first_before other others k) later))

past_first : (first : Channel) (rest others : List Channel) (channel : Channel)
    → AllPairs IsBefore (first ∷ rest) → In channel rest → In channel (first ∷ others)
    → In channel others
past_first first rest others channel h member (inr later) = later
past_first first rest others channel h member (inl is) =
    let before : IsBefore first channel =
    all_in (IsBefore first) rest channel (first_before first rest h) member in
    let itself : IsBefore first first = subst (IsBefore first) is before in
    absurd (one_way first first itself itself)

same_channels : (one other : List Channel) → AllPairs IsBefore one → AllPairs IsBefore other
    → ((channel : Channel) → In channel one → In channel other)
    → ((channel : Channel) → In channel other → In channel one) → one ≡ other
same_channels [] [] h k there back = refl
same_channels [] (other ∷ others) h k there back = absurd (back other (inl refl))
same_channels (one ∷ rest) [] h k there back = absurd (there one (inl refl))
same_channels (one ∷ rest) (other ∷ others) h k there back =
    let is : one ≡ other = same_first one other rest others h k (there one (inl refl))
    (back other (inl refl)) in
    let k' : AllPairs IsBefore (one ∷ others) =
    subst (λ c. AllPairs IsBefore (c ∷ others)) (sym is) k in
    let there' : (channel : Channel) → In channel rest → In channel others = λ channel member.
    past_first one rest others channel h member
    (subst (λ c. In channel (c ∷ others)) (sym is) (there channel (inr member))) in
    let back' : (channel : Channel) → In channel others → In channel rest = λ channel member.
    past_first one others rest channel k' member (back channel (inr member)) in
    let tails = same_channels rest others (rest_ordered one rest h)
    (rest_ordered one others k') there' back' in
    ap (λ c. c ∷ rest) is ∙ ap (λ l. other ∷ l) tails

-- two channels that are the source of one port are the same
one_port : (one other : Port) → one.node ≡ other.node → one.port ≡ other.port → one ≡ other
one_port one other node port = ap (λ n. record { node = n; port = one.port }) node
    ∙ ap (λ p. record { node = other.node; port = p }) port

port_of : Origin → Port
port_of (Origin.Port node port) = record { node = node; port = port }
port_of origin = record { node = 0; port = 0 }

one_source : (one other : Channel) → one.target ≡ other.target → source_of one ≡ source_of other
    → one ≡ other
unfolding port_of
one_source one other target same =
    let source : one.source ≡ other.source = ap (λ (s : Source). port_of s.origin) same in
    let enqueued : one.enqueued ≡ other.enqueued = ap (λ (s : Source). s.enqueued) same in
    ap (λ s. record { source = s; target = one.target; enqueued = one.enqueued }) source
    ∙ ap (λ t. record { source = other.source; target = t; enqueued = one.enqueued }) target
    ∙ ap (λ q. record { source = other.source; target = other.target; enqueued = q }) enqueued

-- a port's source is that of a channel that ends there
both_first : (a b : Bool) → (a && b) ≡ true → a ≡ true
both_first true b e = refl
both_first false b e = absurd (cc)

both_second : (a b : Bool) → (a && b) ≡ true → b ≡ true
both_second true b e = e
both_second false b e = absurd (cc)

ends_true : (node port : ℕ) (channel : Channel) → ends_at node port channel ≡ true
    → (channel.target.node ≡ node) × (channel.target.port ≡ port)
ends_true node port channel e =
    let first : nat_eq channel.target.node node ≡ true =
    both_first _ (nat_eq channel.target.port port) e in
    let second : nat_eq channel.target.port port ≡ true =
    both_second (nat_eq channel.target.node node) _ e in
    (eqb-true channel.target.node node first, eqb-true channel.target.port port second)

none_there : (channel : Channel) → nothing ≡ source_of channel → ⊥
none_there channel is = let origin = ap (λ (s : Source). s.origin) is in absurd (cc)

found_by : (first channel : Channel) (rest : List Channel) (t : Bool)
    → ends_at channel.target.node channel.target.port first ≡ t
    → (if t then source_of first else source_in rest channel.target.node channel.target.port)
    ≡ source_of channel
    → (source_in rest channel.target.node channel.target.port ≡ source_of channel → In channel rest)
    → In channel (first ∷ rest)
found_by first channel rest true ends is later =
    let there = ends_true channel.target.node channel.target.port first ends in
    inl (one_source channel first (one_port channel.target first.target (sym there.0) (sym there.1))
    (sym is))
found_by first channel rest false ends is later = inr (later is)

found : (channels : List Channel) (channel : Channel)
    → source_in channels channel.target.node channel.target.port ≡ source_of channel
    → In channel channels
found [] channel is = none_there channel is
found (first ∷ rest) channel is =
    found_by first channel rest (ends_at channel.target.node channel.target.port first) refl is
    (found rest channel)

-- the channels of one flat graph are channels of another
also_in : (stream : Stream) (one other : Graph) → IsFlat stream one → IsFlat stream other
    → (channel : Channel) → In channel one.channels → In channel other.channels
also_in stream one other h k channel member =
    let joins : JoinsCarriers one.nodes channel =
    all_in (JoinsCarriers one.nodes) one.channels channel h.joined member in
    let comes : (meaning_of stream).source channel.target.node channel.target.port
    ≡ source_of channel =
    all_in (λ c. (meaning_of stream).source c.target.node c.target.port ≡ source_of c) one.channels
    channel h.channels member in
    let same_nodes : one.nodes ≡ other.nodes = h.nodes ∙ sym k.nodes in
    let joins' : JoinsCarriers other.nodes channel =
    subst (λ l. JoinsCarriers l channel) same_nodes joins in
    found other.channels channel (k.sources channel.target.node channel.target.port joins'.target
    ∙ comes)

pub one_graph : HasOneGraph
one_graph stream one other h k = (
  h.nodes ∙ sym k.nodes,
  same_channels one.channels other.channels h.ordered k.ordered (also_in stream one other h k)
      (also_in stream other one k h),
)
