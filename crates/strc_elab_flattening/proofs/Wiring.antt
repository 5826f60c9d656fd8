-- The channels of a splitter port by port, and those of a joiner.
use Rattle.std.proofs.Common.{◌≡◌, ℕ, zero, suc, ◌+◌, ◌<◌, Bool, false, nat_lt, List, []}
use Rattle.std.proofs.Common.{◌∷◌, ◌++◌, length, get_or, drop, map, refl, sym, ap, ◌∙◌, inl, inr}
use Rattle.std.proofs.Common.{Option, Some, None, Vec, Global, arith}
use Rattle.std.proofs.Math.ListN.{drop_of_length-le}
use Rattle.std.proofs.lemmas.Bool.{cases_lt}
use Rattle.std.proofs.lemmas.List.{drop_more, get_or_past}
use Rattle.std.specs.Option.{option_map, is_some}
use Rattle.strc_elab_graph.specs.Graphs.{SplitterCode, Duplicate, Roundrobin}
use Rattle.strc_elab_graph.specs.Carriers.{splitter_carries}
use Rattle.strc_elab_stream.specs.declared.stream.Stream as declared
use Rattle.strc_elab_stream.specs.Instances.{Stream, Streams, Done, More}
use Rattle.strc_elab_stream.specs.Types.{splitter_carried}
use Rattle.strc_elab_stream.specs.Flattening.{size_of}
use Rattle.strc_elab_stream.specs.View.{streams_view}
use Rattle.strc_elab_stream.specs.Wires.{Target, wire, to_port, target_after, split_wires}
use Rattle.strc_elab_stream.specs.Wires.{joiner_wires}

-- where there is a next stream
pub target_after_some : (next : ℕ) (streams : List declared.Stream) (target : Option Target)
    → 0 < length streams → to_port next 0 ≡ target_after next (streams_view streams) target
target_after_some next [] target some = absurd (omega arith)
target_after_some next (first ∷ rest) target some = refl

weight_carries : (weights : List ℕ) (port : ℕ)
    → nat_lt 0 (get_or weights port 0) ≡ get_or (map (nat_lt 0) weights) port false
weight_carries [] port = refl
weight_carries (first ∷ rest) zero = refl
weight_carries (first ∷ rest) (suc port) = weight_carries rest port

-- a port carries items where the list says so
carries_is : (splitter : SplitterCode) (port : ℕ)
    → splitter_carries splitter port ≡ get_or (splitter_carried splitter) port false
carries_is (Duplicate carried) port = refl
carries_is (Roundrobin weights) port = weight_carries weights port

split_at : (number port : ℕ) (carried : List Bool) (next : ℕ) (stream : Stream) (rest : Streams)
    → split_wires number port (drop port carried) next (More stream rest)
    ≡ wire (get_or carried port false) number port (to_port next 0)
    ++ split_wires number (port + 1) (drop (port + 1) carried) (next + size_of stream) rest
split_at number port carried next stream rest = elim (cases_lt port (length carried)) [
  | inl short ↦
      ap (λ l. split_wires number port l next (More stream rest))
      (drop_more carried port false short)
  | inr past ↦
      let here : drop port carried ≡ [] = drop_of_length-le carried past in
      let later : drop (port + 1) carried ≡ [] = drop_of_length-le carried (omega arith) in
      ap (λ l. split_wires number port l next (More stream rest)) here
      ∙ sym (ap (λ b. wire b number port (to_port next 0)
      ++ split_wires number (port + 1) (drop (port + 1) carried) (next + size_of stream) rest)
      (get_or_past carried port false past)
      ∙ ap (λ l. split_wires number (port + 1) l (next + size_of stream) rest) later)
]

-- the channels of a splitter from a port on: first that of this port
pub split_more : (number port : ℕ) (splitter : SplitterCode) (next : ℕ) (stream : Stream)
    (rest : Streams)
    → split_wires number port (drop port (splitter_carried splitter)) next (More stream rest)
    ≡ wire (splitter_carries splitter port) number port (to_port next 0)
    ++ split_wires number (port + 1) (drop (port + 1) (splitter_carried splitter))
    (next + size_of stream) rest
split_more number port splitter next stream rest =
    split_at number port (splitter_carried splitter) next stream rest
    ∙ ap (λ b. wire b number port (to_port next 0)
    ++ split_wires number (port + 1) (drop (port + 1) (splitter_carried splitter))
    (next + size_of stream) rest) (sym (carries_is splitter port))

-- none without a stream
pub split_none : (number port : ℕ) (carried : List Bool) (next : ℕ)
    → split_wires number port carried next Done ≡ []
split_none number port [] next = refl
split_none number port (first ∷ rest) next = refl

-- the channel of a joiner, where there is one
pub joiner_wire : (joiner : Option (Vec ℕ Global)) (some : Bool) (number : ℕ)
    (target : Option Target) → some ≡ is_some joiner
    → wire some number 0 target
    ≡ joiner_wires number (option_map (λ weights. weights.items) joiner) target
joiner_wire None some number target is = ap (λ b. wire b number 0 target) is
joiner_wire (Some weights) some number target is = ap (λ b. wire b number 0 target) is
