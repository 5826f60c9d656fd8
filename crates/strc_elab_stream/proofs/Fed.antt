-- A channel of a stream ends at each input port of its nodes that carries items, but for port 0 of
-- the first node, where items come from outside.
use Rattle.std.proofs.Common.{◌≡◌, ℕ, zero, suc, ◌+◌, ◌⊎◌, Bool, true, false, List, [], ◌∷◌}
use Rattle.std.proofs.Common.{length, Some, None, Option, slice_index_or, refl}
use Rattle.std.proofs.Common.{map, nat_lt, sym, ap, ◌∙◌, subst, arith, inl, inr, ltb-true}
use Rattle.std.specs.List.{list_any}
use Rattle.strc_parse_tree.specs.declared.tree.ItemType.{ItemType}
use Rattle.strc_parse_tree.specs.declared.tree.ItemType.TheVariants as item
use Rattle.strc_elab_graph.specs.Graphs.{Channel, NodeCode, SplitterCode, ports_of}
use Rattle.strc_elab_graph.specs.Carriers.{carries_in}
use Rattle.strc_elab_stream.specs.Instances.{Streams}
use Rattle.strc_elab_stream.specs.Instances.{Done, More}
use Rattle.strc_elab_stream.specs.Types.{IsSplit, IsJoined}
use Rattle.strc_elab_stream.specs.Types.{input_of, output_of, is_int, inputs_of}
use Rattle.strc_elab_stream.specs.Types.{outputs_of, splitter_carried, joiner_carried, side_at}
use Rattle.strc_elab_stream.specs.Flattening.{size_of, splitter_nodes, joiner_nodes}
use Rattle.strc_elab_stream.specs.Wires.{wire, wires, branch_wires, splitter_wires}
use Rattle.strc_elab_stream.specs.Wires.{split_wires, to_port}
use Rattle.strc_elab_stream.proofs.Carried.{joiner_carries_is}
use Rattle.strc_elab_stream.proofs.Comes.{first_same, rest_same, none_first, none_rest}
use Rattle.strc_elab_stream.proofs.Ends.{Ends, ends_former, ends_latter, wire_ends}
use Rattle.strc_elab_stream.proofs.Exits.{exit}
use Rattle.strc_elab_stream.proofs.Inlets.{int_is}
use Rattle.strc_elab_stream.proofs.Numbered.{Numbered}

-- port 0 of a first node, where items come in
abbrev pub IsFront : ℕ → ItemType → ℕ → ℕ → Type 0
IsFront first type node port = (node ≡ first) × (port ≡ 0) × (type ≡ item.Int)

-- a channel ends at each port of a node that carries items, or items come in there
abbrev pub IsServed : (ℕ → ℕ → Type 0) → List Channel → ℕ → NodeCode → Type 0
IsServed front channels node code = (port : ℕ) → carries_in code port ≡ true
    → front node port ⊎ Ends channels node port

-- one port

pub only_port : (port : ℕ) → nat_lt port 1 ≡ true → port ≡ 0
only_port port e = omega (arith, ltb-true port 1 e)

pub no_port : (port : ℕ) → nat_lt port 0 ≡ true → ⊥
no_port port e = omega (arith, ltb-true port 0 e)

pub filter_port : (type : ItemType) (first port : ℕ) → nat_lt port (ports_of type) ≡ true
    → IsFront first type first port
filter_port item.Int first port e = (refl, only_port port e, refl)
filter_port item.Void first port e = absurd (no_port port e)

-- streams side by side

-- port 0 of the first node of one of them
abbrev pub AnyFront : ℕ → Streams → ℕ → ℕ → Type 0
AnyFront first Done node port = ⊥
AnyFront first (More next rest) node port =
    IsFront first (input_of next) node port ⊎ AnyFront (first + size_of next) rest node port

split_ends : (carried : List Bool) (children : Streams) (splitter port first : ℕ)
    → carried ≡ map is_int (inputs_of children) → (node input : ℕ)
    → AnyFront first children node input
    → Ends (split_wires splitter port carried first children) node input
split_ends carried Done splitter port first meets node input front = absurd front
split_ends [] (More child rest) splitter port first meets node input front = absurd (cc)
split_ends (carries ∷ others) (More child rest) splitter port first meets node input (inl here) =
    let ends = wire_ends carries splitter port
    (record { port = record { node = first; port = 0 }; enqueued = [] })
    (first_same carries (is_int (input_of child)) others (map is_int (inputs_of rest)) meets
    ∙ ap is_int here.2) in
    ends_former (wire carries splitter port (to_port first 0))
    (split_wires splitter (port + 1) others (first + size_of child) rest) node input
    (subst (λ n. Ends (wire carries splitter port (to_port first 0)) n input) (sym here.0)
    (subst (λ n. Ends (wire carries splitter port (to_port first 0)) first n) (sym here.1) ends))
split_ends (carries ∷ others) (More child rest) splitter port first meets node input (inr later) =
    ends_latter (wire carries splitter port (to_port first 0))
    (split_wires splitter (port + 1) others (first + size_of child) rest) node input
    (split_ends others rest splitter (port + 1) (first + size_of child)
    (rest_same carries (is_int (input_of child)) others (map is_int (inputs_of rest)) meets) node
    input later)

no_front : (children : Streams) (first : ℕ) → list_any is_int (inputs_of children) ≡ false
    → (node input : ℕ) → AnyFront first children node input → ⊥
no_front Done first none node input front = front
no_front (More child rest) first none node input (inl here) =
    none_first (is_int (input_of child)) (list_any is_int (inputs_of rest)) none (ap is_int here.2)
no_front (More child rest) first none node input (inr later) =
    no_front rest (first + size_of child)
    (none_rest (is_int (input_of child)) (list_any is_int (inputs_of rest)) none) node input later

pub splitter_ends : (splitter : Option SplitterCode) (children : Streams) (first : ℕ)
    → IsSplit splitter (inputs_of children) → (node input : ℕ)
    → AnyFront (first + length (splitter_nodes splitter)) children node input
    → Ends (splitter_wires first splitter children) node input
splitter_ends None children first split node input front =
    absurd (no_front children (first + 0) split node input front)
splitter_ends (Some splitter) children first split node input front =
    split_ends (splitter_carried splitter) children first 0 (first + 1) split.meets node input front

-- where a joiner's port carries items, those of a stream come there
branch_ends : (carried : List Bool) (children : Streams) (joiner port first : ℕ)
    → carried ≡ map is_int (outputs_of children) → (k : ℕ)
    → slice_index_or carried k false ≡ true
    → Ends (branch_wires first children joiner port) joiner (port + k)
branch_ends [] children joiner port first meets k e = absurd (cc)
branch_ends (carries ∷ others) Done joiner port first meets k e = absurd (cc)
branch_ends (carries ∷ others) (More next rest) joiner port first meets zero e =
    let here : port ≡ port + 0 = omega arith in
    ends_former (wires first next (to_port joiner port))
    (branch_wires (first + size_of next) rest joiner (port + 1)) joiner (port + 0)
    (subst (λ n. Ends (wires first next (to_port joiner port)) joiner n) here
    (exit next first (record { port = record { node = joiner; port = port }; enqueued = [] })
    (int_is (output_of next)
    (sym (first_same carries (is_int (output_of next)) others (map is_int (outputs_of rest)) meets)
    ∙ e))))
branch_ends (carries ∷ others) (More next rest) joiner port first meets (suc k) e =
    let there : (port + 1) + k ≡ port + suc k = omega arith in
    ends_latter (wires first next (to_port joiner port))
    (branch_wires (first + size_of next) rest joiner (port + 1)) joiner (port + suc k)
    (subst (λ n. Ends (branch_wires (first + size_of next) rest joiner (port + 1)) joiner n) there
    (branch_ends others rest joiner (port + 1) (first + size_of next)
    (rest_same carries (is_int (output_of next)) others (map is_int (outputs_of rest)) meets) k e))

pub joiner_served : (front : ℕ → ℕ → Type 0) (weights : Option (List ℕ)) (children : Streams)
    → (joiner first : ℕ) → IsJoined weights (outputs_of children)
    → Numbered (IsServed front (branch_wires first children joiner 0)) joiner (joiner_nodes weights)
joiner_served front None children joiner first joined = tt
joiner_served front (Some weights) children joiner first joined = (
  λ port carries. inr (let plain : 0 + port ≡ port = omega arith in
      subst (λ n. Ends (branch_wires first children joiner 0) joiner n) plain
      (branch_ends (joiner_carried weights) children joiner 0 first joined.meets port
      (sym (joiner_carries_is weights port) ∙ carries))),
  tt,
)

pub splitter_served : (channels : List Channel) (splitter : Option SplitterCode) (first : ℕ)
    → (type : ItemType) → type ≡ side_at splitter
    → Numbered (IsServed (IsFront first type) channels) first (splitter_nodes splitter)
splitter_served channels None first type e = tt
splitter_served channels (Some splitter) first type e =
    (λ port carries. inl (refl, only_port port carries, e), tt)
