-- A channel begins at each output port of splitters and joiners that carries items.
use Rattle.std.proofs.Common.{◌≡◌, ℕ, zero, suc, ◌+◌, Bool, true, false, List, [], ◌∷◌}
use Rattle.std.proofs.Common.{Some, None, Option, slice_index_or, refl, map, sym, ap, ◌∙◌, subst}
use Rattle.std.proofs.Common.{arith}
use Rattle.strc_parse_tree.specs.declared.tree.ItemType.TheVariants as item
use Rattle.strc_elab_graph.specs.Graphs as graphs
use Rattle.strc_elab_graph.specs.Graphs.{Channel, NodeCode, SplitterCode}
use Rattle.strc_elab_graph.specs.Carriers.{carries_out, splitter_carries}
use Rattle.strc_elab_stream.specs.Instances.{Streams, Done, More}
use Rattle.strc_elab_stream.specs.Types.{IsSplit, ComesBack, inputs_of, input_of, is_int, side}
use Rattle.strc_elab_stream.specs.Types.{side_at, splitter_carried}
use Rattle.strc_elab_stream.specs.Flattening.{size_of, splitter_nodes, joiner_nodes}
use Rattle.strc_elab_stream.specs.Wires.{Target, wire, split_wires, splitter_wires, joiner_wires}
use Rattle.strc_elab_stream.specs.Wires.{to_port}
use Rattle.strc_elab_stream.proofs.Carried.{splitter_carries_is}
use Rattle.strc_elab_stream.proofs.Comes.{rest_same}
use Rattle.strc_elab_stream.proofs.Fed.{only_port}
use Rattle.strc_elab_stream.proofs.Numbered.{Numbered}
use Rattle.strc_emit_answers.proofs.Begins.{Begins, HasTarget, begins_former, begins_latter}
use Rattle.strc_emit_answers.proofs.Begins.{wire_begins}

-- a channel begins at each port of a node that carries items
abbrev pub Drains : List Channel → ℕ → NodeCode → Type 0
Drains channels node code = (port : ℕ) → carries_out code port ≡ true → Begins channels node port

-- a splitter's ports, from this one on

split_begins : (carried : List Bool) (children : Streams) (splitter port first : ℕ)
    → carried ≡ map is_int (inputs_of children) → (k : ℕ)
    → slice_index_or carried k false ≡ true
    → Begins (split_wires splitter port carried first children) splitter (port + k)
split_begins [] children splitter port first meets k e = absurd (cc)
split_begins (carries ∷ others) Done splitter port first meets k e = absurd (cc)
split_begins (carries ∷ others) (More child rest) splitter port first meets zero e =
    let here : port ≡ port + 0 = omega arith in
    let out = wire carries splitter port (to_port first 0) in
    begins_former out (split_wires splitter (port + 1) others (first + size_of child) rest)
    splitter (port + 0)
    (subst (λ n. Begins out splitter n) here
    (wire_begins carries splitter port (to_port first 0) e tt))
split_begins (carries ∷ others) (More child rest) splitter port first meets (suc k) e =
    let there : (port + 1) + k ≡ port + suc k = omega arith in
    let more = split_wires splitter (port + 1) others (first + size_of child) rest in
    begins_latter (wire carries splitter port (to_port first 0)) more splitter (port + suc k)
    (subst (λ n. Begins more splitter n) there
    (split_begins others rest splitter (port + 1) (first + size_of child)
    (rest_same carries (is_int (input_of child)) others (map is_int (inputs_of rest)) meets) k e))

pub splitter_drains : (splitter : Option SplitterCode) (children : Streams) (first : ℕ)
    → IsSplit splitter (inputs_of children)
    → Numbered (Drains (splitter_wires first splitter children)) first (splitter_nodes splitter)
splitter_drains None children first split = tt
splitter_drains (Some splitter) children first split = (
  λ port carries. let plain : 0 + port ≡ port = omega arith in
      subst (λ n. Begins (split_wires first 0 (splitter_carried splitter) (first + 1) children)
      first n) plain
      (split_begins (splitter_carried splitter) children first 0 (first + 1) split.meets port
      (sym (splitter_carries_is splitter port) ∙ carries)),
  tt,
)

-- one port

pub first_drains : (code : NodeCode) (node : ℕ) (target : Option Target)
    → ((port : ℕ) → carries_out code port ≡ true → (port ≡ 0) × HasTarget target)
    → Drains (wire true node 0 target) node code
first_drains code node target only port carries =
    subst (λ n. Begins (wire true node 0 target) node n) (sym (only port carries).0)
    (wire_begins true node 0 target refl (only port carries).1)

pub joiner_drains : (joiner : Option (List ℕ)) (node : ℕ) (target : Option Target)
    → (side_at joiner ≡ item.Int → HasTarget target)
    → Numbered (Drains (joiner_wires node joiner target)) node (joiner_nodes joiner)
joiner_drains None node target given = tt
joiner_drains (Some weights) node target given = (
  first_drains (graphs.Joiner weights) node target
      (λ port carries. (only_port port carries, given refl)),
  tt,
)

-- the splitter of a feedback loop

past_both : (outer : Bool) (k : ℕ)
    → slice_index_or (outer ∷ true ∷ []) (suc (suc k)) false ≡ true → ⊥
past_both outer k e = cc

module _ (splitter : SplitterCode) (node : ℕ) (target back : Option Target) where
  pub loop_splitter_drains : ComesBack (splitter_carried splitter) → (all : List Channel)
      → ((port : ℕ) → Begins (wire (splitter_carries splitter 0) node 0 target) node port
      → Begins all node port)
      → ((port : ℕ) → Begins (wire true node 1 back) node port → Begins all node port)
      → (side (splitter_carries splitter 0) ≡ item.Int → HasTarget target) → HasTarget back
      → Drains all node (graphs.Splitter splitter)
  loop_splitter_drains comes all of_outer of_inner given has zero carries =
      of_outer 0
      (wire_begins (splitter_carries splitter 0) node 0 target carries (given (ap side carries)))
  loop_splitter_drains comes all of_outer of_inner given has (suc zero) carries =
      of_inner 1 (wire_begins true node 1 back refl has)
  loop_splitter_drains comes all of_outer of_inner given has (suc (suc k)) carries =
      absurd (past_both comes.outer k
      (ap (λ (l : List Bool). slice_index_or l (suc (suc k)) false) (sym comes.ports)
      ∙ sym (splitter_carries_is splitter (suc (suc k))) ∙ carries))
