-- Channels in groups, one more of them, and all groups joined.
use Rattle.std.proofs.Common.{◌≡◌, refl, sym, ap, ◌∙◌, subst, ℕ, zero, suc, ◌+◌, ◌<◌, ◌≤◌, arith}
use Rattle.std.proofs.Common.{List, [], ◌∷◌, ◌++◌, length, map, get_or, take, inl, inr}
use Rattle.std.proofs.Common.{append_assoc}
use Rattle.std.proofs.Common.{append-nil, Bool, true, false, cond, filter, set, Vec}
use Rattle.std.specs.Global.{Global}
use Rattle.std.specs.List.{flat_map}
use Rattle.std.proofs.lemmas.Bool.Decides.{eqb_tells}
use Rattle.std.proofs.lemmas.List.{map-set, get_or-map, length-map, length-set, map-append}
use Rattle.std.proofs.lemmas.List.{take_more}
use Rattle.std.proofs.lemmas.List.{get_or-set_same, get_or-set_other, take_all}
use Rattle.std.proofs.lemmas.List.Elements.{filter-append}
use Rattle.strc_elab_graph.specs.Graphs as graphs
use Rattle.strc_elab_graph.specs.NodeView.{GraphParts, channel_view}
use Rattle.strc_elab_graph.specs.declared.graph.Channel as declared_channel
use Rattle.strc_elab_graph.specs.declared.graph.Fission.{Fission}
use Rattle.strc_fiss.specs.declared.channels.Wire as declared
use Rattle.strc_fiss.specs.Groups.{AreGroups}
use Rattle.strc_fiss.specs.Numbers.{up_to, joined_up_to, base}
use Rattle.strc_fiss.specs.Splitting.{Wire, wires_of, leaves, inner_wires, renamed_wire, leaving}
use Rattle.strc_fiss.specs.WireView.{wire_view, group_view}
use Rattle.strc_fiss.proofs.Sequences.{joined_same, get_up_to, length_up_to}

-- one wire more in a group
pub added : (groups : List (Vec declared.Wire Global)) (node : ℕ) (wire : declared.Wire)
    (old new : Vec declared.Wire Global)
    → node < length groups → old ≡ get_or groups node old → new.items ≡ old.items ++ wire ∷ []
    → map group_view (set groups node new)
    ≡ set (map group_view groups) node
    (get_or (map group_view groups) node [] ++ wire_view wire ∷ [])
added groups node wire old new within was pushed =
    let own = map group_view groups in
    let same : get_or own node [] ≡ group_view old =
    get_or-map group_view groups node old [] within ∙ ap group_view (sym was) in
    map-set group_view groups node new
    ∙ ap (set own node)
    (ap (map wire_view) pushed ∙ map-append wire_view old.items (wire ∷ [])
    ∙ ap (λ l. l ++ wire_view wire ∷ []) (sym same))

-- the channel at a place, with what it holds
pub wires_many : (channels : List graphs.Channel) (greatest last : List ℕ)
    → length greatest ≡ length channels → length last ≡ length channels
    → length (wires_of channels greatest last) ≡ length channels
wires_many [] greatest last first second = refl
wires_many (channel ∷ channels) [] last first second = absurd (omega (arith, first))
wires_many (channel ∷ channels) (high ∷ greatest) [] first second = absurd (omega (arith, second))
wires_many (channel ∷ channels) (high ∷ greatest) (held ∷ last) first second =
    ap suc (wires_many channels greatest last (omega (arith, first)) (omega (arith, second)))

abbrev pub wire_of : graphs.Channel → (greatest last : ℕ) → Wire
wire_of channel greatest last = record { channel = channel; greatest = greatest; last = last }

pub wire_read : (channels : List graphs.Channel) (greatest last : List ℕ) (k : ℕ) (d : Wire)
    → k < length channels
    → length greatest ≡ length channels → length last ≡ length channels
    → get_or (wires_of channels greatest last) k d
    ≡ record {
      channel = get_or channels k d.channel;
      greatest = get_or greatest k 0;
      last = get_or last k 0;
    }
wire_read [] greatest last k d less first second = absurd (omega (arith, less))
wire_read (channel ∷ channels) [] last k d less first second = absurd (omega (arith, first))
wire_read (channel ∷ channels) (high ∷ greatest) [] k d less first second = absurd
    (omega (arith, second))
wire_read (channel ∷ channels) (high ∷ greatest) (held ∷ last) zero d less first second = refl
wire_read (channel ∷ channels) (high ∷ greatest) (held ∷ last) (suc k) d less first second =
    wire_read channels greatest last k d (omega (arith, less)) (omega (arith, first))
    (omega (arith, second))

module _ (share : ℕ → Fission) where
  -- before any channel of the graph
  pub inner_groups : (size : ℕ) (groups : List (List Wire))
      → groups ≡ up_to (λ node. inner_wires (base share node) (share node)) size
      → AreGroups share [] size groups
  inner_groups size groups is = record {
    each = ap length is ∙ length_up_to (λ node. inner_wires (base share node) (share node)) size;
    group = λ node less.
        ap (λ (l : List (List Wire)). get_or l node []) is
        ∙ get_up_to (λ (n : ℕ). inner_wires (base share n) (share n)) size node [] less
        ∙ sym (append-nil (inner_wires (base share node) (share node)));
  }

  -- a node's group after one channel more
  leaving_one : (wires : List Wire) (wire : Wire) (node : ℕ) (test : Bool)
      → leaves node wire ≡ test
      → leaving share (wires ++ wire ∷ []) node
      ≡ leaving share wires node ++ cond test (renamed_wire share wire ∷ []) []
  leaving_one wires wire node test is =
      let inner = inner_wires (base share node) (share node) in
      let here : map (renamed_wire share) (filter (leaves node) (wire ∷ []))
      ≡ cond test (renamed_wire share wire ∷ []) [] = by_test (leaves node wire) test is in
      ap (λ l. inner ++ map (renamed_wire share) l) (filter-append (leaves node) wires (wire ∷ []))
      ∙ ap (λ l. inner ++ l)
      (map-append (renamed_wire share) (filter (leaves node) wires)
      (filter (leaves node) (wire ∷ []))
      ∙ ap (λ l. map (renamed_wire share) (filter (leaves node) wires) ++ l) here)
      ∙ sym (append_assoc inner (map (renamed_wire share) (filter (leaves node) wires))
      (cond test (renamed_wire share wire ∷ []) []))
    where
      by_test : (own test : Bool) → own ≡ test
          → map (renamed_wire share) (cond own (wire ∷ []) [])
          ≡ cond test (renamed_wire share wire ∷ []) []
      by_test true true e = refl
      by_test false false e = refl
      by_test true false e = absurd (mathlib.Core.Bool.true≢false e)
      by_test false true e = absurd (mathlib.Core.Bool.true≢false (sym e))

  pub next_group : (wires : List Wire) (size k : ℕ) (groups : List (List Wire)) (wire given : Wire)
      → AreGroups share (take k wires) size groups → k < length wires
      → wire ≡ get_or wires k wire → wire.channel.source.node < size
      → given ≡ renamed_wire share wire
      → AreGroups share (take (k + 1) wires) size
      (set groups wire.channel.source.node
      (get_or groups wire.channel.source.node [] ++ given ∷ []))
  next_group wires size k groups wire given are less is there renamed = record {
    each = length-set groups u (get_or groups u [] ++ given ∷ []) ∙ are.each;
    group = λ node within. elim (eqb_tells u node) [
      | inl same ↦
          ap (λ (n : ℕ). get_or changed n []) (sym same.1)
          ∙ get_or-set_same groups u (get_or groups u [] ++ given ∷ []) []
          (omega (arith, there, are.each))
          ∙ ap (λ g. get_or groups u [] ++ g ∷ []) renamed
          ∙ ap (λ l. l ++ renamed_wire share wire ∷ [])
          (ap (λ (n : ℕ). get_or groups n []) same.1 ∙ are.group node within)
          ∙ sym (more node true same.0)
      | inr other ↦
          get_or-set_other groups u node (get_or groups u [] ++ given ∷ []) []
          (λ e. other.1 (sym e))
          ∙ are.group node within
          ∙ sym (append-nil (leaving share (take k wires) node))
          ∙ sym (more node false other.0)
    ];
  }
    where
      u : ℕ
      u = wire.channel.source.node

      changed : List (List Wire)
      changed = set groups u (get_or groups u [] ++ given ∷ [])

      more : (node : ℕ) (test : Bool) → leaves node wire ≡ test
          → leaving share (take (k + 1) wires) node
          ≡ leaving share (take k wires) node ++ cond test (renamed_wire share wire ∷ []) []
      more node test e =
          ap (λ l. leaving share l node)
          (take_more wires k wire less ∙ ap (λ w. take k wires ++ w ∷ []) (sym is))
          ∙ leaving_one (take k wires) wire node test e

-- lists joined from the first on
joined_shift : {A : Type 0} (lists : ℕ → List A) (n : ℕ)
    → joined_up_to lists (suc n) ≡ lists 0 ++ joined_up_to (λ k. lists (suc k)) n
joined_shift lists zero = sym (append-nil (lists 0))
joined_shift lists (suc n) =
    ap (λ l. l ++ lists (suc n)) (joined_shift lists n)
    ∙ append_assoc (lists 0) (joined_up_to (λ k. lists (suc k)) n) (lists (suc n))

pub flat_is_joined : {A : Type 0} (lists : List (List A))
    → flat_map (λ (l : List A). l) lists ≡ joined_up_to (λ n. get_or lists n []) (length lists)
flat_is_joined [] = refl
flat_is_joined (first ∷ rest) =
    ap (λ l. first ++ l) (flat_is_joined rest)
    ∙ sym (joined_shift (λ n. get_or (first ∷ rest) n []) (length rest))

pub groups_joined : (share : ℕ → Fission) (wires : List Wire) (size : ℕ) (groups : List (List Wire))
    → AreGroups share wires size groups
    → flat_map (λ (l : List Wire). l) groups ≡ joined_up_to (leaving share wires) size
groups_joined share wires size groups are =
    flat_is_joined groups
    ∙ ap (joined_up_to (λ n. get_or groups n [])) are.each
    ∙ joined_same (λ n. get_or groups n []) (leaving share wires) size are.group

-- the group of the next channel of a graph
pub next_wire : (share : ℕ → Fission) (graph : GraphParts) (greatest last : List ℕ) (k : ℕ)
    (groups : List (List Wire)) (channel : declared_channel.Channel) (given : Wire)
    → length greatest ≡ length graph.channels → length last ≡ length graph.channels
    → AreGroups share (take k (wires_of (map channel_view graph.channels) greatest last))
    (length graph.nodes) groups
    → k < length graph.channels → channel ≡ get_or graph.channels k channel
    → channel.source.node < length graph.nodes
    → given ≡ renamed_wire share (wire_of (channel_view channel) (get_or greatest k 0)
    (get_or last k 0))
    → AreGroups share (take (k + 1) (wires_of (map channel_view graph.channels) greatest last))
    (length graph.nodes)
    (set groups channel.source.node (get_or groups channel.source.node [] ++ given ∷ []))
next_wire share graph greatest last k groups channel given first second are less read there
    renamed =
    let channels = map channel_view graph.channels in
    let many = length-map graph.channels channel_view in
    let wire = wire_of (channel_view channel) (get_or greatest k 0) (get_or last k 0) in
    let one : length greatest ≡ length channels = omega (arith, first, many) in
    let other : length last ≡ length channels = omega (arith, second, many) in
    next_group share (wires_of channels greatest last) (length graph.nodes) k groups wire given are
    (omega (arith, less, many, wires_many channels greatest last one other))
    (ap (λ (c : graphs.Channel). wire_of c (get_or greatest k 0) (get_or last k 0))
    (ap channel_view read
    ∙ sym (get_or-map channel_view graph.channels k channel (channel_view channel) less))
    ∙ sym (wire_read channels greatest last k wire (omega (arith, less, many)) one other))
    there renamed

-- all of them
pub all_wires : (share : ℕ → Fission) (graph : GraphParts) (greatest last : List ℕ) (k : ℕ)
    (groups : List (List Wire))
    → length greatest ≡ length graph.channels → length last ≡ length graph.channels
    → length graph.channels ≤ k
    → AreGroups share (take k (wires_of (map channel_view graph.channels) greatest last))
    (length graph.nodes) groups
    → AreGroups share (wires_of (map channel_view graph.channels) greatest last)
    (length graph.nodes)
    groups
all_wires share graph greatest last k groups first second past are =
    let channels = map channel_view graph.channels in
    let many = length-map graph.channels channel_view in
    subst (λ (l : List Wire). AreGroups share l (length graph.nodes) groups)
    (take_all k (wires_of channels greatest last)
    (omega (
      arith,
      past,
      many,
      wires_many channels greatest last (omega (arith, first, many))
          (omega (arith, second, many)),
    ))) are
