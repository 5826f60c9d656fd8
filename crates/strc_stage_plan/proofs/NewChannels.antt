-- The channels after fission, by the part that each ends at.
use Rattle.std.proofs.Common.{◌≡◌, refl, sym, ap, subst, ℕ, suc, ◌+◌, ◌<◌, ◌≤◌, arith}
use Rattle.std.proofs.Common.{List, [], ◌∷◌, ◌++◌, length, map, filter, Bool, true, false, cond}
use Rattle.std.proofs.Common.{inl, inr}
use Rattle.std.proofs.lemmas.Bool.{eq-eqb}
use Rattle.strc_elab_dataflow.specs.Flat.{Source}
use Rattle.strc_elab_dataflow.specs.Streams.{nothing}
use Rattle.strc_elab_graph.specs.FlatGraphs.{program_input}
use Rattle.strc_elab_graph.specs.Graphs.{Channel, Graph, source_of}
use Rattle.strc_elab_graph.specs.declared.graph.Fission.{Fission}
use Rattle.strc_elab_dataflow.specs.Split.{renamed}
use Rattle.strc_elab_dataflow.proofs.Numbers.{numbers_apart}
use Rattle.strc_fiss.specs.Numbers.{up_to, is_dealt, last_part, base, parts_after}
use Rattle.strc_fiss.specs.Splitting.{Wire, wires_of, to_copy, from_copy, inner_wires, leaves}
use Rattle.strc_fiss.specs.Splitting.{renamed_channel, renamed_wire, leaving, split_wires}
use Rattle.strc_fiss.proofs.Each.{Each, each_append, each_map, each_filter, each_more, each_up_to}
use Rattle.strc_fiss.proofs.Each.{each_joined}
use Rattle.strc_fiss.proofs.Renaming.{last_dealt}
use Rattle.strc_fiss.proofs.Wires.{each_wire}
use Rattle.strc_stage_plan.proofs.Ends.{Ends, ends_there, ends_by}
use Rattle.strc_stage_plan.proofs.Members.{In, in_left, in_right, in_map, in_filter, in_up_to}
use Rattle.strc_stage_plan.proofs.Members.{in_joined}

abbrev channel_of : Wire → Channel
channel_of wire = wire.channel

wire_there : (own : Channel) (channels : List Channel) (greatest last : List ℕ)
    → length greatest ≡ length channels → length last ≡ length channels → In own channels
    → (wire : Wire) × In wire (wires_of channels greatest last) × (wire.channel ≡ own)
wire_there own [] greatest last first second there = absurd there
wire_there own (channel ∷ channels) [] last first second there = absurd (omega (arith, first))
wire_there own (channel ∷ channels) (high ∷ greatest) [] first second there =
    absurd (omega (arith, second))
wire_there own (channel ∷ channels) (high ∷ greatest) (held ∷ last) first second (inl here) = (
  record { channel = channel; greatest = high; last = held },
  inl refl,
  sym here,
)
wire_there own (channel ∷ channels) (high ∷ greatest) (held ∷ last) first second (inr later) =
    let found = wire_there own channels greatest last (omega (arith, first))
    (omega (arith, second)) later in
    (found.0, inr found.1, found.2)

module _ (share : ℕ → Fission) where
  -- parts have numbers of their own
  pub apart : (u k v l : ℕ) → k ≤ last_part share u → l ≤ last_part share v
      → base share u + k ≡ base share v + l → (u ≡ v) × (k ≡ l)
  apart u k v l inside within e =
      numbers_apart (parts_after share (λ w. 0)) (base share)
      (record { first = refl; next = λ w. refl; names = λ w j. refl }) u k v l inside within e

  pub copy_within : (v i : ℕ) → is_dealt (share v) ≡ true → i < (share v).ways
      → suc i ≤ last_part share v
  copy_within v i dealt less = omega (arith, last_dealt (share v) dealt, less)

  pub gather_within : (v : ℕ) → is_dealt (share v) ≡ true
      → suc (share v).ways ≤ last_part share v
  gather_within v dealt = omega (arith, last_dealt (share v) dealt)

  module _ (graph : Graph) (greatest last : List ℕ) where
    abbrev pub wires : List Wire
    wires = wires_of graph.channels greatest last

    abbrev pub new_channels : List Channel
    new_channels = map (λ (wire : Wire). wire.channel) (split_wires share graph greatest last)

    -- ---- each channel that ends at a part of a node

    module _ (u k port : ℕ) (P : Channel → Type 0) (within : k ≤ last_part share u)
        (old : Each (λ channel. k ≡ 0 → Ends u port channel → P (renamed_channel share channel))
        graph.channels)
        (to : (i : ℕ) → i < (share u).ways → is_dealt (share u) ≡ true → suc i ≡ k → 0 ≡ port
        → P (to_copy (base share u) i).channel)
        (from : (i : ℕ) → i < (share u).ways → is_dealt (share u) ≡ true → suc (share u).ways ≡ k
        → i ≡ port → P (from_copy (base share u) (share u).ways i).channel) where
      abbrev At : Wire → Type 0
      At wire = Ends (base share u + k) port wire.channel → P wire.channel

      renamed_at : (channel : Channel)
          → (k ≡ 0 → Ends u port channel → P (renamed_channel share channel))
          → Ends (base share u + k) port (renamed_channel share channel)
          → P (renamed_channel share channel)
      renamed_at channel holds ends =
          let there = ends_there (base share u + k) port (renamed_channel share channel) ends in
          let same = apart channel.target.node 0 u k (omega arith) within
          (omega (arith, there.0)) in
          holds (sym same.1) (ends_by u port channel same.0 there.1)

      inner_at : (v : ℕ) → Each At (inner_wires (base share v) (share v))
      inner_at v = by_test (is_dealt (share v)) refl
        where
          to_at : is_dealt (share v) ≡ true → (i : ℕ) → i < (share v).ways
              → At (to_copy (base share v) i)
          to_at dealt i less ends =
              let there = ends_there (base share u + k) port (to_copy (base share v) i).channel
              ends in
              let same = apart v (suc i) u k (copy_within v i dealt less) within there.0 in
              subst (λ (w : ℕ). P (to_copy (base share w) i).channel) (sym same.0)
              (to i (subst (λ (w : ℕ). i < (share w).ways) same.0 less)
              (subst (λ (w : ℕ). is_dealt (share w) ≡ true) same.0 dealt) same.1 there.1)

          from_at : is_dealt (share v) ≡ true → (i : ℕ) → i < (share v).ways
              → At (from_copy (base share v) (share v).ways i)
          from_at dealt i less ends =
              let there = ends_there (base share u + k) port
              (from_copy (base share v) (share v).ways i).channel ends in
              let same = apart v (suc (share v).ways) u k (gather_within v dealt) within there.0 in
              subst (λ (w : ℕ). P (from_copy (base share w) (share w).ways i).channel) (sym same.0)
              (from i (subst (λ (w : ℕ). i < (share w).ways) same.0 less)
              (subst (λ (w : ℕ). is_dealt (share w) ≡ true) same.0 dealt)
              (subst (λ (w : ℕ). suc (share w).ways ≡ k) same.0 same.1) there.1)

          by_test : (t : Bool) → is_dealt (share v) ≡ t
              → Each At (cond t (up_to (to_copy (base share v)) (share v).ways
              ++ up_to (from_copy (base share v) (share v).ways) (share v).ways) [])
          by_test false e = tt
          by_test true e =
              each_append At (up_to (to_copy (base share v)) (share v).ways)
              (up_to (from_copy (base share v) (share v).ways) (share v).ways)
              (each_up_to At (to_copy (base share v)) (share v).ways (to_at e))
              (each_up_to At (from_copy (base share v) (share v).ways) (share v).ways (from_at e))

      pub each_at : Each (λ channel. Ends (base share u + k) port channel → P channel) new_channels
      each_at =
          let before = each_wire
          (λ channel. k ≡ 0 → Ends u port channel → P (renamed_channel share channel))
          graph.channels greatest last old in
          each_map channel_of (λ channel. Ends (base share u + k) port channel → P channel)
          (split_wires share graph greatest last)
          (each_joined At (leaving share wires) (length graph.nodes)
          (λ v less. each_append At (inner_wires (base share v) (share v))
          (map (renamed_wire share) (filter (leaves v) wires)) (inner_at v)
          (each_map (renamed_wire share) At (filter (leaves v) wires)
          (each_filter (λ (wire : Wire). At (renamed_wire share wire)) (leaves v) wires
          (each_more
          (λ (wire : Wire). k ≡ 0 → Ends u port wire.channel
          → P (renamed_channel share wire.channel))
          (λ (wire : Wire). At (renamed_wire share wire)) wires
          (λ wire holds. renamed_at wire.channel holds) before)))))

    -- ---- each channel

    pub each_new : (P : Channel → Type 0)
        → Each (λ channel. P (renamed_channel share channel)) graph.channels
        → ((v i : ℕ) → v < length graph.nodes → is_dealt (share v) ≡ true → i < (share v).ways
        → P (to_copy (base share v) i).channel)
        → ((v i : ℕ) → v < length graph.nodes → is_dealt (share v) ≡ true → i < (share v).ways
        → P (from_copy (base share v) (share v).ways i).channel)
        → Each P new_channels
    each_new P old to from =
        each_map channel_of P (split_wires share graph greatest last)
        (each_joined (λ (wire : Wire). P wire.channel) (leaving share wires) (length graph.nodes)
        (λ v less. each_append (λ (wire : Wire). P wire.channel)
        (inner_wires (base share v) (share v))
        (map (renamed_wire share) (filter (leaves v) wires))
        (inner_each v less (is_dealt (share v)) refl)
        (each_map (renamed_wire share) (λ (wire : Wire). P wire.channel) (filter (leaves v) wires)
        (each_filter (λ (wire : Wire). P (renamed_channel share wire.channel)) (leaves v) wires
        (each_wire (λ channel. P (renamed_channel share channel)) graph.channels greatest last
        old)))))
      where
        inner_each : (v : ℕ) → v < length graph.nodes → (t : Bool) → is_dealt (share v) ≡ t
            → Each (λ (wire : Wire). P wire.channel)
            (cond t (up_to (to_copy (base share v)) (share v).ways
            ++ up_to (from_copy (base share v) (share v).ways) (share v).ways) [])
        inner_each v less false e = tt
        inner_each v less true e =
            each_append (λ (wire : Wire). P wire.channel)
            (up_to (to_copy (base share v)) (share v).ways)
            (up_to (from_copy (base share v) (share v).ways) (share v).ways)
            (each_up_to (λ (wire : Wire). P wire.channel) (to_copy (base share v)) (share v).ways
            (λ i inside. to v i less e inside))
            (each_up_to (λ (wire : Wire). P wire.channel)
            (from_copy (base share v) (share v).ways) (share v).ways
            (λ i inside. from v i less e inside))

    -- ---- channels that are there

    in_new : (v : ℕ) (wire : Wire) → v < length graph.nodes → In wire (leaving share wires v)
        → In wire.channel new_channels
    in_new v wire less there =
        in_map channel_of wire (split_wires share graph greatest last)
        (in_joined (leaving share wires) wire (length graph.nodes) v less there)

    in_inner : (v : ℕ) (wire : Wire) → v < length graph.nodes
        → In wire (inner_wires (base share v) (share v)) → In wire.channel new_channels
    in_inner v wire less there =
        in_new v wire less (in_left wire (inner_wires (base share v) (share v))
        (map (renamed_wire share) (filter (leaves v) wires)) there)

    dealt_inner : (v : ℕ) (wire : Wire) → is_dealt (share v) ≡ true
        → In wire (up_to (to_copy (base share v)) (share v).ways
        ++ up_to (from_copy (base share v) (share v).ways) (share v).ways)
        → In wire (inner_wires (base share v) (share v))
    dealt_inner v wire dealt there =
        subst (λ (t : Bool). In wire (cond t (up_to (to_copy (base share v)) (share v).ways
        ++ up_to (from_copy (base share v) (share v).ways) (share v).ways) [])) (sym dealt) there

    pub to_there : (v i : ℕ) → v < length graph.nodes → is_dealt (share v) ≡ true
        → i < (share v).ways → In (to_copy (base share v) i).channel new_channels
    to_there v i inside dealt less =
        in_inner v (to_copy (base share v) i) inside
        (dealt_inner v (to_copy (base share v) i) dealt
        (in_left (to_copy (base share v) i) (up_to (to_copy (base share v)) (share v).ways)
        (up_to (from_copy (base share v) (share v).ways) (share v).ways)
        (in_up_to (to_copy (base share v)) (share v).ways i less)))

    pub from_there : (v i : ℕ) → v < length graph.nodes → is_dealt (share v) ≡ true
        → i < (share v).ways
        → In (from_copy (base share v) (share v).ways i).channel new_channels
    from_there v i inside dealt less =
        in_inner v (from_copy (base share v) (share v).ways i) inside
        (dealt_inner v (from_copy (base share v) (share v).ways i) dealt
        (in_right (from_copy (base share v) (share v).ways i)
        (up_to (to_copy (base share v)) (share v).ways)
        (up_to (from_copy (base share v) (share v).ways) (share v).ways)
        (in_up_to (from_copy (base share v) (share v).ways) (share v).ways i less)))

    pub renamed_there : (own : Channel) → length greatest ≡ length graph.channels
        → length last ≡ length graph.channels → own.source.node < length graph.nodes
        → In own graph.channels → In (renamed_channel share own) new_channels
    renamed_there own first second inside there =
        let found = wire_there own graph.channels greatest last first second there in
        let wire : Wire = found.0 in
        let at : wire.channel.source.node ≡ own.source.node =
        ap (λ (c : Channel). c.source.node) found.2 in
        subst (λ (c : Channel). In (renamed_channel share c) new_channels) found.2
        (in_new own.source.node (renamed_wire share wire) inside
        (in_right (renamed_wire share wire)
        (inner_wires (base share own.source.node) (share own.source.node))
        (map (renamed_wire share) (filter (leaves own.source.node) wires))
        (in_map (renamed_wire share) wire (filter (leaves own.source.node) wires)
        (in_filter (leaves own.source.node) wire wires
        (eq-eqb wire.channel.source.node own.source.node at) found.1))))

-- ---- what comes by a renamed channel

module _ (share : ℕ → Fission) (fired : ℕ → ℕ) where
  abbrev pub renamed_source : Source → Source
  renamed_source source = record {
    enqueued = source.enqueued;
    origin = renamed (parts_after share fired) source.origin;
  }

  pub renamed_comes : (channel : Channel)
      → source_of (renamed_channel share channel) ≡ renamed_source (source_of channel)
  unfolding renamed
  renamed_comes channel = refl

  pub renamed_input : renamed_source program_input ≡ program_input
  unfolding renamed
  renamed_input = refl

  pub renamed_nothing : renamed_source nothing ≡ nothing
  unfolding renamed
  renamed_nothing = refl
