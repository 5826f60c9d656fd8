-- No two channels after fission begin at one port.
use Rattle.std.proofs.Common.{◌≡◌, refl, sym, ap, ◌∙◌, ℕ, suc, ◌+◌, ◌≤◌, arith, List, []}
use Rattle.std.proofs.Common.{◌∷◌, ◌++◌, length, map, filter, Bool, true, false, cond, Some}
use Rattle.std.proofs.Common.{slice_get, eqb-true}
use Rattle.strc_elab_graph.specs.declared.graph.Port.{Port as End}
use Rattle.strc_elab_graph.specs.Graphs.{Channel, Graph}
use Rattle.strc_elab_graph.specs.declared.graph.Fission.{Fission}
use Rattle.strc_fiss.specs.Numbers.{up_to, is_dealt, last_part, base}
use Rattle.strc_fiss.specs.Splitting.{Wire, wires_of, to_copy, from_copy, leaves}
use Rattle.strc_fiss.specs.Splitting.{renamed_wire, leaving, split_wires}
use Rattle.strc_fiss.proofs.Each.{Each, each_append, each_map, each_more, each_up_to}
use Rattle.strc_fiss.proofs.Renaming.{last_dealt}
use Rattle.strc_fiss.proofs.Wires.{each_wire}
use Rattle.strc_stage_plan.proofs.NewChannels.{apart, copy_within, new_channels}
use Rattle.strc_stage_plan.proofs.Sources.{Apart, Differs, apart_from, apart_append}
use Rattle.strc_stage_plan.proofs.Sources.{apart_filter, apart_up_to, apart_joined, apart_more}
use Rattle.strc_stage_plan.proofs.Sources.{apart_map}

abbrev begins : Wire → End
begins wire = wire.channel.source

wires_apart : (channels : List Channel) (greatest last : List ℕ)
    → Apart (λ (channel : Channel). channel.source) channels
    → Apart begins (wires_of channels greatest last)
wires_apart [] greatest last apart = tt
wires_apart (channel ∷ channels) [] last apart = tt
wires_apart (channel ∷ channels) (high ∷ greatest) [] apart = tt
wires_apart (channel ∷ channels) (high ∷ greatest) (held ∷ last) apart = (
  each_wire (Differs (λ (own : Channel). own.source) channel) channels greatest last apart.0,
  wires_apart channels greatest last apart.1,
)

each_passes : {A : Type 0} (test : A → Bool) (xs : List A)
    → Each (λ x. test x ≡ true) (filter test xs)
each_passes test [] = tt
each_passes {A = A} test (x ∷ xs) = by_test (test x) refl (each_passes test xs)
  where
    by_test : (t : Bool) → test x ≡ t → Each (λ y. test y ≡ true) (filter test xs)
        → Each (λ y. test y ≡ true) (cond t (x ∷ filter test xs) (filter test xs))
    by_test true e rest = (e, rest)
    by_test false e rest = rest

module _ (share : ℕ → Fission) (graph : Graph) (greatest last : List ℕ)
    (one_source : (first second : ℕ) (a b : Channel) → slice_get graph.channels first ≡ Some a
    → slice_get graph.channels second ≡ Some b → a.source ≡ b.source → first ≡ second) where
  abbrev wires : List Wire
  wires = wires_of graph.channels greatest last

  old_apart : Apart begins wires
  old_apart = wires_apart graph.channels greatest last
      (apart_from (λ (channel : Channel). channel.source) graph.channels one_source)

  -- which part of a node a channel leaves
  abbrev Leaves : ℕ → Wire → Type 0
  Leaves v wire = (part : ℕ) × (part ≤ last_part share v)
      × (wire.channel.source.node ≡ base share v + part)

  module _ (v : ℕ) where
    abbrev to_copies : List Wire
    to_copies = up_to (to_copy (base share v)) (share v).ways

    abbrev from_copies : List Wire
    from_copies = up_to (from_copy (base share v) (share v).ways) (share v).ways

    abbrev renamed : List Wire
    renamed = map (renamed_wire share) (filter (leaves v) wires)

    -- ---- between the parts

    to_apart : Apart begins to_copies
    to_apart = apart_up_to begins (to_copy (base share v)) (share v).ways
        (λ i j first second same. ap (λ (end : End). end.port) same)

    from_apart : Apart begins from_copies
    from_apart = apart_up_to begins (from_copy (base share v) (share v).ways) (share v).ways
        (λ i j first second same. omega (arith, ap (λ (end : End). end.node) same))

    between_apart : Apart begins (to_copies ++ from_copies)
    between_apart = apart_append begins to_copies from_copies to_apart from_apart
        (each_up_to (λ x. Each (Differs begins x) from_copies) (to_copy (base share v))
        (share v).ways
        (λ i less. each_up_to (Differs begins (to_copy (base share v) i))
        (from_copy (base share v) (share v).ways) (share v).ways
        (λ j inside same. omega (arith, ap (λ (end : End). end.node) same))))

    between_leave : is_dealt (share v) ≡ true → Each (Leaves v) (to_copies ++ from_copies)
    between_leave dealt = each_append (Leaves v) to_copies from_copies
        (each_up_to (Leaves v) (to_copy (base share v)) (share v).ways
        (λ i less. (0, omega arith, omega arith)))
        (each_up_to (Leaves v) (from_copy (base share v) (share v).ways) (share v).ways
        (λ i less. (suc i, copy_within share v i dealt less, refl)))

    -- ---- of the node itself

    leaves_last : (wire : Wire) → leaves v wire ≡ true
        → (renamed_wire share wire).channel.source.node ≡ base share v + last_part share v
    leaves_last wire here =
        ap (λ (n : ℕ). base share n + last_part share n) (eqb-true wire.channel.source.node v here)

    renamed_apart : Apart begins renamed
    renamed_apart = apart_map (renamed_wire share) begins (filter (leaves v) wires)
        (apart_more begins (λ (wire : Wire). begins (renamed_wire share wire))
        (λ (wire : Wire). leaves v wire ≡ true) (filter (leaves v) wires)
        (each_passes (leaves v) wires)
        (λ x y at_x at_y same. same_ends x y
        (eqb-true x.channel.source.node v at_x ∙ sym (eqb-true y.channel.source.node v at_y))
        (ap (λ (end : End). end.port) same))
        (apart_filter begins (leaves v) wires old_apart))
      where
        same_ends : (x y : Wire) → x.channel.source.node ≡ y.channel.source.node
            → x.channel.source.port ≡ y.channel.source.port → begins x ≡ begins y
        same_ends x y node port =
            let end : (n p : ℕ) → End = λ n p. record { node = n; port = p } in
            ap (λ (n : ℕ). end n x.channel.source.port) node ∙ ap (end y.channel.source.node) port

    renamed_leave : Each (Leaves v) renamed
    renamed_leave = each_map (renamed_wire share) (Leaves v) (filter (leaves v) wires)
        (each_more (λ (wire : Wire). leaves v wire ≡ true)
        (λ (wire : Wire). Leaves v (renamed_wire share wire)) (filter (leaves v) wires)
        (λ wire here. (last_part share v, omega arith, leaves_last wire here))
        (each_passes (leaves v) wires))

    -- ---- all that leave its parts

    renamed_last : Each (λ (wire : Wire). wire.channel.source.node
        ≡ base share v + last_part share v) renamed
    renamed_last = each_map (renamed_wire share)
        (λ (wire : Wire). wire.channel.source.node ≡ base share v + last_part share v)
        (filter (leaves v) wires)
        (each_more (λ (wire : Wire). leaves v wire ≡ true)
        (λ (wire : Wire). (renamed_wire share wire).channel.source.node
        ≡ base share v + last_part share v) (filter (leaves v) wires)
        (λ wire here. leaves_last wire here) (each_passes (leaves v) wires))

    -- one that leaves an earlier part is another than those of the last one
    earlier_differs : is_dealt (share v) ≡ true → (x : Wire) (part : ℕ) → part ≤ (share v).ways
        → x.channel.source.node ≡ base share v + part → Each (Differs begins x) renamed
    earlier_differs dealt x part early at =
        each_more (λ (wire : Wire). wire.channel.source.node ≡ base share v + last_part share v)
        (Differs begins x) renamed
        (λ y last_is same. omega (
          arith,
          ap (λ (end : End). end.node) same,
          at,
          last_is,
          early,
          last_dealt (share v) dealt,
        )) renamed_last

    both_apart : (t : Bool) → is_dealt (share v) ≡ t
        → Apart begins (cond t (to_copies ++ from_copies) [] ++ renamed)
        × Each (Leaves v) (cond t (to_copies ++ from_copies) [] ++ renamed)
    both_apart false whole = (renamed_apart, renamed_leave)
    both_apart true dealt = (
      apart_append begins (to_copies ++ from_copies) renamed between_apart renamed_apart
          (each_append (λ x. Each (Differs begins x) renamed) to_copies from_copies
          (each_up_to (λ x. Each (Differs begins x) renamed) (to_copy (base share v))
          (share v).ways
          (λ i less. earlier_differs dealt (to_copy (base share v) i) 0 (omega arith)
          (omega arith)))
          (each_up_to (λ x. Each (Differs begins x) renamed)
          (from_copy (base share v) (share v).ways) (share v).ways
          (λ i less. earlier_differs dealt (from_copy (base share v) (share v).ways i) (suc i)
          (omega (arith, less)) refl))),
      each_append (Leaves v) (to_copies ++ from_copies) renamed (between_leave dealt)
          renamed_leave,
    )

  new_wires_apart : Apart begins (split_wires share graph greatest last)
  new_wires_apart = apart_joined begins Leaves (leaving share wires) (length graph.nodes)
      (λ v less. (both_apart v (is_dealt (share v)) refl).0)
      (λ v less. (both_apart v (is_dealt (share v)) refl).1)
      (λ u v x y one other same. (apart share u one.0 v other.0 one.1 other.1
      (sym one.2 ∙ ap (λ (end : End). end.node) same ∙ other.2)).0)

  pub sources_apart : Apart (λ (channel : Channel). channel.source)
      (new_channels share graph greatest last)
  sources_apart = apart_map (λ (wire : Wire). wire.channel)
      (λ (channel : Channel). channel.source) (split_wires share graph greatest last)
      new_wires_apart
