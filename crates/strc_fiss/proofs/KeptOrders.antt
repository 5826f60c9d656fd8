-- The round after fission is an order where the one before it is: channel by channel.
use Rattle.std.proofs.Common.{◌≡◌, refl, sym, ap, ◌∙◌, subst, ℕ, suc, ◌+◌, ◌*◌, ◌<◌}
use Rattle.std.proofs.Common.{◌≤◌, arith, Bool, true, false, cond, eqb, List, [], ◌∷◌, ◌++◌}
use Rattle.std.proofs.Common.{length, map, filter, Option, inr}
use Rattle.std.specs.List.{list_any}
use Rattle.std.specs.Option.{option_map_or}
use Rattle.std.proofs.lemmas.Bool.{true≢false, and_from, or_parts, eq-eqb}
use Rattle.std.proofs.lemmas.Option.{slice_get-get_or}
use Rattle.strc_elab_graph.specs.Graphs.{Graph, IsGraph, JoinsPorts, Channel, NodeCode, Joiner}
use Rattle.strc_elab_graph.specs.Graphs.{input_ports, output_ports}
use Rattle.strc_elab_graph.specs.Rates.{reach}
use Rattle.strc_elab_graph.specs.declared.graph.Fission.{Fission}
use Rattle.strc_startup.specs.Rates.{push_at, look_at}
use Rattle.strc_startup.specs.declared.channel_rates.ChannelRates.{ChannelRates}
use Rattle.strc_sched_orders.specs.Firings.{none_fired}
use Rattle.strc_sched_orders.specs.Order.{IsOrder}
use Rattle.strc_sched_orders.specs.RoundRates.{round_rates_of_channel, round_pop}
use Rattle.strc_sched_orders.specs.Rounds.{IsPastPrework}
use Rattle.strc_sched_orders.specs.Sizing.{rates_on, all_rates_on, round_rates_on}
use Rattle.strc_elab_dataflow.specs.Blocks.{Block, AreBlocks, old_order, new_order}
use Rattle.strc_elab_dataflow.specs.FusedUnits.{RoundUnit, firings_of}
use Rattle.strc_elab_dataflow.proofs.Links.{Link, Passes}
use Rattle.strc_fuse.proofs.Channels.{link_of, IsOrderOn, order_on, order_from, passes_from}
use Rattle.strc_fuse.proofs.Channels.{from_passes}
use Rattle.strc_fiss.specs.Laws.{AreOwn}
use Rattle.strc_fiss.specs.Numbers.{up_to, is_dealt, last_part, base, parts_after}
use Rattle.strc_fiss.specs.Splitting.{Wire, wires_of, code_at, port, leaves, to_copy, from_copy}
use Rattle.strc_fiss.specs.Splitting.{inner_wires, renamed_wire, leaving, split_wires, split_graph}
use Rattle.strc_fiss.specs.Splitting.{split_last}
use Rattle.strc_fiss.specs.Units.{split_units}
use Rattle.strc_fiss.specs.Ways.{is_own, feeds_itself}
use Rattle.strc_fiss.proofs.Each.{Each, each_all, all_each, each_append, each_map, map_each}
use Rattle.strc_fiss.proofs.Each.{each_filter, each_up_to, each_joined, each_more}
use Rattle.strc_fiss.proofs.NodeRates.{HasItsRates, given, seen, taken, own_seen, own_taken}
use Rattle.strc_fiss.proofs.NodeRates.{scatter_gives, copy_looks, copy_pops, copy_gives}
use Rattle.strc_fiss.proofs.NodeRates.{gather_looks, gather_pops}
use Rattle.strc_fiss.proofs.OneChannel.{a_link, channel_passes, copies_pass, gathers_pass}
use Rattle.strc_fiss.proofs.RoundBlocks.{split_parts, numbered, blocks, are_blocks, before_is}
use Rattle.strc_fiss.proofs.RoundBlocks.{after_is}
use Rattle.strc_fiss.proofs.Shares.{there_by}
use Rattle.strc_fiss.proofs.Wires.{each_wire}

-- ---- the rates of channels with what they hold

abbrev wire_rates : List NodeCode → Wire → ChannelRates
wire_rates nodes wire = rates_on (round_rates_of_channel nodes wire.channel) wire.last

channel_rates : (nodes : List NodeCode) (channels : List Channel) (greatest last : List ℕ)
    → length greatest ≡ length channels → length last ≡ length channels
    → all_rates_on (map (round_rates_of_channel nodes) channels) last
    ≡ map (wire_rates nodes) (wires_of channels greatest last)
channel_rates nodes [] greatest last first second = refl
channel_rates nodes (channel ∷ channels) [] last first second = absurd (omega (arith, first))
channel_rates nodes (channel ∷ channels) (high ∷ greatest) [] first second =
    absurd (omega (arith, second))
channel_rates nodes (channel ∷ channels) (high ∷ greatest) (held ∷ last) first second =
    ap (λ (l : List ChannelRates). rates_on (round_rates_of_channel nodes channel) held ∷ l)
    (channel_rates nodes channels greatest last (omega (arith, first)) (omega (arith, second)))

rates_of_wires : (nodes : List NodeCode) (wires : List Wire)
    → all_rates_on (map (round_rates_of_channel nodes)
    (map (λ (wire : Wire). wire.channel) wires)) (map (λ (wire : Wire). wire.last) wires)
    ≡ map (wire_rates nodes) wires
rates_of_wires nodes [] = refl
rates_of_wires nodes (wire ∷ wires) =
    ap (λ (l : List ChannelRates). wire_rates nodes wire ∷ l) (rates_of_wires nodes wires)

each_both : {A : Type 0} (P Q : A → Type 0) (xs : List A) → Each P xs → Each Q xs
    → Each (λ x. P x × Q x) xs
each_both P Q [] first second = tt
each_both P Q (x ∷ xs) first second =
    ((first.0, second.0), each_both P Q xs first.1 second.1)

-- no channel leads from a node to itself
each_away : (v : ℕ) (channels : List Channel) → list_any (is_own v) channels ≡ false
    → Each (λ channel. is_own v channel ≡ false) channels
each_away v [] none = tt
each_away v (channel ∷ channels) none =
    let both = or_parts (is_own v channel) (list_any (is_own v) channels) none in
    (both.0, each_away v channels both.1)

each_for : {A : Type 0} (P : ℕ → Type 0) (Q : ℕ → A → Type 0) (xs : List A)
    → ((v : ℕ) → P v → Each (Q v) xs) → Each (λ x. (v : ℕ) → P v → Q v x) xs
each_for P Q [] holds = tt
each_for P Q (x ∷ xs) holds =
    (λ v p. (holds v p).0, each_for P Q xs (λ v p. (holds v p).1))

links_same : (s s' p p' t t' q q' w w' : ℕ) → s ≡ s' → p ≡ p' → t ≡ t' → q ≡ q' → w ≡ w'
    → a_link s p t q w ≡ a_link s' p' t' q' w'
links_same s s' p p' t t' q q' w w' a b c d e =
    ap (λ (n : ℕ). a_link n p t q w) a
    ∙ ap (λ (n : ℕ). a_link s' n t q w) b
    ∙ ap (λ (n : ℕ). a_link s' p' n q w) c
    ∙ ap (λ (n : ℕ). a_link s' p' t' n w) d
    ∙ ap (a_link s' p' t' q') e

-- all firings of a round are by work
by_work : (rates : ChannelRates) (items : ℕ) → IsPastPrework none_fired (rates_on rates items)
by_work rates items = record { source = inr refl; target = inr (refl, refl) }

module _ (share : ℕ → Fission) (graph : Graph) (greatest last : List ℕ) (is : IsGraph graph)
    (first : length greatest ≡ length graph.channels)
    (second : length last ≡ length graph.channels)
    (its : (v : ℕ) → is_dealt (share v) ≡ true → HasItsRates (code_at graph.nodes v) (share v))
    (some : (v : ℕ) → is_dealt (share v) ≡ true → 0 < (share v).ways * (share v).firings)
    (apart : (v : ℕ) → is_dealt (share v) ≡ true → feeds_itself graph.channels v ≡ false)
    (units : List RoundUnit) (own : AreOwn share units) where
  abbrev new : Graph
  new = split_graph share graph greatest last

  narrow : (v : ℕ) → is_dealt (share v) ≡ true → (share v).pop ≤ (share v).window
  narrow v dealt = (its v dealt).narrow

  abbrev round : List Block
  round = blocks share units

  are : AreBlocks (parts_after share (λ v. 0)) (blocks share units)
  are = are_blocks share units own

  abbrev IsOld : Wire → Type 0
  IsOld wire = IsOrderOn (wire_rates graph.nodes wire) none_fired (firings_of units)

  abbrev IsNew : Wire → Type 0
  IsNew wire = IsOrderOn (wire_rates new.nodes wire) none_fired
      (firings_of (split_units share units))

  -- a channel of the new graph whose link passes
  from_link : (wire : Wire) (link : Link) (items : ℕ)
      → link ≡ link_of (wire_rates new.nodes wire) → items ≡ wire.last
      → Passes link items 0 (new_order (split_parts share) round) → IsNew wire
  from_link wire link items same held passes =
      from_passes (wire_rates new.nodes wire) (firings_of (split_units share units)) none_fired
      (by_work (round_rates_of_channel new.nodes wire.channel) wire.last)
      (subst (λ (order : List ℕ). Passes (link_of (wire_rates new.nodes wire)) (wire.last + 0) 0
      order) (sym (after_is share units))
      (subst (λ (n : ℕ). Passes (link_of (wire_rates new.nodes wire)) n 0
      (new_order (split_parts share) round))
      (held ∙ (let e : wire.last ≡ wire.last + 0 = omega arith in e))
      (subst (λ (l : Link). Passes l items 0 (new_order (split_parts share) round)) same passes)))

  -- ---- an old channel

  abbrev StandsApart : Channel → Type 0
  StandsApart channel = (v : ℕ) → is_dealt (share v) ≡ true → is_own v channel ≡ false

  module _ (wire : Wire) (joins : JoinsPorts graph.nodes wire.channel)
      (away : StandsApart wire.channel) (passes : IsOld wire) where
    abbrev s : ℕ
    s = wire.channel.source.node

    abbrev t : ℕ
    t = wire.channel.target.node

    abbrev push : ℕ
    push = push_at graph.nodes 1 wire.channel.source

    abbrev pop : ℕ
    pop = round_pop graph.nodes wire.channel.target

    abbrev window : ℕ
    window = look_at graph.nodes 1 wire.channel.target

    source_there : s < length graph.nodes
    source_there = there_by output_ports graph.nodes s wire.channel.source.port joins.source

    target_there : t < length graph.nodes
    target_there = there_by input_ports graph.nodes t wire.channel.target.port joins.target

    has_port : wire.channel.target.port < input_ports (code_at graph.nodes t)
    has_port =
        subst (λ (o : Option NodeCode). wire.channel.target.port < option_map_or input_ports o 0)
        (slice_get-get_or graph.nodes t (Joiner []) target_there) joins.target

    no_loop : is_dealt (share t) ≡ true → s ≡ t → ⊥
    no_loop dealt e =
        true≢false (sym (and_from (eqb s t) (eqb t t) (eq-eqb s t e) (eq-eqb t t refl))
        ∙ away t dealt)

    number : base share t + 0 ≡ base share t
    number = omega arith

    old_passes : Passes (a_link s push t
        (cond (is_dealt (share t)) (share t).pop pop)
        (cond (is_dealt (share t)) (share t).window window)) wire.last 0
        (old_order (split_parts share) round)
    old_passes =
        subst (λ (l : Link). Passes l wire.last 0 (old_order (split_parts share) round))
        (links_same s s push push t t pop _ window _ refl refl refl
        (own_taken share graph.nodes t target_there (its t) wire.channel.target.port has_port)
        (own_seen share graph.nodes t target_there (its t) wire.channel.target.port has_port))
        (subst (λ (n : ℕ). Passes (a_link s push t pop window) n 0
        (old_order (split_parts share) round))
        (let e : wire.last + 0 ≡ wire.last = omega arith in e)
        (subst (λ (order : List ℕ). Passes (a_link s push t pop window) (wire.last + 0) 0 order)
        (before_is share units)
        (passes_from (wire_rates graph.nodes wire) (firings_of units) none_fired
        (by_work (round_rates_of_channel graph.nodes wire.channel) wire.last) passes)))

    renamed_passes : IsNew (renamed_wire share wire)
    renamed_passes =
        from_link (renamed_wire share wire)
        (a_link (base share s + last_part share s)
        (cond (is_dealt (share s)) ((share s).ways * (share s).firings * push) push)
        (base share t + 0)
        (cond (is_dealt (share t)) ((share t).ways * (share t).firings * (share t).pop) pop)
        (cond (is_dealt (share t)) (reach (share t) ((share t).ways * (share t).firings))
        window)) wire.last
        (links_same _ _ _ _ _ _ _ _ _ _ refl
        (sym (given share graph.nodes s source_there (its s) wire.channel.source.port)) number
        (sym (taken share graph.nodes t target_there (its t) wire.channel.target.port has_port)
        ∙ ap (λ (n : ℕ). round_pop new.nodes (port n wire.channel.target.port)) number)
        (sym (seen share graph.nodes t target_there (its t) wire.channel.target.port has_port)
        ∙ ap (λ (n : ℕ). look_at new.nodes 1 (port n wire.channel.target.port)) number))
        refl
        (channel_passes (split_parts share) (base share) (numbered share) some narrow s
        push t pop window no_loop
        round are wire.last 0 old_passes)

  -- ---- the channels between parts

  module _ (v : ℕ) (there : v < length graph.nodes) (dealt : is_dealt (share v) ≡ true)
      (i : ℕ) (less : i < (share v).ways) where
    first_number : base share v + 0 ≡ base share v
    first_number = omega arith

    to_passes : IsNew (to_copy (base share v) i)
    to_passes =
        from_link (to_copy (base share v) i)
        (a_link (base share v + 0) (reach (share v) (share v).firings) (base share v + suc i)
        (share v).pop (share v).window) 0
        (links_same _ _ _ _ _ _ _ _ _ _ first_number
        (sym (scatter_gives share graph.nodes v there (its v) dealt i less)
        ∙ ap (λ (n : ℕ). push_at new.nodes 1 (port n i)) first_number) refl
        (sym (copy_pops share graph.nodes v there (its v) dealt i less))
        (sym (copy_looks share graph.nodes v there (its v) dealt i less)))
        refl
        (copies_pass (split_parts share) (base share) (numbered share) some narrow v i
        dealt less round are)

    from_passes_on : IsNew (from_copy (base share v) (share v).ways i)
    from_passes_on =
        from_link (from_copy (base share v) (share v).ways i)
        (a_link (base share v + suc i) (share v).push (base share v + suc (share v).ways)
        ((share v).firings * (share v).push) ((share v).firings * (share v).push)) 0
        (links_same _ _ _ _ _ _ _ _ _ _ refl
        (sym (copy_gives share graph.nodes v there (its v) dealt i less)) refl
        (sym (gather_pops share graph.nodes v there (its v) dealt i less))
        (sym (gather_looks share graph.nodes v there (its v) dealt i less)))
        refl
        (gathers_pass (split_parts share) (base share) (numbered share) some narrow v i
        dealt less round are)

  inner_pass : (v : ℕ) → v < length graph.nodes
      → Each IsNew (inner_wires (base share v) (share v))
  inner_pass v there = by_test (is_dealt (share v)) refl
    where
      by_test : (t : Bool) → is_dealt (share v) ≡ t
          → Each IsNew (cond t (up_to (to_copy (base share v)) (share v).ways
          ++ up_to (from_copy (base share v) (share v).ways) (share v).ways) [])
      by_test false e = tt
      by_test true e =
          each_append IsNew (up_to (to_copy (base share v)) (share v).ways)
          (up_to (from_copy (base share v) (share v).ways) (share v).ways)
          (each_up_to IsNew (to_copy (base share v)) (share v).ways (to_passes v there e))
          (each_up_to IsNew (from_copy (base share v) (share v).ways) (share v).ways
          (from_passes_on v there e))

  -- ---- all channels

  abbrev wires : List Wire
  wires = wires_of graph.channels greatest last

  abbrev IsGood : Wire → Type 0
  IsGood wire = (JoinsPorts graph.nodes wire.channel × StandsApart wire.channel) × IsOld wire

  pub keeps_order : IsOrder (round_rates_on graph last) none_fired (firings_of units)
      → IsOrder (round_rates_on (split_graph share graph greatest last)
      (split_last share graph greatest last)) none_fired (firings_of (split_units share units))
  keeps_order order =
      let ends : Each (λ (wire : Wire).
      JoinsPorts graph.nodes wire.channel × StandsApart wire.channel) wires =
      each_wire (λ channel. JoinsPorts graph.nodes channel × StandsApart channel) graph.channels
      greatest last
      (each_both (JoinsPorts graph.nodes) StandsApart graph.channels
      (all_each (JoinsPorts graph.nodes) graph.channels is.channels)
      (each_for (λ v. is_dealt (share v) ≡ true) (λ v channel. is_own v channel ≡ false)
      graph.channels (λ v dealt. each_away v graph.channels (apart v dealt)))) in
      let before : Each IsOld wires =
      map_each (wire_rates graph.nodes)
      (λ rates. IsOrderOn rates none_fired (firings_of units)) wires
      (all_each (λ rates. IsOrderOn rates none_fired (firings_of units))
      (map (wire_rates graph.nodes) wires)
      (order_on (map (wire_rates graph.nodes) wires) (firings_of units) none_fired
      (subst (λ (l : List ChannelRates). IsOrder l none_fired (firings_of units))
      (channel_rates graph.nodes graph.channels greatest last first second) order))) in
      let good : Each IsGood wires =
      each_both (λ (wire : Wire). JoinsPorts graph.nodes wire.channel × StandsApart wire.channel)
      IsOld wires ends before in
      let after : Each IsNew (split_wires share graph greatest last) =
      each_joined IsNew (leaving share wires) (length graph.nodes) (λ v there.
      each_append IsNew (inner_wires (base share v) (share v))
      (map (renamed_wire share) (filter (leaves v) wires)) (inner_pass v there)
      (each_map (renamed_wire share) IsNew (filter (leaves v) wires)
      (each_more IsGood (λ (wire : Wire). IsNew (renamed_wire share wire))
      (filter (leaves v) wires) (λ wire is. renamed_passes wire is.0.0 is.0.1 is.1)
      (each_filter IsGood (leaves v) wires good)))) in
      subst (λ (l : List ChannelRates). IsOrder l none_fired
      (firings_of (split_units share units)))
      (sym (rates_of_wires new.nodes (split_wires share graph greatest last)))
      (order_from (map (wire_rates new.nodes) (split_wires share graph greatest last))
      (firings_of (split_units share units)) none_fired
      (each_all (λ rates. IsOrderOn rates none_fired (firings_of (split_units share units)))
      (map (wire_rates new.nodes) (split_wires share graph greatest last))
      (each_map (wire_rates new.nodes)
      (λ rates. IsOrderOn rates none_fired (firings_of (split_units share units)))
      (split_wires share graph greatest last) after)))
